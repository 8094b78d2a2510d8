-- A run that is started by hand and makes its turns one by one.
use Rattle.std.proofs.Common.{◌≡◌, ◌<◌, ℕ, refl, sym, subst, List}
use Rattle.std.specs.Prelude.{ℤ, Bool, true, false, Some, IsSome, ◌==◌}
use Rattle.cj_ir.specs.declared.language.FunId.{FunId}
use Rattle.cj_draft.specs.declared.code.Code.{Code}
use Rattle.cj_test_runs.specs.OneVersion.{if_both, one_code}
use Rattle.cj_ir.specs.declared.language.Program.{Program}
use Rattle.cj_ir.specs.declared.script.ScriptCall.{ScriptCall}
use Rattle.cj_base.specs.declared.machine.Turned.{Turned}
use Rattle.cj_base.specs.declared.machine.Turned.TheVariants.{Running}
use Rattle.cj_base.specs.Run.{Begun}
use Rattle.cj_calls.specs.declared.report.Look.{Look}
use Rattle.cj_machine.specs.Versions.{State}
use Rattle.cj_machine.specs.CodeMaps.{no_codes}
use Rattle.cj_engine.specs.Engines.{begun_with}
use Rattle.cj_machine.specs.CallRuns.{IsUnderWay, IsRun, RunGoes}
use Rattle.cj_test_runs.specs.Walks.{Walks}
use Rattle.cj_machine.proofs.Going.{run_under_way}

both_found : (own there : Bool) (code : Code) → IsSome (if_both own there code) → if_both own there code ≡ Some code
unfolding if_both
both_found true true code is = refl
both_found true false code is = let never : ⊥ = cc in absurd never
both_found false there code is = let never : ⊥ = cc in absurd never

-- the start
pub run_walks : (P : Program) (looks : List Look) (call : ScriptCall) (memory : List ℤ) (s : State) → IsRun P no_codes looks (begun_with call memory) s →
    Walks P looks call.limit s
unfolding begun_with
run_walks P looks call memory s is = record { call = begun_with call memory; same = refl; run = is }

-- before the limit a turn can be made
pub walk_under_way : (P : Program) (looks : List Look) (limit : ℕ) (s : State) → Walks P looks limit s → s.turns < limit → IsUnderWay P no_codes s
walk_under_way P looks limit s w before =
    run_under_way P no_codes looks w.call s w.run (subst (λ (n : ℕ). s.turns < n) (sym w.same) before)

-- and after a turn that goes on so can a further one
pub walk_goes : (P Q : Program) (looks later : List Look) (limit : ℕ) (s t : State) (answer : Turned) → Q ≡ P → Walks P looks limit s → s.turns < limit
    → ((call : Begun) → IsRun P no_codes looks call s → s.turns < call.limit → RunGoes P no_codes later call answer t) → answer ≡ Running →
    Walks Q later limit t
walk_goes P Q looks later limit s t answer same w before goes is =
    let run : RunGoes P no_codes later w.call Running t = subst (λ (a : Turned). RunGoes P no_codes later w.call a t) is
    (goes w.call w.run (subst (λ (n : ℕ). s.turns < n) (sym w.same) before)) in
    subst (λ (R : Program). Walks R later limit t) (sym same) (record { call = w.call; same = w.same; run = run })

-- ---- one version

pub one_found : (offset : ℕ) (code : Code) (f : FunId) (at : ℕ) → IsSome (one_code offset code f at) → one_code offset code f at ≡ Some code
unfolding one_code
one_found offset code f at is = both_found (f.0 == code.function.0) (at == offset) code is
