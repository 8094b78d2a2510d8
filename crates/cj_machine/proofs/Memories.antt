-- The memory of a run.
use Rattle.std.proofs.Common.{◌≡◌, ◌∙◌, refl, sym, ap, subst, ℕ, zero, suc, ◌+◌, List, [], append-nil, add-one, Some, None, ℤ, ⊎_elim}
use Rattle.cj_ir.specs.declared.language.Program.{Program}
use Rattle.cj_base.specs.declared.machine.End.{End}
use Rattle.cj_base.specs.Machine.{Config}
use Rattle.cj_base.specs.Run.{Begun, start_of, Run, Going, Over, base_run}
use Rattle.cj_calls.specs.declared.report.Look.{Look}
use Rattle.cj_machine.specs.Versions.{State, Codes, Progress, Continues, Finishes}
use Rattle.cj_machine.specs.VersionRuns.{version_run}
use Rattle.cj_machine.specs.CodeMaps.{Grows}
use Rattle.cj_machine.specs.Memories.{memory_after, base_memory, memory_in, version_memory}
use Rattle.cj_machine.proofs.Growing.{Kept}
use Rattle.cj_machine.proofs.Runs.{run_kept}

-- ---- the base run

-- where it goes on
pub memory_going : (P : Program) (call : Begun) (n : ℕ) (printed : List ℤ) (c : Config) → base_run P call n ≡ Going printed c → c.memory ≡ base_memory P call n
unfolding base_run start_of memory_after base_memory
memory_going P call zero printed c e = sym (ap (λ (r : Run). memory_after r call.memory) e)
memory_going P call (suc n) printed c e = sym (ap (λ (r : Run). memory_after r (base_memory P call n)) e)

-- where the next turn ended it
pub memory_over : (P : Program) (call : Begun) (n : ℕ) (printed more : List ℤ) (c : Config) (end : End) (turns : ℕ) → base_run P call n ≡ Going printed c →
    base_run P call (n + 1) ≡ Over more end turns → c.memory ≡ base_memory P call (n + 1)
unfolding memory_after base_memory
memory_over P call n printed more c end turns going over0 =
    let over : base_run P call (suc n) ≡ Over more end turns = subst (λ (k : ℕ). base_run P call k ≡ Over more end turns) (add-one n) over0 in
    rw add-one (memory_going P call n printed c going ∙ sym (ap (λ (r : Run). memory_after r (base_memory P call n)) over))

-- ---- the versioned run

pub memory_at : (P : Program) (codes : Codes) (trail : List Look) (call : Begun) (o : Progress) (memory : List ℤ) →
    version_run P codes trail call call.limit ≡ o → memory_in o ≡ Some memory → version_memory P codes trail call ≡ Some memory
unfolding version_memory
memory_at P codes trail call o memory run is = ap memory_in run ∙ is

pub memory_continues : (s : State) → memory_in (Continues s) ≡ Some s.memory
unfolding memory_in
memory_continues s = refl

pub memory_finishes : (end : End) (s : State) → memory_in (Finishes end s) ≡ Some s.memory
unfolding memory_in
memory_finishes end s = refl

-- more code keeps it
pub memory_kept : (P : Program) (call : Begun) (codes later : Codes) (trail : List Look) (memory : List ℤ) → Grows codes later →
    version_memory P codes trail call ≡ Some memory → version_memory P later trail call ≡ Some memory
unfolding version_memory memory_in
memory_kept P call codes later trail memory g e =
    let kept : Kept (version_run P codes trail call call.limit) (version_run P later trail call call.limit) =
    subst (λ t. Kept (version_run P codes trail call call.limit) (version_run P later t call call.limit)) (append-nil trail)
    (run_kept P call codes later g trail [] call.limit) in
    ⊎_elim
    (λ none.
    let nothing : None ≡ Some memory = sym (ap memory_in none) ∙ e in
    let never : ⊥ = cc in
    absurd never)
    (λ same. sym (ap memory_in same) ∙ e) kept
