-- What a start and a turn of the engine make of a run.
use Rattle.std.proofs.Common.{◌≡◌, ◌∙◌, refl, sym, ap, subst, arith, ℕ, ◌<◌, ◌≤◌, true, false, List, ◌++◌, map, Option, None, if◌then◌else◌}
use Rattle.std.specs.Prelude.{nat_lt, slice_get}
use Rattle.std.proofs.lemmas.Bool.Decides.{nat_tests}
use Rattle.std.proofs.lemmas.List.{append_cancel_left}
use Rattle.cj_ir.specs.declared.language.Program.{Program}
use Rattle.cj_base.specs.declared.machine.End.{End}
use Rattle.cj_base.specs.declared.machine.Turned.{Turned}
use Rattle.cj_base.specs.declared.machine.Turned.TheVariants.{Running, Ended}
use Rattle.cj_base.specs.Run.{Begun}
use Rattle.cj_calls.specs.declared.report.Look.{Look}
use Rattle.cj_machine.specs.Versions.{State, Codes, Progress, Continues, Finishes, Undefined, version_turn}
use Rattle.cj_machine.specs.VersionRuns.{version_start}
use Rattle.cj_machine.specs.Marks.{turn_marks, start_marks}
use Rattle.cj_engine.specs.Watching.{Gains}
use Rattle.cj_machine.specs.Machines.{progress_of}
use Rattle.cj_engine.specs.Engines.{goes_on}
use Rattle.cj_machine.specs.CallRuns.{RunGoes}
use Rattle.cj_draft.specs.Bodies.{Body}
use Rattle.cj_world.specs.declared.cache.Cache.{Cache}
use Rattle.cj_world.specs.declared.runs.Run as code
use Rattle.cj_world.specs.Worlds.{Run, codes_in, looks_of, begun_run, turned, turned_by, one_turn}
use Rattle.cj_world.specs.Caches.{made_of, made_in, Stays}
use Rattle.cj_world.specs.Running.{progress_by, end_told, IsAt, Fits}

-- a run and the trail gain the same looks
pub gained_looks : (looks now_looks trail now_trail new : List Look) → Gains looks now_looks trail now_trail → now_trail ≡ trail ++ new →
    now_looks ≡ looks ++ new
gained_looks looks now_looks trail now_trail new g told =
    g.looks_more ∙ ap (λ more. looks ++ more) (append_cancel_left trail g.more new (sym g.trail_more ∙ told))

-- ---- a start

pub begun_same : (P : Program) (codes : Codes) (current : List ℕ) (call : Begun) (looks : List Look) (s : State) →
    looks ≡ looks_of current (start_marks call) → version_start P codes (slice_get looks 0) call ≡ Continues s →
    record { call = call; looks = looks; progress = Continues s } ≡ begun_run P codes current call
unfolding begun_run
begun_same P codes current call looks s same made =
    let with : Progress → Run = λ p. record { call = call; looks = looks; progress = p } in
    let over : List Look → Run = λ ls. record { call = call; looks = ls; progress = version_start P codes (slice_get ls 0) call } in
    ap with (sym made) ∙ ap over same

-- ---- a turn

module _ (P : Program) (codes : Codes) (current : List ℕ) (run : Run) where
  pub turned_same : (s : State) (looks : List Look) (progress : Progress) → looks ≡ run.looks ++ looks_of current (turn_marks P codes s) →
      version_turn P codes (slice_get looks s.entries) s ≡ progress → record { call = run.call; looks = looks; progress = progress }
      ≡ turned P codes current run s
  unfolding turned
  turned_same s looks progress same made =
      let with : Progress → Run = λ p. record { call = run.call; looks = looks; progress = p } in
      let over : List Look → Run = λ ls. record { call = run.call; looks = ls; progress = version_turn P codes (slice_get ls s.entries) s } in
      ap with (sym made) ∙ ap over same

  pub goes : (s : State) → run.progress ≡ Continues s → s.turns < run.call.limit → one_turn P codes current run ≡ turned P codes current run s
  unfolding one_turn turned_by
  goes s is before =
      let early : nat_lt s.turns run.call.limit ≡ true = grind (arith, nat_tests) in
      ap (λ p. turned_by P codes current run p) is ∙ ap (λ b. if b then turned P codes current run s else run) early

  pub rests : (s : State) → run.progress ≡ Continues s → run.call.limit ≤ s.turns → one_turn P codes current run ≡ run
  unfolding one_turn turned_by
  rests s is after =
      let late : nat_lt s.turns run.call.limit ≡ false = grind (arith, nat_tests) in
      ap (λ p. turned_by P codes current run p) is ∙ ap (λ b. if b then turned P codes current run s else run) late

  pub is_over : (end : End) (s : State) → run.progress ≡ Finishes end s → one_turn P codes current run ≡ run
  unfolding one_turn turned_by
  is_over end s is = ap (λ p. turned_by P codes current run p) is

  pub is_lost : run.progress ≡ Undefined → one_turn P codes current run ≡ run
  unfolding one_turn turned_by
  is_lost is = ap (λ p. turned_by P codes current run p) is

-- where a turn's answer leaves a run
pub told_progress : (answer : Turned) (s : State) → progress_by (end_told answer) s ≡ progress_of answer s
unfolding progress_by end_told
told_progress Running s = refl
told_progress (Ended end) s = refl

pub told_at : (P : Program) (codes : Codes) (looks : List Look) (call : Begun) (answer : Turned) (s : State) → RunGoes P codes looks call answer s →
    IsAt P codes looks call (end_told answer) s
unfolding end_told
told_at P codes looks call Running s h = h
told_at P codes looks call (Ended end) s h = h.report

pub told_on : (answer : Turned) (o : Option End) → o ≡ end_told answer → o ≡ None → goes_on answer ≡ true
unfolding end_told goes_on
told_on Running o same none = refl
told_on (Ended end) o same none = absurd cc

-- a turn of the engine, over codes and a program that are these
module _ (P Q : Program) (codes later : Codes) (program : Q ≡ P) (same : later ≡ codes) where
  pub turn_at : (looks : List Look) (call : Begun) (s : State) (answer : Turned) (o : Option End) → RunGoes Q later looks call answer s → o ≡ end_told answer →
      IsAt P codes looks call o s
  turn_at looks call s answer o goes ended =
      let goes' = subst (λ (R : Program). RunGoes R codes looks call answer s) program (subst (λ (c : Codes). RunGoes Q c looks call answer s) same goes) in
      subst (λ (e : Option End). IsAt P codes looks call e s) (sym ended) (told_at P codes looks call answer s goes')

-- ---- a cache to which nothing but looks were added

pub same_codes : (cache after : Cache) → Stays cache after → codes_in (made_in after) ≡ codes_in (made_in cache)
unfolding made_in
same_codes cache after stays = ap (λ (es : List (ℕ × Body)). codes_in (map made_of es)) stays.versions

pub fits_after : (cache after : Cache) (run : code.Run) → Stays cache after → Fits cache.checked.now (codes_in (made_in cache)) run →
    Fits after.checked.now (codes_in (made_in after)) run
fits_after cache after run stays fits =
    subst (λ (P : Program). Fits P (codes_in (made_in after)) run) (sym stays.checked)
    (subst (λ (codes : Codes). Fits cache.checked.now codes run) (sym (same_codes cache after stays)) fits)

pub fits_before : (cache after : Cache) (run : code.Run) → Stays cache after → Fits after.checked.now (codes_in (made_in after)) run →
    Fits cache.checked.now (codes_in (made_in cache)) run
fits_before cache after run stays fits =
    subst (λ (P : Program). Fits P (codes_in (made_in cache)) run) stays.checked
    (subst (λ (codes : Codes). Fits after.checked.now codes run) (same_codes cache after stays) fits)
