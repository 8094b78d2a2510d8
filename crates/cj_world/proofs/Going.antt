-- What turns of the engine make of a run.
use Rattle.std.proofs.Common.{◌≡◌, ◌∙◌, refl, sym, ap, subst, arith, ℕ, ◌+◌, ◌-◌, ◌<◌, ◌≤◌, min, List, ◌++◌, length, Option, None}
use Rattle.cj_ir.specs.declared.language.Program.{Program}
use Rattle.cj_base.specs.declared.machine.End.{End}
use Rattle.cj_base.specs.declared.machine.Turned.{Turned}
use Rattle.cj_base.specs.declared.machine.Turned.TheVariants.{Running, Ended}
use Rattle.cj_calls.specs.declared.report.Look.{Look}
use Rattle.cj_machine.specs.Versions.{State, Codes, Progress, Continues, Finishes}
use Rattle.cj_engine.specs.Stretches.{turns_from, marks_from}
use Rattle.cj_engine.specs.Watching.{Gains}
use Rattle.cj_machine.specs.Machines.{progress_of}
use Rattle.cj_engine.proofs.Paths.{turns_counted}
use Rattle.cj_world.specs.Worlds.{Run, looks_of, one_turn, turns}
use Rattle.cj_world.specs.Running.{progress_by, end_told}
use Rattle.cj_world.proofs.Steps.{gained_looks, rests, is_over, told_progress}
use Rattle.cj_world.proofs.Ways.{AllUsed, turns_way, turns_rest, used_whole_way}

-- a run that has ended makes no turns
pub over_rests : (P : Program) (codes : Codes) (current : List ℕ) (run : Run) (end : End) (s : State) (count : ℕ) → run.progress ≡ Finishes end s
    → turns P codes current count run ≡ run
unfolding turns
over_rests P codes current run end s count is =
    turns_rest P codes current 0 count run (omega arith) (λ some. is_over P codes current run end s is)

-- turns of the engine, over codes and a program that are these
module _ (P Q : Program) (codes later : Codes) (program : Q ≡ P) (same : later ≡ codes) (s t : State) (now : List Look) (count m limit : ℕ)
    (few : m ≡ min count (limit - s.turns)) (within : s.turns ≤ limit) where
  known : (answer : Turned) → turns_from Q later now (Continues s) m ≡ progress_of answer t → turns_from P codes now (Continues s) m ≡ progress_of answer t
  known answer made =
      subst (λ (R : Program). turns_from R codes now (Continues s) m ≡ progress_of answer t) program
      (subst (λ (c : Codes). turns_from Q c now (Continues s) m ≡ progress_of answer t) same made)

  counted : turns_from Q later now (Continues s) m ≡ Continues t → t.turns ≡ m + s.turns
  counted made = turns_counted P codes now s t m (known Running made)

  -- with as many turns as its limit has, a run that goes on has reached it
  pub gone_through : (answer : Turned) (o : Option End) → turns_from Q later now (Continues s) m ≡ progress_of answer t → o ≡ end_told answer
      → limit ≡ count → o ≡ None → t.turns ≡ limit
  unfolding end_told
  gone_through Running o made ended all none = let turned = counted made in omega arith
  gone_through (Ended end) o made ended all none = absurd cc

  resting : (current : List ℕ) (run : Run) (answer : Turned) → run.call.limit ≡ limit → turns_from Q later now (Continues s) m ≡ progress_of answer t
      → m < count → run.progress ≡ progress_of answer t → one_turn P codes current run ≡ run
  resting current run Running same_limit made fewer is = let turned = counted made in rests P codes current run t is (omega arith)
  resting current run (Ended end) same_limit made fewer is = is_over P codes current run end t is

  pub gone : (current : List ℕ) (run : Run) (trail now_trail : List Look) (answer : Turned) (o : Option End) → run.call.limit ≡ limit
      → s.entries ≡ length run.looks → run.progress ≡ Continues s → Gains run.looks now trail now_trail
      → now_trail ≡ trail ++ looks_of current (marks_from Q later now (Continues s) m) → turns_from Q later now (Continues s) m ≡ progress_of answer t
      → o ≡ end_told answer → record { call = run.call; looks = now; progress = progress_by o t } ≡ turns P codes current count run
  gone current run trail now_trail answer o same_limit used starts gains told made ended =
      let told' = subst (λ (R : Program). now_trail ≡ trail ++ looks_of current (marks_from R codes now (Continues s) m)) program
      (subst (λ (c : Codes). now_trail ≡ trail ++ looks_of current (marks_from Q c now (Continues s) m)) same told) in
      let with : Progress → Run = λ p. record { call = run.call; looks = now; progress = p } in
      let whole = gained_looks run.looks now trail now_trail (looks_of current (marks_from P codes now (Continues s) m)) gains told' in
      let left : progress_of answer t ≡ progress_by o t = sym (told_progress answer t) ∙ ap (λ (e : Option End). progress_by e t) (sym ended) in
      let made_m : turns P codes current m run ≡ with (progress_of answer t) =
      turns_way P codes current run s now used starts m (omega arith) whole (progress_of answer t) (known answer made) in
      let rested = turns_rest P codes current m count run (omega arith)
      (λ fewer. subst (λ (r : Run). one_turn P codes current r ≡ r) (sym made_m)
      (resting current (with (progress_of answer t)) answer same_limit made fewer refl)) in
      ap with (sym left) ∙ sym made_m ∙ sym rested

  pub gone_used : (current : List ℕ) (run : Run) (trail now_trail : List Look) (answer : Turned) → run.call.limit ≡ limit
      → s.entries ≡ length run.looks → run.progress ≡ Continues s → Gains run.looks now trail now_trail
      → now_trail ≡ trail ++ looks_of current (marks_from Q later now (Continues s) m) → turns_from Q later now (Continues s) m ≡ progress_of answer t
      → t.entries ≡ length now
  gone_used current run trail now_trail answer same_limit used starts gains told made =
      let told' = subst (λ (R : Program). now_trail ≡ trail ++ looks_of current (marks_from R codes now (Continues s) m)) program
      (subst (λ (c : Codes). now_trail ≡ trail ++ looks_of current (marks_from Q c now (Continues s) m)) same told) in
      let whole = gained_looks run.looks now trail now_trail (looks_of current (marks_from P codes now (Continues s) m)) gains told' in
      by answer (used_whole_way P codes current run s now used starts m (omega arith) whole (progress_of answer t) (known answer made))
    where
      by : (a : Turned) → AllUsed (progress_of a t) now → t.entries ≡ length now
      by Running all = all
      by (Ended end) all = all
