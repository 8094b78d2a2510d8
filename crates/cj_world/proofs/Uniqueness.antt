-- Events lead to one world, and have one answer.
use Rattle.std.proofs.Common.{◌≡◌, ◌∙◌, refl, sym, ap, subst, ℕ, List, [], ◌∷◌, length}
use Rattle.std.specs.List.{AllZip}
use Rattle.std.proofs.lemmas.Option.{same_Some}
use Rattle.cj_ir.specs.declared.language.FunId.{FunId}
use Rattle.cj_ir.specs.declared.language.Program.{Program}
use Rattle.cj_draft.specs.declared.code.Code.{Code}
use Rattle.cj_draft.specs.declared.passes.Pass.{Pass}
use Rattle.cj_draft.specs.declared.passes.Skipped.{Skipped}
use Rattle.cj_calls.specs.declared.report.Report.{Report}
use Rattle.cj_events.specs.declared.events.Event.{Event}
use Rattle.cj_events.specs.declared.events.Event.TheVariants.{Begin, Step, Compile}
use Rattle.cj_passes.specs.Pipeline.{IsPipeline}
use Rattle.cj_world.specs.declared.played.Played.{Played}
use Rattle.cj_world.specs.Worlds.{Run, World, first_world, compiles, finished}
use Rattle.cj_world.specs.Plays.{Happens, AllHappen, PlaysTo}
use Rattle.cj_world.specs.Played.{IsReadOff, Tells, IsPlay}

-- the law of the pipeline
abbrev pub OnePipeline : Type 0
OnePipeline =
    (P : Program) (f : FunId) (passes : List Pass) (one other : Code) (skips skips' : List (ℕ × Skipped)) →
    IsPipeline P f passes one skips → IsPipeline P f passes other skips' → (one ≡ other) × (skips ≡ skips')

module _ (law : OnePipeline) (P : Program) (words : ℕ) where
  one_step : (event : Event) (before one other : World) → Happens P words event before one → Happens P words event before other → one ≡ other
  one_step (Begin call) before one other h k = h ∙ sym k
  one_step (Step run count) before one other h k = h ∙ sym k
  one_step (Compile f passes) before one other (code, skips, made, is) (code', skips', made', is') =
      let same = law P f passes code code' skips skips' made made' in
      is
      ∙ ap (λ (c : Code). compiles words c skips before) same.0
      ∙ ap (λ (s : List (ℕ × Skipped)). compiles words code' s before) same.1
      ∙ sym is'

  all_one : (events : List Event) (before one other : World) → AllHappen P words events before one → AllHappen P words events before other → one ≡ other
  all_one [] before one other h k = h ∙ sym k
  all_one (event ∷ events) before one other (between, first, rest) (between', first', rest') =
      let same : between ≡ between' = one_step event before between between' first first' in
      all_one events between' one other (subst (λ (w : World). AllHappen P words events w one) same rest) rest'

-- one list of reports is read off
one_reading : (runs : List Run) (one other : List Report) → AllZip IsReadOff runs one → AllZip IsReadOff runs other → one ≡ other
one_reading [] [] [] h k = refl
one_reading [] [] (s ∷ other) h k = absurd k
one_reading [] (r ∷ one) other h k = absurd h
one_reading (run ∷ runs) [] other h k = absurd h
one_reading (run ∷ runs) (r ∷ one) [] h k = absurd k
one_reading (run ∷ runs) (r ∷ one) (s ∷ other) h k =
    let same : r ≡ s = same_Some r s (sym h.0 ∙ k.0) in
    ap (λ (first : Report). first ∷ one) same ∙ ap (λ (rest : List Report). s ∷ rest) (one_reading runs one other h.1 k.1)

same_answer : (w : World) (one other : Played) → Tells w one → Tells w other → one ≡ other
same_answer w one other h k =
    let reports : one.reports ≡ other.reports = one_reading w.runs one.reports other.reports h.reports k.reports in
    let compiled : one.compiled ≡ other.compiled = h.compiled ∙ sym k.compiled in
    let skips : one.skips ≡ other.skips = h.skips ∙ sym k.skips in
    λ i. record { reports = reports i; compiled = compiled i; skips = skips i }

pub one_world : OnePipeline → (P : Program) (words : ℕ) (events : List Event) (one other : World) → PlaysTo P words events one → PlaysTo P words events other →
    one ≡ other
one_world law P words events one other h k =
    let same : h.last ≡ k.last = all_one law P words events (first_world P) h.last k.last h.happened k.happened in
    h.ended ∙ ap (λ (w : World). finished P (length w.runs) w) same ∙ sym k.ended

pub one_answer : OnePipeline → (P : Program) (words : ℕ) (events : List Event) (one other : Played) → IsPlay P words events one → IsPlay P words events other →
    one ≡ other
one_answer law P words events one other h k =
    let same : h.world ≡ k.world = one_world law P words events h.world k.world h.plays k.plays in
    same_answer k.world one other (subst (λ (w : World). Tells w one) same h.tells) k.tells
