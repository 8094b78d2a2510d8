-- No look finds an older version than an earlier one did.
use Rattle.std.proofs.Common.{◌≡◌, refl, sym, ap, subst, arith, append-nil, append_assoc, ℕ, zero, suc, ◌+◌, ◌-◌, ◌<◌, ◌≤◌, Bool, true, false, List, [], ◌∷◌}
use Rattle.std.proofs.Common.{◌++◌, length, replicate, get_or, set, Option, Some, None, if◌then◌else◌}
use Rattle.std.specs.Prelude.{All, nat_lt, slice_get, slice_set}
use Rattle.std.proofs.lemmas.List.Elements.{All-push, All-weaker, All-nil}
use Rattle.std.proofs.lemmas.List.Quantifiers.{all_pairs_push}
use Rattle.cj_ir.specs.declared.language.FunId.{FunId}
use Rattle.cj_ir.specs.declared.language.Program.{Program}
use Rattle.cj_base.specs.Run.{Begun, begun}
use Rattle.cj_draft.specs.declared.code.Code.{Code}
use Rattle.cj_draft.specs.declared.passes.Skipped.{Skipped}
use Rattle.cj_spelling.specs.Counting.{capped}
use Rattle.cj_calls.specs.declared.report.Look.{Look}
use Rattle.cj_machine.specs.Marks.{start_marks}
use Rattle.cj_events.specs.declared.events.Event.{Event}
use Rattle.cj_events.specs.declared.events.Event.TheVariants.{Begin, Step, Compile}
use Rattle.cj_world.specs.declared.played.Compiled.TheVariants.{Published, TooLarge, Full}
use Rattle.cj_world.specs.Worlds.{Run, World, codes_in, offset_of, looks_of, begun_run, turns, first_world, begins, became, moved, steps, limit_of, finishes}
use Rattle.cj_world.specs.Worlds.{finished, claimed, words_in, published, compiles}
use Rattle.cj_world.specs.Plays.{Happens, AllHappen, PlaysTo}
use Rattle.cj_world.specs.Played.{NeverFall}
use Rattle.cj_world.proofs.Gaining.{AreCurrent, looks_are_current, turns_gain, dropped}
use Rattle.cj_world.proofs.Changing.{some_words}
use Rattle.cj_world.proofs.Finding.{zeros}

-- each look found what is current now, or something older
abbrev AreBelow : List ℕ → List Look → Type 0
AreBelow current looks = All (λ look. look.offset ≤ offset_of current look.function) looks

-- what one look and a later one have to do with each other
abbrev Follows : Look → Look → Type 0
Follows earlier later = earlier.function ≡ later.function → earlier.offset ≤ later.offset

-- ---- more looks

follows_current : (current : List ℕ) (a b : Look) → a.offset ≤ offset_of current a.function → b.offset ≡ offset_of current b.function → Follows a b
follows_current current a b below is = λ same.
    let moved : offset_of current a.function ≡ offset_of current b.function = ap (λ (f : FunId). offset_of current f) same in
    omega arith

-- more looks at current versions
more_never_fall : (current : List ℕ) (looks more : List Look) → NeverFall looks → AreBelow current looks → AreCurrent current more →
    NeverFall (looks ++ more) × AreBelow current (looks ++ more)
more_never_fall current looks [] falls below fresh =
    (subst NeverFall (sym (append-nil looks)) falls, subst (λ (ls : List Look). AreBelow current ls) (sym (append-nil looks)) below)
more_never_fall current looks (look ∷ more) falls below fresh =
    let pushed = all_pairs_push Follows looks look falls (λ k d lt. follows_current current (get_or looks k d) look (below k d lt) fresh.0) in
    let low = All-push (λ l. l.offset ≤ offset_of current l.function) looks look below (omega (arith, fresh.0)) in
    let rest = more_never_fall current (looks ++ look ∷ []) more pushed low fresh.1 in
    let same = append_assoc looks (look ∷ []) more in
    (subst NeverFall same rest.0, subst (λ (ls : List Look). AreBelow current ls) same rest.1)

-- ---- worlds

record Ordered (w : World) : Type 0 where
  pub falls : NeverFall w.trail
  pub below : AreBelow w.current w.trail
  pub claimed : (f : FunId) → offset_of w.current f < w.next

first_ordered : (P : Program) → Ordered (first_world P)
unfolding first_world
first_ordered P = record {
  falls = λ i j d lt le. absurd (omega arith);
  below = All-nil (λ look. look.offset ≤ offset_of (first_world P).current look.function);
  claimed = λ f. let none : get_or {A = ℕ} (replicate (length P.functions) 0) f.0 0 ≡ 0 = zeros (length P.functions) f.0 in omega arith;
}

-- more looks at current versions
with_looks : (w v : World) (more : List Look) → v.trail ≡ w.trail ++ more → v.current ≡ w.current → v.next ≡ w.next → AreCurrent w.current more → Ordered w →
    Ordered v
with_looks w v more trail current next fresh o = record {
  falls = subst NeverFall (sym trail) (more_never_fall w.current w.trail more o.falls o.below fresh).0;
  below =
      subst (λ (c : List ℕ). AreBelow c v.trail) (sym current)
      (subst (λ (ls : List Look). AreBelow w.current ls) (sym trail) (more_never_fall w.current w.trail more o.falls o.below fresh).1);
  claimed = λ f. let same = ap (λ (c : List ℕ). offset_of c f) current in let before = o.claimed f in omega arith;
}

begins_ordered : (P : Program) (call : Begun) (w : World) → Ordered w → Ordered (begins P call w)
unfolding begins begun_run
begins_ordered P call w o =
    with_looks w (begins P call w) (looks_of w.current (start_marks call)) refl refl refl (looks_are_current w.current (start_marks call)) o

moved_ordered : (P : Program) (k n : ℕ) (w : World) (found : Option Run) → Ordered w → Ordered (moved P k n w found)
unfolding moved became
moved_ordered P k n w None o = o
moved_ordered P k n w (Some run) o =
    let after = turns P (codes_in w.made) w.current n run in
    let g = turns_gain P (codes_in w.made) w.current n run in
    with_looks w (became w k run after) g.more (ap (λ more. w.trail ++ more) (dropped w.current run after g)) refl refl g.fresh o

steps_ordered : (P : Program) (k n : ℕ) (w : World) → Ordered w → Ordered (steps P k n w)
unfolding steps
steps_ordered P k n w o = moved_ordered P k n w (slice_get w.runs k) o

finished_ordered : (P : Program) (n : ℕ) (w : World) → Ordered w → Ordered (finished P n w)
unfolding finished finishes
finished_ordered P zero w o = o
finished_ordered P (suc n) w o =
    let before = finished P n w in
    steps_ordered P n (limit_of (slice_get before.runs n)) before (finished_ordered P n w o)

-- ---- a version more

-- an offset that is not below any that was current
module _ (current : List ℕ) (at new : ℕ) (newer : (f : FunId) → offset_of current f < new) where
  rises : (f : FunId) → offset_of current f ≤ offset_of (slice_set current at new) f
  rises f = place current at f.0 (newer f)
    where
      place : (xs : List ℕ) (i k : ℕ) → get_or xs k 0 < new → get_or xs k 0 ≤ get_or (set xs i new) k 0
      place [] i k h = omega arith
      place (x ∷ xs) zero zero h = omega arith
      place (x ∷ xs) zero (suc k) h = omega arith
      place (x ∷ xs) (suc i) zero h = omega arith
      place (x ∷ xs) (suc i) (suc k) h = place xs i k h

  stays_low : (f : FunId) → offset_of (slice_set current at new) f ≤ new
  stays_low f = place current at f.0 (newer f)
    where
      place : (xs : List ℕ) (i k : ℕ) → get_or xs k 0 < new → get_or (set xs i new) k 0 ≤ new
      place [] i k h = omega arith
      place (x ∷ xs) zero zero h = omega arith
      place (x ∷ xs) zero (suc k) h = omega arith
      place (x ∷ xs) (suc i) zero h = omega arith
      place (x ∷ xs) (suc i) (suc k) h = place xs i k h

  below_rises : (looks : List Look) → AreBelow current looks → AreBelow (slice_set current at new) looks
  below_rises looks h =
      All-weaker (λ look. look.offset ≤ offset_of current look.function) (λ look. look.offset ≤ offset_of (slice_set current at new) look.function)
      (λ look b. let up = rises look.function in omega arith) looks h

published_ordered : (code : Code) (w : World) → Ordered w → Ordered (published code (Published w.next) w)
unfolding published
published_ordered code w o =
    let some = some_words code in
    record {
      falls = o.falls;
      below = below_rises w.current code.function.0 w.next o.claimed w.trail o.below;
      claimed = λ f. let low = stays_low w.current code.function.0 w.next o.claimed f in omega arith;
    }

answered_ordered : (code : Code) (w : World) (words : ℕ) (large full : Bool) (len : ℕ) → Ordered w →
    Ordered (published code (if large then TooLarge (capped len) else if full then Full w.next len else Published w.next) w)
unfolding published
answered_ordered code w words true full len o = o
answered_ordered code w words false true len o = o
answered_ordered code w words false false len o = published_ordered code w o

compiles_ordered : (words : ℕ) (code : Code) (skips : List (ℕ × Skipped)) (w : World) → Ordered w → Ordered (compiles words code skips w)
unfolding compiles claimed
compiles_ordered words code skips w o =
    let len = words_in code in
    let after = answered_ordered code w words (nat_lt 65536 len) (nat_lt words (w.next + len)) len o in
    record { falls = after.falls; below = after.below; claimed = after.claimed }

-- ---- events

happens_ordered : (P : Program) (words : ℕ) (event : Event) (before after : World) → Happens P words event before after → Ordered before → Ordered after
happens_ordered P words (Begin call) before after is o = subst Ordered (sym is) (begins_ordered P (begun call) before o)
happens_ordered P words (Step run count) before after is o = subst Ordered (sym is) (steps_ordered P (run - 1) count before o)
happens_ordered P words (Compile f passes) before after (code, skips, pipeline, is) o =
    subst Ordered (sym is) (compiles_ordered words code skips before o)

all_ordered : (P : Program) (words : ℕ) (events : List Event) (before after : World) → AllHappen P words events before after → Ordered before → Ordered after
all_ordered P words [] before after is o = subst Ordered (sym is) o
all_ordered P words (event ∷ events) before after (between, is, rest) o =
    all_ordered P words events between after rest (happens_ordered P words event before between is o)

-- over all runs, in the order of time
pub looks_never_fall : (P : Program) (words : ℕ) (events : List Event) (after : World) → PlaysTo P words events after → NeverFall after.trail
looks_never_fall P words events after plays =
    let last = all_ordered P words events (first_world P) plays.last plays.happened (first_ordered P) in
    subst (λ (w : World). NeverFall w.trail) (sym plays.ended) (finished_ordered P (length plays.last.runs) plays.last last).falls
