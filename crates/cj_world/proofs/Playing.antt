-- One event after the other.
use Rattle.std.proofs.Common.{◌≡◌, ◌∙◌, refl, sym, ap, subst, ℕ, ◌+◌, ◌<◌, ◌≤◌, List, ◌∷◌, length, drop, get_or}
use Rattle.std.proofs.lemmas.List.{drop_more, drop_all}
use Rattle.cj_ir.specs.declared.language.Function.{Function}
use Rattle.cj_ir.specs.declared.language.Program.{Program}
use Rattle.cj_events.specs.declared.events.Event.{Event}
use Rattle.cj_events.specs.Playable.{CanHappen, EachCanHappen}
use Rattle.cj_events.specs.Tallies.{begun_by}
use Rattle.cj_world.specs.Worlds.{World}
use Rattle.cj_world.specs.Plays.{Happens, AllHappen}

next_is : (es : List Event) (i : ℕ) (event : Event) → i < length es → event ≡ get_or es i event → drop i es ≡ event ∷ drop (i + 1) es
next_is es i event lt is = drop_more es i event lt ∙ ap (λ e. e ∷ drop (i + 1) es) (sym is)

-- what the events so far did, if what is left leads to some world
abbrev pub HaveHappened : Program → ℕ → List Event → World → ℕ → World → Type 0
HaveHappened P words es first i w =
    (after : World) → AllHappen P words (drop i es) w after → AllHappen P words es first after

pub happened_more : (P : Program) (words : ℕ) (es : List Event) (first : World) (i : ℕ) (w v : World) (event : Event) → i < length es
    → event ≡ get_or es i event → Happens P words event w v → HaveHappened P words es first i w → HaveHappened P words es first (i + 1) v
happened_more P words es first i w v event lt is happens before = λ after rest.
    before after (subst (λ (left : List Event). AllHappen P words left w after) (sym (next_is es i event lt is)) (v, happens, rest))

pub happened_all : (P : Program) (words : ℕ) (es : List Event) (first : World) (i : ℕ) (w : World) → length es ≤ i → HaveHappened P words es first i w
    → AllHappen P words es first w
happened_all P words es first i w past before =
    before w (subst (λ (left : List Event). AllHappen P words left w w) (sym (drop_all i es past)) refl)

-- the next event can happen, and so can those behind it
pub next_can : (functions : List Function) (es : List Event) (i begun : ℕ) (event : Event) → i < length es → event ≡ get_or es i event
    → EachCanHappen functions begun (drop i es) → CanHappen functions begun event × EachCanHappen functions (begun + begun_by event) (drop (i + 1) es)
next_can functions es i begun event lt is each =
    subst (λ (left : List Event). EachCanHappen functions begun left) (next_is es i event lt is) each
