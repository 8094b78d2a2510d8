-- Two ways to lead edges that agree on the labels of a code lead its places alike.
use Rattle.std.proofs.Common.{◌≡◌, ℕ, ◌<◌, List, [], ◌∷◌, map, refl, ap, ap₂}
use Rattle.std.specs.Prelude.{All}
use Rattle.std.proofs.lemmas.List.Elements.{All-head, All-tail}
use Rattle.cj_ir.specs.declared.language.Label.{Label}
use Rattle.cj_draft.specs.declared.instructions.VInstr.{VInstr}
use Rattle.cj_draft.specs.declared.instructions.VInstr.TheVariants.{Nop, Op, Move, Cond, Call, Return, Print, Load, Store, Fail, Assume, Anchor}
use Rattle.cj_draft.specs.declared.code.Place.{Place}
use Rattle.cj_draft.specs.Relabel.{relabel}
use Rattle.cj_draft.specs.Edges.{successors}
use Rattle.cj_rows.specs.Edges.{led_place}

two_of : (n : ℕ) (x y : Label) → All (λ (z : Label). z.0 < n) (x ∷ y ∷ []) → (x.0 < n) × (y.0 < n)
two_of n x y all = (All-head (λ (z : Label). z.0 < n) x (y ∷ []) all, All-head (λ (z : Label). z.0 < n) y [] (All-tail (λ (z : Label). z.0 < n) x (y ∷ []) all))

one_of : (n : ℕ) (x : Label) → All (λ (z : Label). z.0 < n) (x ∷ []) → x.0 < n
one_of n x all = All-head (λ (z : Label). z.0 < n) x [] all

relabel_alike : (f g : Label → Label) (n : ℕ) → ((x : Label) → x.0 < n → f x ≡ g x) → (i : VInstr) → All (λ (y : Label). y.0 < n) (successors i) →
    relabel f i ≡ relabel g i
unfolding relabel successors
relabel_alike f g n same (Nop x) h = ap Nop (same x (one_of n x h))
relabel_alike f g n same (Op d e x) h = ap (Op d e) (same x (one_of n x h))
relabel_alike f g n same (Move ps x) h = ap (Move ps) (same x (one_of n x h))
relabel_alike f g n same (Cond t x y) h = let two = two_of n x y h in ap₂ (λ a b. Cond t a b) (same x two.0) (same y two.1)
relabel_alike f g n same (Call d k args x) h = ap (Call d k args) (same x (one_of n x h))
relabel_alike f g n same (Return v) h = refl
relabel_alike f g n same (Print v x) h = ap (Print v) (same x (one_of n x h))
relabel_alike f g n same (Load d a x) h = ap (Load d a) (same x (one_of n x h))
relabel_alike f g n same (Store a v x) h = ap (Store a v) (same x (one_of n x h))
relabel_alike f g n same (Fail k l) h = refl
relabel_alike f g n same (Assume gs b t x) h = ap (Assume gs b t) (same x (one_of n x h))
relabel_alike f g n same (Anchor b t x) h = ap (Anchor b t) (same x (one_of n x h))

abbrev pub HasEdgesWithin : ℕ → Place → Type 0
HasEdgesWithin n place = All (λ (next : Label). next.0 < n) (successors place.instr)

pub led_alike : (f g : Label → Label) (n : ℕ) → ((x : Label) → x.0 < n → f x ≡ g x) → (places : List Place) → All (HasEdgesWithin n) places →
    map (led_place f) places ≡ map (led_place g) places
unfolding led_place
led_alike f g n same [] all = refl
led_alike f g n same (p ∷ places) all =
    ap₂ (λ (i : VInstr) (ps : List Place). with_instr i ∷ ps) (relabel_alike f g n same p.instr (All-head (HasEdgesWithin n) p places all))
    (led_alike f g n same places (All-tail (HasEdgesWithin n) p places all))
  where
    with_instr : VInstr → Place
    with_instr i = record { instr = i; point = p.point; facts = p.facts; backs = p.backs }
