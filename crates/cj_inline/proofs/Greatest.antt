-- The greatest number of a list, and that of a code's frames.
use Rattle.std.proofs.Common.{◌≡◌, ℕ, suc, zero, ◌+◌, ◌<◌, ◌≤◌, List, [], ◌∷◌, ◌++◌, length, get_or, take, max, refl, sym, ap, ap₂, ◌∙◌, arith}
use Rattle.std.specs.Prelude.{All}
use Rattle.std.proofs.lemmas.List.Elements.{All-head, All-tail, All-weaker}
use Rattle.std.proofs.lemmas.List.{take_more}
use Rattle.std.proofs.lemmas.List.Recursion.{max_push}
use Rattle.cj_ir.specs.declared.language.Program.{Program}
use Rattle.cj_draft.specs.declared.instructions.VInstr.{VInstr}
use Rattle.cj_draft.specs.declared.instructions.VInstr.TheVariants.{Nop, Op, Move, Cond, Call, Return, Print, Load, Store, Fail, Assume, Anchor}
use Rattle.cj_draft.specs.declared.code.Place.{Place}
use Rattle.cj_draft.specs.WellNamed.{IsVInstrFine, IsBackFine, IsPlaceFine}
use Rattle.cj_inline.specs.Inlining.{greatest_of, target_frames, back_frames, place_frames, most_frames}

greatest_push : {X : Type 0} (f : X → ℕ) (xs : List X) (y : X) → greatest_of f (xs ++ y ∷ []) ≡ max (greatest_of f xs) (f y)
unfolding greatest_of
greatest_push f xs y = max_push (greatest_of f) f refl (λ x xs. refl) xs y

-- one item more
pub greatest_more : {X : Type 0} (f : X → ℕ) (xs : List X) (i most here new : ℕ) (x : X) → i < length xs → x ≡ get_or xs i x →
    most ≡ greatest_of f (take i xs) → here ≡ f x → new ≡ max most here → new ≡ greatest_of f (take (i + 1) xs)
greatest_more f xs i most here new x lt is so_far one both =
    both ∙ ap₂ max so_far (one ∙ ap f is) ∙ sym (greatest_push f (take i xs) (get_or xs i x)) ∙ sym (ap (greatest_of f) (take_more xs i x lt))

-- none is above a bound of all
pub greatest_within : {X : Type 0} (f : X → ℕ) (n : ℕ) (xs : List X) → All (λ x. f x ≤ n) xs → greatest_of f xs ≤ n
unfolding greatest_of
greatest_within f n [] all = omega arith
greatest_within f n (x ∷ xs) all =
    omega (arith, All-head (λ y. f y ≤ n) x xs all, greatest_within f n xs (All-tail (λ y. f y ≤ n) x xs all))

-- each is within the greatest
pub greatest_bounds : {X : Type 0} (f : X → ℕ) (n : ℕ) (xs : List X) → greatest_of f xs ≤ n → All (λ x. f x ≤ n) xs
unfolding greatest_of
greatest_bounds f n [] h k d lt = absurd (omega arith)
greatest_bounds f n (x ∷ xs) h zero d lt = omega arith
greatest_bounds f n (x ∷ xs) h (suc k) d lt = greatest_bounds f n xs (omega arith) k d (omega arith)

target_within : (P : Program) (n k : ℕ) (i : VInstr) → IsVInstrFine P n k i → target_frames i ≤ 4
unfolding target_frames
target_within P n k (Assume g b t x) h = h.3.few_frames
target_within P n k (Anchor b t x) h = h.1.few_frames
target_within P n k (Nop x) h = omega arith
target_within P n k (Op d e x) h = omega arith
target_within P n k (Move ps x) h = omega arith
target_within P n k (Cond t x z) h = omega arith
target_within P n k (Call d g args x) h = omega arith
target_within P n k (Return v) h = omega arith
target_within P n k (Print v x) h = omega arith
target_within P n k (Load d a x) h = omega arith
target_within P n k (Store a v x) h = omega arith
target_within P n k (Fail g l) h = omega arith

place_within : (P : Program) (n k : ℕ) (p : Place) → IsPlaceFine P n k p → place_frames p ≤ 4
unfolding place_frames back_frames
place_within P n k p fine =
    let backs : greatest_of (λ pair. length pair.point.frames) p.backs ≤ 4 =
    greatest_within (λ pair. length pair.point.frames) 4 p.backs
    (All-weaker (IsBackFine P n) (λ pair. length pair.point.frames ≤ 4) (λ pair one. one.point.few_frames) p.backs fine.backs) in
    omega (arith, fine.point.few_frames, target_within P n k p.instr fine.instr, backs)

-- a code's points have at most four frames
pub few_frames : (P : Program) (n k : ℕ) (places : List Place) → All (IsPlaceFine P n k) places → most_frames places ≤ 4
unfolding most_frames
few_frames P n k places all =
    greatest_within place_frames 4 places (All-weaker (IsPlaceFine P n k) (λ p. place_frames p ≤ 4) (place_within P n k) places all)
