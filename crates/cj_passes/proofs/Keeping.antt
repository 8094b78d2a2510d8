-- The items that are kept, one by one and all.
use Rattle.std.proofs.Common.{◌≡◌, ℕ, zero, suc, ◌<◌, Bool, true, false, List, [], ◌∷◌, ◌++◌, length, map, take, drop, Some, refl, sym, ap, ap₂, ◌∙◌, subst}
use Rattle.std.proofs.Common.{arith, append_assoc}
use Rattle.std.specs.Prelude.{slice_get, All}
use Rattle.std.proofs.lemmas.List.{append-nil}
use Rattle.std.proofs.lemmas.Option.{same_Some, none-some}
use Rattle.std.proofs.lemmas.List.Elements.{All-nil, All-cons, All-head, All-tail}
use Rattle.cj_ir.proofs.Marks.{count_marks, count-true, count-false}
use Rattle.cj_passes.specs.Lowering.{kept_of}

-- ---- one by one

pub kept_none : {X : Type 0} (kept : List Bool) → kept_of {X = X} kept [] ≡ []
unfolding kept_of
kept_none [] = refl
kept_none (keeps ∷ kept) = refl

pub kept_first : {X : Type 0} (keeps : Bool) (kept : List Bool) (items : List X) → kept_of (keeps ∷ kept) items ≡ kept_of (keeps ∷ []) items
    ++ kept_of kept (drop 1 items)
unfolding kept_of
kept_first true kept (item ∷ items) = refl
kept_first false kept (item ∷ items) = refl
kept_first keeps kept [] = sym (kept_none kept)

map_append : {X Y : Type 0} (f : X → Y) (xs ys : List X) → map f (xs ++ ys) ≡ map f xs ++ map f ys
map_append f [] ys = refl
map_append f (x ∷ xs) ys = ap (λ zs. f x ∷ zs) (map_append f xs ys)

-- what is made and what is left, after one more
pub kept_step : {X Y : Type 0} (f : X → Y) (made made' : List Y) (rest rest' : List X) (keeps : Bool) (kept : List Bool) (all : List Y) →
    made' ≡ made ++ map f (kept_of (keeps ∷ []) rest) → rest' ≡ drop 1 rest → made ++ map f (kept_of (keeps ∷ kept) rest) ≡ all →
    made' ++ map f (kept_of kept rest') ≡ all
kept_step f made made' rest rest' keeps kept all e left so_far =
    ap₂ (λ a b. a ++ map f (kept_of kept b)) e left
    ∙ append_assoc made (map f (kept_of (keeps ∷ []) rest)) (map f (kept_of kept (drop 1 rest)))
    ∙ ap (λ zs. made ++ zs) (sym (map_append f (kept_of (keeps ∷ []) rest) (kept_of kept (drop 1 rest))) ∙ ap (map f) (sym (kept_first keeps kept rest)))
    ∙ so_far

pub kept_one : {X Y : Type 0} (f : X → Y) (made : List Y) (keeps : Bool) (rest : List X) (x : X) (more : List X) → rest ≡ x ∷ more → keeps ≡ true →
    made ++ map f (kept_of (keeps ∷ []) rest) ≡ made ++ f x ∷ []
unfolding kept_of
kept_one f made keeps rest x more e k = ap₂ (λ b zs. made ++ map f (kept_of (b ∷ []) zs)) k e

pub kept_not : {X Y : Type 0} (f : X → Y) (made : List Y) (keeps : Bool) (rest : List X) (x : X) (more : List X) → rest ≡ x ∷ more → keeps ≡ false →
    made ++ map f (kept_of (keeps ∷ []) rest) ≡ made
unfolding kept_of
kept_not f made keeps rest x more e k = ap₂ (λ b zs. made ++ map f (kept_of (b ∷ []) zs)) k e ∙ append-nil made

pub kept_end : {X Y : Type 0} (f : X → Y) (made : List Y) (keeps : Bool) (rest : List X) → rest ≡ [] → made ++ map f (kept_of (keeps ∷ []) rest) ≡ made
unfolding kept_of
kept_end f made keeps rest e = ap (λ zs. made ++ map f (kept_of (keeps ∷ []) zs)) e ∙ append-nil made

pub kept_over : {X Y : Type 0} (f : X → Y) (made : List Y) (kept : List Bool) (rest : List X) → kept ≡ [] → made ++ map f (kept_of kept rest) ≡ made
unfolding kept_of
kept_over f made kept rest e = ap (λ ks. made ++ map f (kept_of ks rest)) e ∙ append-nil made

-- ---- where they stand

-- a kept item stands at the number of kept ones before it
pub kept_at : {X : Type 0} (kept : List Bool) (items : List X) (i : ℕ) (x : X) → slice_get kept i ≡ Some true → slice_get items i ≡ Some x →
    slice_get (kept_of kept items) (count_marks (take i kept)) ≡ Some x
unfolding kept_of
kept_at [] items i x e at = absurd (none-some true e)
kept_at (keeps ∷ kept) [] i x e at = absurd (none-some x at)
kept_at (true ∷ kept) (item ∷ items) zero x e at = at
kept_at (false ∷ kept) (item ∷ items) zero x e at = let f : false ≡ true = same_Some false true e in absurd (cc)
kept_at (true ∷ kept) (item ∷ items) (suc i) x e at =
    let n : count_marks (true ∷ take i kept) ≡ suc (count_marks (take i kept)) = count-true (take i kept) ∙ omega arith in
    subst (λ k. slice_get (item ∷ kept_of kept items) k ≡ Some x) (sym n) (kept_at kept items i x e at)
kept_at (false ∷ kept) (item ∷ items) (suc i) x e at =
    subst (λ k. slice_get (kept_of kept items) k ≡ Some x) (sym (count-false (take i kept))) (kept_at kept items i x e at)

-- where an item of the kept ones stood
pub record StoodAt {X : Type 0} (kept : List Bool) (items : List X) (x : X) : Type 0 where
  pub place : ℕ
  pub keeps : slice_get kept place ≡ Some true
  pub at : slice_get items place ≡ Some x

pub stood_at : {X : Type 0} (kept : List Bool) (items : List X) (k : ℕ) (x : X) → slice_get (kept_of kept items) k ≡ Some x → StoodAt kept items x
unfolding kept_of
stood_at [] items k x e = absurd (none-some x e)
stood_at (keeps ∷ kept) [] k x e = absurd (none-some x e)
stood_at (true ∷ kept) (item ∷ items) zero x e = record { place = 0; keeps = refl; at = e }
stood_at (true ∷ kept) (item ∷ items) (suc k) x e =
    let h = stood_at kept items k x e in record { place = suc h.place; keeps = h.keeps; at = h.at }
stood_at (false ∷ kept) (item ∷ items) k x e =
    let h = stood_at kept items k x e in record { place = suc h.place; keeps = h.keeps; at = h.at }

pub length-kept : {X : Type 0} (kept : List Bool) (items : List X) → length kept ≡ length items → length (kept_of kept items) ≡ count_marks kept
unfolding kept_of
length-kept [] items e = refl
length-kept (keeps ∷ kept) [] e = absurd (omega arith)
length-kept (true ∷ kept) (item ∷ items) e =
    let h : length (kept_of kept items) ≡ count_marks kept = length-kept kept items (omega arith) in omega (arith, count-true kept)
length-kept (false ∷ kept) (item ∷ items) e = length-kept kept items (omega arith) ∙ sym (count-false kept)

-- fewer are kept before a kept one than in all
pub count-below : (kept : List Bool) (i : ℕ) → slice_get kept i ≡ Some true → count_marks (take i kept) < count_marks kept
count-below [] i e = absurd (none-some true e)
count-below (true ∷ kept) zero e = omega (arith, count-true kept)
count-below (false ∷ kept) zero e = let f : false ≡ true = same_Some false true e in absurd (cc)
count-below (true ∷ kept) (suc i) e =
    let h : count_marks (take i kept) < count_marks kept = count-below kept i e in omega (arith, count-true kept, count-true (take i kept))
count-below (false ∷ kept) (suc i) e =
    let h : count_marks (take i kept) < count_marks kept = count-below kept i e in omega (arith, count-false kept, count-false (take i kept))

-- ---- what holds of all

pub all_kept : {X : Type 0} (Q : X → Type 0) (kept : List Bool) (items : List X) → All Q items → All Q (kept_of kept items)
unfolding kept_of
all_kept Q [] items all = All-nil Q
all_kept Q (keeps ∷ kept) [] all = All-nil Q
all_kept Q (true ∷ kept) (item ∷ items) all = All-cons Q item (kept_of kept items) (All-head Q item items all)
    (all_kept Q kept items (All-tail Q item items all))
all_kept Q (false ∷ kept) (item ∷ items) all = all_kept Q kept items (All-tail Q item items all)
