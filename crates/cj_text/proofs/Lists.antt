-- Items one by one, the first that passes a test, and items that differ from the earlier ones.
use Rattle.std.proofs.Common.{◌≡◌, ◌∙◌, sym, ap, refl, subst, ℕ, zero, suc, ◌+◌, Bool, true, false, cond, List, [], ◌∷◌, ◌++◌, map, arith, append_assoc}
use Rattle.std.proofs.Common.{append-nil, All}
use Rattle.std.specs.Prelude.{Option, Some, slice_get, ◌≢◌, ⊤, position}
use Rattle.std.specs.Bool.{Decides}
use Rattle.std.specs.List.{list_any, position_from, find}
use Rattle.std.proofs.lemmas.List.Elements.{All-head, All-tail}
use Rattle.std.proofs.lemmas.Iterator.Adapters.{position_from-zero}
use Rattle.cj_ir.specs.WellFormed.{AllDifferBy}

-- ---- each item

abbrev pub Every : {A : Type 0} → (A → Type 0) → List A → Type 0
Every P [] = ⊤
Every P (x ∷ xs) = P x × Every P xs

pub every_of_all : {A : Type 0} (P : A → Type 0) (xs : List A) → All P xs → Every P xs
every_of_all P [] h = tt
every_of_all P (x ∷ xs) h = (All-head P x xs h, every_of_all P xs (All-tail P x xs h))

pub every_map : {A : Type 0} (P Q : A → Type 0) → ((x : A) → P x → Q x) → (xs : List A) → Every P xs → Every Q xs
every_map P Q f [] h = tt
every_map P Q f (x ∷ xs) h = (f x h.0, every_map P Q f xs h.1)

pub every_both : {A : Type 0} (P Q R : A → Type 0) → ((x : A) → P x → Q x → R x) → (xs : List A) → Every P xs → Every Q xs → Every R xs
every_both P Q R f [] h k = tt
every_both P Q R f (x ∷ xs) h k = (f x h.0 k.0, every_both P Q R f xs h.1 k.1)

pub every_split : {A : Type 0} (P : A → Type 0) (xs ys : List A) → Every P (xs ++ ys) → Every P xs × Every P ys
every_split P [] ys h = (tt, h)
every_split P (x ∷ xs) ys h = let r : Every P xs × Every P ys = every_split P xs ys h.1 in ((h.0, r.0), r.1)

pub some_same : {A : Type 0} (x y : A) → ◌≡◌ {A = Option A} (Some x) (Some y) → x ≡ y
some_same x y h = cc

pub every_at : {A : Type 0} (P : A → Type 0) (xs : List A) (n : ℕ) (x : A) → Every P xs → slice_get xs n ≡ Some x → P x
every_at P [] n x h s = cc
every_at P (y ∷ ys) zero x h s = subst P (some_same y x s) h.0
every_at P (y ∷ ys) (suc n) x h s = every_at P ys n x h.1 s

-- ---- the first item that passes

abbrev pub IsFirst : {A : Type 0} → (A → Bool) → ℕ → List A → A → Type 0
IsFirst test n [] x = ⊥
IsFirst test zero (y ∷ ys) x = (y ≡ x) × (test y ≡ true)
IsFirst test (suc n) (y ∷ ys) x = (test y ≡ false) × IsFirst test n ys x

pub first_position_from : {A : Type 0} (test : A → Bool) (i n : ℕ) (xs : List A) (x : A) → IsFirst test n xs x → position_from test i xs ≡ Some (i + n)
first_position_from test i n [] x h = absurd h
first_position_from test i zero (y ∷ ys) x h = let e : i ≡ i + 0 = omega arith in rw h.1 (ap Some e)
first_position_from test i (suc n) (y ∷ ys) x h =
    let e : i + 1 + n ≡ i + suc n = omega arith in
    rw h.0 (first_position_from test (i + 1) n ys x h.1 ∙ ap Some e)

pub first_placed : {A : Type 0} (test : A → Bool) (n : ℕ) (xs : List A) (x : A) → IsFirst test n xs x → position_from test 0 xs ≡ Some n
first_placed test n xs x h = let e : 0 + n ≡ n = omega arith in first_position_from test 0 n xs x h ∙ ap Some e

pub first_position : {A : Type 0} (test : A → Bool) (n : ℕ) (xs : List A) (x : A) → IsFirst test n xs x → position test xs ≡ Some n
first_position test n xs x h = position_from-zero test xs ∙ first_placed test n xs x h

pub first_found : {A : Type 0} (test : A → Bool) (n : ℕ) (xs : List A) (x : A) → IsFirst test n xs x → find test xs ≡ Some x
first_found test n [] x h = absurd h
first_found test zero (y ∷ ys) x h = rw h.1 (ap Some h.0)
first_found test (suc n) (y ∷ ys) x h = rw h.0 (first_found test n ys x h.1)

-- the place among what the items are mapped to
pub position_map : {A B : Type 0} (f : A → B) (test : B → Bool) (i : ℕ) (xs : List A) → position_from test i (map f xs) ≡ position_from (λ x. test (f x)) i xs
position_map f test i [] = refl
position_map f test i (x ∷ xs) = ap (λ o. cond (test (f x)) (Some i) o) (position_map f test (i + 1) xs)

-- ---- items that differ

differ_head : {A B : Type 0} (key : A → B) (x : A) (xs : List A) → AllDifferBy key (x ∷ xs) → Every (λ y. key x ≢ key y) xs
differ_head key x xs h = every_of_all (λ y. key x ≢ key y) xs (λ k d lt. h zero (suc k) d (omega arith) (omega arith))

differ_tail : {A B : Type 0} (key : A → B) (x : A) (xs : List A) → AllDifferBy key (x ∷ xs) → AllDifferBy key xs
differ_tail key x xs h = λ i j d below within. h (suc i) (suc j) d (omega arith) (omega arith)

refused : {P : Type 0} (b : Bool) → Decides b P → (P → ⊥) → b ≡ false
refused true d n = absurd (n (d.0 refl))
refused false d n = refl

-- an item is the first with its key
pub first_of_differing : {A B : Type 0} (key : A → B) (eq : B → B → Bool) → ((a b : B) → Decides (eq a b) (a ≡ b)) → (n : ℕ) (xs : List A) (x : A) →
    AllDifferBy key xs → slice_get xs n ≡ Some x → IsFirst (λ y. eq (key y) (key x)) n xs x
first_of_differing key eq decides n [] x h s = cc
first_of_differing key eq decides zero (y ∷ ys) x h s =
    let e : y ≡ x = some_same y x s in (e, (decides (key y) (key x)).1 (ap key e))
first_of_differing key eq decides (suc n) (y ∷ ys) x h s =
    let other : key y ≢ key x = every_at (λ z. key y ≢ key z) ys n x (differ_head key y ys h) s in
    (refused (eq (key y) (key x)) (decides (key y) (key x)) other, first_of_differing key eq decides n ys x (differ_tail key y ys h) s)

-- no item has the key of an earlier one
abbrev pub AreNew : {A B : Type 0} → (A → B) → (B → B → Bool) → List B → List A → Type 0
AreNew key eq earlier [] = ⊤
AreNew key eq earlier (x ∷ xs) = (list_any (λ other. eq other (key x)) earlier ≡ false) × AreNew key eq (earlier ++ key x ∷ []) xs

-- each earlier key is none of theirs
abbrev AreApart : {A B : Type 0} → (A → B) → List B → List A → Type 0
AreApart key earlier xs = Every (λ e. Every (λ x. e ≢ key x) xs) earlier

none_equal : {A B : Type 0} (key : A → B) (eq : B → B → Bool) → ((a b : B) → Decides (eq a b) (a ≡ b)) → (earlier : List B) (x : A) (xs : List A) →
    AreApart key earlier (x ∷ xs) → list_any (λ other. eq other (key x)) earlier ≡ false
none_equal key eq decides [] x xs h = refl
none_equal key eq decides (e ∷ es) x xs h =
    let f : eq e (key x) ≡ false = refused (eq e (key x)) (decides e (key x)) h.0.0 in
    rw f (none_equal key eq decides es x xs h.1)

apart_more : {A B : Type 0} (key : A → B) (earlier : List B) (x : A) (xs : List A) → AreApart key earlier (x ∷ xs) → Every (λ y. key x ≢ key y) xs →
    AreApart key (earlier ++ key x ∷ []) xs
apart_more key [] x xs h k = (k, tt)
apart_more key (e ∷ es) x xs h k = (h.0.1, apart_more key es x xs h.1 k)

new_behind : {A B : Type 0} (key : A → B) (eq : B → B → Bool) → ((a b : B) → Decides (eq a b) (a ≡ b)) → (earlier : List B) (xs : List A) →
    AreApart key earlier xs → AllDifferBy key xs → AreNew key eq earlier xs
new_behind key eq decides earlier [] h k = tt
new_behind key eq decides earlier (x ∷ xs) h k = (
  none_equal key eq decides earlier x xs h,
  new_behind key eq decides (earlier ++ key x ∷ []) xs (apart_more key earlier x xs h (differ_head key x xs k))
      (differ_tail key x xs k),
)

pub new_of_differing : {A B : Type 0} (key : A → B) (eq : B → B → Bool) → ((a b : B) → Decides (eq a b) (a ≡ b)) → (xs : List A) → AllDifferBy key xs →
    AreNew key eq [] xs
new_of_differing key eq decides xs h = new_behind key eq decides [] xs tt h

-- the items of a front, and those behind it
pub new_split : {A B : Type 0} (key : A → B) (eq : B → B → Bool) (earlier : List B) (xs ys : List A) → AreNew key eq earlier (xs ++ ys) →
    AreNew key eq earlier xs × AreNew key eq (earlier ++ map key xs) ys
new_split {A} {B} key eq earlier [] ys h = (tt, subst (λ (es : List B). AreNew key eq es ys) (sym (append-nil earlier)) h)
new_split {A} {B} key eq earlier (x ∷ xs) ys h =
    let r : AreNew key eq (earlier ++ key x ∷ []) xs
    × AreNew key eq ((earlier ++ key x ∷ []) ++ map key xs) ys = new_split key eq (earlier ++ key x ∷ []) xs ys h.1 in
    ((h.0, r.0), subst (λ (es : List B). AreNew key eq es ys) (append_assoc earlier (key x ∷ []) (map key xs)) r.1)
