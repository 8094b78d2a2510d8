-- Which tokens fit which signs.
use Rattle.std.proofs.Common.{◌≡◌, ℕ, Bool, true, false, List, [], ◌∷◌, ◌++◌, refl, sym, inl, inr, subst, pos}
use Rattle.std.specs.Prelude.{nat_eq, not}
use Rattle.std.specs.List.{list_any}
use Rattle.std.specs.Str.{bytes_eq}
use Rattle.std.proofs.lemmas.Bool.{eqb-true, eq-eqb}
use Rattle.std.proofs.lemmas.Slice.Eq.{bytes_eq-Decides}
use Rattle.cj_tokens.specs.Lexemes.{Lexeme, Sign, Is, Spelled, number_of, is_terminal, fits}
use Rattle.cj_grammar.specs.OneAhead.{clash, has, are_apart}
use Rattle.cj_tokens.specs.declared.terminal.Terminal.TheVariants.{Name}
pub use Rattle.std.proofs.lemmas.Bool.{and_parts as and_true, or_parts as or_false, cases_Bool as known_bool, not-true as not_true, or_left, or_right}

-- a token of one terminal is of no other one
one_terminal : (j k : ℕ) (n : ℕ) → nat_eq j k ≡ false → nat_eq n j ≡ true → nat_eq n k ≡ false
one_terminal j k n h g = subst (λ (z : ℕ). nat_eq z k ≡ false) (sym (eqb-true n j g)) h

other_bytes : (one other text : List ℕ) → bytes_eq one other ≡ false → bytes_eq text one ≡ true → bytes_eq text other ≡ false
other_bytes one other text h g =
    let same : text ≡ one = (bytes_eq-Decides text one).0 g in
    subst (λ (z : List ℕ). bytes_eq z other ≡ false) (sym same) h

-- A token fits no sign that does not clash with one that it fits.
pub fits_apart : (a b : Sign) (t : Lexeme) → clash a b ≡ false → fits a t ≡ true → fits b t ≡ false
fits_apart (Is j) (Is k) t h g = one_terminal (number_of j) (number_of k) (number_of t.terminal) h g
fits_apart (Is j) (Spelled word) t h g = rw (one_terminal (number_of j) (number_of Name) (number_of t.terminal) h g) refl
fits_apart (Spelled word) (Is k) t h g =
    let p : (is_terminal Name t ≡ true) × (bytes_eq t.text word ≡ true) = and_true (is_terminal Name t) (bytes_eq t.text word) g in
    one_terminal (number_of Name) (number_of k) (number_of t.terminal) h p.0
fits_apart (Spelled one) (Spelled other) t h g =
    let p : (is_terminal Name t ≡ true) × (bytes_eq t.text one ≡ true) = and_true (is_terminal Name t) (bytes_eq t.text one) g in
    rw (p.0, other_bytes one other t.text h p.1) refl

-- a token that fits
pub sample : Sign → Lexeme
sample (Is k) = record { terminal = k; line = 0; text = []; number = pos 0 }
sample (Spelled word) = record { terminal = Name; line = 0; text = word; number = pos 0 }

pub sample_fits : (s : Sign) → fits s (sample s) ≡ true
unfolding sample
sample_fits (Is k) = eq-eqb (number_of k) (number_of k) refl
sample_fits (Spelled word) = (bytes_eq-Decides word word).1 refl

-- whether a token fits one of some signs
abbrev pub fits_one : List Sign → Lexeme → Bool
fits_one signs t = list_any (λ s. fits s t) signs

pub one_left : (xs ys : List Sign) (t : Lexeme) → fits_one xs t ≡ true → fits_one (xs ++ ys) t ≡ true
one_left [] ys t h = cc
one_left (x ∷ xs) ys t h = elim (known_bool (fits x t)) [
  | inl e ↦ rw e refl
  | inr e ↦ let g : fits_one xs t ≡ true = rw e at h in or_right (fits x t) (fits_one (xs ++ ys) t) (one_left xs ys t g)
]

pub one_right : (xs ys : List Sign) (t : Lexeme) → fits_one ys t ≡ true → fits_one (xs ++ ys) t ≡ true
one_right [] ys t h = h
one_right (x ∷ xs) ys t h = or_right (fits x t) (fits_one (xs ++ ys) t) (one_right xs ys t h)

-- a sign that clashes with none of those of which a token fits one
not_this : (ys : List Sign) (x : Sign) (t : Lexeme) → has ys x ≡ false → fits_one ys t ≡ true → fits x t ≡ false
not_this [] x t h g = cc
not_this (y ∷ ys) x t h g =
    let n : (clash y x ≡ false) × (has ys x ≡ false) = or_false (clash y x) (has ys x) h in
    elim (known_bool (fits y t)) [
      | inl e ↦ fits_apart y x t n.0 e
      | inr e ↦ let rest : fits_one ys t ≡ true = rw e at g in not_this ys x t n.1 rest
    ]

pub apart : (xs ys : List Sign) (t : Lexeme) → are_apart xs ys ≡ true → fits_one ys t ≡ true → fits_one xs t ≡ false
apart [] ys t h g = refl
apart (x ∷ xs) ys t h g =
    let p : (not (has ys x) ≡ true) × (are_apart xs ys ≡ true) = and_true (not (has ys x)) (are_apart xs ys) h in
    let n : fits x t ≡ false = not_this ys x t (not_true (has ys x) p.0) g in
    rw n (apart xs ys t p.1 g)
