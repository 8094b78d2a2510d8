-- How the tokens of a tree begin.
use Rattle.std.proofs.Common.{◌≡◌, suc, ◌+◌, ◌<◌, true, false, cond, ◌⊎◌, List, [], ◌∷◌, ◌++◌, length, None, Some, Ok, refl, ap, inl, inr, arith, length-append}
use Rattle.std.specs.Prelude.{flat_map}
use Rattle.cj_tokens.specs.Lexemes.{Lexeme, fits}
use Rattle.cj_grammar.specs.Grammar.{Rule, tok, seq, alt, opt, many, Tree, leaves}
use Rattle.cj_grammar.specs.OneAhead.{is_empty, firsts, starts, eat}
use Rattle.cj_grammar.proofs.Signs.{fits_one, one_left, one_right, or_left, or_right}
use Rattle.cj_grammar.proofs.Eats.{sound}

-- how the tokens of a tree begin
abbrev pub Begins : Rule → List Lexeme → Type 0
Begins r ts = ((ts ≡ []) × (is_empty r ≡ true)) ⊎ ((x : Lexeme) × (xs : List Lexeme) × (ts ≡ x ∷ xs) × (fits_one (firsts r) x ≡ true))

begins_many : (a : Rule) → ((t : Tree a) → Begins a (leaves a t)) → (ts : List (Tree a)) → Begins (many a) (flat_map (leaves a) ts)
begins_many a b [] = inl (refl, refl)
begins_many a b (t ∷ ts) = elim (b t) [
  | inl p ↦ elim (begins_many a b ts) [
    | inl q ↦ inl (rw p.0 q.0, refl)
    | inr q ↦ inr (q.0, q.1, rw p.0 q.2, q.3)
  ]
  | inr p ↦ inr (p.0, p.1 ++ flat_map (leaves a) ts, rw p.2 refl, p.3)
]

pub begins : (r : Rule) (t : Tree r) → Begins r (leaves r t)
begins (tok k) t = inr (t.token, [], refl, or_left (fits k t.token) false t.is)
begins (seq a b) t = elim (begins a t.0) [
  | inl p ↦ elim (begins b t.1) [
    | inl q ↦ inl (rw (p.0, q.0) refl, rw (p.1, q.1) refl)
    | inr q ↦ inr (q.0, q.1, rw p.0 q.2, rw p.1 (one_right (firsts a) (firsts b) q.0 q.3))
  ]
  | inr p ↦ inr (p.0, p.1 ++ leaves b t.1, rw p.2 refl, one_left (firsts a) (cond (is_empty a) (firsts b) []) p.0 p.3)
]
begins (alt a b) (inl t) = elim (begins a t) [
  | inl p ↦ inl (p.0, or_left (is_empty a) (is_empty b) p.1)
  | inr p ↦ inr (p.0, p.1, p.2, one_left (firsts a) (firsts b) p.0 p.3)
]
begins (alt a b) (inr t) = elim (begins b t) [
  | inl p ↦ inl (p.0, or_right (is_empty a) (is_empty b) p.1)
  | inr p ↦ inr (p.0, p.1, p.2, one_right (firsts a) (firsts b) p.0 p.3)
]
begins (opt a) None = inl (refl, refl)
begins (opt a) (Some t) = elim (begins a t) [
  | inl p ↦ inl (p.0, refl)
  | inr p ↦ inr (p.0, p.1, p.2, p.3)
]
begins (many a) ts = begins_many a (begins a) ts

-- a tree of a rule that is never empty begins with one of its first terminals
pub full : (r : Rule) (t : Tree r) → is_empty r ≡ false → (x : Lexeme) × (xs : List Lexeme) × (leaves r t ≡ x ∷ xs) × (fits_one (firsts r) x ≡ true)
full r t n = elim (begins r t) [
  | inl p ↦ cc
  | inr p ↦ p
]

pub started : (r : Rule) (t : Tree r) (more : List Lexeme) → is_empty r ≡ false → starts r (leaves r t ++ more) ≡ true
started r t more n = let f : (x : Lexeme) × (xs : List Lexeme) × (leaves r t ≡ x ∷ xs) × (fits_one (firsts r) x ≡ true) = full r t n in rw f.2 f.3

pub shorter : (a : Rule) (ts rest : List Lexeme) → is_empty a ≡ false → eat a ts ≡ Ok rest → length rest < length ts
shorter a ts rest n h =
    let i : (t : Tree a) × (leaves a t ++ rest ≡ ts) = sound a ts rest h in
    let f : (x : Lexeme) × (xs : List Lexeme) × (leaves a i.0 ≡ x ∷ xs) × (fits_one (firsts a) x ≡ true) = full a i.0 n in
    let k : length (leaves a i.0) ≡ suc (length f.1) = ap length f.2 in
    let l : length (leaves a i.0 ++ rest) ≡ length ts = ap length i.1 in
    let m : length (leaves a i.0 ++ rest) ≡ length (leaves a i.0) + length rest = length-append (leaves a i.0) rest in
    omega arith
