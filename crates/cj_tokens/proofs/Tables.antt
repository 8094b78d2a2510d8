-- What is looked up in the tables of keywords and marks.
use Rattle.std.proofs.Common.{◌≡◌, ℕ, ◌+◌, Bool, true, false, cond, List, [], ◌∷◌, refl, sym, ◌∙◌}
use Rattle.std.proofs.lemmas.Bool.{not-true, and_parts}
use Rattle.std.specs.Prelude.{◌||◌, not, nat_eq, Option, None, Some, unwrap_or, slice_get}
use Rattle.std.specs.List.{list_all, list_any, position_from, zip}
use Rattle.std.specs.Str.{bytes_eq}
use Rattle.cj_ir.specs.Texts.{keywords, keyword_place, is_keyword}
use Rattle.cj_tokens.specs.Lexemes.{number_of}
use Rattle.cj_tokens.specs.Spellings.{lookup, keyword_terminals, keyword_table, mark_table, word_terminal, mark_terminal}
use Rattle.cj_tokens.specs.declared.terminal.Terminal.{Terminal}
use Rattle.cj_tokens.specs.declared.terminal.Terminal.TheVariants.{Name, BadCharacter}

-- the terminal has another number
abbrev pub is_other : ℕ → Terminal → Bool
is_other k t = not (nat_eq (number_of t) k)

abbrev Table : Type 0
Table = List (List ℕ × Terminal)

abbrev pub lacks : ℕ → Table → Bool
lacks k table = list_all (λ e. is_other k e.1) table

pub lookup_other : (k : ℕ) (table : Table) (other : Terminal) (t : List ℕ) → lacks k table ≡ true → is_other k other ≡ true →
    is_other k (lookup table other t) ≡ true
lookup_other k [] other t l o = o
lookup_other k (e ∷ es) other t l o =
    let p : (is_other k e.1 ≡ true) × (lacks k es ≡ true) = and_parts (is_other k e.1) (lacks k es) l in
    let i : is_other k (lookup es other t) ≡ true = lookup_other k es other t p.1 o in
    go (bytes_eq e.0 t) p.0 i
  where
    go : (c : Bool) → is_other k e.1 ≡ true → is_other k (lookup es other t) ≡ true → is_other k (cond c e.1 (lookup es other t)) ≡ true
    go true a b = a
    go false a b = b

-- where another terminal is found, or `other` by its number, the bytes are in the table or they are not
pub lookup_misses : (k : ℕ) (table : Table) (other : Terminal) (t : List ℕ) → lacks k table ≡ true → is_other k (lookup table other t) ≡ false →
    list_any (λ e. bytes_eq e.0 t) table ≡ false
lookup_misses k [] other t l f = refl
lookup_misses k (e ∷ es) other t l f =
    let p : (is_other k e.1 ≡ true) × (lacks k es ≡ true) = and_parts (is_other k e.1) (lacks k es) l in
    go (bytes_eq e.0 t) p.0 (lookup_misses k es other t p.1) f
  where
    go : (c : Bool) → is_other k e.1 ≡ true → (is_other k (lookup es other t) ≡ false → list_any (λ e. bytes_eq e.0 t) es ≡ false) →
        is_other k (cond c e.1 (lookup es other t)) ≡ false → (c || list_any (λ e. bytes_eq e.0 t) es) ≡ false
    go true a i g = cc
    go false a i g = i g

pub word_other : (k : ℕ) (t : List ℕ) → lacks k keyword_table ≡ true → nat_eq 3 k ≡ false → is_other k (word_terminal t) ≡ true
word_other k t l o = lookup_other k keyword_table Name t l (rw o refl)

pub mark_other : (k : ℕ) (t : List ℕ) → lacks k mark_table ≡ true → nat_eq 1 k ≡ false → is_other k (mark_terminal t) ≡ true
mark_other k t l o = lookup_other k mark_table BadCharacter t l (rw o refl)

-- a word that is a NAME is no keyword
pub name_is_free : (t : List ℕ) → is_other 3 (word_terminal t) ≡ false → is_keyword t ≡ false
unfolding keyword_table
name_is_free t f = lookup_misses 3 keyword_table Name t refl f

-- a word that is no keyword is a NAME
lookup_none : (table : Table) (other : Terminal) (t : List ℕ) → list_any (λ e. bytes_eq e.0 t) table ≡ false → lookup table other t ≡ other
lookup_none [] other t n = refl
lookup_none (e ∷ es) other t n = go (bytes_eq e.0 t) (lookup_none es other t) n
  where
    go : (c : Bool) → (list_any (λ e. bytes_eq e.0 t) es ≡ false → lookup es other t ≡ other) → (c || list_any (λ e. bytes_eq e.0 t) es) ≡ false →
        cond c e.1 (lookup es other t) ≡ other
    go true f m = cc
    go false f m = f m

pub free_is_name : (t : List ℕ) → not (is_keyword t) ≡ true → word_terminal t ≡ Name
unfolding keyword_table
free_is_name t h = lookup_none keyword_table Name t (not-true (is_keyword t) h)

-- what stands beside the place that was found
beside : (ℕ → Terminal) → Terminal → Option ℕ → Terminal
beside at other None = other
beside at other (Some place) = at place

terminals_from : (ℕ → Terminal) → ℕ → List (List ℕ) → List Terminal
terminals_from at n [] = []
terminals_from at n (word ∷ words) = at n ∷ terminals_from at (n + 1) words

lookup_by_place : (at : ℕ → Terminal) (other : Terminal) (t : List ℕ) (n : ℕ) (words : List (List ℕ)) →
    lookup (zip words (terminals_from at n words)) other t ≡ beside at other (position_from (λ word. bytes_eq word t) n words)
unfolding beside terminals_from
lookup_by_place at other t n [] = refl
lookup_by_place at other t n (word ∷ words) = go (bytes_eq word t) (lookup_by_place at other t (n + 1) words)
  where
    go : (c : Bool) →
        lookup (zip words (terminals_from at (n + 1) words)) other t ≡ beside at other (position_from (λ word. bytes_eq word t) (n + 1) words) →
        cond c (at n) (lookup (zip words (terminals_from at (n + 1) words)) other t)
        ≡ beside at other (cond c (Some n) (position_from (λ word. bytes_eq word t) (n + 1) words))
    go true i = refl
    go false i = i

by_place : (t : List ℕ) → word_terminal t ≡ beside (λ place. unwrap_or (slice_get keyword_terminals place) Name) Name (keyword_place t)
unfolding keyword_table keyword_place terminals_from
by_place t = lookup_by_place (λ place. unwrap_or (slice_get keyword_terminals place) Name) Name t 0 keywords

-- a word's terminal is the one at the place of its keyword
pub word_at_place : (t : List ℕ) (place : ℕ) → keyword_place t ≡ Some place → unwrap_or (slice_get keyword_terminals place) Name ≡ word_terminal t
unfolding beside
word_at_place t place h = sym (by_place t ∙ rw h refl)

pub word_without_place : (t : List ℕ) → keyword_place t ≡ None → word_terminal t ≡ Name
unfolding beside
word_without_place t h = by_place t ∙ rw h refl
