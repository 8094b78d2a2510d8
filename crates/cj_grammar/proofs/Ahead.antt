-- What begins next, by the next token.
use Rattle.std.proofs.Common.{◌≡◌, true, false, List, [], ◌∷◌, refl, sym, ◌∙◌, inl, inr}
use Rattle.cj_tokens.specs.Lexemes.{Lexeme, Sign, Is, fits, is_terminal}
use Rattle.cj_grammar.specs.OneAhead.{clash, is_next, has}
use Rattle.cj_tokens.specs.Passing.{front}
use Rattle.cj_tokens.specs.declared.terminal.Terminal.{Terminal}
use Rattle.cj_tokens.specs.declared.terminal.Terminal.TheVariants.{End}
use Rattle.cj_grammar.proofs.Signs.{fits_one, fits_apart, known_bool, or_false}

no_end : (s : Sign) (t : Lexeme) → clash s (Is End) ≡ false → fits (Is End) t ≡ true → fits s t ≡ false
no_end s t h e = elim (known_bool (fits s t)) [
  | inl y ↦ let n : fits (Is End) t ≡ false = fits_apart s (Is End) t h y in cc
  | inr n ↦ n
]

none_at_end : (signs : List Sign) (t : Lexeme) → has signs (Is End) ≡ false → fits (Is End) t ≡ true → fits_one signs t ≡ false
none_at_end [] t h e = refl
none_at_end (s ∷ signs) t h e =
    let p : (clash s (Is End) ≡ false) × (has signs (Is End) ≡ false) = or_false (clash s (Is End)) (has signs (Is End)) h in
    rw (no_end s t p.0 e) (none_at_end signs t p.1 e)

-- Where a rule begins with no end, the next token says whether it begins.
pub ahead : (signs : List Sign) (ts : List Lexeme) → has signs (Is End) ≡ false → is_next signs ts ≡ fits_one signs (front ts)
unfolding front
ahead signs [] h = sym (none_at_end signs (front []) h refl)
ahead signs (t ∷ ts) h = refl

pub begun_by : (k : Terminal) (ts : List Lexeme) → has (Is k ∷ []) (Is End) ≡ false → is_terminal k (front ts) ≡ true → is_next (Is k ∷ []) ts ≡ true
begun_by k ts h g = ahead (Is k ∷ []) ts h ∙ rw g refl

pub not_begun_by : (k : Terminal) (ts : List Lexeme) → has (Is k ∷ []) (Is End) ≡ false → is_terminal k (front ts) ≡ false → is_next (Is k ∷ []) ts ≡ false
not_begun_by k ts h g = ahead (Is k ∷ []) ts h ∙ rw g refl
