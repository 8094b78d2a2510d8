-- What is known of a token's bytes.
use Rattle.std.proofs.Common.{◌≡◌, Bool, true, false, refl}
use Rattle.std.specs.Prelude.{◌&&◌}
use Rattle.std.specs.List.{list_all}
use Rattle.cj_ir.specs.Texts.{is_text_byte}
use Rattle.cj_tokens.specs.Lexemes.{Lexeme}
use Rattle.cj_tokens.specs.Words.{is_free_word, is_well}
use Rattle.cj_tokens.specs.declared.terminal.Terminal.TheVariants.{Name, Text}

and_left : (a b : Bool) → (a && b) ≡ true → a ≡ true
and_left true b h = refl
and_left false b h = h

pub well_name : (t : Lexeme) → is_well t ≡ true → t.terminal ≡ Name → is_free_word t.text ≡ true
well_name t w e = and_left (is_free_word t.text) true (rw e at w)

pub well_text : (t : Lexeme) → is_well t ≡ true → t.terminal ≡ Text → list_all is_text_byte t.text ≡ true
well_text t w e = rw e at w
