-- Which signs a rule has, and what stands nowhere among some tokens.
use Rattle.std.specs.Prelude.{Bool, true, false, nat_eq, ◌&&◌, not, List, [], ◌∷◌, ◌++◌}
use Rattle.std.specs.List.{list_all}
use Rattle.cj_tokens.specs.Lexemes.{Lexeme, Sign, Is, Spelled, number_of, fits}
use Rattle.cj_tokens.specs.declared.terminal.Terminal.TheVariants.{End}
use Rattle.cj_grammar.specs.Grammar.{Rule, tok, seq, alt, opt, many}
use Rattle.cj_grammar.specs.OneAhead.{has}

-- what the tokens of its sentences fit
abbrev pub signs : Rule → List Sign
signs (tok s) = s ∷ []
signs (seq a b) = signs a ++ signs b
signs (alt a b) = signs a ++ signs b
signs (opt a) = signs a
signs (many a) = signs a

-- no token of its sentences fits this
abbrev pub is_without : Rule → Sign → Bool
is_without r s = not (has (signs r) s)

-- none of the tokens fits
abbrev pub lacks : Sign → List Lexeme → Bool
lacks s ts = list_all (λ t. not (fits s t)) ts

-- in its sentences, nothing stands behind an end
abbrev pub is_ended : Rule → Bool
is_ended (tok s) = true
is_ended (seq a b) = is_without a (Is End) && is_ended b
is_ended (alt a b) = is_ended a && is_ended b
is_ended (opt a) = is_ended a
is_ended (many a) = is_without a (Is End)

-- the last token of each of its sentences is an end
abbrev pub ends_with_end : Rule → Bool
ends_with_end (tok (Is k)) = nat_eq (number_of k) (number_of End)
ends_with_end (tok (Spelled word)) = false
ends_with_end (seq a b) = ends_with_end b
ends_with_end (alt a b) = ends_with_end a && ends_with_end b
ends_with_end (opt a) = false
ends_with_end (many a) = false
