-- The loops of the grammar of replays, turn by turn: one part more, or none; and a part takes tokens.
use Rattle.std.proofs.Common.{◌≡◌, ◌<◌, true, false, List, length, Ok, refl}
use Rattle.cj_tokens.specs.Lexemes.{Lexeme, is_terminal}
use Rattle.cj_tokens.specs.Passing.{front}
use Rattle.cj_tokens.specs.declared.terminal.Terminal.TheVariants.{Comma}
use Rattle.cj_grammar.specs.OneAhead.{starts, ◌>>=◌, eat}
use Rattle.cj_grammar.specs.Rules.{one, ◌▸◌}
use Rattle.cj_grammar.proofs.Ahead.{begun_by, not_begun_by}
use Rattle.cj_grammar.proofs.Begins.{shorter}
use Rattle.cj_grammar.proofs.Repeats.{many_goes, many_stops}
use Rattle.cj_events.specs.Rules.{guard, more_guards, anchors_pass, assume_pass, delay_pass, const_pass, inline_pass, any_pass, passes, begin_event, step_event}
use Rattle.cj_events.specs.Rules.{compile_event, event, events}

pub more_guards_go : (a : List Lexeme) → is_terminal Comma (front a) ≡ true → eat more_guards a ≡ (eat (one Comma ▸ guard) a >>= eat more_guards)
unfolding more_guards
more_guards_go a k = many_goes (one Comma ▸ guard) a refl (begun_by Comma a refl k)

pub more_guards_stop : (a : List Lexeme) → is_terminal Comma (front a) ≡ false → eat more_guards a ≡ Ok a
unfolding more_guards
more_guards_stop a k = many_stops (one Comma ▸ guard) a refl (not_begun_by Comma a refl k)

pub next_guard_shorter : (a b : List Lexeme) → eat (one Comma ▸ guard) a ≡ Ok b → length b < length a
next_guard_shorter a b h = shorter (one Comma ▸ guard) a b refl h

pub passes_go : (a : List Lexeme) → starts any_pass a ≡ true → eat passes a ≡ (eat any_pass a >>= eat passes)
unfolding passes any_pass anchors_pass assume_pass delay_pass const_pass inline_pass
passes_go a s = many_goes any_pass a refl s

pub passes_stop : (a : List Lexeme) → starts any_pass a ≡ false → eat passes a ≡ Ok a
unfolding passes any_pass anchors_pass assume_pass delay_pass const_pass inline_pass
passes_stop a s = many_stops any_pass a refl s

pub pass_shorter : (a b : List Lexeme) → eat any_pass a ≡ Ok b → length b < length a
unfolding any_pass anchors_pass assume_pass delay_pass const_pass inline_pass
pass_shorter a b h = shorter any_pass a b refl h

pub events_go : (a : List Lexeme) → starts event a ≡ true → eat events a ≡ (eat event a >>= eat events)
unfolding events event begin_event step_event compile_event
events_go a s = many_goes event a refl s

pub events_stop : (a : List Lexeme) → starts event a ≡ false → eat events a ≡ Ok a
unfolding events event begin_event step_event compile_event
events_stop a s = many_stops event a refl s

pub event_shorter : (a b : List Lexeme) → eat event a ≡ Ok b → length b < length a
unfolding event begin_event step_event compile_event
event_shorter a b h = shorter event a b refl h
