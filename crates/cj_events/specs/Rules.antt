-- The grammar of replays: functions, the word `events`, the events, and the end of the input.
use Rattle.cj_tokens.specs.declared.terminal.Terminal.TheVariants as terminal
use Rattle.cj_grammar.specs.Grammar.{Rule, many}
use Rattle.cj_grammar.specs.Rules.{one, ◌▸◌, ◌∣◌, funs, numbers, begun}

-- ---- passes

unfoldable pub labels : Rule
labels = one terminal.Number ▸ numbers

-- a register and the value that it has to have
unfoldable pub equation : Rule
equation = one terminal.Number ▸ one terminal.Equals ▸ one terminal.Number

unfoldable pub guard : Rule
guard = equation ∣ one terminal.Never

unfoldable pub more_guards : Rule
more_guards = many (one terminal.Comma ▸ guard)

unfoldable pub guards : Rule
guards = one terminal.When ▸ guard ▸ more_guards

unfoldable pub anchors_pass : Rule
anchors_pass = one terminal.Anchors ▸ labels

unfoldable pub assume_pass : Rule
assume_pass = one terminal.Assume ▸ one terminal.Number ▸ guards

unfoldable pub delay_pass : Rule
delay_pass = one terminal.Delay ▸ labels ▸ guards

unfoldable pub const_pass : Rule
const_pass = one terminal.Const

unfoldable pub inline_pass : Rule
inline_pass = one terminal.Inline ▸ one terminal.Number

unfoldable pub any_pass : Rule
any_pass = anchors_pass ∣ assume_pass ∣ delay_pass ∣ const_pass ∣ inline_pass

unfoldable pub passes : Rule
passes = many any_pass

-- ---- events

unfoldable pub begin_event : Rule
begin_event = one terminal.Begin ▸ begun

unfoldable pub step_event : Rule
step_event = one terminal.Step ▸ one terminal.Number ▸ one terminal.Number

unfoldable pub compile_event : Rule
compile_event =
    one terminal.Compile ▸ one terminal.Name ▸ one terminal.OpenBrace ▸ passes ▸ one terminal.CloseBrace

unfoldable pub event : Rule
event = begin_event ∣ step_event ∣ compile_event

unfoldable pub events : Rule
events = many event

unfoldable pub history : Rule
history = one terminal.Events ▸ events

-- a program with its events, to the end
unfoldable pub replay : Rule
replay = funs ▸ history ▸ one terminal.End
