-- Comparing two terminals compares their numbers.
use Rattle.std.proofs.Common.{◌≡◌, refl, nat_eq}
use denote.Enum.Bare.{sameb}
use denote.Enum.Declared.{tag_of}
use Rattle.cj_tokens.specs.Lexemes.{number_of}
use Rattle.cj_tokens.specs.contracts.terminal.Terminal.{the_type}
use Rattle.cj_tokens.specs.declared.terminal.Terminal.{Terminal}
use Rattle.cj_tokens.specs.declared.terminal.Terminal.TheVariants.{End, BadCharacter, BadNumber, Name, Number, Text, Fun, Nop, Op, Cond, Call, Return, Print}
use Rattle.cj_tokens.specs.declared.terminal.Terminal.TheVariants.{Load, Store, Fail, Neg, Eqz, Calls, Guess, Cold, Then, Else, Warm, Memory, Limit, Events}
use Rattle.cj_tokens.specs.declared.terminal.Terminal.TheVariants.{Begin, Step, Compile, Anchors, Assume, Delay, Const, Inline, When, Never, Keep, OpenParen}
use Rattle.cj_tokens.specs.declared.terminal.Terminal.TheVariants.{CloseParen, OpenBrace, CloseBrace, OpenBracket, CloseBracket, Comma, Semicolon, Colon}
use Rattle.cj_tokens.specs.declared.terminal.Terminal.TheVariants.{Equals, Plus, Minus, Star, Slash, Percent, Less, Arrow}

tag_is : (t : Terminal) → tag_of the_type t ≡ number_of t
tag_is End = refl
tag_is BadCharacter = refl
tag_is BadNumber = refl
tag_is Name = refl
tag_is Number = refl
tag_is Text = refl
tag_is Fun = refl
tag_is Nop = refl
tag_is Op = refl
tag_is Cond = refl
tag_is Call = refl
tag_is Return = refl
tag_is Print = refl
tag_is Load = refl
tag_is Store = refl
tag_is Fail = refl
tag_is Neg = refl
tag_is Eqz = refl
tag_is Calls = refl
tag_is Guess = refl
tag_is Cold = refl
tag_is Then = refl
tag_is Else = refl
tag_is Warm = refl
tag_is Memory = refl
tag_is Limit = refl
tag_is Events = refl
tag_is Begin = refl
tag_is Step = refl
tag_is Compile = refl
tag_is Anchors = refl
tag_is Assume = refl
tag_is Delay = refl
tag_is Const = refl
tag_is Inline = refl
tag_is When = refl
tag_is Never = refl
tag_is Keep = refl
tag_is OpenParen = refl
tag_is CloseParen = refl
tag_is OpenBrace = refl
tag_is CloseBrace = refl
tag_is OpenBracket = refl
tag_is CloseBracket = refl
tag_is Comma = refl
tag_is Semicolon = refl
tag_is Colon = refl
tag_is Equals = refl
tag_is Plus = refl
tag_is Minus = refl
tag_is Star = refl
tag_is Slash = refl
tag_is Percent = refl
tag_is Less = refl
tag_is Arrow = refl

pub same_number : (a b : Terminal) → sameb the_type a b ≡ nat_eq (number_of a) (number_of b)
same_number a b = rw (tag_is a, tag_is b) refl
