-- The tokens of a text, as the grammar sees them.
use Rattle.std.specs.Prelude.{ℕ, ℤ, Bool, ◌&&◌, List, nat_eq}
use Rattle.std.specs.Str.{bytes_eq}
use Rattle.cj_tokens.specs.declared.terminal.Terminal.{Terminal}
use Rattle.cj_tokens.specs.declared.terminal.Terminal.TheVariants.{End, BadCharacter, BadNumber, Name, Number, Text, Fun, Nop, Op, Cond, Call, Return, Print}
use Rattle.cj_tokens.specs.declared.terminal.Terminal.TheVariants.{Load, Store, Fail, Neg, Eqz, Calls, Guess, Cold, Then, Else, Warm, Memory, Limit, Events}
use Rattle.cj_tokens.specs.declared.terminal.Terminal.TheVariants.{Begin, Step, Compile, Anchors, Assume, Delay, Const, Inline, When, Never, Keep, OpenParen}
use Rattle.cj_tokens.specs.declared.terminal.Terminal.TheVariants.{CloseParen, OpenBrace, CloseBrace, OpenBracket, CloseBracket, Comma, Semicolon, Colon}
use Rattle.cj_tokens.specs.declared.terminal.Terminal.TheVariants.{Equals, Plus, Minus, Star, Slash, Percent, Less, Arrow}

-- A token: which terminal it is, the line in which it stands, its bytes, and the value of a number.
pub record Lexeme : Type 0 where
  pub terminal : Terminal
  pub line : ℕ
  pub text : List ℕ
  pub number : ℤ

-- the terminals, numbered
abbrev pub number_of : Terminal → ℕ
number_of End = 0
number_of BadCharacter = 1
number_of BadNumber = 2
number_of Name = 3
number_of Number = 4
number_of Text = 5
number_of Fun = 6
number_of Nop = 7
number_of Op = 8
number_of Cond = 9
number_of Call = 10
number_of Return = 11
number_of Print = 12
number_of Load = 13
number_of Store = 14
number_of Fail = 15
number_of Neg = 16
number_of Eqz = 17
number_of Calls = 18
number_of Guess = 19
number_of Cold = 20
number_of Then = 21
number_of Else = 22
number_of Warm = 23
number_of Memory = 24
number_of Limit = 25
number_of Events = 26
number_of Begin = 27
number_of Step = 28
number_of Compile = 29
number_of Anchors = 30
number_of Assume = 31
number_of Delay = 32
number_of Const = 33
number_of Inline = 34
number_of When = 35
number_of Never = 36
number_of Keep = 37
number_of OpenParen = 38
number_of CloseParen = 39
number_of OpenBrace = 40
number_of CloseBrace = 41
number_of OpenBracket = 42
number_of CloseBracket = 43
number_of Comma = 44
number_of Semicolon = 45
number_of Colon = 46
number_of Equals = 47
number_of Plus = 48
number_of Minus = 49
number_of Star = 50
number_of Slash = 51
number_of Percent = 52
number_of Less = 53
number_of Arrow = 54

-- What a rule of the grammar asks of one token: a terminal, or a NAME with these bytes, as the words that are
-- known by their place alone.
pub data Sign : Type 0 where
  Is : Terminal → Sign
  Spelled : List ℕ → Sign

abbrev pub is_terminal : Terminal → Lexeme → Bool
is_terminal k t = nat_eq (number_of t.terminal) (number_of k)

abbrev pub fits : Sign → Lexeme → Bool
fits (Is k) t = is_terminal k t
fits (Spelled word) t = is_terminal Name t && bytes_eq t.text word
