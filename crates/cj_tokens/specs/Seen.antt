-- What contracts see of a token.
use Rattle.cj_tokens.specs.Lexemes as lexemes
use Rattle.cj_tokens.specs.Scan.{Item}
use Rattle.cj_tokens.specs.declared.lexeme.Lexeme.{Lexeme}
use Rattle.cj_tokens.specs.declared.lexeme.Scanned.{Scanned}

abbrev pub seen : Lexeme → lexemes.Lexeme
seen t = record { terminal = t.terminal; line = t.line; text = t.text.now; number = t.number }

abbrev pub placed : Scanned → Item
placed t = record { lexeme = seen t.lexeme; start = t.start; stop = t.stop }
