-- What a refusal is, where a reader of lists gives it.
use Rattle.std.proofs.Common.{◌≡◌, Err}
use Rattle.std.specs.Prelude.{Result}
use Rattle.cj_tokens.specs.declared.refusal.Refused.{Refused}
use Rattle.cj_tokens.specs.declared.refusal.ParseError.{ParseError}
use Rattle.cj_tokens.specs.declared.refusal.ParseError.TheVariants as parse_error
use Rattle.cj_grammar.specs.Readers.{Fails}

pub refused_fails : {Y : Type 0} (error : ParseError) (e : Refused) (read : Result Y Refused) → error ≡ parse_error.Refused e → read ≡ Err e → Fails error read
refused_fails error e read h g = rw h g
