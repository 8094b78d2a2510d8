use Rattle.cj_tokens.specs.Left.{left, source, stream}
use Rattle.cj_tokens.specs.Seen.{placed}
use Rattle.cj_tokens.specs.declared.tokens.Tokens.{Tokens}
use Rattle.cj_tokens.proofs.Places.{last_ones}
use Rattle.cj_tokens.proofs.laws.places_are_told.Goals as goal

pub returns : goal.returns
unfolding left source stream
returns c =
    let t : Tokens = c.args.tokens.now in
    last_ones t.is_past_end t.bytes.now (placed t.ahead) t.token t.end
