use Rattle.cj_codec.proofs.CodeFormats.{body_in_range}
use Rattle.cj_test_drafts.proofs.codec.read_long.Goals as goal

pub returns-in-Ok : goal.returns-in-Ok
returns-in-Ok c = body_in_range c.args.words.now c.in-Ok.code c.read_body.new.words.rest.now c.in-Ok.ensures
