use Rattle.std.proofs.Common.{◌∙◌, arith}
use Rattle.cj_tokens.proofs.Skips.{comment_passed}
use Rattle.cj_tokens.proofs.scan.skip.Goals as goal

pub more-preserved : goal.more-preserved
more-preserved c =
    let t = comment_passed c.more.line c.more.at c.comment_size.result c.args.bytes.now (omega arith) c.if-byte-eq35.true c.comment_size.ensures.size in
    (t.0, c.more.invariant.1 ∙ t.1)
