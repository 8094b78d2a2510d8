use Rattle.std.specs.Prelude.{Some}
use Rattle.cj_codec.proofs.CodeFormats.{decoded_exactly}
use Rattle.cj_codec.proofs.codes.decode.Goals as goal

pub returns-in-Ok : goal.returns-in-Ok
returns-in-Ok c = record { exact = decoded_exactly c.args.words.now (Some c.in-Ok.code) c.in-Ok.ensures }
