use Rattle.std.proofs.Common.{refl}
use Rattle.cj_codec.specs.Reading.{decoded}
use Rattle.cj_codec.proofs.CodeFormats.{decoded_exactly}
use Rattle.cj_codec.proofs.laws.decoded_exactly_spellings.Goals as goal

pub returns : goal.returns
returns c = λ ws code. decoded_exactly ws (decoded ws) refl code
