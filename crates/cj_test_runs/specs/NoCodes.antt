-- Where no function has a version, the codes are sound.
use Rattle.cj_ir.specs.declared.language.Program.{Program}
use Rattle.cj_machine.specs.CodeMaps.{SoundCodes, no_codes}

pub no_codes_sound : (P : Program) → SoundCodes P no_codes
unfolding no_codes
no_codes_sound P f offset code found = let never : ⊥ = cc in absurd never
