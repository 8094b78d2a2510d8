-- Places and codes that are like others but for one part.
use Rattle.std.specs.Prelude.{List}
use Rattle.cj_draft.specs.declared.instructions.VInstr.{VInstr}
use Rattle.cj_draft.specs.declared.code.Place.{Place}
use Rattle.cj_draft.specs.declared.code.Code.{Code}

unfoldable pub with_instr : VInstr → Place → Place
with_instr instr place = record { instr = instr; point = place.point; facts = place.facts; backs = place.backs }

unfoldable pub with_places : Code → List Place → Code
with_places code places = record { function = code.function; regs = code.regs; entry = code.entry; places = places }
