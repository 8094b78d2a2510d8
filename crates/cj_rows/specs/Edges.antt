-- Edges of a code, and edges that are led elsewhere.
use Rattle.std.specs.Prelude.{◌<◌, length, All}
use Rattle.cj_ir.specs.declared.language.Label.{Label}
use Rattle.cj_draft.specs.declared.code.Place.{Place}
use Rattle.cj_draft.specs.declared.code.Code.{Code}
use Rattle.cj_draft.specs.Relabel.{relabel}
use Rattle.cj_draft.specs.Edges.{successors}

-- the entry and all edges go to labels of the code
pub record IsClosed (code : Code) : Type 0 where
  pub entry : code.entry.0 < length code.places
  pub edges : All (λ place. All (λ next. next.0 < length code.places) (successors place.instr)) code.places

-- a place with its edges led elsewhere
unfoldable pub led_place : (Label → Label) → Place → Place
led_place r place =
    record { instr = relabel r place.instr; point = place.point; facts = place.facts; backs = place.backs }
