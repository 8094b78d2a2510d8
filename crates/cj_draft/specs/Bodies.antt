-- What contracts see of drafts and versions.
use Rattle.std.specs.Prelude.{List, All, ⊤}
use Rattle.cj_ir.specs.declared.language.Program.{Program}
use Rattle.cj_draft.specs.declared.facts.Fact.{Fact}
use Rattle.cj_draft.specs.declared.instructions.VInstr.{VInstr}
use Rattle.cj_draft.specs.declared.instructions.VInstr.TheVariants.{Anchor}
use Rattle.cj_draft.specs.declared.code.Code.{Code}
use Rattle.cj_draft.specs.WellNamed.{IsContextOf}
use Rattle.cj_draft.specs.Sound.{Sound}

-- a code with its program, and with facts of the arguments with which it is entered
pub record Body : Type 0 where
  pub program : Program
  pub context : List Fact
  pub code : Code

pub record IsSoundBody (P : Program) (context : List Fact) (code : Code) : Type 0 where
  pub context_fits : IsContextOf P code.function context
  pub sound : Sound P context code.function code

abbrev pub IsNoAnchor : VInstr → Type 0
IsNoAnchor (Anchor back target next) = ⊥
IsNoAnchor instr = ⊤

abbrev pub HasNoAnchors : Code → Type 0
HasNoAnchors code = All (λ place. IsNoAnchor place.instr) code.places
