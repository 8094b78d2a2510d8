-- Words that spell a version of a function, for one of its slots.
use Rattle.std.specs.Prelude.{ℕ, List}
use Rattle.cj_ir.specs.declared.language.FunId.{FunId}
use Rattle.cj_ir.specs.declared.language.Program.{Program}
use Rattle.cj_draft.specs.declared.code.Code.{Code}
use Rattle.cj_draft.specs.Sound.{Sound}
use Rattle.cj_draft.specs.Contexts.{context_in}
use Rattle.cj_draft.specs.Bodies.{HasNoAnchors}
use Rattle.cj_spelling.specs.Spells.{Spells}

-- the words are the spelling of a code without Anchors that is sound for the function in the slot's context
pub record SpellsVersion (P : Program) (f : FunId) (slot : ℕ) (words : List ℕ) : Type 0 where
  pub code : Code
  pub spells : Spells words code
  pub sound : Sound P (context_in slot) f code
  pub no_anchors : HasNoAnchors code
