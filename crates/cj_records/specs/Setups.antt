-- The setups of a script: hints for the profile, and `warm` lines.
use Rattle.std.specs.Prelude.{◌≡◌, List, [], ◌∷◌}
use Rattle.std.specs.List.{AllZip}
use Rattle.cj_ir.specs.declared.script.Setup.{Setup}
use Rattle.cj_ir.specs.declared.script.Setup.TheVariants.{Guess, Cold, Warm}
use Rattle.cj_ir.specs.Values.{value_word}
use Rattle.cj_profile.specs.declared.view.Read.{Read}
use Rattle.cj_profile.specs.declared.layout.Word.TheVariants as word
use Rattle.cj_profile.specs.Words.{other_edge}
use Rattle.cj_profile.specs.Reads.{store}
use Rattle.cj_notes.specs.declared.notes.WorkNote.{WorkNote}
use Rattle.cj_notes.specs.Works.{WarmLine, IsWarmOf}

-- What a hint stores: 4 calls agreed on that argument, or the edge was taken never and the other one 8 times. A `warm` line
-- is no hint: it is compiled when all hints are set.
abbrev pub SetupPart : Setup → List Read → Type 0
SetupPart (Guess f param value) rs = rs ≡ store (word.Last f param) (value_word value) ∷ store (word.Agreed f param) 4 ∷ []
SetupPart (Cold f label edge) rs = rs ≡ store (word.Way f label edge) 0 ∷ store (word.Way f label (other_edge edge)) 8 ∷ []
SetupPart (Warm f level) rs = rs ≡ []

unfoldable pub warm_lines : List Setup → List WarmLine
warm_lines [] = []
warm_lines (Guess f param value ∷ rest) = warm_lines rest
warm_lines (Cold f label edge ∷ rest) = warm_lines rest
warm_lines (Warm f level ∷ rest) = record { function = f; level = level } ∷ warm_lines rest

-- the `warm` lines have their notes, in order
abbrev pub AreWarm : List Setup → List WorkNote → Type 0
AreWarm setups warm = AllZip IsWarmOf (warm_lines setups) warm
