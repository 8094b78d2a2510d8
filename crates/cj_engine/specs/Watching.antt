-- What a watch is told of, and what its trail gains.
use Rattle.std.specs.Prelude.{◌≡◌, ◌⊎◌, ℕ, ℤ, List, [], ◌∷◌, ◌++◌}
use Rattle.cj_ir.specs.declared.language.FunId.{FunId}
use Rattle.cj_ir.specs.declared.language.Program.{Program}
use Rattle.cj_calls.specs.declared.report.Look.{Look}
use Rattle.cj_machine.specs.Versions.{Codes}
use Rattle.cj_machine.specs.Marks.{Mark, Entered}
use Rattle.cj_machine.specs.CodeMaps.{Grows}

-- the looks and the trail gained the same
pub record Gains (looks now_looks trail now_trail : List Look) : Type 0 where
  pub more : List Look
  pub looks_more : now_looks ≡ looks ++ more
  pub trail_more : now_trail ≡ trail ++ more

-- What a call keeps of a watch, whatever comes of it: its codes, but for new ones, its program, and what stays.
pub record Keeps {W : Type 0} (program : W → Program) (codes : W → Codes) (stay : W → W → Type 0) (fit : W → Type 0) (old new : W) : Type 0 where
  pub grows : Grows (codes old) (codes new)
  pub same : program new ≡ program old
  pub stays : stay old new
  pub ready : fit new

-- those marks were told, which are an entry, and its look
pub record EntryTold (went : List Mark → Type 0) (trail now : List Look) (marks : List Mark) : Type 0 where
  pub function : FunId
  pub args : List ℤ
  pub offset : ℕ
  pub entry : marks ≡ Entered function args ∷ []
  pub told : went marks
  pub looked : now ≡ trail ++ record { function = function; offset = offset } ∷ []

-- what was told of those marks where memory ran out: nothing, or an entry
abbrev pub TellsAtMost : (List Mark → Type 0) → List Look → List Look → List Mark → Type 0
TellsAtMost went trail now marks = (went [] × (now ≡ trail)) ⊎ EntryTold went trail now marks
