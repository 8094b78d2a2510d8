-- What a run's setups do to its seats.
use Rattle.std.specs.Prelude.{◌≡◌, List, [], ◌∷◌, ◌++◌, map}
use Rattle.cj_ir.specs.declared.language.Program.{Program}
use Rattle.cj_ir.specs.declared.script.Setup.{Setup}
use Rattle.cj_ir.specs.declared.script.Setup.TheVariants.{Guess, Cold, Warm}
use Rattle.cj_machine.specs.CodeMaps.{no_codes}
use Rattle.cj_profile.specs.declared.view.Read.{Read}
use Rattle.cj_notes.specs.declared.notes.WorkNote.{WorkNote}
use Rattle.cj_notes.specs.Works.{Warmed}
use Rattle.cj_worker.specs.declared.worker.Worker.{Worker}
use Rattle.cj_publish.specs.declared.view.View.{View}
use Rattle.cj_worker.specs.Workers.{program_in, view_in, reads_in, IsReady, Stays}
use Rattle.cj_records.specs.Items.{OfSetup, ReadsInParts}
use Rattle.cj_records.specs.Loops.{Prepared}

-- the entries of all hints, in order
abbrev pub HintsPart : Program → List Setup → List Read → Type 0
HintsPart P setups rs = ReadsInParts P no_codes (map OfSetup setups) rs

-- the function of a `warm` line was compiled, with one note more; for a hint nothing was done
abbrev pub WarmsUp : Setup → Worker → Worker → List WorkNote → List WorkNote → Type 0
WarmsUp (Guess f param value) a b before after = (b ≡ a) × (after ≡ before)
WarmsUp (Cold f label edge) a b before after = (b ≡ a) × (after ≡ before)
WarmsUp (Warm f level) a b before after =
    (note : WorkNote) × (after ≡ before ++ note ∷ [])
    × Warmed (program_in a) (record { function = f; level = level }) note (view_in a) (view_in b) (reads_in a) (reads_in b)

-- Where the hints of all setups are set, the `warm` lines of these are compiled as well, with these notes.
abbrev pub WarmedUp : Program → List Setup → List WorkNote → View → List Read → View → List Read → Type 0
WarmedUp P begun warm v old w new = (setups : List Setup) → Prepared P setups [] [] v old → Prepared P setups begun warm w new

-- the worker has come so far
pub record HasWarmedUp (begun : List Setup) (warm : List WorkNote) (a b : Worker) : Type 0 where
  pub ready : IsReady b
  pub stays : Stays a b
  pub joined : (view_in b).joined ≡ (view_in a).joined
  pub warmed : WarmedUp (program_in a) begun warm (view_in a) (reads_in a) (view_in b) (reads_in b)
