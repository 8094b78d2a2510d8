-- What a snapshot tells of a function: the values that its own loads found.
use Rattle.std.specs.Prelude.{◌≡◌, ℕ, suc, List, [], ◌∷◌, ◌++◌, length}
use Rattle.cj_ir.specs.Program.{param_count, label_count}
use Rattle.cj_ir.specs.declared.language.FunId.{FunId}
use Rattle.cj_ir.specs.declared.language.Label.{Label}
use Rattle.cj_ir.specs.declared.language.Program.{Program}
use Rattle.cj_ir.specs.declared.language.Edge.TheVariants.{Then, Else}
use Rattle.cj_ir.specs.Values.{value_word}
use Rattle.cj_profile.specs.Reads.{load}
use Rattle.cj_profile.specs.declared.layout.Word.TheVariants.{Calls, Failures, Last, Agreed, Way}
use Rattle.cj_profile.specs.declared.view.Read.{Read}
use Rattle.cj_profile.specs.declared.snapshot.ParamNote.{ParamNote}
use Rattle.cj_profile.specs.declared.snapshot.EdgeNote.{EdgeNote}
use Rattle.cj_profile.specs.declared.snapshot.Snapshot.{Snapshot}

-- the loads of a parameter
abbrev pub param_loads : FunId → ℕ → ParamNote → List Read
param_loads f param note = load (Last f param) (value_word note.last) ∷ load (Agreed f param) note.agreed ∷ []

-- the loads of a label
abbrev pub edge_loads : FunId → ℕ → EdgeNote → List Read
edge_loads f next note =
    let label : Label = record { 0 = next } in
    load (Way f label Then) note.then_count ∷ load (Way f label Else) note.else_count ∷ []

-- those of several, numbered from that one on
abbrev pub each_loads : {N : Type 0} → (ℕ → N → List Read) → ℕ → List N → List Read
each_loads loads next [] = []
each_loads loads next (note ∷ notes) = loads next note ++ each_loads loads (suc next) notes

-- all loads of a snapshot, in the order of their words
abbrev pub snapshot_loads : FunId → Snapshot → List Read
snapshot_loads f s =
    load (Calls f) s.calls ∷ load (Failures f) s.fails ∷ (each_loads (param_loads f) 0 s.params ++ each_loads (edge_loads f) 0 s.edges)

-- it has as many parameters and labels as the function
abbrev pub FitsFunction : Program → FunId → Snapshot → Type 0
FitsFunction p f s = (length s.params ≡ param_count p f) × (length s.edges ≡ label_count p f)
