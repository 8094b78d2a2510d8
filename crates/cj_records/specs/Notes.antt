-- Where the notes of a run published, and which code stands there.
use Rattle.std.specs.Prelude.{◌≡◌, List, [], ◌∷◌, ◌++◌, All, ⊤}
use Rattle.cj_calls.specs.declared.report.Look.{Look}
use Rattle.cj_machine.specs.Versions.{Codes}
use Rattle.cj_notes.specs.declared.notes.WorkNote.{WorkNote}
use Rattle.cj_notes.specs.declared.notes.WorkNote.TheVariants.{Published, Older, Full, TooLarge, NoneAsked, Taken}
use Rattle.cj_notes.specs.Causes.{Noted}

-- where a note published, as a look that would find it
unfoldable pub published : WorkNote → List Look
published (Published f level offset snapshot skipped) = record { function = f; offset = offset } ∷ []
published (Older f level mine found snapshot) = []
published (Full f level next need snapshot) = []
published (TooLarge f level len snapshot) = []
published NoneAsked = []
published (Taken f found) = []

unfoldable pub published_by : List WorkNote → List Look
published_by [] = []
published_by (n ∷ ns) = published n ++ published_by ns

-- the note tells of no version that came too late
abbrev pub IsInTime : WorkNote → Type 0
IsInTime (Published f level offset snapshot skipped) = ⊤
IsInTime (Older f level mine found snapshot) = ⊥
IsInTime (Full f level next need snapshot) = ⊤
IsInTime (TooLarge f level len snapshot) = ⊤
IsInTime NoneAsked = ⊤
IsInTime (Taken f found) = ⊤

-- where the note published, the map has the note's code
abbrev pub IsKnown : Codes → Noted → Type 0
IsKnown codes n = All (λ (look : Look). codes look.function look.offset ≡ n.code) (published n.note)
