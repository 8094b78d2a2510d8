-- What a report owes to the base run of its call.
use Rattle.std.specs.Prelude.{◌≡◌, ℕ, ◌+◌, ◌*◌, ◌≤◌, ℤ, List, Contains}
use Rattle.cj_ir.specs.declared.language.Program.{Program}
use Rattle.cj_base.specs.declared.machine.End.{End}
use Rattle.cj_base.specs.declared.machine.End.TheVariants.{Returned, Failed, Address, Divide, TurnLimit}
use Rattle.cj_base.specs.declared.machine.Waiting.{Waiting}
use Rattle.cj_base.specs.Machine.{Stack, over}
use Rattle.cj_base.specs.Run.{Begun, base_run, Over, RunAt, GoesOn, EndStands}
use Rattle.cj_calls.specs.declared.report.Note.{Note}
use Rattle.cj_calls.specs.declared.report.Report.{Report}

-- The base run ended so with the report's last base turn. The turn limit is no end of that run: it is answered
-- where as many turns were made as the call allows, and the base run goes on.
abbrev pub EndOwed : Program → Begun → Report → End → Type 0
EndOwed P call r (Returned v) = EndStands P call r.base_turns r.printed (Returned v)
EndOwed P call r (Failed f l) = EndStands P call r.base_turns r.printed (Failed f l)
EndOwed P call r (Address a) = EndStands P call r.base_turns r.printed (Address a)
EndOwed P call r Divide = EndStands P call r.base_turns r.printed Divide
EndOwed P call r TurnLimit = (r.turns ≡ call.limit) × GoesOn P call r.base_turns r.printed

-- a note's frames stand on top of the base run's stack after its turns
pub record NoteStands (P : Program) (call : Begun) (note : Note) : Type 0 where
  pub printed : List ℤ
  pub memory : List ℤ
  pub below : List Waiting
  pub run : RunAt P call note.turn printed (over (record { top = note.top; waiting = note.waiting }) below) memory

abbrev pub NotesStand : Program → Begun → List Note → Type 0
NotesStand P call notes = (note : Note) → Contains notes note → NoteStands P call note

-- the headline for one report
pub record ReportStands (P : Program) (call : Begun) (r : Report) : Type 0 where
  pub «end» : EndOwed P call r r.end
  pub notes : NotesStand P call r.notes
  pub within : r.turns ≤ call.limit
  pub bound : r.turns ≤ 45 * (r.base_turns + 1)

-- where the base run ends within a limit that is large enough, the report has all its prints and its end
abbrev pub IsWhole : Program → Begun → Report → Type 0
IsWhole P call r =
    (n : ℕ) (printed : List ℤ) (by : End) →
    base_run P call n ≡ Over printed by n →
    45 * (n + 1) ≤ call.limit →
    (r.printed ≡ printed) × (r.end ≡ by)
