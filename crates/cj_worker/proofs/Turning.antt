-- What stays over several calls.
use Rattle.std.specs.Prelude.{Result, Ok, Err, OnErr}
use Rattle.std.proofs.Common.{◌≡◌, ◌∙◌, refl, sym, subst, inl, inr, ℕ, true, false, List, []}
use Rattle.cj_publish.specs.declared.view.View.{View}
use Rattle.cj_publish.specs.Learns.{learns_nothing, learns_twice}
use Rattle.cj_parts.proofs.Seats.{code_same, code_same_on, profile_same, profile_same_on}
use Rattle.cj_ir.specs.declared.language.Program.{Program}
use Rattle.cj_notes.specs.declared.notes.WorkNote.{WorkNote}
use Rattle.cj_notes.specs.Works.{WorkedOne, WorkFailed}
use Rattle.cj_notes.specs.Waiting.{WorksOn, TurnsMade, TurnsDone, TurnsLost}
use Rattle.cj_notes.proofs.Turning.{turns_none, turns_push, turns_done, last_note_lost, last_job_lost}
use Rattle.cj_worker.specs.declared.worker.Worker.{Worker}
use Rattle.cj_worker.specs.Workers.{program_in, view_in, reads_in, Stays, TurnMade, TurnLost}

pub stays_same : (a : Worker) → Stays a a
stays_same a = record {
  checked = refl;
  table = refl;
  profile = refl;
  code_same = code_same a.code_seat;
  profile_same = profile_same a.profile_seat;
}

pub stays_on : (a b c : Worker) → Stays a b → Stays b c → Stays a c
stays_on a b c g h = record {
  checked = h.checked ∙ g.checked;
  table = h.table ∙ g.table;
  profile = h.profile ∙ g.profile;
  code_same = code_same_on a.code_seat b.code_seat c.code_seat g.code_same h.code_same;
  profile_same = profile_same_on a.profile_seat b.profile_seat c.profile_seat g.profile_same h.profile_same;
}

pub on_nothing : (v : View) → WorksOn v v
on_nothing v = record { learns = learns_nothing v; joined = refl; lookups = refl }

pub on_twice : (u v w : View) → WorksOn u v → WorksOn v w → WorksOn u w
on_twice u v w g h = record { learns = learns_twice u v w g.learns h.learns; joined = h.joined ∙ g.joined; lookups = h.lookups ∙ g.lookups }

-- the turns since the first state
abbrev pub MadeSince : ℕ → List WorkNote → Worker → Worker → Type 0
MadeSince callers work first now = TurnsMade (program_in first) callers work (view_in first) (view_in now) (reads_in first) (reads_in now)

pub no_turn : (callers : ℕ) (work : List WorkNote) (first : Worker) → work ≡ [] → MadeSince callers work first first
no_turn callers work first none = subst (λ (l : List WorkNote). MadeSince callers l first first) (sym none)
    (turns_none (program_in first) callers (view_in first) (reads_in first))

module _ (callers : ℕ) (before after : List WorkNote) (first a b : Worker) (stays : Stays first a) (h : MadeSince callers before first a) where
  pub one_turn : TurnMade callers false before after a b → MadeSince callers after first b
  one_turn (finished, few, note, kept_is, mid, loaded, made) =
      let same : WorkedOne (program_in first) note (view_in a) (view_in b) mid (reads_in b) = subst
      (λ (P : Program). WorkedOne P note (view_in a) (view_in b) mid (reads_in b)) stays.checked made in
      let all = turns_push (program_in first) callers before (view_in first) (view_in a) (reads_in first) (reads_in a) h (view_in b) mid (reads_in b)
      note finished few loaded same in
      subst (λ (l : List WorkNote). MadeSince callers l first b) (sym kept_is) all

  pub last_look : TurnMade callers true before after a b → TurnsDone (program_in first) callers after (view_in first) (view_in b) (reads_in first) (reads_in b)
  last_look (finished, all, same, still, loaded) =
      let done = turns_done (program_in first) callers before (view_in first) (view_in a) (reads_in first) (reads_in a) h (reads_in b) finished all loaded in
      let seen = subst (λ (v : View). TurnsDone (program_in first) callers before (view_in first) v (reads_in first) (reads_in b)) (sym still) done in
      subst (λ (l : List WorkNote). TurnsDone (program_in first) callers l (view_in first) (view_in b) (reads_in first) (reads_in b)) (sym same) seen

pub lost_turn : (callers : ℕ) (before : List WorkNote) (first a b : Worker) → Stays first a → MadeSince callers before first a → TurnLost callers before a b
    → TurnsLost (program_in first) callers (view_in first) (view_in b) (reads_in first) (reads_in b)
lost_turn callers before first a b stays h (inl (after, some, made)) =
    last_note_lost (program_in first) callers after (view_in first) (view_in b) (reads_in first) (reads_in b)
    (one_turn callers before after first a b stays h made) some
lost_turn callers before first a b stays h (inr (finished, few, mid, loaded, failed)) =
    let same : WorkFailed (program_in first) (view_in a) (view_in b) mid (reads_in b) = subst
    (λ (P : Program). WorkFailed P (view_in a) (view_in b) mid (reads_in b)) stays.checked failed in
    last_job_lost (program_in first) callers before (view_in first) (view_in a) (reads_in first) (reads_in a) h (view_in b) mid (reads_in b)
    finished few loaded same

pub where_lost : {T E P : Type 0} (r : Result T E) → P → OnErr r P
where_lost (Ok x) h = tt
where_lost (Err e) h = h
