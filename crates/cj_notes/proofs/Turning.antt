-- A worker's turns, one by one.
use Rattle.std.proofs.Common.{◌≡◌, ◌∙◌, refl, sym, ap, subst, ℕ, ◌≤◌, ◌<◌, List, [], ◌∷◌, ◌++◌, length, inl, inr, append-nil, append_assoc}
use Rattle.std.proofs.lemmas.List.Elements.{All-nil, All-push}
use Rattle.cj_ir.specs.declared.language.Program.{Program}
use Rattle.cj_profile.specs.declared.view.Read.{Read}
use Rattle.cj_profile.specs.declared.layout.Word.TheVariants as word
use Rattle.cj_profile.specs.Reads.{load}
use Rattle.cj_publish.specs.declared.view.View.{View}
use Rattle.cj_publish.specs.Views.{Outcomes}
use Rattle.cj_publish.specs.Learns.{learns_nothing, learns_twice}
use Rattle.cj_notes.specs.declared.notes.WorkNote.{WorkNote}
use Rattle.cj_notes.specs.Causes.{kept}
use Rattle.cj_notes.specs.Standing.{NotesStand, NotesAdd}
use Rattle.cj_notes.specs.Works.{WorkedOne, WorkFailed}
use Rattle.cj_notes.specs.Turns.{Turn, IsTurn, kept_notes, turn_reads}
use Rattle.cj_notes.specs.Waiting.{TurnsMade, TurnsDone, TurnsLost}
use Rattle.cj_notes.proofs.Standing.{notes_none, notes_kept}

kept_push : (xs : List Turn) (t : Turn) → kept_notes (xs ++ t ∷ []) ≡ kept_notes xs ++ kept t.note
unfolding kept_notes
kept_push [] t = append-nil (kept t.note)
kept_push (x ∷ xs) t = ap (λ (l : List WorkNote). kept x.note ++ l) (kept_push xs t) ∙ sym (append_assoc (kept x.note) (kept_notes xs) (kept t.note))

reads_push : (xs : List Turn) (t : Turn) → turn_reads (xs ++ t ∷ []) ≡ turn_reads xs ++ load word.Finished t.finished ∷ t.part
unfolding turn_reads
reads_push [] t = append-nil (load word.Finished t.finished ∷ t.part)
reads_push (x ∷ xs) t =
    ap (λ (l : List Read). load word.Finished x.finished ∷ (x.part ++ l)) (reads_push xs t)
    ∙ sym (ap (λ (l : List Read). load word.Finished x.finished ∷ l) (append_assoc x.part (turn_reads xs) (load word.Finished t.finished ∷ t.part)))

module _ (P : Program) (callers : ℕ) where
  pub turns_none : (v : View) (reads : List Read) → TurnsMade P callers [] v v reads reads
  unfolding kept_notes turn_reads
  turns_none v reads = record {
    on = record { learns = learns_nothing v; joined = refl; lookups = refl };
    turns = [];
    each = All-nil (IsTurn P callers);
    are_kept = refl;
    reads = sym (append-nil reads);
    notes = notes_none P v.taken v.outcomes v refl refl;
  }

  module _ (work : List WorkNote) (u v : View) (first old : List Read) (h : TurnsMade P callers work u v first old) where
    -- one turn more
    pub turns_push : (w : View) (mid new : List Read) (note : WorkNote) (finished : ℕ) → finished < callers
        → mid ≡ old ++ load word.Finished finished ∷ [] → WorkedOne P note v w mid new → TurnsMade P callers (work ++ kept note) u w first new
    turns_push w mid new note finished few loaded made =
        let t : Turn = record { finished = finished; note = note; part = made.reads.0 } in
        let seen : Read = load word.Finished finished in
        record {
          on = record {
            learns = learns_twice u v w h.on.learns made.works.learns;
            joined = made.works.joined ∙ h.on.joined;
            lookups = made.works.lookups ∙ h.on.lookups;
          };
          turns = h.turns ++ t ∷ [];
          each = All-push (IsTurn P callers) h.turns t h.each (record { unfinished = few; work = made.reads.1 });
          are_kept = ap (λ (l : List WorkNote). l ++ kept note) h.are_kept ∙ sym (kept_push h.turns t);
          reads =
              made.reads.2 ∙ ap (λ (l : List Read). l ++ made.reads.0) loaded ∙ append_assoc old (seen ∷ []) made.reads.0
              ∙ ap (λ (l : List Read). l ++ seen ∷ made.reads.0) h.reads ∙ append_assoc first (turn_reads h.turns) (seen ∷ made.reads.0)
              ∙ ap (λ (l : List Read). first ++ l) (sym (reads_push h.turns t));
          notes = notes_kept P u.taken u.outcomes v w work made.works.learns h.notes note made.code made.works.cause made.works.taken
              made.works.outcomes;
        }

    -- the last look
    pub turns_done : (new : List Read) (last : ℕ) → callers ≤ last → new ≡ old ++ load word.Finished last ∷ [] → TurnsDone P callers work u v first new
    turns_done new last all e = record { made = old; turns = h; last = last; finished = all; reads = e }

    -- no room for the last note
    pub last_note_lost : 1 ≤ length work → TurnsLost P callers u v first old
    last_note_lost some = record { work = work; made = old; turns = h; rest = []; last = inl (some, refl); reads = sym (append-nil old) }

    -- a look more, and then a job that is lost
    pub last_job_lost : (w : View) (mid new : List Read) (finished : ℕ) → finished < callers → mid ≡ old ++ load word.Finished finished ∷ []
        → WorkFailed P v w mid new → TurnsLost P callers u w first new
    last_job_lost w mid new finished few loaded lost =
        let seen : Read = load word.Finished finished in
        let part = lost.reads.0 in
        record {
          work = work;
          made = old;
          turns = subst (λ (x : View). TurnsMade P callers work u x first old) (sym lost.same) h;
          rest = seen ∷ part;
          last = inr (finished, part, few, lost.reads.1, refl);
          reads = lost.reads.2 ∙ ap (λ (l : List Read). l ++ part) loaded ∙ append_assoc old (seen ∷ []) part;
        }

  -- the notes of a seat that had claimed nothing
  pub notes_of_turns : (work : List WorkNote) (v w : View) (old new : List Read) → v.taken ≡ 0 → v.outcomes ≡ []
      → TurnsMade P callers work v w old new → NotesStand P w work
  notes_of_turns work v w old new none empty h =
      subst (λ (n : ℕ). NotesAdd P n [] w work) none (subst (λ (os : Outcomes). NotesAdd P v.taken os w work) empty h.notes)
