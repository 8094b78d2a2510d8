-- Notes stay true, and one note more.
use Rattle.std.proofs.Common.{◌≡◌, ◌∙◌, refl, sym, ap, subst, arith, le_trans, ℕ, ◌+◌, ◌<◌, List, [], ◌∷◌, ◌++◌, Option, Some, None, append-nil, append_assoc}
use Rattle.std.proofs.lemmas.List.{map_push}
use Rattle.std.proofs.lemmas.List.Elements.{All-nil, All-push, All-weaker}
use Rattle.std.proofs.lemmas.List.Sums.{sum_by_push}
use Rattle.cj_ir.specs.declared.language.Program.{Program}
use Rattle.cj_draft.specs.declared.code.Code.{Code}
use Rattle.cj_publish.specs.declared.view.View.{View}
use Rattle.cj_publish.specs.declared.view.Key.{Key}
use Rattle.cj_publish.specs.declared.view.Cell.{Cell}
use Rattle.cj_publish.specs.Fetched.{main_of, HasVersion}
use Rattle.cj_publish.specs.Learns.{Learns}
use Rattle.cj_notes.specs.declared.notes.WorkNote.{WorkNote}
use Rattle.cj_notes.specs.declared.notes.WorkNote.TheVariants.{Published, Older, Full, TooLarge, NoneAsked, Taken}
use Rattle.cj_notes.specs.Causes.{Noted, claims, claimed_by, kept}
use Rattle.cj_publish.specs.Views.{Outcomes}
use Rattle.cj_notes.specs.Standing.{IsShown, NoteStands, outcome_of, outcomes_of, NotesAdd}

-- a version that was read whole stays so
pub version_stays : (v w : View) (c : Cell) (offset : ℕ) (code : Code) → Learns v w → HasVersion v c offset code → HasVersion w c offset code
version_stays v w c offset code g h = (h.0, g.whole c offset h.0 h.1, h.2)

shown_later : (v w : View) → Learns v w → (n : WorkNote) (code : Option Code) → IsShown v n code → IsShown w n code
shown_later v w g (Published f level offset s skipped) (Some code) h = version_stays v w (main_of f) offset code g h
shown_later v w g (Published f level offset s skipped) None h = absurd h
shown_later v w g (Older f level mine found s) code h = g.seen (main_of f) found h
shown_later v w g (Full f level next need s) code h = (subst (λ (k : Key). k.size < next + need) (sym g.key) h.0, le_trans h.1 g.next)
shown_later v w g (TooLarge f level len s) code h = tt
shown_later v w g NoneAsked code h = tt
shown_later v w g (Taken f found) code h = tt

pub outcomes_append : (xs ys : List WorkNote) → outcomes_of (xs ++ ys) ≡ outcomes_of xs ++ outcomes_of ys
unfolding outcomes_of
outcomes_append [] ys = refl
outcomes_append (x ∷ xs) ys =
    ap (λ (os : Outcomes). outcome_of x ++ os) (outcomes_append xs ys) ∙ sym (append_assoc (outcome_of x) (outcomes_of xs) (outcomes_of ys))

outcomes_push : (xs : List WorkNote) (n : WorkNote) → outcomes_of (xs ++ n ∷ []) ≡ outcomes_of xs ++ outcome_of n
unfolding outcomes_of
outcomes_push xs n = outcomes_append xs (n ∷ []) ∙ ap (λ (os : Outcomes). outcomes_of xs ++ os) (append-nil (outcome_of n))

module _ (P : Program) where
  -- a cause stands over every later view
  pub note_grows : (v w : View) → Learns v w → (n : Noted) → NoteStands P v n → NoteStands P w n
  note_grows v w g n h = record { has_code = h.has_code; shown = shown_later v w g n.note n.code h.shown }

  -- nothing was noted and nothing claimed
  pub notes_none : (before : ℕ) (ended : Outcomes) (v : View) → v.taken ≡ before → v.outcomes ≡ ended → NotesAdd P before ended v []
  unfolding outcomes_of
  notes_none before ended v e o = record {
    noted = [];
    are_notes = refl;
    causes = All-nil (NoteStands P v);
    taken = e ∙ omega arith;
    outcomes = o ∙ sym (append-nil ended);
  }

  module _ (before : ℕ) (ended : Outcomes) (v w : View) (notes : List WorkNote) (g : Learns v w) (h : NotesAdd P before ended v notes) where
    -- one note more, with what its work claimed
    pub notes_push : (n : Noted) → NoteStands P w n → w.taken ≡ v.taken + claimed_by n → w.outcomes ≡ v.outcomes ++ outcome_of n.note
        → NotesAdd P before ended w (notes ++ n.note ∷ [])
    notes_push n c e o = record {
      noted = h.noted ++ n ∷ [];
      are_notes = map_push (λ (m : Noted). m.note) h.noted n ∙ ap (λ (l : List WorkNote). l ++ n.note ∷ []) h.are_notes;
      causes = All-push (NoteStands P w) h.noted n (All-weaker (NoteStands P v) (NoteStands P w) (note_grows v w g) h.noted h.causes) c;
      taken = let s = sum_by_push claimed_by h.noted n in let k = h.taken in omega arith;
      outcomes = o ∙ ap (λ (os : Outcomes). os ++ outcome_of n.note) h.outcomes ∙ append_assoc ended (outcomes_of notes) (outcome_of n.note)
          ∙ ap (λ (os : Outcomes). ended ++ os) (sym (outcomes_push notes n.note));
    }

    -- the notes stand over every later view that has claimed no more
    pub notes_later : w.taken ≡ v.taken → w.outcomes ≡ v.outcomes → NotesAdd P before ended w notes
    notes_later e o = record {
      noted = h.noted;
      are_notes = h.are_notes;
      causes = All-weaker (NoteStands P v) (NoteStands P w) (note_grows v w g) h.noted h.causes;
      taken = e ∙ h.taken;
      outcomes = o ∙ h.outcomes;
    }

    -- a note that is not kept has claimed nothing
    pub notes_kept : (note : WorkNote) (code : Option Code) → NoteStands P w (record { note = note; code = code })
        → w.taken ≡ v.taken + claimed_by (record { note = note; code = code }) → w.outcomes ≡ v.outcomes ++ outcome_of note
        → NotesAdd P before ended w (notes ++ kept note)
    unfolding kept claims claimed_by outcome_of
    notes_kept (Published f level offset s skipped) code c e o = notes_push (record { note = Published f level offset s skipped; code = code }) c e o
    notes_kept (Older f level mine found s) code c e o = notes_push (record { note = Older f level mine found s; code = code }) c e o
    notes_kept (Full f level next need s) code c e o = notes_push (record { note = Full f level next need s; code = code }) c e o
    notes_kept (TooLarge f level len s) code c e o = notes_push (record { note = TooLarge f level len s; code = code }) c e o
    notes_kept NoneAsked code c e o =
        subst (NotesAdd P before ended w) (sym (append-nil notes)) (notes_later (let same = e in omega arith) (o ∙ append-nil v.outcomes))
    notes_kept (Taken f found) code c e o =
        subst (NotesAdd P before ended w) (sym (append-nil notes)) (notes_later (let same = e in omega arith) (o ∙ append-nil v.outcomes))
