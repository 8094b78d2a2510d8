-- What later looks find of what notes published.
use Rattle.std.proofs.Common.{◌≡◌, ◌⊎◌, ◌∙◌, refl, sym, ap, subst, inl, inr, ⊎_elim, true, ℕ, ◌≤◌, List, [], ◌∷◌, ◌++◌, map, append_assoc, Option, Some, None}
use Rattle.std.specs.Prelude.{All, Contains}
use Rattle.std.specs.Option.{IsSomeAnd}
use Rattle.std.proofs.lemmas.List.Elements.{All-nil, All-cons, All-head, All-tail, All-append, All-push, All-weaker}
use Rattle.std.proofs.lemmas.List.Elements.{Contains-append_left, Contains-append_right}
use Rattle.cj_ir.specs.declared.language.Program.{Program}
use Rattle.cj_draft.specs.declared.code.Code.{Code}
use Rattle.cj_calls.specs.declared.report.Look.{Look}
use Rattle.cj_publish.specs.declared.view.Region.{Region}
use Rattle.cj_publish.specs.declared.view.View.{View}
use Rattle.cj_publish.specs.Seen.{IsAmong, SeesNoMore}
use Rattle.cj_publish.specs.Reliable.{IsReliable}
use Rattle.cj_publish.specs.Fetched.{main_of, HasVersion}
use Rattle.cj_parts.specs.Known.{known_codes}
use Rattle.cj_parts.specs.Looks.{IsAbove, IsNewest, IsNotOlder, IsSeen, FoundIn}
use Rattle.cj_parts.specs.Runs.{FindsNothingNew}
use Rattle.cj_codec.proofs.PointFormats.{all_both}
use Rattle.cj_ir.proofs.Members.{contains-head}
use Rattle.cj_parts.proofs.Known.{code_is}
use Rattle.cj_notes.specs.declared.notes.WorkNote.{WorkNote}
use Rattle.cj_notes.specs.declared.notes.WorkNote.TheVariants.{Published, Older, Full, TooLarge, NoneAsked, Taken}
use Rattle.cj_notes.specs.Causes.{Noted}
use Rattle.cj_notes.specs.Standing.{IsShown, NoteStands, NotesStand}
use Rattle.cj_notes.specs.Works.{SeesItsOwn}
use Rattle.cj_records.specs.Notes.{published, published_by, IsInTime, IsKnown}
use Rattle.cj_records.specs.Loops.{SeesPublished, WorkedAlone}

pub published_append : (xs ys : List WorkNote) → published_by (xs ++ ys) ≡ published_by xs ++ published_by ys
unfolding published_by
published_append [] ys = refl
published_append (x ∷ xs) ys = ap (λ (r : List Look). published x ++ r) (published_append xs ys)
    ∙ sym (append_assoc (published x) (published_by xs) (published_by ys))

-- the look finds a version with that code
abbrev Finds : View → Option Code → Look → Type 0
Finds v code look = IsSomeAnd code (λ c. HasVersion v (main_of look.function) look.offset c)

-- where a shown note published, its version is found
found : (v : View) (n : WorkNote) (code : Option Code) → IsShown v n code → All (Finds v code) (published n)
unfolding published
found v (Published f level offset s skipped) code h = All-cons (Finds v code) (record { function = f; offset = offset }) [] h (All-nil (Finds v code))
found v (Older f level mine later s) code h = All-nil (Finds v code)
found v (Full f level next need s) code h = All-nil (Finds v code)
found v (TooLarge f level len s) code h = All-nil (Finds v code)
found v NoneAsked code h = All-nil (Finds v code)
found v (Taken f later) code h = All-nil (Finds v code)

-- ---- a reliable view's map has what a note published

known_at : (v : View) → IsReliable v → (code : Option Code) (look : Look) → Finds v code look → known_codes v look.function look.offset ≡ code
known_at v ok (Some c) look h = code_is v look.function look.offset c ok h
known_at v ok None look h = absurd h

pub all_known : (P : Program) (v : View) → IsReliable v → (ns : List Noted) → All (NoteStands P v) ns → All (IsKnown (known_codes v)) ns
all_known P v ok ns h = All-weaker (NoteStands P v) (IsKnown (known_codes v)) one ns h
  where
    one : (n : Noted) → NoteStands P v n → IsKnown (known_codes v) n
    one n c = All-weaker (Finds v n.code) (λ (look : Look). known_codes v look.function look.offset ≡ n.code) (known_at v ok n.code) (published n.note)
        (found v n.note n.code c.shown)

-- ---- a look that is no older than what was seen is no older than what was published

module _ (P : Program) (v : View) (look : Look) (old : IsNotOlder v look) where
  abbrev Low : Look → Type 0
  Low x = x.function ≡ look.function → x.offset ≤ look.offset

  low_at : (code : Option Code) (x : Look) → Finds v code x → Low x
  low_at (Some c) x h e = let at = h.1 in subst (λ (n : ℕ). n ≤ look.offset) at.3 (old at.0 at.1 (at.2 ∙ ap main_of e))
  low_at None x h e = absurd h

  above_noted : (ns : List Noted) → All (NoteStands P v) ns → All Low (published_by (map (λ (n : Noted). n.note) ns))
  unfolding published_by
  above_noted [] h = All-nil Low
  above_noted (n ∷ ns) h =
      All-append Low (published n.note) (published_by (map (λ (m : Noted). m.note) ns))
      (All-weaker (Finds v n.code) Low (low_at n.code) (published n.note) (found v n.note n.code (All-head (NoteStands P v) n ns h).shown))
      (above_noted ns (All-tail (NoteStands P v) n ns h))

  pub above_published : (notes : List WorkNote) → NotesStand P v notes → IsAbove (published_by notes) look
  above_published notes h = subst (λ (l : List WorkNote). IsAbove (published_by l) look) h.are_notes (above_noted h.noted h.causes)

-- ---- what the only seat has seen is what its notes published

in_time_of : (v w : View) (n : WorkNote) → SeesItsOwn v w n → IsInTime n
in_time_of v w (Published f level offset s skipped) h = tt
in_time_of v w (Older f level mine later s) h = absurd h
in_time_of v w (Full f level next need s) h = tt
in_time_of v w (TooLarge f level len s) h = tt
in_time_of v w NoneAsked h = tt
in_time_of v w (Taken f later) h = tt

module _ (v w : View) (notes : List WorkNote) (h : SeesPublished v notes) where
  pub sees_no_more : SeesNoMore v w → SeesPublished w notes
  sees_no_more g look seen = h look (g (main_of look.function) look.offset seen)

  sees_own : (n : WorkNote) → SeesItsOwn v w n → (look : Look) → IsSeen w look → Contains (published_by notes) look ⊎ Contains (published n) look
  unfolding published
  sees_own (Published f level offset s skipped) g look seen =
      ⊎_elim (λ before. inl (h look before))
      (λ (new : (main_of look.function ≡ main_of f) × (look.offset ≡ offset)).
      let is : look ≡ record { function = f; offset = offset } = λ i. record { function = (new.0 i).function; offset = new.1 i } in
      inr (subst (λ (x : Look). Contains (record { function = f; offset = offset } ∷ []) x) (sym is)
      (contains-head (record { function = f; offset = offset }) [])))
      (g (main_of look.function) look.offset seen)
  sees_own (Older f level mine later s) g look seen = absurd g
  sees_own (Full f level next need s) g look seen = inl (sees_no_more g look seen)
  sees_own (TooLarge f level len s) g look seen = inl (sees_no_more g look seen)
  sees_own NoneAsked g look seen = inl (sees_no_more g look seen)
  sees_own (Taken f later) g look seen = inl (sees_no_more g look seen)

  -- a work more
  sees_more : (n : WorkNote) → SeesItsOwn v w n → SeesPublished w (notes ++ n ∷ [])
  unfolding published_by
  sees_more n g look seen =
      subst (λ (l : List Look). Contains l look) (sym (published_append notes (n ∷ [])))
      (⊎_elim (λ before. Contains-append_left (published_by notes) (published n ++ []) look before)
      (λ new. Contains-append_right (published_by notes) (published n ++ []) look (Contains-append_left (published n) [] look new))
      (sees_own n g look seen))

-- nothing was seen yet
pub alone_at_first : (v : View) → v.sole ≡ true → v.regions ≡ [] → WorkedAlone v []
alone_at_first v sole none = record {
  sole = sole;
  in_time = All-nil IsInTime;
  seen = λ look seen. absurd (subst (λ (rs : List Region). IsAmong rs (main_of look.function) look.offset → ⊥) (sym none) (λ x. x.1) seen);
}

pub alone_later : (v w : View) (notes : List WorkNote) (note : WorkNote) → WorkedAlone v notes
    → (v.sole ≡ true → (w.sole ≡ true) × SeesItsOwn v w note) → WorkedAlone w (notes ++ note ∷ [])
alone_later v w notes note h g =
    let k = g h.sole in
    record {
      sole = k.0;
      in_time = All-push IsInTime notes note h.in_time (in_time_of v w note k.1);
      seen = sees_more v w notes h.seen note k.1;
    }

-- ---- what a run finds at the only seat

pub alone_looked : (v w : View) (notes : List WorkNote) (looks : List Look) → WorkedAlone v notes → FindsNothingNew looks v w → WorkedAlone w notes
alone_looked v w notes looks h g = record { sole = g.sole; in_time = h.in_time; seen = sees_no_more v w notes h.seen g.seen }

pub newest_found : (v : View) (notes : List WorkNote) (looks : List Look) → SeesPublished v notes → All (IsAbove (published_by notes)) looks
    → All (FoundIn v) looks → All (IsNewest (published_by notes)) looks
newest_found v notes looks h above found =
    all_both (IsAbove (published_by notes)) (λ (look : Look). (look.offset ≡ 0) ⊎ Contains (published_by notes) look) looks above
    (All-weaker (FoundIn v) (λ (look : Look). (look.offset ≡ 0) ⊎ Contains (published_by notes) look) one looks found)
  where
    one : (look : Look) → FoundIn v look → (look.offset ≡ 0) ⊎ Contains (published_by notes) look
    one look (inl none) = inl none
    one look (inr seen) = inr (h look seen)
