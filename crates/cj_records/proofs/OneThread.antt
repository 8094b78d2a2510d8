-- One call and one work more: the clauses of `alone` are kept, from the clauses of the two calls alone.
use Rattle.std.proofs.Common.{◌≡◌, ◌∙◌, refl, sym, ap, subst, ℕ, ◌+◌, List, [], ◌∷◌, ◌++◌, map, append-nil, append_assoc}
use Rattle.std.specs.Prelude.{All}
use Rattle.std.proofs.lemmas.List.{map_push}
use Rattle.std.proofs.lemmas.List.Elements.{All-weaker}
use Rattle.cj_ir.specs.declared.language.Program.{Program}
use Rattle.cj_ir.specs.declared.script.Setup.{Setup}
use Rattle.cj_base.specs.Run.{Begun}
use Rattle.cj_calls.specs.declared.report.Look.{Look}
use Rattle.cj_calls.specs.declared.report.Report.{Report}
use Rattle.cj_machine.specs.CodeMaps.{no_codes, Grows}
use Rattle.cj_profile.specs.declared.view.Read.{Read}
use Rattle.cj_publish.specs.declared.view.View.{View}
use Rattle.cj_publish.specs.Reliable.{IsReliable}
use Rattle.cj_parts.specs.PartsLaws.{parts_push, learns_twice}
use Rattle.cj_parts.specs.Known.{known_codes}
use Rattle.cj_parts.specs.Looks.{IsAbove, IsNewest, IsNotOlder, looks_of}
use Rattle.cj_parts.specs.Calls.{IsV}
use Rattle.cj_parts.specs.Runs.{Ran}
use Rattle.cj_parts.proofs.Known.{codes_grow}
use Rattle.cj_ir.proofs.Zips.{AllZip-push}
use Rattle.cj_parts.proofs.Growth.{v_grows}
use Rattle.cj_parts.proofs.Rising.{looks_never_fall, trail_push}
use Rattle.cj_notes.specs.declared.notes.WorkNote.{WorkNote}
use Rattle.cj_notes.specs.Causes.{Noted, claimed_by}
use Rattle.cj_publish.specs.Views.{Outcomes}
use Rattle.cj_notes.specs.Standing.{NotesStand, outcome_of}
use Rattle.cj_notes.specs.Works.{WorkedOne}
use Rattle.cj_notes.proofs.Standing.{notes_push}
use Rattle.cj_records.specs.Notes.{published, published_by}
use Rattle.cj_records.specs.Setups.{AreWarm}
use Rattle.cj_records.specs.Items.{Item, OfCall, OfWork, IsPart, ReadsInParts, setup_items}
use Rattle.cj_records.specs.Loops.{WorkedAlone, RoundsShow}
use Rattle.cj_records.specs.Versions.{Round, round_items, LooksNewest}
use Rattle.cj_records.proofs.Growth.{in_parts_grows, part_grows, are_v_grow}
use Rattle.cj_records.proofs.Published.{published_append, all_known, above_published, alone_later, alone_looked, newest_found}

items_push : (rounds : List Round) (r : Round) → round_items (rounds ++ r ∷ []) ≡ (round_items rounds ++ OfCall r.call r.report ∷ []) ++ OfWork r.note ∷ []
unfolding round_items
items_push [] r = refl
items_push (x ∷ xs) r = ap (λ (y : List Item). OfCall x.call x.report ∷ OfWork x.note ∷ y) (items_push xs r)

newest_push : (floor : List Look) (rounds : List Round) (r : Round) → LooksNewest floor rounds →
    All (IsNewest (floor ++ published_by (map (λ (x : Round). x.note) rounds))) r.report.looks → LooksNewest floor (rounds ++ r ∷ [])
unfolding published_by
newest_push floor [] r h a = (subst (λ (l : List Look). All (IsNewest l) r.report.looks) (append-nil floor) a, tt)
newest_push floor (x ∷ xs) r h a = (
  h.0,
  newest_push (floor ++ published x.note) xs r h.1
      (subst (λ (l : List Look). All (IsNewest l) r.report.looks)
      (sym (append_assoc floor (published x.note) (published_by (map (λ (y : Round). y.note) xs)))) a),
)

module _ (P : Program) (setups : List Setup) where
  -- before the first call
  pub alone_none : (warm : List WorkNote) (v : View) (reads : List Read) → IsReliable v → AreWarm setups warm → NotesStand P v warm → v.lookups ≡ [] →
      ReadsInParts P no_codes (setup_items setups warm) reads → WorkedAlone v warm → RoundsShow P setups [] [] warm v reads
  unfolding looks_of round_items no_codes
  alone_none warm v reads ok are_warm notes none parts alone =
      let empty : Grows no_codes (known_codes v) = λ f o c e. absurd cc in
      record {
        alone = alone;
        shows = record {
          warm = warm;
          rounds = [];
          are_calls = refl;
          are_reports = refl;
          are_notes = sym (append-nil warm);
          are_warm = are_warm;
          notes = notes;
          in_time = alone.in_time;
          newest = tt;
          lookups = none;
          rises = looks_never_fall v [] ok none;
          in_parts = subst (λ (is : List Item). ReadsInParts P (known_codes v) is reads) (sym (append-nil (setup_items setups warm)))
              (in_parts_grows P no_codes (known_codes v) empty (setup_items setups warm) reads parts);
          versions = tt;
          knows = all_known P v ok notes.noted notes.causes;
        };
      }

  -- a call and its work more
  pub alone_push : (calls : List Begun) (reports : List Report) (work : List WorkNote) (a b c : View) (first second third : List Read) (call : Begun)
      (r : Report) (note : WorkNote)
      → RoundsShow P setups calls reports work a first
      → Ran P call r a b first second
      → WorkedOne P note b c second third
      → IsReliable c
      → RoundsShow P setups (calls ++ call ∷ []) (reports ++ r ∷ []) (work ++ note ∷ []) c third
  alone_push calls reports work a b c first second third call r note shown ran worked ok =
      let h = shown.shows in
      let round : Round = record { call = call; report = r; note = note } in
      let n : Noted = record { note = note; code = worked.code } in
      let w = worked.works in
      let g = learns_twice a b c ran.learns w.learns in
      let before = codes_grow a c g ok in
      let since = codes_grow b c w.learns ok in
      let items = setup_items setups h.warm ++ round_items h.rounds in
      let lookups = trail_push a c reports r h.lookups (w.lookups ∙ ran.trail) in
      let part = part_grows P (known_codes b) (known_codes c) since (OfCall call r) ran.reads.0 ran.reads.1 in
      let one = parts_push (IsPart P (known_codes c)) items (OfCall call r) first ran.reads.0
      (in_parts_grows P (known_codes a) (known_codes c) before items first h.in_parts) part in
      let two = parts_push (IsPart P (known_codes c)) (items ++ OfCall call r ∷ []) (OfWork note) (first ++ ran.reads.0) worked.reads.0 one worked.reads.1 in
      let its : (items ++ OfCall call r ∷ []) ++ OfWork note ∷ [] ≡ setup_items setups h.warm ++ round_items (h.rounds ++ round ∷ []) =
      append_assoc items (OfCall call r ∷ []) (OfWork note ∷ [])
      ∙ append_assoc (setup_items setups h.warm) (round_items h.rounds) (OfCall call r ∷ OfWork note ∷ [])
      ∙ ap (λ (x : List Item). setup_items setups h.warm ++ x)
      (sym (items_push h.rounds round ∙ append_assoc (round_items h.rounds) (OfCall call r ∷ []) (OfWork note ∷ []))) in
      let all : (first ++ ran.reads.0) ++ worked.reads.0 ≡ third = ap (λ (x : List Read). x ++ worked.reads.0) (sym ran.reads.2) ∙ sym worked.reads.2 in
      let seen : All (IsAbove (published_by work)) r.looks = All-weaker (IsNotOlder a) (IsAbove (published_by work))
      (λ (look : Look) (o : IsNotOlder a look). above_published P a look o work h.notes) r.looks ran.floor in
      let finds = ran.alone shown.alone.sole in
      let newest : All (IsNewest (published_by work)) r.looks = newest_found a work r.looks shown.alone.seen seen finds.found in
      let alone : WorkedAlone c (work ++ note ∷ []) = alone_later b c work note (alone_looked a b work r.looks shown.alone finds) w.alone in
      let noted = notes_push P 0 [] a c work g h.notes n w.cause (w.taken ∙ ap (λ (t : ℕ). t + claimed_by n) ran.taken)
      (w.outcomes ∙ ap (λ (os : Outcomes). os ++ outcome_of note) ran.outcomes) in
      record {
        alone = alone;
        shows = record {
          warm = h.warm;
          rounds = h.rounds ++ round ∷ [];
          are_calls = map_push (λ (x : Round). x.call) h.rounds round ∙ ap (λ (l : List Begun). l ++ call ∷ []) h.are_calls;
          are_reports = map_push (λ (x : Round). x.report) h.rounds round ∙ ap (λ (l : List Report). l ++ r ∷ []) h.are_reports;
          are_notes = ap (λ (l : List WorkNote). l ++ note ∷ []) h.are_notes ∙ append_assoc h.warm (map (λ (x : Round). x.note) h.rounds) (note ∷ [])
              ∙ ap (λ (l : List WorkNote). h.warm ++ l) (sym (map_push (λ (x : Round). x.note) h.rounds round));
          are_warm = h.are_warm;
          notes = noted;
          in_time = alone.in_time;
          newest = newest_push (published_by h.warm) h.rounds round h.newest
              (subst (λ (l : List Look). All (IsNewest l) r.looks)
              (ap published_by h.are_notes ∙ published_append h.warm (map (λ (x : Round). x.note) h.rounds)) newest);
          lookups = lookups;
          rises = looks_never_fall c (looks_of (reports ++ r ∷ [])) ok lookups;
          in_parts = subst (λ (is : List Item). ReadsInParts P (known_codes c) is third) its
              (subst (λ (l : List Read). ReadsInParts P (known_codes c) ((items ++ OfCall call r ∷ []) ++ OfWork note ∷ []) l) all two);
          versions = AllZip-push (IsV P (known_codes c)) calls reports call r (are_v_grow P (known_codes a) (known_codes c) before calls reports h.versions)
              (v_grows P (known_codes b) (known_codes c) since call r ran.reads.1.run);
          knows = all_known P c ok noted.noted noted.causes;
        };
      }
