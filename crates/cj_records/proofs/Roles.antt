-- Setups and a caller's calls, one by one, and a worker's turns.
use Rattle.std.proofs.Common.{◌≡◌, ◌∙◌, refl, sym, ap, subst, ℕ, List, [], ◌∷◌, ◌++◌, map, append-nil, append_assoc}
use Rattle.std.specs.Prelude.{All}
use Rattle.std.specs.List.{AllZip}
use Rattle.std.proofs.lemmas.List.{map_push}
use Rattle.std.proofs.lemmas.List.Elements.{All-nil, All-append, All-push, All-weaker}
use Rattle.cj_ir.specs.declared.language.FunId.{FunId}
use Rattle.cj_ir.specs.declared.language.Program.{Program}
use Rattle.cj_ir.specs.declared.script.Setup.{Setup}
use Rattle.cj_ir.specs.declared.script.Setup.TheVariants.{Guess, Cold, Warm}
use Rattle.cj_base.specs.Run.{Begun}
use Rattle.cj_calls.specs.declared.report.Look.{Look}
use Rattle.cj_calls.specs.declared.report.Report.{Report}
use Rattle.cj_machine.specs.CodeMaps.{no_codes}
use Rattle.cj_profile.specs.declared.view.Read.{Read}
use Rattle.cj_profile.specs.declared.layout.Word.TheVariants as word
use Rattle.cj_profile.specs.Reads.{load, add_one}
use Rattle.cj_publish.specs.declared.view.View.{View}
use Rattle.cj_publish.specs.Reliable.{IsReliable}
use Rattle.cj_publish.specs.Fetched.{main_of}
use Rattle.cj_parts.specs.PartsLaws.{parts_push}
use Rattle.cj_parts.specs.Known.{known_codes}
use Rattle.cj_parts.specs.Looks.{looks_of, IsAbove}
use Rattle.cj_parts.specs.Calls.{Stands}
use Rattle.cj_parts.specs.Runs.{Ran}
use Rattle.cj_parts.proofs.Known.{codes_grow}
use Rattle.cj_ir.proofs.Zips.{AllZip-push}
use Rattle.cj_parts.proofs.Calling.{ran_above}
use Rattle.cj_parts.proofs.Rising.{looks_never_fall, looks_push, trail_push}
use Rattle.cj_notes.specs.declared.notes.WorkNote.{WorkNote}
use Rattle.cj_notes.specs.Causes.{Noted}
use Rattle.cj_notes.specs.Works.{WarmLine, IsWarmOf, Warmed}
use Rattle.cj_notes.specs.Waiting.{TurnsDone}
use Rattle.cj_notes.proofs.Standing.{notes_none, notes_push}
use Rattle.cj_records.specs.Setups.{SetupPart, warm_lines}
use Rattle.cj_records.specs.Items.{Item, OfSetup, OfWarm, OfCall, IsPart, ReadsInParts}
use Rattle.cj_records.specs.Records.{Caller, Worker, Answered, call_items, CallerRecord, WorkerRecord}
use Rattle.cj_records.specs.Loops.{WorkedAlone, Prepared, IsSeen, CallsMade}
use Rattle.cj_records.proofs.Growth.{in_parts_grows}
use Rattle.cj_records.proofs.Published.{alone_later}

-- ---- setups

lines_append : (xs ys : List Setup) → warm_lines (xs ++ ys) ≡ warm_lines xs ++ warm_lines ys
unfolding warm_lines
lines_append [] ys = refl
lines_append (Guess f param value ∷ xs) ys = lines_append xs ys
lines_append (Cold f label edge ∷ xs) ys = lines_append xs ys
lines_append (Warm f level ∷ xs) ys = ap (λ (r : List WarmLine). record { function = f; level = level } ∷ r) (lines_append xs ys)

module _ (P : Program) where
  abbrev pub HintsSet : List Setup → List Read → Type 0
  HintsSet setups reads = ReadsInParts P no_codes (map OfSetup setups) reads

  -- one hint more
  pub hint_push : (setups : List Setup) (s : Setup) (reads part : List Read) → HintsSet setups reads → SetupPart s part
      → HintsSet (setups ++ s ∷ []) (reads ++ part)
  hint_push setups s reads part h p =
      subst (λ (is : List Item). ReadsInParts P no_codes is (reads ++ part)) (sym (map_push OfSetup setups s))
      (parts_push (IsPart P no_codes) (map OfSetup setups) (OfSetup s) reads part h p)

  -- no `warm` line yet
  pub prepared_none : (setups : List Setup) (v : View) (reads : List Read) → v.taken ≡ 0 → v.outcomes ≡ [] → v.lookups ≡ [] → WorkedAlone v []
      → HintsSet setups reads → Prepared P setups [] [] v reads
  unfolding warm_lines
  prepared_none setups v reads none empty looks alone h = record {
    acted = record {
      are_warm = tt;
      notes = notes_none P 0 [] v none empty;
      lookups = looks;
      in_parts = subst (λ (is : List Item). ReadsInParts P no_codes is reads) (sym (append-nil (map OfSetup setups))) h;
    };
    alone = alone;
  }

  module _ (setups begun : List Setup) (warm : List WorkNote) (v : View) (old : List Read) (h : Prepared P setups begun warm v old) where
    -- one `warm` line more
    pub warm_push : (f : FunId) (level : ℕ) (note : WorkNote) (w : View) (new : List Read)
        → Warmed P (record { function = f; level = level }) note v w old new → Prepared P setups (begun ++ Warm f level ∷ []) (warm ++ note ∷ []) w new
    unfolding warm_lines
    warm_push f level note w new made =
        let n : Noted = record { note = note; code = made.code } in
        let line : WarmLine = record { function = f; level = level } in
        let items = map OfSetup setups ++ map OfWarm warm in
        let acted = h.acted in
        let parts = parts_push (IsPart P no_codes) items (OfWarm note) old made.reads.0 acted.in_parts made.reads.1 in
        let same : items ++ OfWarm note ∷ [] ≡ map OfSetup setups ++ map OfWarm (warm ++ note ∷ []) =
        append_assoc (map OfSetup setups) (map OfWarm warm) (OfWarm note ∷ [])
        ∙ ap (λ (l : List Item). map OfSetup setups ++ l) (sym (map_push OfWarm warm note)) in
        record {
          acted = record {
            are_warm =
                subst (λ (ls : List WarmLine). AllZip IsWarmOf ls (warm ++ note ∷ [])) (sym (lines_append begun (Warm f level ∷ [])))
                (AllZip-push IsWarmOf (warm_lines begun) warm line note acted.are_warm made.is_line);
            notes = notes_push P 0 [] v w warm made.works.learns acted.notes n made.works.cause made.works.taken made.works.outcomes;
            lookups = made.works.lookups ∙ acted.lookups;
            in_parts =
                subst (λ (is : List Item). ReadsInParts P no_codes is new) same
                (subst (λ (l : List Read). ReadsInParts P no_codes (items ++ OfWarm note ∷ []) l) (sym made.reads.2) parts);
          };
          alone = alone_later v w warm note h.alone made.works.alone;
        }

    -- a hint needs no work
    pub warm_skip : (s : Setup) → warm_lines (s ∷ []) ≡ [] → Prepared P setups (begun ++ s ∷ []) warm v old
    warm_skip s none = record {
      acted = record {
        are_warm =
            subst (λ (ls : List WarmLine). AllZip IsWarmOf ls warm)
            (sym (lines_append begun (s ∷ []) ∙ ap (λ (l : List WarmLine). warm_lines begun ++ l) none ∙ append-nil (warm_lines begun))) h.acted.are_warm;
        notes = h.acted.notes;
        lookups = h.acted.lookups;
        in_parts = h.acted.in_parts;
      };
      alone = h.alone;
    }

-- ---- a caller

module _ (P : Program) (floor : List Look) where
  pub calls_none : (v : View) (reads : List Read) → All (IsSeen v) floor → v.lookups ≡ [] → reads ≡ [] → CallsMade P floor [] [] v reads
  unfolding looks_of call_items
  calls_none v reads seen none empty = record {
    seen = seen;
    answered = [];
    are_calls = refl;
    are_reports = refl;
    headline = All-nil (λ (a : Answered). Stands P a.call a.report);
    lookups = none;
    above = All-nil (IsAbove floor);
    in_parts = empty;
  }

  pub calls_push : (calls : List Begun) (reports : List Report) (call : Begun) (r : Report) (v w : View) (old new : List Read)
      → CallsMade P floor calls reports v old → Ran P call r v w old new → IsReliable w → CallsMade P floor (calls ++ call ∷ []) (reports ++ r ∷ []) w new
  unfolding call_items
  calls_push calls reports call r v w old new h ran ok =
      let a : Answered = record { call = call; report = r } in
      let grow = codes_grow v w ran.learns ok in
      let items = call_items h.answered in
      let before = in_parts_grows P (known_codes v) (known_codes w) grow items old h.in_parts in
      let parts = parts_push (IsPart P (known_codes w)) items (OfCall call r) old ran.reads.0 before ran.reads.1 in
      let more : All (IsAbove floor) r.looks = ran_above P call r v w old new floor ran h.seen in
      record {
        seen = All-weaker (IsSeen v) (IsSeen w) (λ (x : Look) (at : IsSeen v x). ran.learns.seen (main_of x.function) x.offset at) floor h.seen;
        answered = h.answered ++ a ∷ [];
        are_calls = map_push (λ (x : Answered). x.call) h.answered a ∙ ap (λ (l : List Begun). l ++ call ∷ []) h.are_calls;
        are_reports = map_push (λ (x : Answered). x.report) h.answered a ∙ ap (λ (l : List Report). l ++ r ∷ []) h.are_reports;
        headline = All-push (λ (x : Answered). Stands P x.call x.report) h.answered a h.headline ran.stands;
        lookups = trail_push v w reports r h.lookups ran.trail;
        above = subst (All (IsAbove floor)) (sym (looks_push reports r)) (All-append (IsAbove floor) (looks_of reports) r.looks h.above more);
        in_parts = subst (λ (is : List Item). ReadsInParts P (known_codes w) is new) (sym (map_push (λ (x : Answered). OfCall x.call x.report) h.answered a))
            (subst (λ (l : List Read). ReadsInParts P (known_codes w) (items ++ OfCall call r ∷ []) l) (sym ran.reads.2) parts);
      }

  -- the last entry tells that the caller has finished
  pub calls_done : (calls : List Begun) (reports : List Report) (v : View) (old new : List Read) (found : ℕ)
      → CallsMade P floor calls reports v old → IsReliable v → new ≡ old ++ add_one word.Finished found ∷ []
      → CallerRecord P (known_codes v) calls floor (record { role = Caller calls floor; reports = reports; work = []; looks = looks_of reports; reads = new })
  calls_done calls reports v old new found h ok e = record {
    no_work = refl;
    answered = h.answered;
    are_calls = h.are_calls;
    are_reports = h.are_reports;
    headline = h.headline;
    looks = refl;
    rises = looks_never_fall v (looks_of reports) ok h.lookups;
    above = h.above;
    made = old;
    in_parts = h.in_parts;
    found = found;
    reads = e;
  }

-- ---- a worker

-- a worker's turns are its record, where its seats had gained nothing
pub turns_record : (P : Program) (callers : ℕ) (work : List WorkNote) (v w : View) (new : List Read)
    → TurnsDone P callers work v w [] new → WorkerRecord P callers (record { role = Worker callers; reports = []; work = work; looks = []; reads = new })
turns_record P callers work v w new h = record {
  no_reports = refl;
  no_looks = refl;
  turns = h.turns.turns;
  each = h.turns.each;
  notes = h.turns.are_kept;
  last = h.last;
  finished = h.finished;
  reads = h.reads ∙ ap (λ (l : List Read). l ++ load word.Finished h.last ∷ []) h.turns.reads;
}
