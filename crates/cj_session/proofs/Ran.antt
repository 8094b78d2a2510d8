-- What a session's run says, in the form that records cite.
use Rattle.std.proofs.Common.{◌≡◌, ◌∙◌, refl, sym, ap, subst, List, [], ◌∷◌, ◌++◌, map, Some}
use Rattle.std.specs.Prelude.{All, IfOk, OnErr, Result, Ok, Err}
use Rattle.cj_ir.specs.declared.memory.NoMemory.{NoMemory}
use Rattle.cj_base.specs.Run.{Begun}
use Rattle.cj_calls.specs.declared.report.Look.{Look}
use Rattle.cj_calls.specs.declared.report.Report.{Report}
use Rattle.cj_machine.specs.VersionRuns.{version_report}
use Rattle.cj_machine.specs.Memories.{version_memory}
use Rattle.cj_engine.specs.declared.engine.Ran as engine
use Rattle.cj_machine.proofs.Memories.{memory_kept}
use Rattle.cj_machine.specs.Marks.{Mark, run_marks}
use Rattle.cj_machine.specs.CodeMaps.{Grows}
use Rattle.cj_engine.specs.Stopped.{Stopped}
use Rattle.cj_engine.proofs.Stopping.{stopped_later, stopped_once, stopped_by}
use Rattle.cj_session.specs.declared.session.Session.{Session}
use Rattle.cj_session.specs.Sessions.{codes_of, trail_of, reads_in, look_of, view_in, IsReady, Stays, Went}
use Rattle.cj_session.proofs.Whole.{known_grow}
use Rattle.cj_parts.specs.Parts.{InParts, MarkPart}
use Rattle.std.proofs.lemmas.List.{map-append, append_cancel_left}
use Rattle.cj_parts.specs.Known.{known_codes}
use Rattle.cj_parts.specs.Looks.{looked, IsNotOlder}
use Rattle.cj_parts.specs.Calls.{Stands}
use Rattle.cj_parts.specs.Runs.{FindsNothingNew, Ran, RanOut}
use Rattle.cj_parts.proofs.Growth.{marks_grow, v_grows}

looked_back : (looks : List Look) → map look_of (map looked looks) ≡ looks
looked_back [] = refl
looked_back (x ∷ looks) = ap (λ (l : List Look). x ∷ l) (looked_back looks)

-- the looks that the trail gained are those that the session went through
went_looks : (a b : Session) (marks : List Mark) (gained : List Look) → trail_of b ≡ trail_of a ++ gained → (w : Went a b marks) → w.looks ≡ gained
went_looks a b marks gained trail w =
    let more : trail_of b ≡ trail_of a ++ w.looks =
    ap (map look_of) w.trail ∙ map-append look_of (view_in a).lookups (map looked w.looks) ∙ ap (λ (l : List Look). trail_of a ++ l) (looked_back w.looks) in
    append_cancel_left (trail_of a) w.looks gained (sym more ∙ trail)

module _ (call : Begun) (a b : Session) where
  session_ran : (r : Report) → IsReady b → Stays a b → trail_of b ≡ trail_of a ++ r.looks
      → version_report a.checked.now (codes_of b) r.looks call ≡ Some r → Stands a.checked.now call r
      → Went a b (run_marks a.checked.now (codes_of b) r.looks call call.limit)
      → Ran a.checked.now call r (view_in a) (view_in b) (reads_in a) (reads_in b)
  session_ran r ready stays trail report stands w =
      let P = a.checked.now in
      let g : Grows (codes_of b) (known_codes (view_in b)) = known_grow b.checked.now (view_in b) b.versions.map.entries ready.known ready.code.reliable in
      let looks : w.looks ≡ r.looks = went_looks a b _ r.looks trail w in
      record {
        learns = w.learns;
        claim = stays.claim;
        taken = stays.taken;
        outcomes = stays.outcomes;
        joined = stays.joined;
        trail = w.trail ∙ ap (λ (l : List Look). (view_in a).lookups ++ map looked l) looks;
        floor = subst (All (IsNotOlder (view_in a))) looks w.floor;
        alone = λ sole. subst (λ (l : List Look). FindsNothingNew l (view_in a) (view_in b)) looks (w.alone sole);
        stands = stands;
        reads = (
          w.part,
          record {
            run = v_grows P (codes_of b) (known_codes (view_in b)) g call r report;
            reads = subst (λ (ms : List Mark). InParts MarkPart ms w.part)
                (sym (marks_grow P (codes_of b) (known_codes (view_in b)) g call r report)) w.in_parts;
          },
          w.reads,
        );
      }

  session_stopped : IsReady b → Stays a b → Stopped a.checked.now (Went a b) (codes_of b) (trail_of a) (trail_of b) call
      → RanOut a.checked.now call (view_in a) (view_in b) (reads_in a) (reads_in b)
  session_stopped ready stays stopped =
      let P = a.checked.now in
      let known = known_codes (view_in b) in
      let g : Grows (codes_of b) known = known_grow b.checked.now (view_in b) b.versions.map.entries ready.known ready.code.reliable in
      let later = stopped_later P (Went a b) (codes_of b) known (trail_of a) (trail_of b) call g stopped in
      let once = stopped_once P (Went a b) known (trail_of a) (trail_of b) call later in
      let w : Went a b once.marks = once.told in
      let looks : w.looks ≡ once.more = went_looks a b once.marks once.more once.gained w in
      record {
        learns = w.learns;
        claim = stays.claim;
        taken = stays.taken;
        outcomes = stays.outcomes;
        joined = stays.joined;
        looks = once.more;
        trail = w.trail ∙ ap (λ (l : List Look). (view_in a).lookups ++ map looked l) looks;
        floor = subst (All (IsNotOlder (view_in a))) looks w.floor;
        alone = λ sole. subst (λ (l : List Look). FindsNothingNew l (view_in a) (view_in b)) looks (w.alone sole);
        reads = (
          w.part,
          stopped_by P (λ ms. ms ≡ once.marks) (λ ms. InParts MarkPart ms w.part) known [] once.more call
              (λ ms e. subst (λ (xs : List Mark). InParts MarkPart xs w.part) (sym e) w.in_parts) once.rest,
          w.reads,
        );
      }

  -- what a run of the engine tells of its session, where memory ran out
  pub ran_out_if : {A : Type 0} (result : Result A NoMemory) → IsReady b → Stays a b
      → OnErr result (Stopped a.checked.now (Went a b) (codes_of b) (trail_of a) (trail_of b) call)
      → OnErr result (RanOut a.checked.now call (view_in a) (view_in b) (reads_in a) (reads_in b))
  ran_out_if (Ok x) ready stays stopped = tt
  ran_out_if (Err e) ready stays stopped = session_stopped ready stays stopped

  -- what a run of the engine tells of its session, where it has a report
  module _ {A : Type 0} (report : A → Report) where
    pub ran_if : (result : Result A NoMemory) → IsReady b → Stays a b
        → IfOk result (λ x. trail_of b ≡ trail_of a ++ (report x).looks)
        → IfOk result (λ x. version_report a.checked.now (codes_of b) (report x).looks call ≡ Some (report x))
        → IfOk result (λ x. Stands a.checked.now call (report x))
        → IfOk result (λ x. Went a b (run_marks a.checked.now (codes_of b) (report x).looks call call.limit))
        → IfOk result (λ x. Ran a.checked.now call (report x) (view_in a) (view_in b) (reads_in a) (reads_in b))
    ran_if (Ok x) ready stays trail told stands w = session_ran (report x) ready stays trail told stands w
    ran_if (Err e) ready stays trail told stands w = tt

  -- the memory that a run leaves is that of the run over all versions that the seat has read whole
  pub memory_if : (result : Result engine.Ran NoMemory) → IsReady b
      → IfOk result (λ made. version_memory a.checked.now (codes_of b) made.report.looks call ≡ Some made.memory)
      → IfOk result (λ made. version_memory a.checked.now (known_codes (view_in b)) made.report.looks call ≡ Some made.memory)
  memory_if (Ok made) ready told =
      memory_kept a.checked.now call (codes_of b) (known_codes (view_in b)) made.report.looks made.memory
      (known_grow b.checked.now (view_in b) b.versions.map.entries ready.known ready.code.reliable) told
  memory_if (Err e) ready told = tt
