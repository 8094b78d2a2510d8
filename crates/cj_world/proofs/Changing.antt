-- How the code's world changes.
use Rattle.std.proofs.Common.{◌≡◌, ◌∙◌, refl, sym, ap, subst, arith, ℕ, ◌+◌, ◌<◌, ◌≤◌, true, false, List, [], ◌∷◌, ◌++◌, map, length, drop, Option, Some, None}
use Rattle.std.proofs.Common.{add-one, if◌then◌else◌}
use Rattle.std.specs.Prelude.{All, nat_lt, slice_get, slice_set}
use Rattle.std.specs.Option.{option_map}
use Rattle.std.proofs.lemmas.Bool.Decides.{nat_tests}
use Rattle.std.proofs.lemmas.Option.{slice_get-map}
use Rattle.std.proofs.lemmas.List.{map-append, map-set, drop_at}
use Rattle.std.proofs.lemmas.List.Elements.{All-weaker, All-push}
use Rattle.cj_ir.specs.declared.language.Program.{Program}
use Rattle.cj_base.specs.declared.machine.End.{End}
use Rattle.cj_base.specs.Run.{Begun, begun}
use Rattle.cj_draft.specs.Bodies.{Body}
use Rattle.cj_draft.specs.declared.code.Code.{Code}
use Rattle.cj_draft.specs.declared.passes.Skipped.{Skipped}
use Rattle.cj_spelling.specs.Counting.{capped}
use Rattle.cj_calls.specs.declared.report.Look.{Look}
use Rattle.cj_calls.specs.declared.report.Report.{Report}
use Rattle.cj_machine.specs.Versions.{State, Codes}
use Rattle.cj_machine.specs.VersionRuns.{version_report}
use Rattle.cj_machine.specs.CodeMaps.{Grows}
use Rattle.cj_engine.specs.Watching.{Gains}
use Rattle.cj_machine.specs.CallRuns.{IsRun}
use Rattle.cj_world.specs.declared.cache.Cache.{Cache}
use Rattle.cj_world.specs.declared.played.Compiled.{Compiled}
use Rattle.cj_world.specs.declared.played.Compiled.TheVariants.{Published, TooLarge, Full}
use Rattle.cj_world.specs.declared.runs.Run as code
use Rattle.cj_world.specs.declared.world.World as whole
use Rattle.cj_world.specs.Worlds.{Made, Run, World, codes_in, begun_run, turns, begins, became, moved, steps, limit_of, finishes, finished, words_in, claimed}
use Rattle.cj_world.specs.Worlds.{published, compiles}
use Rattle.cj_world.specs.Caches.{made_of, made_in, IsReady, Stays}
use Rattle.cj_world.specs.Running.{run_of, world_of, IsAt, Fits, Orderly}
use Rattle.cj_world.proofs.Finding.{codes_grow}
use Rattle.cj_world.proofs.Steps.{fits_after}

pub same_world : (w v : World) → w.next ≡ v.next → w.current ≡ v.current → w.made ≡ v.made → w.runs ≡ v.runs → w.trail ≡ v.trail → w.compiled ≡ v.compiled →
    w.skips ≡ v.skips → w ≡ v
same_world w v a b c d e f g =
    λ i. record { next = a i; current = b i; made = c i; runs = d i; trail = e i; compiled = f i; skips = g i }

same_made : (cache after : Cache) → Stays cache after → made_in after ≡ made_in cache
unfolding made_in
same_made cache after stays = ap (λ (es : List (ℕ × Body)). map made_of es) stays.versions

pub orderly_after : (w v : whole.World) → Stays w.cache v.cache → IsReady v.cache → v.next ≡ w.next → Orderly w →
    All (Fits w.cache.checked.now (codes_in (made_in w.cache))) v.runs.items → Orderly v
orderly_after w v stays ready next o fit = record {
  ready = ready;
  few = subst (λ (P : Program). length P.functions ≤ 64) (sym stays.checked) o.few;
  before =
      subst (λ (n : ℕ). All (λ made. made.offset < n) (made_in v.cache)) (sym next)
      (subst (λ (ms : List Made). All (λ made. made.offset < w.next) ms) (sym (same_made w.cache v.cache stays)) o.before);
  fit = All-weaker (Fits w.cache.checked.now (codes_in (made_in w.cache))) (Fits v.cache.checked.now (codes_in (made_in v.cache)))
      (λ run. fits_after w.cache v.cache run stays) v.runs.items fit;
}

-- ---- a run begins

pub begun_world : (P : Program) (call : Begun) (w v : whole.World) (run : code.Run) → Stays w.cache v.cache → v.next ≡ w.next → v.compiled ≡ w.compiled →
    v.skips ≡ w.skips → v.runs.items ≡ w.runs.items ++ run ∷ [] → v.cache.trail ≡ w.cache.trail ++ run.engine.looks →
    run_of run ≡ begun_run P (codes_in (made_in w.cache)) w.cache.current call → world_of v ≡ begins P call (world_of w)
unfolding world_of begins run_of
begun_world P call w v run stays next compiled skips runs trail made =
    same_world (world_of v) (begins P call (world_of w)) next stays.current (same_made w.cache v.cache stays)
    (ap (λ (rs : List code.Run). map run_of rs) runs ∙ map-append run_of w.runs.items (run ∷ []) ∙ ap (λ (r : Run). map run_of w.runs.items ++ r ∷ []) made)
    (trail ∙ ap (λ (r : Run). w.cache.trail ++ r.looks) made)
    compiled skips

-- ---- a run makes turns

steps_is : (P : Program) (k n : ℕ) (w : World) (run : Run) → slice_get w.runs k ≡ Some run →
    steps P k n w ≡ became w k run (turns P (codes_in w.made) w.current n run)
unfolding steps moved
steps_is P k n w run at = ap (λ found. moved P k n w found) at

pub gone_world : (P : Program) (place count : ℕ) (w v : whole.World) (was now : code.Run) → Stays w.cache v.cache → v.next ≡ w.next → v.compiled ≡ w.compiled →
    v.skips ≡ w.skips → slice_get w.runs.items place ≡ Some was → v.runs.items ≡ slice_set w.runs.items place now →
    Gains was.engine.looks now.engine.looks w.cache.trail v.cache.trail →
    run_of now ≡ turns P (codes_in (made_in w.cache)) w.cache.current count (run_of was) → world_of v ≡ steps P place count (world_of w)
unfolding world_of became run_of
gone_world P place count w v was now stays next compiled skips at runs gains made =
    let after = turns P (codes_in (made_in w.cache)) w.cache.current count (run_of was) in
    let found : slice_get (map run_of w.runs.items) place ≡ Some (run_of was) = slice_get-map run_of w.runs.items place
    ∙ ap (λ (r : Option code.Run). option_map run_of r) at in
    let new : drop (length was.engine.looks) after.looks ≡ gains.more =
    ap (λ (r : Run). drop (length was.engine.looks) r.looks) (sym made)
    ∙ ap (λ (ls : List Look). drop (length was.engine.looks) ls) gains.looks_more
    ∙ drop_at was.engine.looks gains.more (length was.engine.looks) refl in
    same_world (world_of v) (became (world_of w) place (run_of was) after) next stays.current (same_made w.cache v.cache stays)
    (ap (λ (rs : List code.Run). map run_of rs) runs ∙ map-set run_of w.runs.items place now
    ∙ ap (λ (r : Run). slice_set (map run_of w.runs.items) place r) made)
    (gains.trail_more ∙ ap (λ (ls : List Look). w.cache.trail ++ ls) (sym new))
    compiled skips
    ∙ sym (steps_is P place count (world_of w) (run_of was) found)

-- one run more goes on to its end
pub finished_more : (P : Program) (k : ℕ) (first : World) (w v : whole.World) (run : code.Run) → world_of w ≡ finished P k first →
    slice_get w.runs.items k ≡ Some run → world_of v ≡ steps P k run.call.now.limit (world_of w) → world_of v ≡ finished P (k + 1) first
unfolding finished finishes limit_of run_of begun world_of
finished_more P k first w v run before at made =
    let found : slice_get (map run_of w.runs.items) k ≡ Some (run_of run) = slice_get-map run_of w.runs.items k
    ∙ ap (λ (r : Option code.Run). option_map run_of r) at in
    let limit : limit_of (slice_get (map run_of w.runs.items) k) ≡ run.call.now.limit = ap limit_of found in
    rw add-one (made ∙ ap (λ (n : ℕ). steps P k n (world_of w)) (sym limit) ∙ ap (finishes P k) before)

-- ---- a code is made

pub claimed_large : (words next len : ℕ) → 65536 < len → TooLarge (capped len) ≡ claimed words next len
unfolding claimed
claimed_large words next len more =
    let large : nat_lt 65536 len ≡ true = grind (arith, nat_tests) in
    sym (ap (λ b. if b then TooLarge (capped len) else if nat_lt words (next + len) then Full next len else Published next) large)

pub claimed_full : (words next len : ℕ) → len ≤ 65536 → words < next + len → Full next len ≡ claimed words next len
unfolding claimed
claimed_full words next len few more =
    let large : nat_lt 65536 len ≡ false = grind (arith, nat_tests) in
    let full : nat_lt words (next + len) ≡ true = grind (arith, nat_tests) in
    sym (
    ap (λ b. if b then TooLarge (capped len) else if nat_lt words (next + len) then Full next len else Published next) large
    ∙ ap (λ b. if b then Full next len else Published next) full)

pub claimed_room : (words next len : ℕ) → len ≤ 65536 → next + len ≤ words → Published next ≡ claimed words next len
unfolding claimed
claimed_room words next len few fits =
    let large : nat_lt 65536 len ≡ false = grind (arith, nat_tests) in
    let full : nat_lt words (next + len) ≡ false = grind (arith, nat_tests) in
    sym (
    ap (λ b. if b then TooLarge (capped len) else if nat_lt words (next + len) then Full next len else Published next) large
    ∙ ap (λ b. if b then Full next len else Published next) full)

-- a spelling has words
pub some_words : (code : Code) → 0 < words_in code
unfolding words_in
some_words code = omega arith

pub published_world : (code : Code) (w v : whole.World) → v.next ≡ w.next + words_in code →
    v.cache.current ≡ slice_set w.cache.current code.function.0 w.next → made_in v.cache ≡ made_in w.cache ++ record { offset = w.next; code = code } ∷ [] →
    v.runs ≡ w.runs → v.cache.trail ≡ w.cache.trail → v.compiled ≡ w.compiled → v.skips ≡ w.skips → world_of v ≡ published code (Published w.next) (world_of w)
unfolding world_of published
published_world code w v next current made runs trail compiled skips =
    same_world (world_of v) (published code (Published w.next) (world_of w)) next current made (ap (λ rs. map run_of rs.items) runs) trail compiled skips

-- the laws of runs over more code
abbrev pub RunsKept : Type 0
RunsKept =
    (P : Program) (codes later : Codes) (looks : List Look) (call : Begun) (s : State) →
    IsRun P codes looks call s → Grows codes later → IsRun P later looks call s

abbrev pub ReportsKept : Type 0
ReportsKept =
    (P : Program) (codes later : Codes) (looks : List Look) (call : Begun) (r : Report) →
    version_report P codes looks call ≡ Some r → Grows codes later → version_report P later looks call ≡ Some r

module _ (runs_kept : RunsKept) (reports_kept : ReportsKept) where
  at_later : (P : Program) (codes later : Codes) (looks : List Look) (call : Begun) (o : Option End) (s : State) → Grows codes later →
      IsAt P codes looks call o s → IsAt P later looks call o s
  at_later P codes later looks call None s grows is = runs_kept P codes later looks call s is grows
  at_later P codes later looks call (Some end) s grows is = reports_kept P codes later looks call _ is grows

  fits_later : (P : Program) (codes later : Codes) (run : code.Run) → Grows codes later → Fits P codes run → Fits P later run
  fits_later P codes later run grows fits = record {
    program = fits.program;
    takes = fits.takes;
    running = fits.running;
    used = fits.used;
    at = at_later P codes later run.engine.looks (begun run.call.now) run.end run.engine.state grows fits.at;
  }

  pub published_orderly : (code : Code) (w v : whole.World) → IsReady v.cache → v.cache.checked ≡ w.cache.checked → v.next ≡ w.next + words_in code →
      made_in v.cache ≡ made_in w.cache ++ record { offset = w.next; code = code } ∷ [] → v.runs ≡ w.runs → Orderly w → Orderly v
  published_orderly code w v ready checked next made runs o =
      let P = w.cache.checked.now in
      let some = some_words code in
      let later : List Made = made_in w.cache ++ record { offset = w.next; code = code } ∷ [] in
      let low : All (λ m. m.offset < v.next) (made_in w.cache) = All-weaker (λ (m : Made). m.offset < w.next) (λ m. m.offset < v.next) (λ m h. omega arith)
      (made_in w.cache) o.before in
      let fit : All (Fits P (codes_in later)) w.runs.items = All-weaker (Fits P (codes_in (made_in w.cache))) (Fits P (codes_in later))
      (λ run. fits_later P (codes_in (made_in w.cache)) (codes_in later) run (codes_grow w.next code (made_in w.cache))) w.runs.items o.fit in
      record {
        ready = ready;
        few = subst (λ c. length c.now.functions ≤ 64) (sym checked) o.few;
        before = subst (λ (ms : List Made). All (λ m. m.offset < v.next) ms) (sym made)
            (All-push (λ (m : Made). m.offset < v.next) (made_in w.cache) (record { offset = w.next; code = code }) low (omega arith));
        fit =
            subst (λ c. All (Fits c.now (codes_in (made_in v.cache))) v.runs.items) (sym checked)
            (subst (λ (ms : List Made). All (Fits P (codes_in ms)) v.runs.items) (sym made)
            (subst (λ rs. All (Fits P (codes_in later)) rs.items) (sym runs) fit));
      }

-- what is told of a compilation
pub compiled_world : (words : ℕ) (code : Code) (skips : List (ℕ × Skipped)) (answer : Compiled) (w p v : World) →
    answer ≡ claimed words w.next (words_in code) → p ≡ published code answer w →
    v ≡ record p { compiled = p.compiled ++ answer ∷ []; skips = p.skips ++ skips ∷ [] } → v ≡ compiles words code skips w
unfolding compiles
compiled_world words code skips answer w p v claims made told =
    told
    ∙ ap (λ (q : World). record q { compiled = q.compiled ++ answer ∷ []; skips = q.skips ++ skips ∷ [] }) made
    ∙ ap (λ (a : Compiled). let q = published code a w in record q { compiled = q.compiled ++ a ∷ []; skips = q.skips ++ skips ∷ [] }) claims
