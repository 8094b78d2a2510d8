-- The world of a play: the versions that were published, the runs that have begun, and what is done to them.
use Rattle.std.specs.Prelude.{ℕ, zero, suc, ◌+◌, List, [], ◌∷◌, ◌++◌, length, drop, replicate, Option, Some, None, ◌==◌, nat_lt, slice_get, slice_set}
use Rattle.std.specs.Prelude.{slice_index, if◌then◌else◌}
use Rattle.std.specs.Option.{option_and_then}
use Rattle.cj_ir.specs.declared.language.FunId.{FunId}
use Rattle.cj_ir.specs.declared.language.Program.{Program}
use Rattle.cj_base.specs.Run.{Begun}
use Rattle.cj_draft.specs.declared.code.Code.{Code}
use Rattle.cj_draft.specs.declared.passes.Skipped.{Skipped}
use Rattle.cj_spelling.specs.Counting.{capped}
use Rattle.cj_spelling.specs.Spelling.{spelling}
use Rattle.cj_calls.specs.declared.report.Look.{Look}
use Rattle.cj_machine.specs.Versions.{State, Codes, Progress, Continues, Finishes, Undefined, version_turn}
use Rattle.cj_machine.specs.VersionRuns.{version_start}
use Rattle.cj_machine.specs.Marks.{Mark, Entered, Branched, FailedIn, turn_marks, start_marks}
use Rattle.cj_world.specs.declared.played.Compiled.{Compiled}
use Rattle.cj_world.specs.declared.played.Compiled.TheVariants.{Published, TooLarge, Full}

-- ---- versions

-- a version that was published, by the place of its first word
pub record Made : Type 0 where
  pub offset : ℕ
  pub code : Code

-- the code at an offset
unfoldable pub code_at : List Made → ℕ → Option Code
code_at [] offset = None
code_at (made ∷ later) offset = if offset == made.offset then Some made.code else code_at later offset

-- the code, where the function is its own
unfoldable pub own_code : FunId → Code → Option Code
own_code f code = if code.function.0 == f.0 then Some code else None

-- the code that a function has at an offset
unfoldable pub codes_in : List Made → Codes
codes_in made f offset = option_and_then (own_code f) (code_at made offset)

-- the offset of a function's current version, 0 where it has none
abbrev pub offset_of : List ℕ → FunId → ℕ
offset_of current f = slice_index current f.0

-- ---- looks

-- a look at a function finds its current version
unfoldable pub look_at : List ℕ → FunId → Look
look_at current f = record { function = f; offset = offset_of current f }

-- the looks of those marks: whatever is entered is looked up
unfoldable pub looks_of : List ℕ → List Mark → List Look
looks_of current [] = []
looks_of current (Entered f args ∷ marks) = look_at current f ∷ looks_of current marks
looks_of current (Branched f label edge ∷ marks) = looks_of current marks
looks_of current (FailedIn f ∷ marks) = looks_of current marks

-- ---- runs

-- a run that has begun: its call, its looks so far, and how far it is
pub record Run : Type 0 where
  pub call : Begun
  pub looks : List Look
  pub progress : Progress

-- a run that begins
unfoldable pub begun_run : Program → Codes → List ℕ → Begun → Run
begun_run P codes current call =
    let looks = looks_of current (start_marks call) in
    record { call = call; looks = looks; progress = version_start P codes (slice_get looks 0) call }

-- a run after a turn from that state
unfoldable pub turned : Program → Codes → List ℕ → Run → State → Run
turned P codes current run s =
    let looks = run.looks ++ looks_of current (turn_marks P codes s) in
    record { call = run.call; looks = looks; progress = version_turn P codes (slice_get looks s.entries) s }

unfoldable pub turned_by : Program → Codes → List ℕ → Run → Progress → Run
turned_by P codes current run (Continues s) =
    if nat_lt s.turns run.call.limit then turned P codes current run s else run
turned_by P codes current run (Finishes end s) = run
turned_by P codes current run Undefined = run

-- one turn, which a run that has ended or has reached its limit does not make
unfoldable pub one_turn : Program → Codes → List ℕ → Run → Run
one_turn P codes current run = turned_by P codes current run run.progress

unfoldable pub turns : Program → Codes → List ℕ → ℕ → Run → Run
turns P codes current zero run = run
turns P codes current (suc n) run = one_turn P codes current (turns P codes current n run)

-- ---- the world

pub record World : Type 0 where
  -- the first word of the table that no version has
  pub next : ℕ
  -- the offset of each function's current version
  pub current : List ℕ
  -- the versions, in the order in which they were published
  pub made : List Made
  -- the runs, in the order in which they began
  pub runs : List Run
  -- the looks of all runs, in the order of time
  pub trail : List Look
  -- what came of each compilation, and what its passes skipped
  pub compiled : List Compiled
  pub skips : List (List (ℕ × Skipped))

-- Nothing has happened. The table begins with one word, and one for each function.
unfoldable pub first_world : Program → World
first_world P = record {
  next = 1 + length P.functions;
  current = replicate (length P.functions) 0;
  made = [];
  runs = [];
  trail = [];
  compiled = [];
  skips = [];
}

-- ---- what is done to runs

-- a run of the call begins
unfoldable pub begins : Program → Begun → World → World
begins P call w =
    let run = begun_run P (codes_in w.made) w.current call in
    record w { runs = w.runs ++ run ∷ []; trail = w.trail ++ run.looks }

-- the run with that place has become another, and its new looks are the last ones of all
unfoldable pub became : World → ℕ → Run → Run → World
became w k before after =
    record w { runs = slice_set w.runs k after; trail = w.trail ++ drop (length before.looks) after.looks }

unfoldable pub moved : Program → ℕ → ℕ → World → Option Run → World
moved P k n w None = w
moved P k n w (Some run) = became w k run (turns P (codes_in w.made) w.current n run)

-- n turns of the run with that place, or fewer where it ends or reaches its limit
unfoldable pub steps : Program → ℕ → ℕ → World → World
steps P k n w = moved P k n w (slice_get w.runs k)

unfoldable pub limit_of : Option Run → ℕ
limit_of None = 0
limit_of (Some run) = run.call.limit

-- the run with that place goes on to its end
unfoldable pub finishes : Program → ℕ → World → World
finishes P k w = steps P k (limit_of (slice_get w.runs k)) w

-- the first n runs have gone on to their ends, in order
unfoldable pub finished : Program → ℕ → World → World
finished P zero w = w
finished P (suc n) w = finishes P n (finished P n w)

-- ---- what is done to versions

-- the number of a code's words
unfoldable pub words_in : Code → ℕ
words_in code = length (spelling code)

-- what comes of a code of so many words, for which the first free word is claimed in a table of so many words
unfoldable pub claimed : ℕ → ℕ → ℕ → Compiled
claimed words next len =
    if nat_lt 65536 len then TooLarge (capped len) else if nat_lt words (next + len) then Full next len else Published next

-- a published code has its words, and is its function's current version
unfoldable pub published : Code → Compiled → World → World
published code (Published offset) w = record w {
  next = w.next + words_in code;
  current = slice_set w.current code.function.0 offset;
  made = w.made ++ record { offset = offset; code = code } ∷ [];
}
published code (TooLarge len) w = w
published code (Full next need) w = w

-- a code is made, in a table of so many words; nothing but a published one changes the versions
unfoldable pub compiles : ℕ → Code → List (ℕ × Skipped) → World → World
compiles words code skips w =
    let answer = claimed words w.next (words_in code) in
    let after = published code answer w in
    record after { compiled = after.compiled ++ answer ∷ []; skips = after.skips ++ skips ∷ [] }
