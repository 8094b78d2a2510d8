-- Turns of a run, one after the other, over what the watch has.
use Rattle.std.proofs.Common.{◌≡◌, ◌≢◌, ◌∙◌, refl, sym, ap, subst, arith, ℕ, zero, suc, ◌+◌, ◌-◌, ◌<◌, ◌≤◌, List, [], ◌∷◌, ◌++◌, append-nil, append_assoc}
use Rattle.std.proofs.Common.{length, length-append, Bool, Option, None, inl, inr, ◌⊎◌, ⊎_elim}
use Rattle.std.proofs.lemmas.List.{nil_from_length}
use Rattle.std.specs.Prelude.{ℤ, slice_get, Result, Ok, Err, OnErr}
use Rattle.cj_ir.specs.WellFormed.{IsWellFormed, Takes}
use Rattle.cj_ir.specs.declared.language.FunId.{FunId}
use Rattle.cj_ir.specs.declared.language.Label.{Label}
use Rattle.cj_ir.specs.declared.language.Program.{Program}
use Rattle.cj_base.specs.declared.machine.End.{End}
use Rattle.cj_base.specs.declared.machine.Turned.{Turned}
use Rattle.cj_base.specs.declared.machine.Turned.TheVariants.{Running, Ended}
use Rattle.cj_base.specs.Run.{Begun}
use Rattle.cj_calls.specs.declared.report.Look.{Look}
use Rattle.cj_activations.specs.Activations.{VersionFrame, Active, InBase, InVersion}
use Rattle.cj_draft.specs.declared.code.Place.{Place}
use Rattle.cj_machine.specs.declared.steps.Step.{Step}
use Rattle.cj_machine.specs.Versions.{State, Codes, Progress, Continues, Finishes, Undefined, place_in, version_turn}
use Rattle.cj_machine.specs.VersionRuns.{one_turn_more, version_run}
use Rattle.cj_machine.specs.Marks.{Mark, Entered, turn_marks, next_marks, run_marks, start_marks}
use Rattle.cj_machine.specs.CodeMaps.{SoundCodes, Grows}
use Rattle.cj_machine.specs.Stands.{Stands, Holds}
use Rattle.cj_engine.specs.Watching.{Gains, TellsAtMost}
use Rattle.cj_machine.specs.declared.machine.Machine.{Machine}
use Rattle.cj_machine.specs.Machines.{state_of, progress_of}
use Rattle.cj_machine.specs.Stepping.{PlaceTakesMemory, TopTakesMemory, TurnTakesMemory, IsEntry, marks_told}
use Rattle.cj_engine.specs.Engines.{EngineView, HasRoom, CanTurn, end_after}
use Rattle.cj_machine.specs.CallRuns.{IsRun, HasFinished, RunGoes}
use Rattle.cj_engine.specs.Stretches.{Quiet, Stops, Starves, IsCarried, turns_from, marks_from, Onward, Stretched, Halted}
use Rattle.cj_machine.proofs.Growing.{place_kept, stands_grows}
use Rattle.cj_machine.proofs.Runs.{run_turns, run_later, continues_defined, report_at_limit}
use Rattle.cj_machine.proofs.RunMarks.{marks_at_start}
use Rattle.cj_machine.proofs.Memories.{memory_going, memory_at, memory_continues}
use Rattle.cj_machine.proofs.Reporting.{run_stands, run_holds}
use Rattle.cj_machine.proofs.Going.{finished_is}
use Rattle.cj_engine.proofs.Paths.{turns_then, marks_then, run_then, run_marks_then, ended_turns, ended_marks, turns_counted, turns_later, marks_from_later}
use Rattle.cj_engine.proofs.Paths.{turns_hold}
use Rattle.cj_engine.proofs.Gliding.{same_codes, room_turns}

-- ---- turns

-- none
pub onward_here : (P : Program) (went : List Mark → Type 0) (codes : Codes) (trail : List Look) (s : State) → went [] → Onward P went codes trail 0 s Running s
unfolding turns_from marks_from
onward_here P went codes trail s none = record { made = refl; told = none }

-- one
pub onward_turn : (P : Program) (went : List Mark → Type 0) (codes : Codes) (trail : List Look) (s : State) (answer : Turned) (t : State) →
    version_turn P codes (slice_get trail s.entries) s ≡ progress_of answer t → went (turn_marks P codes s) → Onward P went codes trail 1 s answer t
unfolding turns_from marks_from one_turn_more next_marks
onward_turn P went codes trail s answer t made told = record { made = made; told = told }

running_defined : (o : Progress) (s : State) → o ≡ Continues s → o ≢ Undefined
running_defined o s e = λ none. continues_defined s (sym e ∙ none)

-- some and then others
pub onward_then : (P : Program) (one other went : List Mark → Type 0) (mid later : Codes) (at more now : List Look) (m n : ℕ) (s u : State) (answer : Turned)
    (t : State) → Grows mid later → now ≡ at ++ more → ((ms ns : List Mark) → one ms → other ns → went (ms ++ ns)) → Onward P one mid at m s Running u →
    Onward P other later now n u answer t → Onward P went later now (n + m) s answer t
onward_then P one other went mid later at more now m n s u answer t g longer both first second =
    let from : Progress = Continues s in
    let whole : turns_from P later (at ++ more) from m
    ≡ Continues u = turns_later P mid later g at more from m (Continues u) (continues_defined u) first.made in
    let at_now : turns_from P later now from m ≡ Continues u = subst (λ (xs : List Look). turns_from P later xs from m ≡ Continues u) (sym longer) whole in
    let marks : marks_from P later (at ++ more) from m
    ≡ marks_from P mid at from m = marks_from_later P mid later g at more from m (running_defined _ u first.made) in
    let marks_now : marks_from P later now from m
    ≡ marks_from P mid at from m = subst (λ (xs : List Look). marks_from P later xs from m ≡ marks_from P mid at from m) (sym longer) marks in
    let all : marks_from P later now from (n + m) ≡ marks_from P mid at from m ++ marks_from P later now (Continues u) n =
    marks_then P later now from n m ∙ ap (λ (ms : List Mark). ms ++ marks_from P later now (turns_from P later now from m) n) marks_now
    ∙ ap (λ (o : Progress). marks_from P mid at from m ++ marks_from P later now o n) at_now in
    record {
      made = turns_then P later now from n m ∙ ap (λ (o : Progress). turns_from P later now o n) at_now ∙ second.made;
      told = subst went (sym all) (both _ _ first.told second.told);
    }

-- an end answers for more turns
pub onward_ended : (P : Program) (went : List Mark → Type 0) (codes : Codes) (trail : List Look) (n count : ℕ) (s : State) (end : End) (t : State) →
    n ≤ count → Onward P went codes trail n s (Ended end) t → Onward P went codes trail count s (Ended end) t
onward_ended P went codes trail n count s end t few o =
    let from : Progress = Continues s in
    let same : count - n + n ≡ count = omega arith in
    let made : turns_from P codes trail from (count - n + n) ≡ Finishes end t = turns_then P codes trail from (count - n) n
    ∙ ap (λ (x : Progress). turns_from P codes trail x (count - n)) o.made ∙ ended_turns P codes trail end t (count - n) in
    let marks : marks_from P codes trail from (count - n + n) ≡ marks_from P codes trail from n =
    marks_then P codes trail from (count - n) n ∙ ap (λ (x : Progress). marks_from P codes trail from n ++ marks_from P codes trail x (count - n)) o.made
    ∙ ap (λ (ms : List Mark). marks_from P codes trail from n ++ ms) (ended_marks P codes trail end t (count - n)) ∙ append-nil _ in
    record {
      made = subst (λ (k : ℕ). turns_from P codes trail from k ≡ Finishes end t) same made;
      told = subst (λ (k : ℕ). went (marks_from P codes trail from k)) same (subst went (sym marks) o.told);
    }

-- the same, told otherwise
pub onward_told : (P : Program) (one went : List Mark → Type 0) (codes : Codes) (trail : List Look) (count : ℕ) (s : State) (answer : Turned) (t : State) →
    ((ms : List Mark) → one ms → went ms) → Onward P one codes trail count s answer t → Onward P went codes trail count s answer t
onward_told P one went codes trail count s answer t more o = record { made = o.made; told = more _ o.told }

-- ---- quiet turns

abbrev pub IsNone : List Mark → Type 0
IsNone ms = ms ≡ []

pub quiet_onward : (P : Program) (codes later : Codes) (trail : List Look) (n : ℕ) (s t : State) → Grows codes later → Quiet P codes n s t →
    Onward P IsNone later trail n s Running t
unfolding turns_from marks_from one_turn_more next_marks
quiet_onward P codes later trail zero s t g q = record { made = ap Continues (sym q); told = refl }
quiet_onward P codes later trail (suc n) s t g q =
    let mid = q.0 in
    let before = quiet_onward P codes later trail n s mid g q.1 in
    record {
      made = ap (one_turn_more P later trail) before.made ∙ q.2.turn later (slice_get trail mid.entries) g;
      told = ap (λ (o : Progress). marks_from P later trail (Continues s) n ++ next_marks P later o) before.made
          ∙ ap (λ (ms : List Mark). ms ++ turn_marks P later mid) before.told ∙ q.2.marks later g;
    }

-- ---- room for more turns

pub room_holds : (P : Program) (codes later : Codes) (trail : List Look) (call : Begun) (n : ℕ) (s t : State) → IsWellFormed P → SoundCodes P later →
    Grows codes later → Stands P codes call s → turns_from P later trail (Continues s) n ≡ Continues t → Stands P later call t
room_holds P codes later trail call n s t formed sound g stands made =
    subst (Holds P later call) made (turns_hold P later trail call formed sound (Continues s) n (stands_grows P call codes later g s stands))

pub room_then : (P : Program) (went : List Mark → Type 0) (codes later : Codes) (trail : List Look) (count n left : ℕ) (s t : State) → IsWellFormed P →
    SoundCodes P later → Grows codes later → HasRoom P codes count s → Onward P went later trail n s Running t → n + left ≤ count → HasRoom P later left t
room_then P went codes later trail count n left s t formed sound g r o fits =
    let counted : t.turns ≡ n + s.turns = turns_counted P later trail s t n o.made in
    let room = r.room in
    record {
      call = r.call;
      takes = r.takes;
      stands = room_holds P codes later trail r.call n s t formed sound g r.stands o.made;
      room = omega arith;
      limit = r.limit;
    }

-- a further turn can be made
pub onward_can : (P : Program) (went : List Mark → Type 0) (codes later : Codes) (trail : List Look) (count n : ℕ) (s t : State) → IsWellFormed P →
    SoundCodes P later → Grows codes later → HasRoom P codes count s → Onward P went later trail n s Running t → n < count → CanTurn P later t
onward_can P went codes later trail count n s t formed sound g r o more =
    room_turns P later (count - n) t formed sound (room_then P went codes later trail count n (count - n) s t formed sound g r o (omega arith)) (omega arith)

-- ---- want of memory

pub tells_by : (one two : List Mark → Type 0) (trail other now : List Look) (marks : List Mark) → ((ms : List Mark) → one ms → two ms) → trail ≡ other →
    TellsAtMost one trail now marks → TellsAtMost two other now marks
tells_by one two trail other now marks more same told =
    subst (λ (xs : List Look). TellsAtMost two xs now marks) same
    (⊎_elim (λ none. inl (more [] none.0, none.1))
    (λ e. inr (record { function = e.function; args = e.args; offset = e.offset; entry = e.entry; told = more marks e.told; looked = e.looked })) told)

-- an entry was told
pub entry_told : (went : List Mark → Type 0) (trail now : List Look) (f : FunId) (args : List ℤ) (offset : ℕ) → went (Entered f args ∷ []) →
    now ≡ trail ++ record { function = f; offset = offset } ∷ [] → TellsAtMost went trail now (Entered f args ∷ [])
entry_told went trail now f args offset told looked =
    inr (record { function = f; args = args; offset = offset; entry = refl; told = told; looked = looked })

pub refused_so : {A E : Type 0} (r : Result A E) (Q : Type 0) → Q → OnErr r Q
refused_so (Ok x) Q q = tt
refused_so (Err refused) Q q = q

place_takes_later : (v : VersionFrame) (m : List ℤ) (o later : Option Place) → (o ≡ None) ⊎ (o ≡ later) → PlaceTakesMemory v m o → PlaceTakesMemory v m later
place_takes_later v m o later kept takes = ⊎_elim (λ none. absurd (subst (PlaceTakesMemory v m) none takes)) (λ same. subst (PlaceTakesMemory v m) same takes)
    kept

top_takes_later : (P : Program) (codes later : Codes) (m : List ℤ) (a : Active) → Grows codes later → TopTakesMemory P codes m a → TopTakesMemory P later m a
top_takes_later P codes later m (InBase fr) g takes = takes
top_takes_later P codes later m (InVersion v) g takes = place_takes_later v m (place_in codes v) (place_in later v) (place_kept P codes later g v) takes

-- a turn that takes memory does so over more code
pub takes_later : (P : Program) (codes later : Codes) (s : State) → Grows codes later → TurnTakesMemory P codes s → TurnTakesMemory P later s
takes_later P codes later s g takes = top_takes_later P codes later s.memory s.stack.top g takes

-- a turn that found none, after none
pub halted_here : (P : Program) (went : List Mark → Type 0) (codes : Codes) (looks before after : List Look) (count : ℕ) (s : State) → 1 ≤ count →
    s.entries ≡ length looks → TurnTakesMemory P codes s → TellsAtMost went before after (turn_marks P codes s) →
    Halted P went codes looks looks before after count s s
unfolding turns_from marks_from
halted_here P went codes looks before after count s some used takes told = record {
  turns = 0;
  fewer = some;
  made = refl;
  takes = takes;
  more = [];
  looks_more = sym (append-nil looks);
  used = used;
  told = tells_by went went before (before ++ []) after (turn_marks P codes s) (λ ms w. w) (sym (append-nil before)) told;
}

-- after others
pub halted_then : (P : Program) (one other went : List Mark → Type 0) (mid later : Codes) (looks at now before between after : List Look) (m n count : ℕ)
    (s u t : State) → Grows mid later → ((ms ns : List Mark) → one ms → other ns → went (ms ++ ns)) → Gains looks at before between →
    Onward P one mid at m s Running u → Halted P other later at now between after n u t → n + m ≤ count → Halted P went later looks now before after count s t
halted_then P one other went mid later looks at now before between after m n count s u t g both gains first second few =
    let h = second.turns in
    let path : Onward P (λ (ms : List Mark). (ms ≡ marks_from P mid at (Continues s) m ++ marks_from P later now (Continues u) h)) later now
    (h + m) s Running t =
    onward_then P (λ (ms : List Mark). ms ≡ marks_from P mid at (Continues s) m) (λ (ms : List Mark). ms ≡ marks_from P later now (Continues u) h) _ mid later
    at second.more now m h s u Running t g second.looks_more
    (λ ms ns a b. ap (λ (xs : List Mark). xs ++ ns) a ∙ ap (λ (xs : List Mark). marks_from P mid at (Continues s) m ++ xs) b)
    (record { made = first.made; told = refl }) (record { made = second.made; told = refl }) in
    let fewer = second.fewer in
    record {
      turns = h + m;
      fewer = omega arith;
      made = path.made;
      takes = second.takes;
      more = gains.more ++ second.more;
      looks_more = second.looks_more ∙ ap (λ (xs : List Look). xs ++ second.more) gains.looks_more ∙ append_assoc looks gains.more second.more;
      used = second.used;
      told = tells_by (λ ms. other (marks_from P later now (Continues u) h ++ ms)) (λ ms. went (marks_from P later now (Continues s) (h + m) ++ ms))
          (between ++ second.more) (before ++ (gains.more ++ second.more)) after (turn_marks P later t)
          (λ ms w.
          let all : (marks_from P mid at (Continues s) m ++ (marks_from P later now (Continues u) h ++ ms)) ≡ marks_from P later now (Continues s) (h + m)
          ++ ms =
          sym (append_assoc (marks_from P mid at (Continues s) m) (marks_from P later now (Continues u) h) ms)
          ∙ ap (λ (xs : List Mark). xs ++ ms) (sym path.told) in
          subst went all (both _ _ first.told w))
          (ap (λ (xs : List Look). xs ++ second.more) gains.trail_more ∙ append_assoc before gains.more second.more) second.told;
    }

-- ---- a stretch of a version

pub quiet_stretch : (P : Program) (went : List Mark → Type 0) (codes : Codes) (trail : List Look) (n count : ℕ) (s t : State) → went [] → 1 ≤ n → n ≤ count →
    Quiet P codes n s t → Stretched P went codes trail count s Running t
quiet_stretch P went codes trail n count s t none some few q = record {
  turns = n;
  some = some;
  few = few;
  onward = onward_told P IsNone went codes trail n s Running t (λ ms is. subst went (sym is) none)
      (quiet_onward P codes codes trail n s t (same_codes codes) q);
}

none_before : (went : List Mark → Type 0) (ms ns : List Mark) → IsNone ms → went ns → went (ms ++ ns)
none_before went ms ns none w = subst went (sym (ap (λ (xs : List Mark). xs ++ ns) none)) w

-- the looks that a stretch began with are those that quiet turns leave
pub quiet_used : (P : Program) (codes : Codes) (n : ℕ) (s t : State) → Quiet P codes n s t → t.entries ≡ s.entries
quiet_used P codes zero s t q = ap (λ (x : State). x.entries) q
quiet_used P codes (suc n) s t q = q.2.entries ∙ quiet_used P codes n s q.0 q.1

pub stop_stretch : (P : Program) (went : List Mark → Type 0) (codes later : Codes) (args : List ℤ) (f : FunId) (label : Label) (looks at now : List Look)
    (count : ℕ) (s u : State) (step : Step) (answer : Turned) (t : State) → Grows codes later → s.entries ≡ length looks → at ≡ looks →
    Stops P codes args f label count s u step → IsCarried P args u step later (slice_get now (length at)) (progress_of answer t) →
    went (marks_told step f label args) → Stretched P went later now count s answer t
stop_stretch P went codes later args f label looks at now count s u step answer t grows used same st carried told =
    let n = st.turns in
    let mid = st.mid in
    let place : length at ≡ mid.entries = ap length same ∙ sym used ∙ sym (quiet_used P codes n s mid st.quiet) in
    let carried2 = subst (λ (k : ℕ). IsCarried P args u step later (slice_get now k) (progress_of answer t)) place carried in
    let made = st.done later (slice_get now mid.entries) (progress_of answer t) grows carried2 in
    let last = onward_turn P went later now mid answer t made (subst went (sym (st.marks later grows)) told) in
    let fewer = st.fewer in
    record {
      turns = 1 + n;
      some = omega arith;
      few = omega arith;
      onward = onward_then P IsNone went went later later now [] now n 1 s mid answer t (same_codes later) (sym (append-nil now)) (none_before went)
          (quiet_onward P codes later now n s mid grows st.quiet) last;
    }

-- memory ran out in a step that leaves nothing behind
pub starved_halts : (P : Program) (went : List Mark → Type 0) (codes : Codes) (looks now trail : List Look) (count : ℕ) (s t : State) → went [] → now ≡ looks →
    t.entries ≡ length now → Starves P codes count s t → Halted P went codes looks now trail trail count s t
starved_halts P went codes looks now trail count s t none same used st =
    let path = quiet_onward P codes codes now st.turns s t (same_codes codes) st.quiet in
    record {
      turns = st.turns;
      fewer = st.fewer;
      made = path.made;
      takes = st.takes;
      more = [];
      looks_more = same ∙ sym (append-nil looks);
      used = used;
      told = inl (subst went (sym (ap (λ (xs : List Mark). xs ++ []) path.told)) none, sym (append-nil trail));
    }

-- memory ran out in an entry
pub stopped_halts : (P : Program) (went : List Mark → Type 0) (codes later : Codes) (args : List ℤ) (f : FunId) (label : Label) (looks first last : List Look)
    (count : ℕ) (s : State) (u t : Machine) (step : Step) → Grows codes later → u.looks ≡ looks → Stops P codes args f label count s (state_of u) step →
    IsEntry step → TellsAtMost went first last (marks_told step f label args) → t ≡ u → Halted P went later looks t.looks first last count s (state_of t)
unfolding state_of
stopped_halts P went codes later args f label looks first last count s u t step grows same st enters told is =
    let n = st.turns in
    let mid = st.mid in
    let now = t.looks in
    let path = quiet_onward P codes later now n s mid grows st.quiet in
    let own : mid ≡ state_of t = sym (st.entry enters) ∙ ap state_of (sym is) in
    let marks : turn_marks P later mid ≡ marks_told step f label args = st.marks later grows in
    let told2 = subst (TellsAtMost went first last) (sym marks) told in
    let fewer = st.fewer in
    subst (λ (x : State). Halted P went later looks now first last count s x) own
    (record {
      turns = n;
      fewer = omega arith;
      made = path.made;
      takes = takes_later P codes later mid grows (st.takes enters);
      more = [];
      looks_more = ap (λ (m : Machine). m.looks) is ∙ same ∙ sym (append-nil looks);
      used = ap (λ (x : State). x.entries) own;
      told = tells_by went (λ ms. went (marks_from P later now (Continues s) n ++ ms)) first (first ++ []) last (turn_marks P later mid)
          (λ ms w. none_before went (marks_from P later now (Continues s) n) ms path.told w) (sym (append-nil first)) told2;
    })

-- the looks and the trail gain one part and then another
pub gains_then : (looks at now trail mid last : List Look) → Gains looks at trail mid → Gains at now mid last → Gains looks now trail last
gains_then looks at now trail mid last a b = record {
  more = a.more ++ b.more;
  looks_more = b.looks_more ∙ ap (λ (xs : List Look). xs ++ b.more) a.looks_more ∙ append_assoc looks a.more b.more;
  trail_more = b.trail_more ∙ ap (λ (xs : List Look). xs ++ b.more) a.trail_more ∙ append_assoc trail a.more b.more;
}

pub gains_none : (looks trail : List Look) → Gains looks looks trail trail
gains_none looks trail = record { more = []; looks_more = sym (append-nil looks); trail_more = sym (append-nil trail) }

-- ---- the run of a call

path_ends : (P : Program) (later : Codes) (now : List Look) (n : ℕ) (call : Begun) (answer : Turned) (t : State) → IsWellFormed P → SoundCodes P later →
    Takes P.functions call.function (length call.args) → call.limit ≤ 1000000 → t.entries ≡ length now → n ≤ call.limit →
    version_run P later now call n ≡ progress_of answer t → RunGoes P later now call answer t
path_ends P later now n call Running t formed sound takes limit used room whole =
    let turns : t.turns ≡ n = run_turns P later now call n t whole in
    record {
      takes = takes;
      run = subst (λ (k : ℕ). version_run P later now call k ≡ Continues t) (sym turns) whole;
      used = used;
      stands = run_stands P later call formed sound now takes n t whole;
      within = omega arith;
      limit = limit;
    }
path_ends P later now n call (Ended end) t formed sound takes limit used room whole =
    finished_is P later now call n end t whole room used (subst (Holds P later call) whole (run_holds P later call formed sound now takes n))

pub path_goes : (P : Program) (codes later : Codes) (looks more now : List Look) (count : ℕ) (call : Begun) (s : State) (answer : Turned) (t : State) →
    IsWellFormed P → SoundCodes P later → Grows codes later → now ≡ looks ++ more → t.entries ≡ length now → IsRun P codes looks call s →
    s.turns + count ≤ call.limit → turns_from P later now (Continues s) count ≡ progress_of answer t → RunGoes P later now call answer t
path_goes P codes later looks more now count call s answer t formed sound g longer used is room made =
    let start : version_run P later now call s.turns ≡ Continues s =
    subst (λ (xs : List Look). version_run P later xs call s.turns ≡ Continues s) (sym longer)
    (run_later P call codes later g looks more s.turns (Continues s) (continues_defined s) is.run) in
    let whole : version_run P later now call (count + s.turns) ≡ progress_of answer t = run_then P later now call count s.turns
    ∙ ap (λ (o : Progress). turns_from P later now o count) start ∙ made in
    path_ends P later now (count + s.turns) call answer t formed sound is.takes is.limit used (omega arith) whole

-- ---- what callers see

-- a run as callers see it
abbrev pub viewed : Program → State → List Look → Bool → EngineView
viewed P s looks running = record { program = P; state = s; looks = looks; running = running }

-- ---- one turn

-- one turn was made, and its marks were told
pub record OneTurn (P : Program) (went : List Mark → Type 0) (codes : Codes) (trail : List Look) (s : State) (answer : Turned) (t : State) : Type 0 where
  pub made : version_turn P codes (slice_get trail s.entries) s ≡ progress_of answer t
  pub told : went (turn_marks P codes s)

pub onward_one : (P : Program) (went : List Mark → Type 0) (codes : Codes) (trail : List Look) (s : State) (answer : Turned) (t : State) →
    Onward P went codes trail 1 s answer t → OneTurn P went codes trail s answer t
unfolding turns_from marks_from one_turn_more next_marks
onward_one P went codes trail s answer t o = record { made = o.made; told = o.told }

-- memory ran out in the first turn
pub record HaltedAtOnce (P : Program) (went : List Mark → Type 0) (codes : Codes) (looks now before after : List Look) (s t : State) : Type 0 where
  pub same : t ≡ s
  pub same_looks : now ≡ looks
  pub takes : TurnTakesMemory P codes s
  pub told : TellsAtMost went before after (turn_marks P codes s)

at_once : (P : Program) (went : List Mark → Type 0) (codes : Codes) (looks more now before after : List Look) (turns : ℕ) (s t : State) → turns ≡ 0 →
    s.entries ≡ length looks → t.entries ≡ length now → turns_from P codes now (Continues s) turns ≡ Continues t → now ≡ looks ++ more →
    TurnTakesMemory P codes t → TellsAtMost (λ ms. went (marks_from P codes now (Continues s) turns ++ ms)) (before ++ more) after (turn_marks P codes t) →
    HaltedAtOnce P went codes looks now before after s t
unfolding turns_from marks_from
at_once P went codes looks more now before after turns s t first used used_then made longer takes told =
    let none : turns_from P codes now (Continues s) 0 ≡ Continues t = subst (λ (n : ℕ). turns_from P codes now (Continues s) n ≡ Continues t) first made in
    let same : s ≡ t = cc in
    let counts : length now ≡ length looks = sym used_then ∙ ap (λ (x : State). x.entries) (sym same) ∙ used in
    let size = ap length longer ∙ length-append looks more in
    let no_more : more ≡ [] = nil_from_length more (omega arith) in
    let told0 = subst (λ (n : ℕ). TellsAtMost (λ ms. went (marks_from P codes now (Continues s) n ++ ms)) (before ++ more) after (turn_marks P codes t)) first
    told in
    record {
      same = sym same;
      same_looks = longer ∙ ap (λ (xs : List Look). looks ++ xs) no_more ∙ append-nil looks;
      takes = subst (TurnTakesMemory P codes) (sym same) takes;
      told = subst (λ (x : State). TellsAtMost went before after (turn_marks P codes x)) (sym same)
          (tells_by went went (before ++ more) before after (turn_marks P codes t) (λ ms w. w) (ap (λ (xs : List Look). before ++ xs) no_more
          ∙ append-nil before) told0);
    }

pub halted_at_once : (P : Program) (went : List Mark → Type 0) (codes : Codes) (looks now before after : List Look) (s t : State) → s.entries ≡ length looks →
    Halted P went codes looks now before after 1 s t → HaltedAtOnce P went codes looks now before after s t
halted_at_once P went codes looks now before after s t used h =
    let fewer = h.fewer in
    at_once P went codes looks h.more now before after h.turns s t (omega arith) used h.used h.made h.looks_more h.takes h.told

pub same_view : (P Q : Program) (s t : State) (looks now : List Look) (running : Bool) → Q ≡ P → t ≡ s → now ≡ looks →
    viewed Q t now running ≡ viewed P s looks running
same_view P Q s t looks now running program state same =
    ap (λ (R : Program). viewed R t now running) program ∙ ap (λ (x : State). viewed P x now running) state
    ∙ ap (λ (xs : List Look). viewed P s xs running) same

-- ---- a whole run

-- a run that goes on at its call's limit, or that has ended
ends_all : (P : Program) (codes : Codes) (looks : List Look) (call : Begun) (answer : Turned) (t : State) → (answer ≡ Running → t.turns ≡ call.limit) →
    RunGoes P codes looks call answer t → HasFinished P codes looks call (end_after answer) t
unfolding end_after
ends_all P codes looks call Running t all is =
    let turns = all refl in
    let run : version_run P codes looks call call.limit ≡ Continues t = subst (λ (n : ℕ). version_run P codes looks call n ≡ Continues t) turns is.run in
    record {
      report = report_at_limit P codes looks call t.turns t is.run turns is.used;
      memory = memory_at P codes looks call (Continues t) t.memory run (memory_continues t);
      agrees = memory_going P call t.base_turns t.printed (record { stack = is.stands.run.found; memory = t.memory }) is.stands.run.run;
    }
ends_all P codes looks call (Ended end) t all is = is

all_turns : (P : Program) (codes : Codes) (trail : List Look) (count : ℕ) (s : State) (answer : Turned) (t : State) →
    turns_from P codes trail (Continues s) count ≡ progress_of answer t → answer ≡ Running → t.turns ≡ count + s.turns
all_turns P codes trail count s Running t made is = turns_counted P codes trail s t count made
all_turns P codes trail count s (Ended end) t made is = let never : ⊥ = cc in absurd never

pub whole_run : (P : Program) (went : List Mark → Type 0) (later : Codes) (now : List Look) (call : Begun) (s : State) (answer : Turned) (t : State) →
    RunGoes P later now call answer t → s.turns ≡ 0 → Onward P went later now call.limit s answer t → HasFinished P later now call (end_after answer) t
whole_run P went later now call s answer t goes first o =
    ends_all P later now call answer t (λ running. let all = all_turns P later now call.limit s answer t o.made running in omega arith) goes

pub whole_marks : (P : Program) (codes later : Codes) (looks more now : List Look) (call : Begun) (s : State) → Grows codes later → now ≡ looks ++ more →
    IsRun P codes looks call s → s.turns ≡ 0 → run_marks P later now call call.limit ≡ start_marks call ++ marks_from P later now (Continues s) call.limit
whole_marks P codes later looks more now call s g longer is first =
    let start : version_run P later now call s.turns ≡ Continues s =
    subst (λ (xs : List Look). version_run P later xs call s.turns ≡ Continues s) (sym longer)
    (run_later P call codes later g looks more s.turns (Continues s) (continues_defined s) is.run) in
    let begun : version_run P later now call 0 ≡ Continues s = subst (λ (n : ℕ). version_run P later now call n ≡ Continues s) first start in
    let all : call.limit + 0 ≡ call.limit = omega arith in
    subst (λ (n : ℕ). run_marks P later now call n ≡ start_marks call ++ marks_from P later now (Continues s) call.limit) all
    (run_marks_then P later now call call.limit 0 ∙ ap (λ (o : Progress). run_marks P later now call 0 ++ marks_from P later now o call.limit) begun
    ∙ ap (λ (ms : List Mark). ms ++ marks_from P later now (Continues s) call.limit) (marks_at_start P later now call))
