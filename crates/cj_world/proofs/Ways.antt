-- The turns of a run of a play, one after the other, are the engine's turns over the looks that there are after them.
use Rattle.std.proofs.Common.{◌≡◌, ◌∙◌, refl, sym, ap, subst, arith, ℕ, zero, suc, ◌+◌, ◌-◌, ◌<◌, ◌≤◌, List, [], ◌∷◌, ◌++◌, length, length-append, append-nil}
use Rattle.std.proofs.Common.{append_assoc, Option, Some, inl, inr}
use Rattle.std.specs.Prelude.{slice_get}
use Rattle.cj_ir.specs.declared.language.Program.{Program}
use Rattle.cj_calls.specs.declared.report.Look.{Look}
use Rattle.cj_machine.specs.Versions.{State, Codes, Progress, Continues, Finishes, Undefined, version_turn}
use Rattle.cj_machine.specs.VersionRuns.{one_turn_more}
use Rattle.cj_machine.specs.Marks.{Mark, turn_marks, next_marks}
use Rattle.cj_engine.specs.Stretches.{turns_from, marks_from}
use Rattle.cj_engine.proofs.Paths.{turns_counted, marks_then}
use Rattle.cj_world.specs.Worlds.{Run, looks_of, one_turn, turns}
use Rattle.cj_world.specs.Caches.{looks_of-append}
use Rattle.cj_world.proofs.Looking.{Uses, used_in, turn_uses}
use Rattle.cj_world.proofs.Steps.{turned_same, goes, is_over, is_lost}

-- the element behind a list
next_look : (xs : List Look) (x : Look) (more : List Look) → slice_get ((xs ++ x ∷ []) ++ more) (length xs) ≡ Some x
next_look [] x more = refl
next_look (y ∷ xs) x more = next_look xs x more

-- the state has used all of these looks, where one is told
abbrev pub AllUsed : Progress → List Look → Type 0
AllUsed p looks = used_in p (length looks) ≡ length looks

module _ (P : Program) (codes : Codes) (current : List ℕ) (run : Run) (s : State) (now : List Look) where
  -- the looks of a run after so many turns from that state, where it has those looks in the end
  looks_after : ℕ → List Look
  looks_after k = run.looks ++ looks_of current (marks_from P codes now (Continues s) k)

  -- the run after them
  pub way : ℕ → Run
  way k = record { call = run.call; looks = looks_after k; progress = turns_from P codes now (Continues s) k }

  -- one turn's looks more
  looks_next : (k : ℕ) (p : Progress) → turns_from P codes now (Continues s) k ≡ p
      → looks_after (suc k) ≡ looks_after k ++ looks_of current (next_marks P codes p)
  unfolding looks_after marks_from
  looks_next k p is =
      let before = marks_from P codes now (Continues s) k in
      ap (λ (q : Progress). run.looks ++ looks_of current (before ++ next_marks P codes q)) is
      ∙ ap (λ ls. run.looks ++ ls) (looks_of-append current before (next_marks P codes p))
      ∙ sym (append_assoc run.looks (looks_of current before) (looks_of current (next_marks P codes p)))

  -- a turn that uses the next look, if any
  used_by : (k : ℕ) (u : State) → u.entries ≡ length (looks_after k)
      → Uses current u.entries (λ (look : Option Look). version_turn P codes look u) (turn_marks P codes u) → (look : Option Look)
      → AllUsed (version_turn P codes look u) (looks_after k ++ looks_of current (turn_marks P codes u))
  used_by k u used (inl idle) look =
      let same : u.entries ≡ length (looks_after k ++ looks_of current (turn_marks P codes u)) =
      used ∙ ap length (sym (append-nil (looks_after k)) ∙ ap (λ ls. looks_after k ++ ls) (sym idle.none)) in
      subst (λ (n : ℕ). used_in (version_turn P codes look u) n ≡ n) same (idle.used look)
  used_by k u used (inr looking) look =
      let more : length (looks_after k ++ looking.look ∷ []) ≡ length (looks_after k) + 1 = length-append (looks_after k) (looking.look ∷ []) in
      let same : u.entries + 1 ≡ length (looks_after k ++ looks_of current (turn_marks P codes u)) =
      ap (λ n. n + 1) used ∙ sym more ∙ ap (λ ls. length (looks_after k ++ ls)) (sym looking.one) in
      subst (λ (n : ℕ). used_in (version_turn P codes look u) n ≡ n) same (looking.used look)

  -- wherever the run is, it has used its looks
  all_used : (k : ℕ) → s.entries ≡ length run.looks → AllUsed (turns_from P codes now (Continues s) k) (looks_after k)
  unfolding turns_from marks_from looks_of looks_after one_turn_more next_marks
  all_used zero used = used ∙ ap length (sym (append-nil run.looks))
  all_used (suc k) used = by (turns_from P codes now (Continues s) k) refl (all_used k used)
    where
      by : (p : Progress) → turns_from P codes now (Continues s) k ≡ p → AllUsed (turns_from P codes now (Continues s) k) (looks_after k)
          → AllUsed (one_turn_more P codes now (turns_from P codes now (Continues s) k)) (looks_after (suc k))
      by (Continues u) at before =
          let here : u.entries ≡ length (looks_after k) = subst (λ (p : Progress). AllUsed p (looks_after k)) at before in
          subst (λ (p : Progress). AllUsed (one_turn_more P codes now p) (looks_after (suc k))) (sym at)
          (subst (λ (ls : List Look). AllUsed (version_turn P codes (slice_get now u.entries) u) ls) (sym (looks_next k (Continues u) at))
          (used_by k u here (turn_uses P codes current u) (slice_get now u.entries)))
      by (Finishes end u) at before =
          let here : u.entries ≡ length (looks_after k) = subst (λ (p : Progress). AllUsed p (looks_after k)) at before in
          subst (λ (p : Progress). AllUsed (one_turn_more P codes now p) (looks_after (suc k))) (sym at)
          (here ∙ ap length (sym (looks_next k (Finishes end u) at ∙ append-nil (looks_after k))))
      by Undefined at before =
          subst (λ (p : Progress). AllUsed (one_turn_more P codes now p) (looks_after (suc k))) (sym at) refl

  -- the next look is the same in all that there are in the end
  module _ (used : s.entries ≡ length run.looks) (starts : run.progress ≡ Continues s) (m : ℕ) (room : s.turns + m ≤ run.call.limit)
      (whole : now ≡ run.looks ++ looks_of current (marks_from P codes now (Continues s) m)) where
    behind : (k : ℕ) → k ≤ m → (more : List Look) × (now ≡ looks_after k ++ more)
    unfolding looks_after
    behind k within =
        let all : m - k + k ≡ m = omega arith in
        let first = marks_from P codes now (Continues s) k in
        let rest = marks_from P codes now (turns_from P codes now (Continues s) k) (m - k) in
        let cut : marks_from P codes now (Continues s) m ≡ first ++ rest =
        ap (λ (n : ℕ). marks_from P codes now (Continues s) n) (sym all) ∙ marks_then P codes now (Continues s) (m - k) k in (
          looks_of current rest,
          whole ∙ ap (λ (ms : List Mark). run.looks ++ looks_of current ms) cut
              ∙ ap (λ ls. run.looks ++ ls) (looks_of-append current first rest)
              ∙ sym (append_assoc run.looks (looks_of current first) (looks_of current rest)),
        )

    same_turn : (k : ℕ) → suc k ≤ m → (u : State) → turns_from P codes now (Continues s) k ≡ Continues u
        → Uses current u.entries (λ (look : Option Look). version_turn P codes look u) (turn_marks P codes u)
        → version_turn P codes (slice_get (looks_after (suc k)) u.entries) u ≡ version_turn P codes (slice_get now u.entries) u
    unfolding next_marks
    same_turn k within u at (inl idle) = idle.same (slice_get (looks_after (suc k)) u.entries) (slice_get now u.entries)
    same_turn k within u at (inr looking) =
        let here : u.entries ≡ length (looks_after k) = subst (λ (p : Progress). AllUsed p (looks_after k)) at (all_used k used) in
        let next : looks_after (suc k) ≡ looks_after k ++ looking.look ∷ [] = next_is in
        let last = behind (suc k) within in
        let mine : slice_get (looks_after (suc k)) u.entries ≡ Some looking.look =
        ap (λ ls. slice_get ls u.entries) (next ∙ sym (append-nil (looks_after k ++ looking.look ∷ [])))
        ∙ ap (λ n. slice_get ((looks_after k ++ looking.look ∷ []) ++ []) n) here ∙ next_look (looks_after k) looking.look [] in
        let theirs : slice_get now u.entries ≡ Some looking.look =
        ap (λ ls. slice_get ls u.entries) (last.1 ∙ ap (λ ls. ls ++ last.0) next)
        ∙ ap (λ n. slice_get ((looks_after k ++ looking.look ∷ []) ++ last.0) n) here ∙ next_look (looks_after k) looking.look last.0 in
        ap (λ look. version_turn P codes look u) (mine ∙ sym theirs)
      where
        next_is : looks_after (suc k) ≡ looks_after k ++ looking.look ∷ []
        next_is = looks_next k (Continues u) at ∙ ap (λ ls. looks_after k ++ ls) looking.one

    stays : (k : ℕ) (p : Progress) → turns_from P codes now (Continues s) k ≡ p → next_marks P codes p ≡ [] → one_turn_more P codes now p ≡ p
        → way k ≡ way (suc k)
    unfolding way turns_from looks_of
    stays k p at none same =
        let with : List Look → Progress → Run = λ ls q. record { call = run.call; looks = ls; progress = q } in
        let looks : looks_after k ≡ looks_after (suc k) =
        sym (looks_next k p at ∙ ap (λ (ms : List Mark). looks_after k ++ looks_of current ms) none ∙ append-nil (looks_after k)) in
        let progress : turns_from P codes now (Continues s) k ≡ one_turn_more P codes now (turns_from P codes now (Continues s) k) =
        at ∙ sym same ∙ ap (one_turn_more P codes now) (sym at) in
        ap (λ ls. with ls (turns_from P codes now (Continues s) k)) looks ∙ ap (with (looks_after (suc k))) progress

    step : (k : ℕ) → suc k ≤ m → one_turn P codes current (way k) ≡ way (suc k)
    unfolding way turns_from one_turn_more next_marks
    step k within = by (turns_from P codes now (Continues s) k) refl
      where
        by : (p : Progress) → turns_from P codes now (Continues s) k ≡ p → one_turn P codes current (way k) ≡ way (suc k)
        by (Continues u) at =
            let counted : u.turns ≡ k + s.turns = turns_counted P codes now s u k at in
            let before : u.turns < run.call.limit = omega arith in
            let made : version_turn P codes (slice_get (looks_after (suc k)) u.entries) u ≡ one_turn_more P codes now (turns_from P codes now (Continues s) k) =
            same_turn k within u at (turn_uses P codes current u) ∙ ap (one_turn_more P codes now) (sym at) in
            goes P codes current (way k) u at before
            ∙ sym (turned_same P codes current (way k) u (looks_after (suc k)) _ (looks_next k (Continues u) at) made)
        by (Finishes end u) at = is_over P codes current (way k) end u at ∙ stays k (Finishes end u) at refl refl
        by Undefined at = is_lost P codes current (way k) at ∙ stays k Undefined at refl refl

    ways : (k : ℕ) → k ≤ m → turns P codes current k run ≡ way k
    unfolding turns turns_from marks_from looks_of way looks_after
    ways zero within =
        let with : List Look → Progress → Run = λ ls q. record { call = run.call; looks = ls; progress = q } in
        ap (λ ls. with ls run.progress) (sym (append-nil run.looks)) ∙ ap (with (run.looks ++ [])) starts
    ways (suc k) within = ap (one_turn P codes current) (ways k (omega arith)) ∙ step k within

    -- so many turns, where the engine has made as many, or as many as there were to the end
    pub turns_way : (progress : Progress) → turns_from P codes now (Continues s) m ≡ progress
        → turns P codes current m run ≡ record { call = run.call; looks = now; progress = progress }
    unfolding way looks_after
    turns_way progress made =
        let with : List Look → Progress → Run = λ ls q. record { call = run.call; looks = ls; progress = q } in
        ways m (omega arith) ∙ ap (λ ls. with ls (turns_from P codes now (Continues s) m)) (sym whole) ∙ ap (with now) made

    -- and then it has used all its looks
    pub used_whole_way : (progress : Progress) → turns_from P codes now (Continues s) m ≡ progress → AllUsed progress now
    unfolding looks_after
    used_whole_way progress made =
        subst (λ (p : Progress). AllUsed p now) made
        (subst (λ (ls : List Look). AllUsed (turns_from P codes now (Continues s) m) ls) (sym whole) (all_used m used))

-- further turns of a run that makes none
pub turns_rest : (P : Program) (codes : Codes) (current : List ℕ) (m n : ℕ) (run : Run) → m ≤ n
    → (m < n → one_turn P codes current (turns P codes current m run) ≡ turns P codes current m run)
    → turns P codes current n run ≡ turns P codes current m run
unfolding turns
turns_rest P codes current m n run within rests =
    let all : n - m + m ≡ n = omega arith in
    ap (λ (k : ℕ). turns P codes current k run) (sym all) ∙ more (n - m) (omega arith)
  where
    more : (j : ℕ) → j ≤ n - m → turns P codes current (j + m) run ≡ turns P codes current m run
    more zero few = let e : 0 + m ≡ m = omega arith in ap (λ (k : ℕ). turns P codes current k run) e
    more (suc j) few =
        let e : suc j + m ≡ suc (j + m) = omega arith in
        ap (λ (k : ℕ). turns P codes current k run) e ∙ ap (one_turn P codes current) (more j (omega arith)) ∙ rests (omega arith)
