-- The first frames of a stack, and the turns of a run by the turns of its first frames.
use Rattle.std.proofs.Common.{◌≡◌, ◌∙◌, sym, ap, subst, refl, ℕ, ◌+◌, List, [], ◌∷◌, ◌++◌, Option, Some, None, ℤ, append-nil}
use Rattle.std.specs.Prelude.{⊤}
use Rattle.cj_ir.specs.Program.{instr_at}
use Rattle.cj_ir.specs.declared.language.Program.{Program}
use Rattle.cj_ir.specs.declared.language.Instr.{Instr}
use Rattle.cj_base.specs.declared.machine.Waiting.{Waiting}
use Rattle.cj_base.specs.declared.machine.End.TheVariants.{Returned, Failed, Address, Divide, TurnLimit}
use Rattle.cj_base.specs.Machine.{Stack, over, Fault, FailedAt, BadAddress, ZeroDivisor, Effect, On, Calls, Returns, Faults, effect, Outcome, Goes, Ends, Stuck}
use Rattle.cj_base.specs.Machine.{end_of, give, turn_by, turn_at, base_turn}
use Rattle.cj_base.specs.Same.{Same}
use Rattle.cj_base.specs.Run.{Begun, start_of, Going, Over, ran, base_run, RunAt, EndStands, IsSilent, SilentAt}
use Rattle.cj_base.proofs.SameLaws.{same_refl, same_trans, same_over, same_instr, same_turn, SameOutcome}
use Rattle.cj_base.proofs.RunLemmas.{run_next}

-- the outcome of a turn of the first frames, with further waiting frames below
abbrev pub lift : List Waiting → List ℤ → Outcome → Outcome
lift below m (Goes printed c) = Goes printed (record { stack = over c.stack below; memory = c.memory })
lift below m (Ends (Returned v)) = give v below m
lift below m (Ends (Failed f l)) = Ends (Failed f l)
lift below m (Ends (Address a)) = Ends (Address a)
lift below m (Ends Divide) = Ends Divide
lift below m (Ends TurnLimit) = Ends TurnLimit
lift below m Stuck = Stuck

give_over : (v : ℤ) (ws below : List Waiting) (m : List ℤ) → give v (ws ++ below) m ≡ lift below m (give v ws m)
unfolding give over
give_over v [] below m = refl
give_over v (w ∷ ws) below m = refl

-- a fault is the same with further frames below
pub lift_fault : (fault : Fault) (below : List Waiting) (m : List ℤ) → lift below m (Ends (end_of fault)) ≡ Ends (end_of fault)
unfolding end_of
lift_fault (FailedAt f l) below m = refl
lift_fault (BadAddress a) below m = refl
lift_fault ZeroDivisor below m = refl

pub by_over : (P : Program) (e : Effect) (s : Stack) (below : List Waiting) (m : List ℤ) → turn_by P e (over s below) m ≡ lift below m (turn_by P e s m)
unfolding turn_by over
by_over P (On next regs m' printed) s below m = refl
by_over P (Calls dest f args next) s below m = refl
by_over P (Returns v) s below m = give_over v s.waiting below m
by_over P (Faults fault) s below m = sym (lift_fault fault below m)

at_over : (P : Program) (o : Option Instr) (s : Stack) (below : List Waiting) (m : List ℤ) → turn_at P o (over s below) m ≡ lift below m (turn_at P o s m)
unfolding turn_at over
at_over P None s below m = refl
at_over P (Some instr) s below m = by_over P (effect instr s.top m) s below m

-- a turn of the first frames is a turn of every stack that begins with them
pub turn_over : (P : Program) (s : Stack) (below : List Waiting) (m : List ℤ) → base_turn P (over s below) m ≡ lift below m (base_turn P s m)
unfolding base_turn over
turn_over P s below m = at_over P (instr_at P s.top.function s.top.label) s below m

pub over_nil : (s : Stack) → over s [] ≡ s
unfolding over
over_nil s = ap (λ (ws : List Waiting). record { top = s.top; waiting = ws }) (append-nil s.waiting)

-- The run after a turn with this outcome.
abbrev pub After : Program → Begun → ℕ → List ℤ → Outcome → Type 0
After P call n printed (Goes more c) = RunAt P call n (printed ++ more) c.stack c.memory
After P call n printed (Ends end) = EndStands P call n printed end
After P call n printed Stuck = ⊤

after_same : (P : Program) (call : Begun) (n : ℕ) (printed : List ℤ) (o q : Outcome) → base_run P call n ≡ ran printed n o → SameOutcome P o q →
    After P call n printed q
unfolding ran
after_same P call n printed (Goes p c) (Goes q d) h s = record {
  found = c.stack;
  run = h ∙ ap (λ x. Going (printed ++ x) c) s.0 ∙ ap (λ m. Going (printed ++ q) (record { stack = c.stack; memory = m })) s.2;
  same = s.1;
}
after_same P call n printed (Goes p c) (Ends e) h s = absurd s
after_same P call n printed (Goes p c) Stuck h s = tt
after_same P call n printed (Ends e) (Goes q d) h s = absurd s
after_same P call n printed (Ends e) (Ends f) h s = h ∙ ap (λ x. Over printed x n) s
after_same P call n printed (Ends e) Stuck h s = tt
after_same P call n printed Stuck (Goes q d) h s = absurd s
after_same P call n printed Stuck (Ends f) h s = absurd s
after_same P call n printed Stuck Stuck h s = tt

-- the run after one turn more, from the turn of its first frames
pub run_segment : (P : Program) (call : Begun) (n : ℕ) (printed : List ℤ) (s : Stack) (below : List Waiting) (m : List ℤ) (o : Outcome) →
    RunAt P call n printed (over s below) m → base_turn P s m ≡ o → After P call (n + 1) printed (lift below m o)
run_segment P call n printed s below m o h t =
    let e = turn_over P s below m ∙ ap (lift below m) t in
    let next = run_next P call n printed (record { stack = h.found; memory = m }) h.run in
    subst (After P call (n + 1) printed) e
    (after_same P call (n + 1) printed (base_turn P h.found m) (base_turn P (over s below) m) next (same_turn P h.found (over s below) m h.same))

-- a run that goes on from one stack goes on from the same one
pub run_same : (P : Program) (call : Begun) (n : ℕ) (printed : List ℤ) (a b : Stack) (below : List Waiting) (m : List ℤ) →
    RunAt P call n printed (over a below) m → Same P a b → RunAt P call n printed (over b below) m
run_same P call n printed a b below m h s = record {
  found = h.found;
  run = h.run;
  same = same_trans P h.found (over a below) (over b below) h.same (same_over P a b below s);
}

-- a run begins at its start
pub run_begins : (P : Program) (call : Begun) → RunAt P call 0 [] (start_of P call).stack call.memory
unfolding base_run start_of
run_begins P call = record {
  found = (start_of P call).stack;
  run = refl;
  same = same_refl P (start_of P call).stack;
}

-- where a silent instruction stands at the top of the stack, the run is at a silent turn
pub run_silent : (P : Program) (call : Begun) (n : ℕ) (printed : List ℤ) (s : Stack) (m : List ℤ) → RunAt P call n printed s m →
    IsSilent (instr_at P s.top.function s.top.label) → SilentAt P (base_run P call n)
run_silent P call n printed s m h silent =
    subst (SilentAt P) (sym h.run) (subst IsSilent (sym (same_instr P h.found s h.same)) silent)
