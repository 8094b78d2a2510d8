-- A start fits its program, a turn keeps that, and a configuration that fits takes its turn.
use Rattle.std.proofs.Common.{◌≡◌, ◌≢◌, ◌∙◌, sym, ap, subst, refl, ◌-◌, ◌<◌, List, [], ◌∷◌, length, reverse, Option, Some, None, Result, Ok, Err, IfOk, OnErr}
use Rattle.std.proofs.Common.{Bool, true, false, All, ℤ, pos, if◌then◌else◌, arith, length-append, ⊎_elim}
use Rattle.std.proofs.lemmas.Option.{slice_get_cases}
use Rattle.std.specs.Prelude.{slice_get, slice_set, ⊤}
use Rattle.std.specs.Option.{option_and_then, option_map}
use Rattle.std.specs.Ordering.{int_eq}
use Rattle.std.proofs.lemmas.List.Elements.{All-nil, All-cons, All-head, All-tail}
use Rattle.std.proofs.lemmas.List.{length-set, length-replicate, length-map, reverse-reverse}
use Rattle.cj_ir.specs.Values.{operand_value, expr_value}
use Rattle.cj_ir.specs.WellFormed.{IsWellFormed, IsFunctionFine, IsInstrFine, IsFineIn, Takes}
use Rattle.cj_ir.specs.Program.{function_at, instr_at, regs_of, labels_of, reg_count, label_count}
use Rattle.cj_ir.specs.declared.memory.NoMemory.{NoMemory}
use Rattle.cj_ir.specs.declared.language.FunId.{FunId}
use Rattle.cj_ir.specs.declared.language.Label.{Label}
use Rattle.cj_ir.specs.declared.language.Line.{Line}
use Rattle.cj_ir.specs.declared.language.Function.{Function}
use Rattle.cj_ir.specs.declared.language.Program.{Program}
use Rattle.cj_ir.specs.declared.language.Instr.{Instr}
use Rattle.cj_ir.specs.declared.language.Instr.TheVariants.{Nop, Op, Cond, Call, Return, Print, Load, Store, Fail}
use Rattle.cj_base.specs.declared.machine.Frame.{Frame}
use Rattle.cj_base.specs.declared.machine.Waiting.{Waiting}
use Rattle.cj_base.specs.declared.machine.Config as code
use Rattle.cj_base.specs.declared.machine.Turned.{Turned}
use Rattle.cj_base.specs.declared.machine.Turned.TheVariants.{Ended}
use Rattle.cj_base.specs.declared.machine.End.TheVariants.{TurnLimit}
use Rattle.cj_base.specs.Machine.{Stack, Config, config_of, Fault, FailedAt, BadAddress, ZeroDivisor, Effect, On, Calls, Returns, Faults, with_value, cell}
use Rattle.cj_base.specs.Machine.{with_cell, branch, op_effect, load_effect, store_effect, effect, Outcome, Goes, Ends, Stuck, end_of, entry_regs, entry_frame}
use Rattle.cj_base.specs.Machine.{waits, resumed, give, turn_by, turn_at, base_turn}
use Rattle.cj_base.specs.Turning.{Makes, answer_of, config_after}
use Rattle.cj_base.specs.Run.{Begun, start_of}
use Rattle.cj_base.specs.Fits.{IsFrameOf, IsWaitingOf, StackFits, Fits, FitsAfter}
use Rattle.cj_ir.proofs.ListReads.{all_at}
use Rattle.cj_base.proofs.Lists.{All-reverse}

-- an instruction of a well-formed program names only what exists
module _ (P : Program) (formed : IsWellFormed P) where
  in_line : (f : Function) (o : Option Line) (l : Label) (i : Instr) → IsFunctionFine P.functions f → slice_get f.code l.0 ≡ o →
      option_map (λ line. line.instr) o ≡ Some i → IsInstrFine P.functions (length f.regs) (length f.code) i
  in_line f None l i fine at e = cc
  in_line f (Some line) l i fine at e =
      let one = all_at (λ (x : Line). IsInstrFine P.functions (length f.regs) (length f.code) x.instr) f.code l.0 line fine.instructions at in
      let same : line.instr ≡ i = cc in
      subst (λ x. IsInstrFine P.functions (length f.regs) (length f.code) x) same one

  in_function : (f : FunId) (o : Option Function) (l : Label) (i : Instr) → slice_get P.functions f.0 ≡ o →
      option_map (λ line. line.instr) (option_and_then (λ g. slice_get g.code l.0) o) ≡ Some i → IsInstrFine P.functions (regs_of o) (labels_of o) i
  in_function f None l i at e = cc
  in_function f (Some g) l i at e =
      in_line g (slice_get g.code l.0) l i (all_at (IsFunctionFine P.functions) P.functions f.0 g formed.functions at) refl e

  pub fine_at : (f : FunId) (l : Label) (i : Instr) → instr_at P f l ≡ Some i → IsInstrFine P.functions (reg_count P f) (label_count P f) i
  fine_at f l i e = in_function f (function_at P f) l i refl e

pub label_at_top : (P : Program) (c : code.Config) → Fits P (config_of c) → c.top.label.0 < label_count P c.top.function
unfolding config_of
label_at_top P c fits = fits.top.label_within

pub instr_fine : (P : Program) (c : code.Config) (i : Instr) → Fits P (config_of c) → IsFineIn P c.top.function i →
    IsInstrFine P.functions (length c.top.regs) (label_count P c.top.function) i
unfolding config_of
instr_fine P c i fits fine =
    subst (λ n. IsInstrFine P.functions n (label_count P c.top.function) i) (sym fits.top.all_regs) fine

dest_within_regs : (P : Program) (w : Waiting) → IsWaitingOf P w → w.dest.0 < length w.regs
dest_within_regs P w h = rw h.frame.all_regs h.dest_within

all_dests : (P : Program) (ws : List Waiting) → All (IsWaitingOf P) ws → All (λ w. w.dest.0 < length w.regs) ws
all_dests P [] all = All-nil (λ (w : Waiting). w.dest.0 < length w.regs)
all_dests P (w ∷ ws) all = All-cons (λ (w : Waiting). w.dest.0 < length w.regs) w ws (dest_within_regs P w (All-head (IsWaitingOf P) w ws all))
    (all_dests P ws (All-tail (IsWaitingOf P) w ws all))

pub waiting_dests : (P : Program) (c : code.Config) → Fits P (config_of c) → All (λ w. w.dest.0 < length w.regs) c.waiting
unfolding config_of
waiting_dests P c fits =
    let back : All (IsWaitingOf P) (reverse (reverse c.waiting)) = All-reverse (IsWaitingOf P) (reverse c.waiting) fits.waiting in
    all_dests P c.waiting (rw (reverse-reverse c.waiting) at back)

-- What an effect leaves behind, in a frame: places that exist, and all registers.
abbrev pub Leads : Program → FunId → Effect → Type 0
Leads P f (On next regs m printed) = (next.0 < label_count P f) × (length regs ≡ reg_count P f)
Leads P f (Calls dest callee args next) =
    (dest.0 < reg_count P f) × Takes P.functions callee (length args) × (next.0 < label_count P f)
Leads P f (Returns v) = ⊤
Leads P f (Faults fault) = ⊤

value_leads : (P : Program) (f : FunId) (o : Option ℤ) (fault : Fault) (go : ℤ → Effect) → ((v : ℤ) → Leads P f (go v)) → Leads P f (with_value o fault go)
unfolding with_value
value_leads P f None fault go h = tt
value_leads P f (Some v) fault go h = h v

branch_leads : (P : Program) (f : FunId) (b : Bool) (l k : Label) → l.0 < label_count P f → k.0 < label_count P f → (if b then l else k).0 < label_count P f
branch_leads P f true l k h h' = h
branch_leads P f false l k h h' = h'

pub effect_leads : (P : Program) (fr : Frame) (m : List ℤ) (i : Instr) → length fr.regs ≡ reg_count P fr.function →
    IsInstrFine P.functions (reg_count P fr.function) (label_count P fr.function) i → Leads P fr.function (effect i fr m)
unfolding effect op_effect load_effect store_effect branch
effect_leads P fr m (Nop next) all fine = (fine, all)
effect_leads P fr m (Op dest e next) all fine =
    value_leads P fr.function (expr_value fr.regs e) ZeroDivisor (λ v. On next (slice_set fr.regs dest.0 v) m [])
    (λ v. (fine.2, length-set fr.regs dest.0 v ∙ all))
effect_leads P fr m (Cond test a b) all fine =
    (branch_leads P fr.function (int_eq (operand_value fr.regs test) (pos 0)) b a fine.2 fine.1, all)
effect_leads P fr m (Call dest f args next) all fine =
    (fine.0, subst (λ n. Takes P.functions f n) (sym (length-map args (operand_value fr.regs))) fine.1, fine.3)
effect_leads P fr m (Return v) all fine = tt
effect_leads P fr m (Print v next) all fine = (fine.1, all)
effect_leads P fr m (Load dest a next) all fine =
    value_leads P fr.function (cell m (operand_value fr.regs a)) (BadAddress (operand_value fr.regs a)) (λ v. On next (slice_set fr.regs dest.0 v) m [])
    (λ v. (fine.2, length-set fr.regs dest.0 v ∙ all))
effect_leads P fr m (Store a v next) all fine =
    value_leads P fr.function (cell m (operand_value fr.regs a)) (BadAddress (operand_value fr.regs a))
    (λ w. On next fr.regs (with_cell m (operand_value fr.regs a) (operand_value fr.regs v)) []) (λ w. (fine.2, all))
effect_leads P fr m (Fail text) all fine = tt

-- the entry frame of a function that takes so many arguments
pub entry_fits : (P : Program) (f : FunId) (args : List ℤ) → IsWellFormed P → Takes P.functions f (length args) →
    IsFrameOf P f (record { 0 = 0 }) (entry_frame P f args).regs
unfolding entry_frame entry_regs
entry_fits P f args formed takes =
    let callee = takes.0 in
    let fine = all_at (IsFunctionFine P.functions) P.functions f.0 callee formed.functions takes.1 in
    let labels : label_count P f ≡ length callee.code = ap labels_of takes.1 in
    let regs : reg_count P f ≡ length callee.regs = ap regs_of takes.1 in
    let entry = fine.has_entry in
    let room = fine.params_are_registers in
    let params = takes.2 in
    let zeros = length-replicate (reg_count P f - length args) (pos 0) in
    record {
      label_within = omega arith;
      all_regs = simp length-append (omega arith);
    }

pub start_fits : (P : Program) (call : Begun) → IsWellFormed P → Takes P.functions call.function (length call.args) → Fits P (start_of P call)
unfolding start_of entry_frame
start_fits P call formed takes = record {
  top = entry_fits P call.function call.args formed takes;
  waiting = All-nil (IsWaitingOf P);
}

give_fits : (P : Program) (v : ℤ) (ws : List Waiting) (m : List ℤ) → All (IsWaitingOf P) ws → FitsAfter P (give v ws m)
unfolding give resumed
give_fits P v [] m all = tt
give_fits P v (w ∷ ws) m all =
    let one = All-head (IsWaitingOf P) w ws all in
    record {
      top = record {
        label_within = one.frame.label_within;
        all_regs = length-set w.regs w.dest.0 v ∙ one.frame.all_regs;
      };
      waiting = All-tail (IsWaitingOf P) w ws all;
    }

pub by_fits : (P : Program) (e : Effect) (s : Stack) (m : List ℤ) → IsWellFormed P → StackFits P s → Leads P s.top.function e → FitsAfter P (turn_by P e s m)
unfolding turn_by entry_frame waits
by_fits P (On next regs m' printed) s m formed fits leads = record {
  top = record { label_within = leads.0; all_regs = leads.1 };
  waiting = fits.waiting;
}
by_fits P (Calls dest f args next) s m formed fits leads = record {
  top = entry_fits P f args formed leads.1;
  waiting = All-cons (IsWaitingOf P) (waits s.top next dest) s.waiting (record {
    frame = record { label_within = leads.2; all_regs = fits.top.all_regs };
    dest_within = leads.0;
  }) fits.waiting;
}
by_fits P (Returns v) s m formed fits leads = give_fits P v s.waiting m fits.waiting
by_fits P (Faults fault) s m formed fits leads = tt

-- there is an instruction at each label
found_line : (f : Function) (l : Label) → l.0 < length f.code → (i : Instr) × (option_map (λ line. line.instr) (slice_get f.code l.0) ≡ Some i)
found_line f l within =
    ⊎_elim
    (λ some. (some.0.instr, ap (λ o. option_map (λ (line : Line). line.instr) o) some.2))
    (λ none. absurd (omega (arith, none.0)))
    (slice_get_cases f.code l.0).1

found_at : (P : Program) (f : FunId) (l : Label) (o : Option Function) → l.0 < labels_of o →
    (i : Instr) × (option_map (λ line. line.instr) (option_and_then (λ g. slice_get g.code l.0) o) ≡ Some i)
found_at P f l None within = absurd (omega arith)
found_at P f l (Some g) within = found_line g l within

pub instr_found : (P : Program) (f : FunId) (l : Label) → l.0 < label_count P f → (i : Instr) × (instr_at P f l ≡ Some i)
instr_found P f l within = found_at P f l (function_at P f) within

pub turn_is : (P : Program) (s : Stack) (m : List ℤ) (i : Instr) → instr_at P s.top.function s.top.label ≡ Some i →
    base_turn P s m ≡ turn_by P (effect i s.top m) s m
unfolding base_turn turn_at
turn_is P s m i at = ap (λ o. turn_at P o s m) at

-- a configuration that fits takes its turn, and fits after it
pub turn_fits : (P : Program) (s : Stack) (m : List ℤ) → IsWellFormed P → StackFits P s → FitsAfter P (base_turn P s m)
turn_fits P s m formed fits =
    let found = instr_found P s.top.function s.top.label fits.top.label_within in
    let fine = fine_at P formed s.top.function s.top.label found.0 found.1 in
    subst (FitsAfter P) (sym (turn_is P s m found.0 found.1))
    (by_fits P (effect found.0 s.top m) s m formed fits (effect_leads P s.top m found.0 fits.top.all_regs fine))

-- No turn ends a run by its limit.
abbrev pub EndsFreely : Outcome → Type 0
EndsFreely (Goes printed c) = ⊤
EndsFreely (Ends end) = end ≢ TurnLimit
EndsFreely Stuck = ⊤

give_freely : (v : ℤ) (ws : List Waiting) (m : List ℤ) → EndsFreely (give v ws m)
unfolding give
give_freely v [] m = λ e. cc
give_freely v (w ∷ ws) m = tt

pub fault_freely : (fault : Fault) → end_of fault ≢ TurnLimit
unfolding end_of
fault_freely (FailedAt f l) = λ e. cc
fault_freely (BadAddress a) = λ e. cc
fault_freely ZeroDivisor = λ e. cc

pub by_freely : (P : Program) (e : Effect) (s : Stack) (m : List ℤ) → EndsFreely (turn_by P e s m)
unfolding turn_by
by_freely P (On next regs m' printed) s m = tt
by_freely P (Calls dest f args next) s m = tt
by_freely P (Returns v) s m = give_freely v s.waiting m
by_freely P (Faults fault) s m = fault_freely fault

at_freely : (P : Program) (o : Option Instr) (s : Stack) (m : List ℤ) → EndsFreely (turn_at P o s m)
unfolding turn_at
at_freely P None s m = tt
at_freely P (Some i) s m = by_freely P (effect i s.top m) s m

pub turn_freely : (P : Program) (s : Stack) (m : List ℤ) → EndsFreely (base_turn P s m)
unfolding base_turn
turn_freely P s m = at_freely P (instr_at P s.top.function s.top.label) s m

-- What holds after a turn that was made, or not made for want of memory.

after_fits : (P : Program) (o : Outcome) (old : Config) → FitsAfter P o → Fits P old → Fits P (config_after o old)
after_fits P (Goes printed c) old after before = after
after_fits P (Ends end) old after before = before
after_fits P Stuck old after before = before

pub kept_fits : (P : Program) (o : Outcome) (old new : code.Config) (printed now_printed : List ℤ) (r : Result Turned NoMemory) →
    IfOk r (λ answer. Makes o answer (config_of old) (config_of new) printed now_printed) → OnErr r ((new ≡ old) × (now_printed ≡ printed)) → FitsAfter P o →
    Fits P (config_of old) → Fits P (config_of new)
kept_fits P o old new printed now_printed (Ok answer) made err after before = rw made.leaves (after_fits P o (config_of old) after before)
kept_fits P o old new printed now_printed (Err e) made err after before = rw err.0 before

answer_freely : (o : Outcome) (answer : Turned) → answer_of o ≡ Some answer → EndsFreely o → answer ≢ Ended TurnLimit
answer_freely (Goes printed c) answer is free = λ e. cc
answer_freely (Ends end) answer is free = λ e. free (let same : end ≡ TurnLimit = cc in same)
answer_freely Stuck answer is free = λ e. cc

pub made_freely : (o : Outcome) (old new : Config) (printed now_printed : List ℤ) (r : Result Turned NoMemory) →
    IfOk r (λ answer. Makes o answer old new printed now_printed) → EndsFreely o → IfOk r (λ answer. answer ≢ Ended TurnLimit)
made_freely o old new printed now_printed (Ok answer) made free = answer_freely o answer made.answers free
made_freely o old new printed now_printed (Err e) made free = tt
