-- The parts of inlining: the call that goes, the move that enters the callee, the frames that are appended, and the facts.
use Rattle.std.proofs.Common.{◌≡◌, ℕ, zero, suc, ◌+◌, ◌-◌, ◌<◌, ◌≤◌, List, [], ◌∷◌, ◌++◌, length, map, replicate, Option, Some, None, refl, sym, ap, ap₂, ◌∙◌}
use Rattle.std.proofs.Common.{subst, arith}
use Rattle.std.specs.Prelude.{ℤ, pos, All, ◌↔◌, IsSomeAnd}
use Rattle.std.proofs.lemmas.List.{length-append, set_at, append_assoc}
use Rattle.std.proofs.lemmas.List.Elements.{All-head, All-tail, All-append}
use Rattle.cj_ir.specs.Values.{register, operand_value, IsOperandWithin}
use Rattle.cj_ir.specs.WellFormed.{Takes}
use Rattle.cj_ir.specs.Program.{instr_at}
use Rattle.cj_ir.specs.declared.language.FunId.{FunId}
use Rattle.cj_ir.specs.declared.language.Program.{Program}
use Rattle.cj_ir.specs.declared.language.Operand.{Operand}
use Rattle.cj_ir.specs.declared.language.Instr.{Instr}
use Rattle.cj_ir.specs.declared.language.Instr.TheVariants.{Nop, Op, Cond, Call, Return, Print, Load, Store, Fail}
use Rattle.cj_base.specs.declared.machine.Waiting.{Waiting}
use Rattle.cj_base.specs.Machine.{Stack, over, Goes, effect, give, entry_regs, entry_frame, waits, turn_by, turn_at, base_turn}
use Rattle.cj_draft.specs.declared.points.PointFrame.{PointFrame}
use Rattle.cj_draft.specs.declared.points.Point.{Point}
use Rattle.cj_draft.specs.declared.facts.Fact.{Fact}
use Rattle.cj_draft.specs.declared.facts.Facts.{Facts}
use Rattle.cj_draft.specs.declared.facts.Facts.TheVariants.{Unreached, Known}
use Rattle.cj_draft.specs.declared.code.Code.{Code}
use Rattle.cj_draft.specs.Points.{frame_regs, top_of, waiting_of, stack_of, frames_of}
use Rattle.cj_draft.specs.Effects.{moved}
use Rattle.cj_draft.specs.WellNamed.{IsPointFrameFine, IsPointFine, HasFineFacts, WellNamed}
use Rattle.cj_draft.specs.Arrives.{Satisfies, Allows, IsAtCall, left_by, left_waiting, returned_by, after_call}
use Rattle.cj_draft.specs.Inlining.{shift_reg, shift_fact, joined_facts, appended_by, appended_frames, entry_pairs}
use Rattle.cj_draft.proofs.Extend.{operands_left, waiting_left, satisfies_left, satisfies_right}
use Rattle.cj_draft.proofs.Inlined.{register_shift}
use Rattle.cj_draft.proofs.Lists.{All-left, All-right}

-- ---- arguments have registers

pub params_within : (P : Program) (code : Code) (n : ℕ) → WellNamed P code → Takes P.functions code.function n → n ≤ code.regs
params_within P code n named takes =
    let fits : takes.0.params ≤ code.regs = subst (λ o. IsSomeAnd o (λ f. f.params ≤ code.regs)) takes.1 named.params in
    let count = takes.2 in
    omega arith

-- ---- a call of the base body

-- the turn of a stack at a call
pub call_turn : (P : Program) (st : Stack) (f : FunId) (args : List ℤ) → IsAtCall P st f args → (m : List ℤ) →
    base_turn P st m ≡ Goes [] (record { stack = record { top = entry_frame P f args; waiting = left_waiting P st }; memory = m })
unfolding base_turn turn_at turn_by effect left_waiting left_by
call_turn P st f args c m =
    subst (λ i. turn_at P i st m ≡ Goes [] (record { stack = record { top = entry_frame P f args; waiting = left_by i st }; memory = m })) (sym c.at)
    (ap (λ xs. Goes [] (record { stack = record { top = entry_frame P f xs; waiting = waits st.top c.next c.dest ∷ st.waiting }; memory = m })) c.values)

-- a value that the called function returns
pub give_left : (P : Program) (st : Stack) (f : FunId) (args : List ℤ) → IsAtCall P st f args → (x : ℤ) (below : List Waiting) (m : List ℤ) →
    give x (left_waiting P st ++ below) m ≡ Goes [] (record { stack = over (after_call P st x) below; memory = m })
unfolding left_waiting left_by after_call returned_by over give
give_left P st f args c x below m =
    subst (λ i. give x (left_by i st ++ below) m ≡ Goes [] (record { stack = over (returned_by i st x) below; memory = m })) (sym c.at) refl

-- ---- the appended frames

appended_is_by : (P : Program) (a b : List ℤ) (f : PointFrame) (fs : List PointFrame) (o : Option Instr) → IsPointFrameFine P (length a) f →
    All (IsPointFrameFine P (length a)) fs → map (waiting_of P (a ++ b)) (appended_by o f fs)
    ≡ left_by o (record { top = top_of P a f; waiting = map (waiting_of P a) fs })
unfolding appended_by left_by waits top_of waiting_of frame_regs
appended_is_by P a b f fs (Some (Call d g args next)) one rest =
    ap₂ (λ x xs. record { function = f.function; label = next; regs = x; dest = d } ∷ xs) (operands_left a b f.map one.operands) (waiting_left P a b fs rest)
appended_is_by P a b f fs (Some (Nop n)) one rest = refl
appended_is_by P a b f fs (Some (Op d e n)) one rest = refl
appended_is_by P a b f fs (Some (Cond t x y)) one rest = refl
appended_is_by P a b f fs (Some (Return v)) one rest = refl
appended_is_by P a b f fs (Some (Print v n)) one rest = refl
appended_is_by P a b f fs (Some (Load d x n)) one rest = refl
appended_is_by P a b f fs (Some (Store x v n)) one rest = refl
appended_is_by P a b f fs (Some (Fail text)) one rest = refl
appended_is_by P a b f fs None one rest = refl

appended_of : (P : Program) (a b : List ℤ) (fs : List PointFrame) → 0 < length fs → All (IsPointFrameFine P (length a)) fs →
    map (waiting_of P (a ++ b)) (appended_frames P fs) ≡ left_waiting P (stack_of P fs a)
unfolding appended_frames left_waiting stack_of top_of
appended_of P a b [] some all = absurd (omega arith)
appended_of P a b (f ∷ fs) some all =
    appended_is_by P a b f fs (instr_at P f.function f.label) (All-head (IsPointFrameFine P (length a)) f fs all)
    (All-tail (IsPointFrameFine P (length a)) f fs all)

-- they are the frames that wait while the call of the point runs
pub appended_is : (P : Program) (a b : List ℤ) (p : Point) → IsPointFine P (length a) p → map (waiting_of P (a ++ b)) (appended_frames P p.frames)
    ≡ left_waiting P (frames_of P p a)
unfolding frames_of
appended_is P a b p fine = appended_of P a b p.frames fine.some_frame fine.frames

-- ---- the move that enters the callee

unfoldable entry_values : List Operand → ℕ → List ℤ → List ℤ
entry_values os zero regs = []
entry_values [] (suc n) regs = pos 0 ∷ entry_values [] n regs
entry_values (o ∷ os) (suc n) regs = operand_value regs o ∷ entry_values os n regs

push_seam : (front : List ℤ) (v : ℤ) (ys : List ℤ) → front ++ v ∷ [] ++ ys ≡ front ++ v ∷ ys
push_seam front v ys = append_assoc front (v ∷ []) ys

entry_moved : (os : List Operand) (regs front rest : List ℤ) → moved regs (entry_pairs (length front) os (length rest)) (front ++ rest) ≡ front
    ++ entry_values os (length rest) regs
unfolding moved entry_pairs entry_values
entry_moved os regs front [] = refl
entry_moved [] regs front (y ∷ ys) =
    let n : suc (length front) ≡ length (front ++ pos 0 ∷ []) = omega (arith, length-append front (pos 0 ∷ [])) in
    ap (λ z. moved regs (entry_pairs (suc (length front)) [] (length ys)) z) (set_at front y ys (pos 0) (length front) refl ∙ sym (push_seam front (pos 0) ys))
    ∙ ap (λ k. moved regs (entry_pairs k [] (length ys)) ((front ++ pos 0 ∷ []) ++ ys)) n
    ∙ entry_moved [] regs (front ++ pos 0 ∷ []) ys ∙ push_seam front (pos 0) (entry_values [] (length ys) regs)
entry_moved (o ∷ os) regs front (y ∷ ys) =
    let v = operand_value regs o in
    let n : suc (length front) ≡ length (front ++ operand_value regs o ∷ []) = omega (arith, length-append front (operand_value regs o ∷ [])) in
    ap (λ z. moved regs (entry_pairs (suc (length front)) os (length ys)) z) (set_at front y ys v (length front) refl ∙ sym (push_seam front v ys))
    ∙ ap (λ k. moved regs (entry_pairs k os (length ys)) ((front ++ v ∷ []) ++ ys)) n
    ∙ entry_moved os regs (front ++ v ∷ []) ys ∙ push_seam front v (entry_values os (length ys) regs)

zeros : ℕ → List ℤ
zeros n = replicate n (pos 0)

values_zero : (n : ℕ) (regs : List ℤ) → entry_values [] n regs ≡ zeros n
unfolding entry_values zeros
values_zero zero regs = refl
values_zero (suc n) regs = ap (λ z. pos 0 ∷ z) (values_zero n regs)

values_entry : (os : List Operand) (n : ℕ) (regs : List ℤ) → length os ≤ n → entry_values os n regs ≡ entry_regs n (map (operand_value regs) os)
unfolding entry_values entry_regs zeros
values_entry [] n regs h = let e : n ≡ n - 0 = omega arith in values_zero n regs ∙ ap zeros e
values_entry (o ∷ os) zero regs h = absurd (omega arith)
values_entry (o ∷ os) (suc n) regs h =
    let e : n - length (map (operand_value regs) os) ≡ suc n - suc (length (map (operand_value regs) os)) = omega arith in
    ap (λ z. operand_value regs o ∷ z) (values_entry os n regs (omega arith)) ∙ ap (λ k. operand_value regs o ∷ (map (operand_value regs) os ++ zeros k)) e

-- over a caller's registers and some for the callee, the latter become those of the callee's entry frame
pub entry_move_is : (os : List Operand) (a b : List ℤ) → length os ≤ length b → All (IsOperandWithin (length a)) os →
    moved (a ++ b) (entry_pairs (length a) os (length b)) (a ++ b) ≡ a ++ entry_regs (length b) (map (operand_value a) os)
entry_move_is os a b few within =
    entry_moved os (a ++ b) a b ∙ ap (λ z. a ++ z) (values_entry os (length b) (a ++ b) few ∙ ap (entry_regs (length b)) (operands_left a b os within))

zeros_join : (a b : ℕ) → zeros a ++ zeros b ≡ zeros (a + b)
unfolding zeros
zeros_join zero b = let e : b ≡ 0 + b = omega arith in ap zeros e
zeros_join (suc a) b = let e : suc (a + b) ≡ suc a + b = omega arith in ap (λ z. pos 0 ∷ z) (zeros_join a b) ∙ ap zeros e

-- an entry with more registers has more zeros
pub entry_grows : (r n : ℕ) (xs : List ℤ) → length xs ≤ r → entry_regs r xs ++ replicate n (pos 0) ≡ entry_regs (r + n) xs
unfolding entry_regs zeros
entry_grows r n xs h =
    let e : r - length xs + n ≡ r + n - length xs = omega arith in
    append_assoc xs (zeros (r - length xs)) (zeros n) ∙ ap (λ z. xs ++ z) (zeros_join (r - length xs) n) ∙ ap (λ j. xs ++ zeros j) e

-- ---- facts

satisfies_shifted : (a b : List ℤ) (own : List Fact) → Satisfies own b → Satisfies (map (shift_fact (length a)) own) (a ++ b)
unfolding shift_fact shift_reg
satisfies_shifted a b [] h k d lt = absurd (omega arith)
satisfies_shifted a b (x ∷ own) h zero d lt = register_shift a b x.reg.0 ∙ h 0 x (omega arith)
satisfies_shifted a b (x ∷ own) h (suc k) d lt = satisfies_shifted a b own (All-tail (λ y. register b y.reg.0 ≡ y.value) x own h) k d (omega arith)

shifted_satisfied : (a b : List ℤ) (own : List Fact) → Satisfies (map (shift_fact (length a)) own) (a ++ b) → Satisfies own b
unfolding shift_fact shift_reg
shifted_satisfied a b [] h k d lt = absurd (omega arith)
shifted_satisfied a b (x ∷ own) h zero d lt = sym (register_shift a b x.reg.0) ∙ h 0 (shift_fact (length a) x) (omega arith)
shifted_satisfied a b (x ∷ own) h (suc k) d lt =
    shifted_satisfied a b own (All-tail (λ y. register (a ++ b) y.reg.0 ≡ y.value) (shift_fact (length a) x) (map (shift_fact (length a)) own) h) k d
    (omega arith)

-- the joined facts allow what both allow
pub allows_joined : (a b : List ℤ) (facts own : Facts) → HasFineFacts (length a) facts → Allows (joined_facts (length a) facts own) (a ++ b)
    ↔ (Allows facts a × Allows own b)
unfolding joined_facts
allows_joined a b Unreached own fine = ((λ h. absurd h), (λ h. absurd h.0))
allows_joined a b (Known facts) Unreached fine = ((λ h. absurd h), (λ h. absurd h.1))
allows_joined a b (Known facts) (Known own) fine = (
  (λ h. (
    satisfies_right a b facts fine.registers (All-left (λ x. register (a ++ b) x.reg.0 ≡ x.value) facts (map (shift_fact (length a)) own) h),
    shifted_satisfied a b own (All-right (λ x. register (a ++ b) x.reg.0 ≡ x.value) facts (map (shift_fact (length a)) own) h),
  )),
  (λ h. All-append (λ x. register (a ++ b) x.reg.0 ≡ x.value) facts (map (shift_fact (length a)) own) (satisfies_left a b facts fine.registers h.0)
      (satisfies_shifted a b own h.1)),
)
