-- What a callee names, it names in its caller: the registers follow the caller's n, and the labels its k.
use Rattle.std.proofs.Common.{◌≡◌, ℕ, ◌+◌, ◌-◌, ◌<◌, List, [], ◌∷◌, ◌++◌, length, map, refl, sym, ap, ◌∙◌, subst, arith, ⊎_elim}
use Rattle.std.specs.Prelude.{All, slice_index_or, get_or}
use Rattle.std.specs.List.Sorted.{IsStrictlyIncreasing}
use Rattle.std.proofs.lemmas.Bool.{cases_lt}
use Rattle.std.proofs.lemmas.List.{length-append, length-map, get_or-map, get_or_append_left, get_or-append-add}
use Rattle.std.proofs.lemmas.List.Elements.{All-weaker, All-map, All-append}
use Rattle.cj_ir.specs.Values.{IsOperandWithin}
use Rattle.cj_ir.specs.declared.language.Reg.{Reg}
use Rattle.cj_ir.specs.declared.language.Program.{Program}
use Rattle.cj_ir.specs.declared.language.Operand.{Operand}
use Rattle.cj_ir.specs.declared.language.Operand.TheVariants as operand
use Rattle.cj_ir.specs.declared.language.Guard.{Guard}
use Rattle.cj_ir.specs.declared.language.Guard.TheVariants.{Is, Never}
use Rattle.cj_draft.specs.declared.points.PointFrame.{PointFrame}
use Rattle.cj_draft.specs.declared.facts.Fact.{Fact}
use Rattle.cj_draft.specs.declared.facts.Facts.{Facts}
use Rattle.cj_draft.specs.declared.facts.Facts.TheVariants.{Unreached, Known}
use Rattle.cj_draft.specs.declared.instructions.Pair.{Pair}
use Rattle.cj_draft.specs.WellNamed.{IsPointFrameFine, IsGuardWithin, ArePairsFine, AreFactsFine, HasFineFacts}
use Rattle.cj_draft.specs.Inlining.{shift_reg, shift_operand, shift_guard, shift_pair, shift_frame, shift_fact, joined_facts}

module _ (n r : ℕ) where
  pub operand_shifted : (o : Operand) → IsOperandWithin r o → IsOperandWithin (n + r) (shift_operand n o)
  unfolding shift_operand shift_reg
  operand_shifted (operand.Reg x) h = omega arith
  operand_shifted (operand.Const v) h = h

  pub operands_shifted : (os : List Operand) → All (IsOperandWithin r) os → All (IsOperandWithin (n + r)) (map (shift_operand n) os)
  operands_shifted os h =
      All-map (IsOperandWithin (n + r)) (shift_operand n) os
      (All-weaker (IsOperandWithin r) (λ o. IsOperandWithin (n + r) (shift_operand n o)) operand_shifted os h)

  guard_shifted : (g : Guard) → IsGuardWithin r g → IsGuardWithin (n + r) (shift_guard n g)
  unfolding shift_guard shift_reg
  guard_shifted (Is x v) h = omega arith
  guard_shifted Never h = h

  pub guards_shifted : (gs : List Guard) → All (IsGuardWithin r) gs → All (IsGuardWithin (n + r)) (map (shift_guard n) gs)
  guards_shifted gs h =
      All-map (IsGuardWithin (n + r)) (shift_guard n) gs
      (All-weaker (IsGuardWithin r) (λ g. IsGuardWithin (n + r) (shift_guard n g)) guard_shifted gs h)

  reg_back : (x y : Reg) → shift_reg n x ≡ shift_reg n y → x ≡ y
  unfolding shift_reg
  reg_back x y e =
      let same : n + x.0 ≡ n + y.0 = ap (λ (z : Reg). z.0) e in
      let is : x.0 ≡ y.0 = omega arith in
      ap reg is
    where
      reg : ℕ → Reg
      reg k = record { 0 = k }

  pub pairs_shifted : (ps : List Pair) → ArePairsFine r ps → ArePairsFine (n + r) (map (shift_pair n) ps)
  unfolding shift_pair shift_reg
  pairs_shifted ps h = record {
    dests = All-map (λ (p : Pair). p.dest.0 < n + r) (shift_pair n) ps
        (All-weaker (λ (p : Pair). p.dest.0 < r) (λ (p : Pair). n + p.dest.0 < n + r) (λ p lt. omega arith) ps h.dests);
    differ = λ i j d lt within.
        let last : j < length ps = omega (arith, length-map ps (shift_pair n)) in
        let first : i < length ps = omega arith in
        λ e. h.differ i j d lt last (reg_back (slice_index_or ps i d).dest (slice_index_or ps j d).dest
        (sym (ap (λ (p : Pair). p.dest) (get_or-map (shift_pair n) ps i d d first)) ∙ e ∙ ap (λ (p : Pair). p.dest) (get_or-map (shift_pair n) ps j d d last)));
    operands = All-map (λ (p : Pair). IsOperandWithin (n + r) p.value) (shift_pair n) ps
        (All-weaker (λ (p : Pair). IsOperandWithin r p.value) (λ (p : Pair). IsOperandWithin (n + r) (shift_operand n p.value))
        (λ p. operand_shifted p.value) ps h.operands);
  }

  frame_shifted : (P : Program) (f : PointFrame) → IsPointFrameFine P r f → IsPointFrameFine P (n + r) (shift_frame n f)
  unfolding shift_frame
  frame_shifted P f h = record {
    label_within = h.label_within;
    whole_map = length-map f.map (shift_operand n) ∙ h.whole_map;
    operands = operands_shifted f.map h.operands;
  }

  pub frames_shifted : (P : Program) (fs : List PointFrame) → All (IsPointFrameFine P r) fs → All (IsPointFrameFine P (n + r)) (map (shift_frame n) fs)
  frames_shifted P fs h =
      All-map (IsPointFrameFine P (n + r)) (shift_frame n) fs
      (All-weaker (IsPointFrameFine P r) (λ f. IsPointFrameFine P (n + r) (shift_frame n f)) (frame_shifted P) fs h)

-- ---- facts

-- numbers below n, and then others n further on
increasing_joined : (n : ℕ) (xs ys : List ℕ) → All (λ x. x < n) xs → IsStrictlyIncreasing xs → IsStrictlyIncreasing ys →
    IsStrictlyIncreasing (xs ++ map (λ y. n + y) ys)
increasing_joined n xs ys below up more k lt =
    let all : length (xs ++ map (λ y. n + y) ys) ≡ length xs + length ys = length-append xs (map (λ y. n + y) ys)
    ∙ ap (λ z. length xs + z) (length-map ys (λ y. n + y)) in
    ⊎_elim
    (λ inside.
    let here = get_or_append_left xs (map (λ y. n + y) ys) 0 k (omega arith) in
    let next = get_or_append_left xs (map (λ y. n + y) ys) 0 (k + 1) inside in
    omega (arith, here, next, up k inside))
    (λ past. ⊎_elim
    (λ last.
    let here = get_or_append_left xs (map (λ y. n + y) ys) 0 k last in
    let next = after 0 (k + 1) (omega arith) (omega arith) in
    omega (arith, here, next, below k 0 last))
    (λ out.
    let here = after (k - length xs) k (omega arith) (omega arith) in
    let next = after (k - length xs + 1) (k + 1) (omega arith) (omega arith) in
    omega (arith, here, next, more (k - length xs) (omega arith)))
    (cases_lt k (length xs)))
    (cases_lt (k + 1) (length xs))
  where
    after : (i j : ℕ) → j ≡ length xs + i → i < length ys → get_or (xs ++ map (λ y. n + y) ys) j 0 ≡ n + get_or ys i 0
    after i j e h =
        ap (λ z. get_or (xs ++ map (λ y. n + y) ys) z 0) e ∙ get_or-append-add xs (map (λ y. n + y) ys) i 0
        ∙ get_or-map (λ y. n + y) ys i 0 0 h

numbers : List Fact → List ℕ
numbers facts = map (λ x. x.reg.0) facts

numbers_joined : (n : ℕ) (facts own : List Fact) → numbers (facts ++ map (shift_fact n) own) ≡ numbers facts ++ map (λ y. n + y) (numbers own)
unfolding numbers shift_fact shift_reg
numbers_joined n [] [] = refl
numbers_joined n [] (x ∷ own) = ap (λ z. (n + x.reg.0) ∷ z) (numbers_joined n [] own)
numbers_joined n (x ∷ facts) own = ap (λ z. x.reg.0 ∷ z) (numbers_joined n facts own)

below_all : (n : ℕ) (facts : List Fact) → All (λ x. x.reg.0 < n) facts → All (λ x. x < n) (numbers facts)
unfolding numbers
below_all n facts h = All-map (λ x. x < n) (λ (x : Fact). x.reg.0) facts h

facts_appended : (n r : ℕ) (facts own : List Fact) → AreFactsFine n facts → AreFactsFine r own → AreFactsFine (n + r) (facts ++ map (shift_fact n) own)
unfolding numbers shift_fact shift_reg
facts_appended n r facts own h g = record {
  registers = All-append (λ x. x.reg.0 < n + r) facts (map (shift_fact n) own)
      (All-weaker (λ x. x.reg.0 < n) (λ x. x.reg.0 < n + r) (λ x lt. omega arith) facts h.registers)
      (All-map (λ x. x.reg.0 < n + r) (shift_fact n) own (All-weaker (λ x. x.reg.0 < r) (λ x. n + x.reg.0 < n + r) (λ x lt. omega arith) own g.registers));
  increasing = subst IsStrictlyIncreasing (sym (numbers_joined n facts own))
      (increasing_joined n (numbers facts) (numbers own) (below_all n facts h.registers) h.increasing g.increasing);
}

pub facts_joined : (n r : ℕ) (facts own : Facts) → HasFineFacts n facts → HasFineFacts r own → HasFineFacts (n + r) (joined_facts n facts own)
unfolding joined_facts
facts_joined n r Unreached own h g = tt
facts_joined n r (Known facts) Unreached h g = tt
facts_joined n r (Known facts) (Known own) h g = facts_appended n r facts own h g
