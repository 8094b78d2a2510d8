-- The formats of assignments and instructions.
use Rattle.std.proofs.Common.{◌≡◌, ℕ, ◌<◌, ◌≤◌, List, ◌∷◌, ◌++◌, length, refl, ap, subst}
use Rattle.std.specs.Prelude.{Some, All}
use Rattle.cj_ir.specs.Values.{IsOperandWithin}
use Rattle.cj_ir.specs.WellFormed.{AllDifferBy}
use Rattle.cj_draft.specs.WellNamed.{ArePairsFine, IsGuardWithin}
use Rattle.cj_draft.specs.declared.instructions.Pair.{Pair}
use Rattle.cj_draft.specs.declared.instructions.VInstr.{VInstr}
use Rattle.cj_draft.specs.declared.instructions.VInstr.TheVariants.{Nop, Op, Move, Cond, Call, Return, Print, Load, Store, Fail, Assume, Anchor}
use Rattle.cj_codec.specs.declared.reader.Limits.{Limits}
use Rattle.cj_spelling.specs.Spelling.{operand_words, guard_words, counted, point_words, pair_words, expr_words, instr_words}
use Rattle.cj_spelling.specs.Ranges.{IsInstrInRange}
use Rattle.cj_spelling.specs.Values.{HasOperandValue, HasPairValue, HasGuardValue, HasInstrValues}
use Rattle.cj_spelling.specs.Formats.{made, counted_at, at_most_at}
use Rattle.cj_codec.specs.Reading.{label_at, operand_at, guard_at, pair_of, pair_at, are_apart, pairs_at, op_at, move_at, cond_at, call_at, print_at, load_at}
use Rattle.cj_codec.specs.Reading.{store_at, fail_at, assume_at, instr_by, instr_at}
use Rattle.cj_spelling.proofs.Formats.{IsFormat, made_from, only_format, same_format, at_most_format, one_word, two_reads, two_spells, three_reads}
use Rattle.cj_spelling.proofs.Formats.{three_spells, four_reads, four_spells, counted_format, kind_from, by_kind, nothing_read, kinded}
use Rattle.cj_codec.proofs.OperandFormats.{function_words, label_words, reg_words, InOperand, function_format, label_format, base_label_format, reg_format}
use Rattle.cj_codec.proofs.OperandFormats.{operand_format, expr_format, InGuard, guard_format}
use Rattle.cj_codec.proofs.PointFormats.{all_both, all_first, all_second, few_operands_format, point_format}
use Rattle.cj_codec.proofs.Differing.{differ_from, differ_to}

-- ---- the assignments of a move

abbrev InPair : Limits → Pair → Type 0
InPair limits pair = (pair.dest.0 < limits.regs) × InOperand limits pair.value

pair_format : (limits : Limits) → IsFormat (InPair limits) pair_words (pair_at limits)
unfolding pair_at
pair_format limits = record {
  reads = λ pair rest h. two_reads pair_of (reg_format limits) (operand_format limits) pair.dest pair.value rest h.0 h.1;
  spells = λ ws pair rest e.
      let h = two_spells pair_of (reg_format limits) (operand_format limits) ws pair rest e in
      subst (λ (x : Pair). InPair limits x × (ws ≡ pair_words x ++ rest)) h.is ((h.in_a, h.in_b), h.spelled);
}

abbrev Differ : List Pair → Type 0
Differ pairs = AllDifferBy (λ pair. pair.dest) pairs

abbrev InPairs : Limits → List Pair → Type 0
InPairs limits pairs = ((length pairs ≤ 128) × ArePairsFine limits.regs pairs) × All HasPairValue pairs

abbrev ReadPairs : Limits → List Pair → Type 0
ReadPairs limits pairs = ((length pairs ≤ 128) × All (InPair limits) pairs) × Differ pairs

to_pairs : (limits : Limits) (pairs : List Pair) → ReadPairs limits pairs → InPairs limits pairs
to_pairs limits pairs h =
    let fine : ArePairsFine limits.regs pairs = record {
      dests = λ k d lt. (h.0.1 k d lt).0;
      differ = h.1;
      operands = λ k d lt. (h.0.1 k d lt).1.0;
    } in
    ((h.0.0, fine), λ k d lt. (h.0.1 k d lt).1.1)

from_pairs : (limits : Limits) (pairs : List Pair) → InPairs limits pairs → ReadPairs limits pairs
from_pairs limits pairs h =
    ((h.0.0, λ k d lt. (h.0.1.dests k d lt, (h.0.1.operands k d lt, h.1 k d lt))), h.0.1.differ)

pairs_format : (limits : Limits) → IsFormat (InPairs limits) (counted pair_words) (pairs_at limits)
unfolding pairs_at
pairs_format limits =
    same_format (InPairs limits) (to_pairs limits) (from_pairs limits)
    (only_format Differ are_apart differ_from differ_to (counted_format (at_most_format 128) (pair_format limits)))

-- ---- few guards

few_guards_format : (limits : Limits) →
    IsFormat (λ guards. (length guards ≤ 8) × All (InGuard limits) guards) (counted guard_words) (counted_at (at_most_at 8) (guard_at limits))
few_guards_format limits = counted_format (at_most_format 8) (guard_format limits)

-- ---- instructions

abbrev pub InInstr : Limits → VInstr → Type 0
InInstr limits instr = IsInstrInRange limits.regs limits.labels instr × HasInstrValues instr

abbrev Spelled : Limits → List ℕ → VInstr → List ℕ → Type 0
Spelled limits ws instr rest = InInstr limits instr × (ws ≡ instr_words instr ++ rest)

instr_reads : (limits : Limits) (instr : VInstr) (rest : List ℕ) → InInstr limits instr → instr_at limits (instr_words instr ++ rest) ≡ Some (instr, rest)
unfolding instr_at op_at move_at cond_at call_at print_at load_at store_at fail_at assume_at
instr_reads limits (Nop next) rest h = ap (made Nop) ((label_format limits).reads next rest h.0)
instr_reads limits (Op dest expr next) rest h =
    three_reads Op (reg_format limits) (expr_format limits) (label_format limits) dest expr next rest h.0.0 (h.0.1, h.1) h.0.2
instr_reads limits (Move pairs next) rest h =
    two_reads Move (pairs_format limits) (label_format limits) pairs next rest ((h.0.0, h.0.1), h.1) h.0.2
instr_reads limits (Cond test then_to else_to) rest h =
    three_reads Cond (operand_format limits) (label_format limits) (label_format limits) test then_to else_to rest (h.0.0, h.1) h.0.1 h.0.2
instr_reads limits (Call dest f args next) rest h =
    four_reads Call (reg_format limits) function_format (few_operands_format limits 8) (label_format limits) dest f args next rest h.0.0 h.0.1
    (h.0.2, all_both (IsOperandWithin limits.regs) HasOperandValue args h.0.3 h.1) h.0.4
instr_reads limits (Return value) rest h = ap (made Return) ((operand_format limits).reads value rest h)
instr_reads limits (Print value next) rest h =
    two_reads Print (operand_format limits) (label_format limits) value next rest (h.0.0, h.1) h.0.1
instr_reads limits (Load dest address next) rest h =
    three_reads Load (reg_format limits) (operand_format limits) (label_format limits) dest address next rest h.0.0 (h.0.1, h.1) h.0.2
instr_reads limits (Store address value next) rest h =
    three_reads Store (operand_format limits) (operand_format limits) (label_format limits) address value next rest (h.0.0, h.1.0) (h.0.1, h.1.1) h.0.2
instr_reads limits (Fail f label) rest h = two_reads Fail function_format base_label_format f label rest h.0.0 h.0.1
instr_reads limits (Assume guards back target next) rest h =
    four_reads Assume (few_guards_format limits) (at_most_format 4) (point_format limits) (label_format limits) guards back target next rest
    (h.0.0, all_both (IsGuardWithin limits.regs) HasGuardValue guards h.0.1 h.1.0) h.0.2 (h.0.3, h.1.1) h.0.4
instr_reads limits (Anchor back target next) rest h = elim h.0 [ ]

module _ (limits : Limits) (ws : List ℕ) (kind : ℕ) (more : List ℕ) (instr : VInstr) (rest : List ℕ) (front : ws ≡ kind ∷ more) where
  nop_spells : kind ≡ 1 → made Nop (label_at limits more) ≡ Some (instr, rest) → Spelled limits ws instr rest
  nop_spells is e =
      let m = made_from Nop (label_at limits more) instr rest e in
      let s = (label_format limits).spells more m.from rest m.read in
      kinded (InInstr limits) instr_words 1 ws kind more instr rest (Nop m.from) (label_words m.from) front is m.is (s.0, tt) s.1 refl

  op_spells : kind ≡ 2 → op_at limits more ≡ Some (instr, rest) → Spelled limits ws instr rest
  unfolding op_at
  op_spells is e =
      let h = three_spells Op (reg_format limits) (expr_format limits) (label_format limits) more instr rest e in
      kinded (InInstr limits) instr_words 2 ws kind more instr rest (Op h.a h.b h.c) (reg_words h.a ++ (expr_words h.b ++ label_words h.c)) front is h.is
      ((h.in_a, h.in_b.0, h.in_c), h.in_b.1) h.spelled refl

  move_spells : kind ≡ 3 → move_at limits more ≡ Some (instr, rest) → Spelled limits ws instr rest
  unfolding move_at
  move_spells is e =
      let h = two_spells Move (pairs_format limits) (label_format limits) more instr rest e in
      kinded (InInstr limits) instr_words 3 ws kind more instr rest (Move h.a h.b) (counted pair_words h.a ++ label_words h.b) front is h.is
      ((h.in_a.0.0, h.in_a.0.1, h.in_b), h.in_a.1) h.spelled refl

  cond_spells : kind ≡ 4 → cond_at limits more ≡ Some (instr, rest) → Spelled limits ws instr rest
  unfolding cond_at
  cond_spells is e =
      let h = three_spells Cond (operand_format limits) (label_format limits) (label_format limits) more instr rest e in
      kinded (InInstr limits) instr_words 4 ws kind more instr rest (Cond h.a h.b h.c) (operand_words h.a ++ (label_words h.b ++ label_words h.c)) front is
      h.is ((h.in_a.0, h.in_b, h.in_c), h.in_a.1) h.spelled refl

  call_spells : kind ≡ 5 → call_at limits more ≡ Some (instr, rest) → Spelled limits ws instr rest
  unfolding call_at
  call_spells is e =
      let h = four_spells Call (reg_format limits) function_format (few_operands_format limits 8) (label_format limits) more instr rest e in
      kinded (InInstr limits) instr_words 5 ws kind more instr rest (Call h.a h.b h.c h.d)
      (reg_words h.a ++ (function_words h.b ++ (counted operand_words h.c ++ label_words h.d))) front is h.is (
        (h.in_a, h.in_b, h.in_c.0, all_first (IsOperandWithin limits.regs) HasOperandValue h.c h.in_c.1, h.in_d),
        all_second
            (IsOperandWithin limits.regs) HasOperandValue h.c h.in_c.1,
      ) h.spelled refl

  return_spells : kind ≡ 6 → made Return (operand_at limits more) ≡ Some (instr, rest) → Spelled limits ws instr rest
  return_spells is e =
      let m = made_from Return (operand_at limits more) instr rest e in
      let s = (operand_format limits).spells more m.from rest m.read in
      kinded (InInstr limits) instr_words 6 ws kind more instr rest (Return m.from) (operand_words m.from) front is m.is s.0 s.1 refl

  print_spells : kind ≡ 7 → print_at limits more ≡ Some (instr, rest) → Spelled limits ws instr rest
  unfolding print_at
  print_spells is e =
      let h = two_spells Print (operand_format limits) (label_format limits) more instr rest e in
      kinded (InInstr limits) instr_words 7 ws kind more instr rest (Print h.a h.b) (operand_words h.a ++ label_words h.b) front is h.is
      ((h.in_a.0, h.in_b), h.in_a.1) h.spelled refl

  load_spells : kind ≡ 8 → load_at limits more ≡ Some (instr, rest) → Spelled limits ws instr rest
  unfolding load_at
  load_spells is e =
      let h = three_spells Load (reg_format limits) (operand_format limits) (label_format limits) more instr rest e in
      kinded (InInstr limits) instr_words 8 ws kind more instr rest (Load h.a h.b h.c) (reg_words h.a ++ (operand_words h.b ++ label_words h.c)) front is h.is
      ((h.in_a, h.in_b.0, h.in_c), h.in_b.1) h.spelled refl

  store_spells : kind ≡ 9 → store_at limits more ≡ Some (instr, rest) → Spelled limits ws instr rest
  unfolding store_at
  store_spells is e =
      let h = three_spells Store (operand_format limits) (operand_format limits) (label_format limits) more instr rest e in
      kinded (InInstr limits) instr_words 9 ws kind more instr rest (Store h.a h.b h.c) (operand_words h.a ++ (operand_words h.b ++ label_words h.c)) front is
      h.is ((h.in_a.0, h.in_b.0, h.in_c), (h.in_a.1, h.in_b.1)) h.spelled refl

  fail_spells : kind ≡ 10 → fail_at more ≡ Some (instr, rest) → Spelled limits ws instr rest
  unfolding fail_at
  fail_spells is e =
      let h = two_spells Fail function_format base_label_format more instr rest e in
      kinded (InInstr limits) instr_words 10 ws kind more instr rest (Fail h.a h.b) (function_words h.a ++ label_words h.b) front is h.is
      ((h.in_a, h.in_b), tt) h.spelled refl

  assume_spells : kind ≡ 11 → assume_at limits more ≡ Some (instr, rest) → Spelled limits ws instr rest
  unfolding assume_at
  assume_spells is e =
      let h = four_spells Assume (few_guards_format limits) (at_most_format 4) (point_format limits) (label_format limits) more instr rest e in
      kinded (InInstr limits) instr_words 11 ws kind more instr rest (Assume h.a h.b h.c h.d) (counted guard_words h.a
      ++ (one_word h.b ++ (point_words h.c ++ label_words h.d))) front is h.is (
        (h.in_a.0, all_first (IsGuardWithin limits.regs) HasGuardValue h.a h.in_a.1, h.in_b, h.in_c.0, h.in_d),
        (
          all_second
              (IsGuardWithin limits.regs) HasGuardValue h.a h.in_a.1,
          h.in_c.1,
        ),
      ) h.spelled refl

instr_spells : (limits : Limits) (ws : List ℕ) (instr : VInstr) (rest : List ℕ) → instr_at limits ws ≡ Some (instr, rest) → Spelled limits ws instr rest
unfolding instr_at
instr_spells limits ws instr rest e =
    let k = kind_from (instr_by limits) ws instr rest e in
    by_kind k.kind 1 _ _ (instr, rest) (nop_spells limits ws k.kind k.more instr rest k.is)
    (by_kind k.kind 2 _ _ (instr, rest) (op_spells limits ws k.kind k.more instr rest k.is)
    (by_kind k.kind 3 _ _ (instr, rest) (move_spells limits ws k.kind k.more instr rest k.is)
    (by_kind k.kind 4 _ _ (instr, rest) (cond_spells limits ws k.kind k.more instr rest k.is)
    (by_kind k.kind 5 _ _ (instr, rest) (call_spells limits ws k.kind k.more instr rest k.is)
    (by_kind k.kind 6 _ _ (instr, rest) (return_spells limits ws k.kind k.more instr rest k.is)
    (by_kind k.kind 7 _ _ (instr, rest) (print_spells limits ws k.kind k.more instr rest k.is)
    (by_kind k.kind 8 _ _ (instr, rest) (load_spells limits ws k.kind k.more instr rest k.is)
    (by_kind k.kind 9 _ _ (instr, rest) (store_spells limits ws k.kind k.more instr rest k.is)
    (by_kind k.kind 10 _ _ (instr, rest) (fail_spells limits ws k.kind k.more instr rest k.is)
    (by_kind k.kind 11 _ _ (instr, rest) (assume_spells limits ws k.kind k.more instr rest k.is)
    (λ h. nothing_read (instr, rest) h))))))))))) k.then

pub instr_format : (limits : Limits) → IsFormat (InInstr limits) instr_words (instr_at limits)
instr_format limits = record { reads = instr_reads limits; spells = instr_spells limits }
