-- A callee's places are fine in its caller, and so is the move that enters it.
use Rattle.std.proofs.Common.{◌≡◌, ℕ, zero, suc, ◌+◌, ◌<◌, ◌≤◌, List, [], ◌∷◌, ◌++◌, length, map, Option, Some, None, refl, sym, ap, ◌∙◌, subst, arith}
use Rattle.std.specs.Prelude.{All, slice_index_or, pos}
use Rattle.std.proofs.lemmas.List.{length-append, length-map}
use Rattle.std.proofs.lemmas.List.Elements.{All-map, All-append, All-nil, All-cons, All-head, All-tail}
use Rattle.cj_ir.specs.Values.{IsOperandWithin}
use Rattle.cj_ir.specs.WellFormed.{IsWellFormed}
use Rattle.cj_ir.specs.Program.{instr_at, reg_count}
use Rattle.cj_ir.specs.declared.language.Label.{Label}
use Rattle.cj_ir.specs.declared.language.Reg.{Reg}
use Rattle.cj_ir.specs.declared.language.Program.{Program}
use Rattle.cj_ir.specs.declared.language.Instr.{Instr}
use Rattle.cj_ir.specs.declared.language.Instr.TheVariants as base
use Rattle.cj_ir.specs.declared.language.Operand.{Operand}
use Rattle.cj_ir.specs.declared.language.Operand.TheVariants as operand
use Rattle.cj_base.proofs.FitsLemmas.{fine_at}
use Rattle.cj_draft.specs.declared.points.PointFrame.{PointFrame}
use Rattle.cj_draft.specs.declared.points.Point.{Point}
use Rattle.cj_draft.specs.declared.instructions.Pair.{Pair}
use Rattle.cj_draft.specs.declared.instructions.VInstr.{VInstr}
use Rattle.cj_draft.specs.declared.instructions.VInstr.TheVariants.{Nop, Op, Move, Cond, Call, Return, Print, Load, Store, Fail, Assume, Anchor}
use Rattle.cj_draft.specs.declared.code.Back.{Back}
use Rattle.cj_draft.specs.declared.code.Place.{Place}
use Rattle.cj_draft.specs.WellNamed.{IsPointFrameFine, AreDestsFine, IsPointFine, ArePairsFine, IsVInstrFine, HasFineFacts, IsBackFine, IsPlaceFine}
use Rattle.cj_draft.specs.Inlining.{shift_label, shift_reg, shift_operand, shift_guard, shift_frame, joined, inlined_instr, joined_facts, appended_by}
use Rattle.cj_draft.specs.Inlining.{appended_frames, entry_pairs, call_place}
use Rattle.cj_inline.specs.declared.seams.Seam.{Seam}
use Rattle.cj_inline.specs.Inlining.{greatest_of, target_frames, back_frames, place_frames, inlined_back, inlined_place}
use Rattle.cj_inline.proofs.Greatest.{greatest_bounds}
use Rattle.cj_draft.proofs.Wider.{frames_wider, operands_wider, place_wider}
use Rattle.cj_draft.proofs.OperandLemmas.{operands_within}
use Rattle.cj_inline.proofs.Shifted.{operand_shifted, operands_shifted, guards_shifted, pairs_shifted, frames_shifted, facts_joined}

-- ---- the caller's frames

-- at most so many frames that may wait below others
pub record AreBelow (P : Program) (n count : ℕ) (tail : List PointFrame) : Type 0 where
  pub frames : All (IsPointFrameFine P n) tail
  pub dests : All (λ f. f.dest.0 < reg_count P f.function) tail
  pub few : length tail ≤ count

none_below : (P : Program) (n count : ℕ) → AreBelow P n count []
none_below P n count = record { frames = All-nil (IsPointFrameFine P n); dests = All-nil (λ f. f.dest.0 < reg_count P f.function); few = omega arith }

below_by : (P : Program) → IsWellFormed P → (n : ℕ) (f : PointFrame) (fs : List PointFrame) → IsPointFrameFine P n f → All (IsPointFrameFine P n) fs →
    All (λ f. f.dest.0 < reg_count P f.function) fs → (o : Option Instr) → instr_at P f.function f.label ≡ o →
    AreBelow P n (suc (length fs)) (appended_by o f fs)
unfolding appended_by
below_by P formed n f fs one rest dests (Some (base.Call d g args next)) e =
    let fine = fine_at P formed f.function f.label (base.Call d g args next) e in
    let first : PointFrame = record { function = f.function; label = next; dest = d; map = f.map } in
    record {
      frames = All-cons (IsPointFrameFine P n) first fs (record { label_within = fine.3; whole_map = one.whole_map; operands = one.operands }) rest;
      dests = All-cons (λ f. f.dest.0 < reg_count P f.function) first fs fine.0 dests;
      few = omega arith;
    }
below_by P formed n f fs one rest dests (Some (base.Nop x)) e = none_below P n (suc (length fs))
below_by P formed n f fs one rest dests (Some (base.Op d x y)) e = none_below P n (suc (length fs))
below_by P formed n f fs one rest dests (Some (base.Cond t x y)) e = none_below P n (suc (length fs))
below_by P formed n f fs one rest dests (Some (base.Return v)) e = none_below P n (suc (length fs))
below_by P formed n f fs one rest dests (Some (base.Print v x)) e = none_below P n (suc (length fs))
below_by P formed n f fs one rest dests (Some (base.Load d a x)) e = none_below P n (suc (length fs))
below_by P formed n f fs one rest dests (Some (base.Store a v x)) e = none_below P n (suc (length fs))
below_by P formed n f fs one rest dests (Some (base.Fail text)) e = none_below P n (suc (length fs))
below_by P formed n f fs one rest dests None e = none_below P n (suc (length fs))

pub appended_below : (P : Program) → IsWellFormed P → (n : ℕ) (p : Point) → IsPointFine P n p → AreBelow P n (length p.frames) (appended_frames P p.frames)
unfolding appended_frames
appended_below P formed n p fine = by_frames p.frames fine.frames fine.dests
  where
    by_frames : (fs : List PointFrame) → All (IsPointFrameFine P n) fs → AreDestsFine P fs → AreBelow P n (length fs) (appended_frames P fs)
    by_frames [] all dests = none_below P n 0
    by_frames (f ∷ fs) all dests =
        below_by P formed n f fs (All-head (IsPointFrameFine P n) f fs all) (All-tail (IsPointFrameFine P n) f fs all) dests.1
        (instr_at P f.function f.label) refl

-- ---- the callee's places

module _ (P : Program) (n r k l count most : ℕ) (tail : List PointFrame) (below : AreBelow P n count tail) (room : count + most ≤ 4) where
  dests_joined : (fs : List PointFrame) → 0 < length fs → AreDestsFine P fs → AreDestsFine P (map (shift_frame n) fs ++ tail)
  unfolding shift_frame
  dests_joined [] some h = absurd (omega arith)
  dests_joined (f ∷ fs) some h = (
    h.0,
    All-append (λ f. f.dest.0 < reg_count P f.function) (map (shift_frame n) fs) tail
        (All-map (λ f. f.dest.0 < reg_count P f.function) (shift_frame n) fs h.1) below.dests,
  )

  point_joined : (p : Point) → length p.frames ≤ most → IsPointFine P r p → IsPointFine P (n + r) (joined n tail p)
  unfolding joined
  point_joined p few fine =
      let own : length (map (shift_frame n) p.frames) ≡ length p.frames = length-map p.frames (shift_frame n) in
      let all : length (map (shift_frame n) p.frames ++ tail)
      ≡ length (map (shift_frame n) p.frames) + length tail = length-append (map (shift_frame n) p.frames) tail in
      record {
        some_frame = omega (arith, own, all, fine.some_frame);
        few_frames = omega (arith, own, all, below.few, room);
        frames = All-append (IsPointFrameFine P (n + r)) (map (shift_frame n) p.frames) tail (frames_shifted n r P p.frames fine.frames)
            (frames_wider P n (n + r) 0 0 (omega arith) (omega arith) tail below.frames);
        dests = dests_joined p.frames fine.some_frame fine.dests;
      }

  one_pair : (dest : Reg) (value : Operand) → dest.0 < n + r → IsOperandWithin (n + r) value → ArePairsFine (n + r) (record { dest = dest; value = value } ∷ [])
  one_pair dest value within operand =
      let pair : Pair = record { dest = dest; value = value } in
      record {
        dests = All-cons (λ (p : Pair). p.dest.0 < n + r) pair [] within (All-nil (λ (p : Pair). p.dest.0 < n + r));
        differ = λ i j d lt h. absurd (omega arith);
        operands = All-cons (λ (p : Pair). IsOperandWithin (n + r) p.value) pair [] operand (All-nil (λ (p : Pair). IsOperandWithin (n + r) p.value));
      }

  instr_inlined : (dest : Reg) (after : Label) → dest.0 < n + r → after.0 < k + l → (i : VInstr) → target_frames i ≤ most → IsVInstrFine P r l i →
      IsVInstrFine P (n + r) (k + l) (inlined_instr n k tail dest after i)
  unfolding inlined_instr shift_reg shift_label target_frames
  instr_inlined dest after d_in a_in (Nop x) few h = omega arith
  instr_inlined dest after d_in a_in (Op d e x) few h = let v : d.0 < r = h.0 in let w : x.0
      < l = h.2 in (omega arith, operands_within (shift_operand n) r (n + r) (operand_shifted n r) e h.1, omega arith)
  instr_inlined dest after d_in a_in (Move ps x) few h = let w : x.0 < l = h.1 in (pairs_shifted n r ps h.0, omega arith)
  instr_inlined dest after d_in a_in (Cond t x y) few h = let v : x.0 < l = h.1 in let w : y.0
      < l = h.2 in (operand_shifted n r t h.0, omega arith, omega arith)
  instr_inlined dest after d_in a_in (Call d f args x) few h =
      let v : d.0 < r = h.0 in
      let w : x.0 < l = h.3 in
      (omega arith, (h.1.0, h.1.1, h.1.2 ∙ sym (length-map args (shift_operand n))), operands_shifted n r args h.2, omega arith)
  instr_inlined dest after d_in a_in (Return v) few h = (one_pair dest (shift_operand n v) d_in (operand_shifted n r v h), a_in)
  instr_inlined dest after d_in a_in (Print v x) few h = let w : x.0 < l = h.1 in (operand_shifted n r v h.0, omega arith)
  instr_inlined dest after d_in a_in (Load d a x) few h = let v : d.0 < r = h.0 in let w : x.0
      < l = h.2 in (omega arith, operand_shifted n r a h.1, omega arith)
  instr_inlined dest after d_in a_in (Store a v x) few h = let w : x.0 < l = h.2 in (operand_shifted n r a h.0, operand_shifted n r v h.1, omega arith)
  instr_inlined dest after d_in a_in (Fail f x) few h = h
  instr_inlined dest after d_in a_in (Assume gs b t x) few h =
      let w : x.0 < l = h.4 in
      let guards : length gs ≤ 8 = h.0 in
      (omega (arith, length-map gs (shift_guard n)), guards_shifted n r gs h.1, h.2, point_joined t few h.3, omega arith)
  instr_inlined dest after d_in a_in (Anchor b t x) few h = let w : x.0 < l = h.2 in (h.0, point_joined t few h.1, omega arith)

  back_inlined : (seam : Seam) → seam.regs ≡ n → seam.frames ≡ tail → (q : Back) → length q.point.frames ≤ most → IsBackFine P r q →
      IsBackFine P (n + r) (inlined_back seam q)
  unfolding inlined_back
  back_inlined seam regs frames q few fine = record {
    few_turns = fine.few_turns;
    point = subst (λ m. IsPointFine P (n + r) (joined m seam.frames q.point)) (sym regs)
        (subst (λ fs. IsPointFine P (n + r) (joined n fs q.point)) (sym frames) (point_joined q.point few fine.point));
  }

-- a place of the callee, seen from the caller
pub record HasSeam (P : Program) (n k count : ℕ) (seam : Seam) : Type 0 where
  pub regs : seam.regs ≡ n
  pub labels : seam.labels ≡ k
  pub below : AreBelow P n count seam.frames
  pub facts : HasFineFacts n seam.facts
  pub dest : seam.dest.0 < n
  pub next : seam.next.0 < k

pub place_inlined : (P : Program) (n r k l count : ℕ) (seam : Seam) → HasSeam P n k count seam → (p : Place) → count + place_frames p ≤ 4 →
    IsPlaceFine P r l p → IsPlaceFine P (n + r) (k + l) (inlined_place seam p)
unfolding inlined_place place_frames back_frames
place_inlined P n r k l count seam has p room fine =
    let most = place_frames p in
    let dest : seam.dest.0 < n + r = omega (arith, has.dest) in
    let next : seam.next.0 < k + l = omega (arith, has.next) in
    let few_backs : greatest_of back_frames p.backs ≤ most = omega arith in
    let each : All (λ q. length q.point.frames ≤ most) p.backs = greatest_bounds back_frames most p.backs few_backs in
    record {
      instr = subst (λ m. IsVInstrFine P (n + r) (k + l) (inlined_instr m seam.labels seam.frames seam.dest seam.next p.instr)) (sym has.regs)
          (subst (λ m. IsVInstrFine P (n + r) (k + l) (inlined_instr n m seam.frames seam.dest seam.next p.instr)) (sym has.labels)
          (instr_inlined P n r k l count most seam.frames has.below room seam.dest seam.next dest next p.instr (omega arith) fine.instr));
      point = subst (λ m. IsPointFine P (n + r) (joined m seam.frames p.point)) (sym has.regs)
          (point_joined P n r k l count most seam.frames has.below room p.point (omega arith) fine.point);
      facts = subst (λ m. HasFineFacts (n + r) (joined_facts m seam.facts p.facts)) (sym has.regs) (facts_joined n r seam.facts p.facts has.facts fine.facts);
      backs = All-map (IsBackFine P (n + r)) (inlined_back seam) p.backs
          (λ i d lt. back_inlined P n r k l count most seam.frames has.below room seam has.regs refl (slice_index_or p.backs i d) (each i d lt)
          (fine.backs i d lt));
    }

-- ---- the move that enters the callee

length-entry : (first count : ℕ) (args : List Operand) → length (entry_pairs first args count) ≡ count
unfolding entry_pairs
length-entry first zero args = refl
length-entry first (suc count) [] = ap suc (length-entry (suc first) count [])
length-entry first (suc count) (arg ∷ args) = ap suc (length-entry (suc first) count args)

entry_dest : (first count : ℕ) (args : List Operand) (i : ℕ) (d : Pair) → i < count → (slice_index_or (entry_pairs first args count) i d).dest.0 ≡ first + i
unfolding entry_pairs
entry_dest first zero args i d h = absurd (omega arith)
entry_dest first (suc count) [] zero d h = omega arith
entry_dest first (suc count) [] (suc i) d h = entry_dest (suc first) count [] i d (omega arith) ∙ omega arith
entry_dest first (suc count) (arg ∷ args) zero d h = omega arith
entry_dest first (suc count) (arg ∷ args) (suc i) d h = entry_dest (suc first) count args i d (omega arith) ∙ omega arith

entry_operands : (n first count : ℕ) (args : List Operand) → All (IsOperandWithin n) args →
    All (λ (p : Pair). IsOperandWithin n p.value) (entry_pairs first args count)
unfolding entry_pairs
entry_operands n first zero args h = All-nil (λ (p : Pair). IsOperandWithin n p.value)
entry_operands n first (suc count) [] h =
    All-cons (λ (p : Pair). IsOperandWithin n p.value) (pair (operand.Const (pos 0))) (entry_pairs (suc first) [] count) tt
    (entry_operands n (suc first) count [] h)
  where
    pair : Operand → Pair
    pair value = record { dest = record { 0 = first }; value = value }
entry_operands n first (suc count) (arg ∷ args) h =
    All-cons (λ (p : Pair). IsOperandWithin n p.value) (pair arg) (entry_pairs (suc first) args count)
    (All-head (IsOperandWithin n) arg args h) (entry_operands n (suc first) count args (All-tail (IsOperandWithin n) arg args h))
  where
    pair : Operand → Pair
    pair value = record { dest = record { 0 = first }; value = value }

entry_fine : (P : Program) (n r : ℕ) (args : List Operand) → All (IsOperandWithin n) args → ArePairsFine (n + r) (entry_pairs n args r)
entry_fine P n r args h = record {
  dests = λ i d lt.
      let within : i < r = omega (arith, length-entry n r args) in
      let is : (slice_index_or (entry_pairs n args r) i d).dest.0 ≡ n + i = entry_dest n r args i d within in
      omega arith;
  differ = λ i j d lt h.
      let last : j < r = omega (arith, length-entry n r args) in
      let first : i < r = omega arith in
      let one : (slice_index_or (entry_pairs n args r) i d).dest.0 ≡ n + i = entry_dest n r args i d first in
      let other : (slice_index_or (entry_pairs n args r) j d).dest.0 ≡ n + j = entry_dest n r args j d last in
      λ e. differ i j lt (sym one ∙ ap (λ (z : Reg). z.0) e ∙ other);
  operands = entry_operands (n + r) n r args (operands_wider P n (n + r) 0 0 (omega arith) (omega arith) args h);
}
  where
    differ : (i j : ℕ) → i < j → n + i ≡ n + j → ⊥
    differ i j lt e = omega arith

pub call_fine : (P : Program) (n r k l : ℕ) (to : Label) (args : List Operand) (p : Place) → All (IsOperandWithin n) args → to.0 < l → IsPlaceFine P n k p →
    IsPlaceFine P (n + r) (k + l) (call_place n r (shift_label k to) args p)
unfolding call_place shift_label
call_fine P n r k l to args p h within fine =
    let wide = place_wider P n (n + r) k (k + l) (omega arith) (omega arith) p fine in
    record {
      instr = (entry_fine P n r args h, omega arith);
      point = wide.point;
      facts = wide.facts;
      backs = wide.backs;
    }
