-- A code whose names all exist in a well-formed program is in range.
use Rattle.std.proofs.Common.{◌≡◌, ℕ, ◌<◌, ◌≤◌, List, [], ◌∷◌, length, refl, subst, arith}
use Rattle.std.specs.Prelude.{Option, Some, None, All, IsSomeAnd, slice_get, slice_index_or}
use Rattle.std.specs.Option.{option_and_then, option_map}
use Rattle.std.proofs.lemmas.Option.{slice_get_within, slice_get-get_or}
use Rattle.std.proofs.lemmas.List.Elements.{All-cons, All-nil}
use Rattle.cj_ir.specs.declared.language.FunId.{FunId}
use Rattle.cj_ir.specs.declared.language.Label.{Label}
use Rattle.cj_ir.specs.declared.language.Line.{Line}
use Rattle.cj_ir.specs.declared.language.Function.{Function}
use Rattle.cj_ir.specs.declared.language.Program.{Program}
use Rattle.cj_ir.specs.WellFormed.{IsFunctionFine, IsWellFormed, Takes}
use Rattle.cj_ir.specs.Program.{regs_of, labels_of}
use Rattle.cj_draft.specs.WellNamed.{IsPointFrameFine, AreDestsFine, IsPointFine, IsFailure, IsVInstrFine, IsBackFine, IsPlaceFine, WellNamed}
use Rattle.cj_draft.specs.Bodies.{IsNoAnchor, HasNoAnchors}
use Rattle.cj_draft.specs.declared.points.PointFrame.{PointFrame}
use Rattle.cj_draft.specs.declared.points.Point.{Point}
use Rattle.cj_draft.specs.declared.instructions.VInstr.{VInstr}
use Rattle.cj_draft.specs.declared.instructions.VInstr.TheVariants.{Nop, Op, Move, Cond, Call, Return, Print, Load, Store, Fail, Assume, Anchor}
use Rattle.cj_draft.specs.declared.code.Back.{Back}
use Rattle.cj_draft.specs.declared.code.Place.{Place}
use Rattle.cj_draft.specs.declared.code.Code.{Code}
use Rattle.cj_draft.proofs.FewPairs.{few_pairs}
use Rattle.cj_spelling.specs.Ranges.{IsFrameInRange, HasPlainTop, IsPointInRange, IsInstrInRange, IsBackInRange, IsPlaceInRange, IsInRange}

module _ (P : Program) (well : IsWellFormed P) where
  -- ---- functions that exist

  function_low : (n : ℕ) (g : Function) → slice_get P.functions n ≡ Some g → n < 64
  function_low n g e = let lt = slice_get_within P.functions n g e in let few = well.few_functions in omega arith

  function_fine : (n : ℕ) (g : Function) → slice_get P.functions n ≡ Some g → IsFunctionFine P.functions g
  function_fine n g e =
      let lt = slice_get_within P.functions n g e in
      let there = slice_get-get_or P.functions n g lt in
      let same : slice_index_or P.functions n g ≡ g = cc in
      subst (IsFunctionFine P.functions) same (well.functions n g lt)

  named_low : (n : ℕ) (o : Option Function) (l : ℕ) → slice_get P.functions n ≡ o → l < labels_of o → (n < 64) × (l < 256)
  named_low n None l e h = absurd (omega arith)
  named_low n (Some g) l e h = (function_low n g e, let few = (function_fine n g e).few_labels in omega arith)

  regs_low : (n : ℕ) (o : Option Function) → slice_get P.functions n ≡ o → regs_of o ≤ 32
  regs_low n None e = omega arith
  regs_low n (Some g) e = (function_fine n g e).few_registers

  callee_low : (f : FunId) (count : ℕ) → Takes P.functions f count → (f.0 < 64) × (count ≤ 8)
  callee_low f count takes =
      let fine = function_fine f.0 takes.0 takes.1 in
      (function_low f.0 takes.0 takes.1, let few = fine.few_params in let same = takes.2 in omega arith)

  line_low : (g : Function) (l : ℕ) (r : Option Line) → slice_get g.code l ≡ r → IsFailure (option_map (λ line. line.instr) r) → l < length g.code
  line_low g l None e h = elim h [ ]
  line_low g l (Some line) e h = slice_get_within g.code l line e

  failure_low : (f : FunId) (label : Label) (o : Option Function) → slice_get P.functions f.0 ≡ o →
      IsFailure (option_map (λ line. line.instr) (option_and_then (λ g. slice_get g.code label.0) o)) → (f.0 < 64) × (label.0 < 256)
  failure_low f label None e h = elim h [ ]
  failure_low f label (Some g) e h =
      let lt = line_low g label.0 (slice_get g.code label.0) refl h in
      (function_low f.0 g e, let few = (function_fine f.0 g e).few_labels in omega arith)

  code_function_low : (n : ℕ) (o : Option Function) (Q : Function → Type 0) → slice_get P.functions n ≡ o → IsSomeAnd o Q → n < 64
  code_function_low n None Q e h = elim h [ ]
  code_function_low n (Some g) Q e h = function_low n g e

  -- ---- points

  frame_low : (regs : ℕ) (f : PointFrame) → IsPointFrameFine P regs f → f.dest.0 < 32 → IsFrameInRange regs f
  frame_low regs f fine dest =
      let low = named_low f.function.0 (slice_get P.functions f.function.0) f.label.0 refl fine.label_within in
      let few = regs_low f.function.0 (slice_get P.functions f.function.0) refl in
      let whole = fine.whole_map in
      record { function = low.0; label = low.1; dest = dest; few_operands = omega arith; operands = fine.operands }

  dests_low : (frames : List PointFrame) → AreDestsFine P frames → All (λ f. f.dest.0 < 32) frames
  dests_low [] h = All-nil (λ (f : PointFrame). f.dest.0 < 32)
  dests_low (first ∷ others) h =
      let top : first.dest.0 < 32 = let z = h.0 in omega arith in
      let rest : All (λ (f : PointFrame). f.dest.0 < 32) others = λ k d lt.
      let here = h.1 k d lt in
      let f = slice_index_or others k d in
      let few = regs_low f.function.0 (slice_get P.functions f.function.0) refl in
      omega arith in
      All-cons (λ (f : PointFrame). f.dest.0 < 32) first others top rest

  plain_top : (frames : List PointFrame) → 0 < length frames → AreDestsFine P frames → HasPlainTop frames
  plain_top [] some h = absurd (omega arith)
  plain_top (first ∷ others) some h = h.0

  point_low : (regs : ℕ) (point : Point) → IsPointFine P regs point → IsPointInRange regs point
  point_low regs point fine =
      let dests = dests_low point.frames fine.dests in
      record {
        few_frames = fine.few_frames;
        frames = λ k d lt. frame_low regs (slice_index_or point.frames k d) (fine.frames k d lt) (dests k d lt);
        top = plain_top point.frames fine.some_frame fine.dests;
      }

  -- ---- instructions

  instr_low : (regs labels : ℕ) → regs ≤ 128 → (instr : VInstr) → IsVInstrFine P regs labels instr → IsNoAnchor instr → IsInstrInRange regs labels instr
  instr_low regs labels few (Nop next) fine plain = fine
  instr_low regs labels few (Op dest expr next) fine plain = fine
  instr_low regs labels few (Move pairs next) fine plain =
      let count = few_pairs regs pairs fine.0 in
      (omega arith, fine.0, fine.1)
  instr_low regs labels few (Cond test then_to else_to) fine plain = fine
  instr_low regs labels few (Call dest f args next) fine plain =
      let low = callee_low f (length args) fine.1 in
      (fine.0, low.0, low.1, fine.2, fine.3)
  instr_low regs labels few (Return value) fine plain = fine
  instr_low regs labels few (Print value next) fine plain = fine
  instr_low regs labels few (Load dest address next) fine plain = fine
  instr_low regs labels few (Store address value next) fine plain = fine
  instr_low regs labels few (Fail f label) fine plain = failure_low f label (slice_get P.functions f.0) refl fine
  instr_low regs labels few (Assume guards back target next) fine plain =
      (fine.0, fine.1, fine.2, point_low regs target fine.3, fine.4)
  instr_low regs labels few (Anchor back target next) fine plain = elim plain [ ]

  -- ---- places and codes

  back_low : (regs : ℕ) (pair : Back) → IsBackFine P regs pair → IsBackInRange regs pair
  back_low regs pair fine = record { few_turns = fine.few_turns; point = point_low regs pair.point fine.point }

  place_low : (regs labels : ℕ) → regs ≤ 128 → (place : Place) → IsPlaceFine P regs labels place → IsNoAnchor place.instr → IsPlaceInRange regs labels place
  place_low regs labels few place fine plain = record {
    instr = instr_low regs labels few place.instr fine.instr plain;
    point = point_low regs place.point fine.point;
    facts = fine.facts;
    backs = λ k d lt. back_low regs (slice_index_or place.backs k d) (fine.backs k d lt);
  }

  pub named_in_range : (code : Code) → WellNamed P code → HasNoAnchors code → IsInRange code
  named_in_range code named plain = record {
    function = code_function_low code.function.0 (slice_get P.functions code.function.0) (λ f. f.params ≤ code.regs) refl named.params;
    few_regs = named.few_regs;
    few_places = named.few_places;
    entry = named.entry;
    places = λ k d lt. place_low code.regs (length code.places) named.few_regs (slice_index_or code.places k d) (named.places k d lt) (plain k d lt);
  }
