-- The formats of frames and points.
use Rattle.std.proofs.Common.{◌≡◌, ℕ, ◌≤◌, List, [], ◌∷◌, ◌++◌, length, refl, subst}
use Rattle.std.specs.Prelude.{true, All}
use Rattle.std.proofs.lemmas.Bool.{eqb-true, eq-eqb}
use Rattle.cj_ir.specs.Values.{IsOperandWithin}
use Rattle.cj_ir.specs.declared.language.Operand.{Operand}
use Rattle.cj_draft.specs.declared.points.PointFrame.{PointFrame}
use Rattle.cj_draft.specs.declared.points.Point.{Point}
use Rattle.cj_codec.specs.declared.reader.Limits.{Limits}
use Rattle.cj_spelling.specs.Spelling.{operand_words, counted, frame_words, point_words}
use Rattle.cj_spelling.specs.Ranges.{IsFrameInRange, HasPlainTop, IsPointInRange}
use Rattle.cj_spelling.specs.Values.{HasOperandValue, HasFrameValues, HasPointValues}
use Rattle.cj_spelling.specs.Formats.{only, counted_at, at_most_at}
use Rattle.cj_codec.specs.Reading.{operand_at, frame_of, frame_at, has_plain_top, point_of, point_at}
use Rattle.cj_spelling.proofs.Formats.{IsFormat, made_format, only_format, same_format, at_most_format, four_reads, four_spells, counted_format}
use Rattle.cj_codec.proofs.OperandFormats.{InOperand, function_format, base_label_format, base_reg_format, operand_format}

pub all_both : {A : Type 0} (P Q : A → Type 0) (xs : List A) → All P xs → All Q xs → All (λ x. P x × Q x) xs
all_both P Q xs p q = λ k d h. (p k d h, q k d h)

pub all_first : {A : Type 0} (P Q : A → Type 0) (xs : List A) → All (λ x. P x × Q x) xs → All P xs
all_first P Q xs both = λ k d h. (both k d h).0

pub all_second : {A : Type 0} (P Q : A → Type 0) (xs : List A) → All (λ x. P x × Q x) xs → All Q xs
all_second P Q xs both = λ k d h. (both k d h).1

-- ---- few operands

abbrev pub AreOperands : Limits → ℕ → List Operand → Type 0
AreOperands limits most operands = (length operands ≤ most) × All (InOperand limits) operands

pub few_operands_format : (limits : Limits) (most : ℕ) →
    IsFormat (AreOperands limits most) (counted operand_words) (counted_at (at_most_at most) (operand_at limits))
few_operands_format limits most = counted_format (at_most_format most) (operand_format limits)

-- ---- frames

abbrev pub InFrame : Limits → PointFrame → Type 0
InFrame limits f = IsFrameInRange limits.regs f × HasFrameValues f

pub frame_format : (limits : Limits) → IsFormat (InFrame limits) frame_words (frame_at limits)
unfolding frame_at
frame_format limits = record {
  reads = λ f rest h.
      four_reads frame_of function_format base_label_format base_reg_format (few_operands_format limits 32) f.function f.label f.dest f.map rest h.0.function
      h.0.label h.0.dest
      (h.0.few_operands, all_both (IsOperandWithin limits.regs) HasOperandValue f.map h.0.operands h.1);
  spells = λ ws f rest e.
      let h = four_spells frame_of function_format base_label_format base_reg_format (few_operands_format limits 32) ws f rest e in
      let fine : IsFrameInRange limits.regs (frame_of h.a h.b h.c h.d) = record {
        function = h.in_a;
        label = h.in_b;
        dest = h.in_c;
        few_operands = h.in_d.0;
        operands = all_first (IsOperandWithin limits.regs) HasOperandValue h.d h.in_d.1;
      } in
      let values = all_second (IsOperandWithin limits.regs) HasOperandValue h.d h.in_d.1 in
      subst (λ (x : PointFrame). InFrame limits x × (ws ≡ frame_words x ++ rest)) h.is ((fine, values), h.spelled);
}

-- ---- points

plain_sound : (frames : List PointFrame) → has_plain_top frames ≡ true → HasPlainTop frames
plain_sound [] e = cc
plain_sound (first ∷ others) e = eqb-true first.dest.0 0 e

plain_complete : (frames : List PointFrame) → HasPlainTop frames → has_plain_top frames ≡ true
plain_complete [] h = elim h [ ]
plain_complete (first ∷ others) h = eq-eqb first.dest.0 0 h

abbrev pub InPoint : Limits → Point → Type 0
InPoint limits point = IsPointInRange limits.regs point × HasPointValues point

abbrev AreFrames : Limits → List PointFrame → Type 0
AreFrames limits frames = ((length frames ≤ 4) × All (InFrame limits) frames) × HasPlainTop frames

frames_format : (limits : Limits) →
    IsFormat (AreFrames limits) (counted frame_words) (λ ws. only has_plain_top (counted_at (at_most_at 4) (frame_at limits) ws))
frames_format limits = only_format HasPlainTop has_plain_top plain_sound plain_complete (counted_format (at_most_format 4) (frame_format limits))

to_point : (limits : Limits) (point : Point) → AreFrames limits point.frames → InPoint limits point
to_point limits point h =
    let fine : IsPointInRange limits.regs point = record {
      few_frames = h.0.0;
      frames = all_first (IsFrameInRange limits.regs) HasFrameValues point.frames h.0.1;
      top = h.1;
    } in
    (fine, all_second (IsFrameInRange limits.regs) HasFrameValues point.frames h.0.1)

from_point : (limits : Limits) (point : Point) → InPoint limits point → AreFrames limits point.frames
from_point limits point h = ((h.0.few_frames, all_both (IsFrameInRange limits.regs) HasFrameValues point.frames h.0.frames h.1), h.0.top)

pub point_format : (limits : Limits) → IsFormat (InPoint limits) point_words (point_at limits)
unfolding point_at
point_format limits =
    same_format (InPoint limits) (to_point limits) (from_point limits)
    (made_format point_of (λ (point : Point). point.frames) (λ frames. refl) (λ point. refl) (frames_format limits))
