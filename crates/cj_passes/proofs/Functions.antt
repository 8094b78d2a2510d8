-- Passes keep the function of a code.
use Rattle.std.proofs.Common.{◌≡◌, ℕ, ◌+◌, List, Option, Some, None, refl, ap, ◌∙◌, ⊎_elim, []}
use Rattle.cj_ir.specs.declared.language.Label.{Label}
use Rattle.cj_ir.specs.declared.language.Guard.{Guard}
use Rattle.cj_ir.specs.declared.language.Program.{Program}
use Rattle.cj_draft.specs.declared.code.Place.{Place}
use Rattle.cj_draft.specs.declared.code.Code.{Code}
use Rattle.cj_draft.specs.declared.passes.Pass.{Pass}
use Rattle.cj_draft.specs.declared.passes.Pass.TheVariants.{Anchors, Assume, Delay, Const, Inline}
use Rattle.cj_draft.specs.declared.passes.Skipped.{Skipped}
use Rattle.cj_draft.specs.Arrives.{place_at}
use Rattle.cj_anchor.specs.AnchorInsertion.{anchored, IsAnchored, AreAnchored, Finished, Placed, Passed}
use Rattle.cj_assume.specs.ImmediateAssume.{assume_offence, guards_at, appended_in, appended, inserted_in, inserted, assumed_by, assumed_after, assumed}
use Rattle.cj_assume.specs.ImmediateAssume.{assumed_or_left}
use Rattle.cj_rows.specs.Places.{with_places}
use Rattle.cj_draft.specs.declared.instructions.VInstr.{VInstr}
use Rattle.cj_draft.specs.declared.instructions.VInstr.TheVariants.{Nop, Op, Move, Cond, Call, Return, Print, Load, Store, Fail}
use Rattle.cj_draft.specs.declared.instructions.VInstr.TheVariants as version
use Rattle.cj_draft.specs.Skips.{unless}
use Rattle.cj_rows.specs.Rows.{anchor_at}
use Rattle.cj_delay.specs.DelayedAssume.{delayed, IsAfterDelay}
use Rattle.cj_const.specs.Folding.{folded, IsFolded}
use Rattle.cj_inline.specs.Inlining as inlining
use Rattle.cj_passes.specs.Pipeline.{callee_at, IsPassed}

one_anchor : (code made : Code) (label : Label) → IsAnchored code label made → made.function ≡ code.function
unfolding anchored
one_anchor code made label a = ap (λ (k : Code). k.function) a.same

anchors_keep : (index : ℕ) (code made : Code) (labels : List Label) (skips : List (ℕ × Skipped)) → AreAnchored index code labels made skips →
    made.function ≡ code.function
anchors_keep index code made labels skips (Finished i k) = refl
anchors_keep index code made labels skips (Placed i k next m l ls ss none is rest) = anchors_keep (i + 1) next m ls ss rest ∙ one_anchor k next l is
anchors_keep index code made labels skips (Passed i k m l ls skipped ss some rest) = anchors_keep (i + 1) k m ls ss rest

assume_keeps : (code : Code) (anchor : Label) (guards : List Guard) → (assumed_or_left code anchor guards).function ≡ code.function
unfolding assumed_or_left assumed appended inserted appended_in inserted_in assumed_by assumed_after unless with_places
assume_keeps code anchor guards = by_offence (assume_offence code anchor guards)
  where
    by_appended : (l : Label) (o : Option Place) → (appended_in code l guards o).function ≡ code.function
    by_appended l None = refl
    by_appended l (Some place) = refl

    by_inserted : (o : Option Place) → (inserted_in code anchor guards o).function ≡ code.function
    by_inserted None = refl
    by_inserted (Some place) = refl

    by_count : (next : Label) (o : Option ℕ) → (assumed_by code anchor guards next o).function ≡ code.function
    by_count next None = by_inserted (place_at code anchor)
    by_count next (Some own) = by_appended next (place_at code next)

    by_next : (o : Option Label) → (assumed_after code anchor guards o).function ≡ code.function
    by_next None = refl
    by_next (Some next) = by_count next (guards_at code next)

    by_offence : (o : Option Skipped) → (unless o code (assumed code anchor guards)).function ≡ code.function
    by_offence None = by_next (anchor_at code anchor)
    by_offence (Some skipped) = refl

delay_keeps : (P : Program) (code made : Code) (path : List Label) (guards : List Guard) → IsAfterDelay P code path guards made → made.function ≡ code.function
unfolding delayed
delay_keeps P code made path guards is = ⊎_elim
    (λ done. ap (λ (k : Code). k.function) done.1.same)
    (λ left. ap (λ (k : Code). k.function) left.2) is

fold_keeps : (code made : Code) → IsFolded [] code made → made.function ≡ code.function
unfolding folded
fold_keeps code made is = ap (λ (k : Code). k.function) is.2

inline_keeps : (P : Program) (code : Code) (call : Label) (callee : Code) → (inlining.inlined_or_left P code call callee).function ≡ code.function
unfolding inlining.inlined_or_left inlining.inlined inlining.inlined_at inlining.inlined_by unless
inline_keeps P code call callee = by_offence (inlining.inline_offence code call callee)
  where
    by_instr : (place : Place) (instr : VInstr) → (inlining.inlined_by P code call callee place instr).function ≡ code.function
    by_instr place (Nop next) = refl
    by_instr place (Op dest expr next) = refl
    by_instr place (Move pairs next) = refl
    by_instr place (Cond test then_to else_to) = refl
    by_instr place (Call dest f args next) = refl
    by_instr place (Return value) = refl
    by_instr place (Print value next) = refl
    by_instr place (Load dest address next) = refl
    by_instr place (Store address value next) = refl
    by_instr place (Fail f label) = refl
    by_instr place (version.Assume guards back target next) = refl
    by_instr place (version.Anchor back target next) = refl

    by_place : (o : Option Place) → (inlining.inlined_at P code call callee o).function ≡ code.function
    by_place None = refl
    by_place (Some place) = by_instr place place.instr

    by_offence : (o : Option Skipped) → (unless o code (inlining.inlined P code call callee)).function ≡ code.function
    by_offence None = by_place (place_at code call)
    by_offence (Some skipped) = refl

pub pass_keeps : (P : Program) (code made : Code) (pass : Pass) (skipped : List Skipped) → IsPassed P code pass made skipped → made.function ≡ code.function
pass_keeps P code made (Anchors places) skipped is = anchors_keep 0 code made places is.0 is.1
pass_keeps P code made (Assume anchor guards) skipped is = ap (λ (k : Code). k.function) is.0 ∙ assume_keeps code anchor guards
pass_keeps P code made (Delay path guards) skipped is = delay_keeps P code made path guards is.0
pass_keeps P code made Const skipped is = fold_keeps code made is.0
pass_keeps P code made (Inline call) skipped is = ap (λ (k : Code). k.function) is.0 ∙ inline_keeps P code call (callee_at P code call)
