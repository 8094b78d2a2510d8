-- A call that was inlined is no call.
use Rattle.std.proofs.Common.{◌≡◌, length, map, Some, None, refl, sym, ap, ◌∙◌, subst}
use Rattle.std.specs.Prelude.{slice_set}
use Rattle.std.proofs.lemmas.Option.{slice_get_within}
use Rattle.cj_ir.specs.declared.language.Label.{Label}
use Rattle.cj_ir.specs.declared.language.Program.{Program}
use Rattle.cj_draft.specs.declared.facts.Facts.{Facts}
use Rattle.cj_draft.specs.declared.facts.Facts.TheVariants.{Unreached, Known}
use Rattle.cj_draft.specs.declared.code.Place.{Place}
use Rattle.cj_draft.specs.declared.code.Code.{Code}
use Rattle.cj_draft.specs.declared.passes.Skipped.TheVariants.{NotCall}
use Rattle.cj_draft.specs.Arrives.{place_at}
use Rattle.cj_draft.specs.Inlining.{shift_label, call_place}
use Rattle.cj_rows.proofs.ListReads.{get-set_same, get-append_left}
use Rattle.cj_inline.specs.Inlining.{called_by, if_reached, called, offence_by, offence_at, inline_offence, inlined_place, seam_at, inlined_by, inlined_at}
use Rattle.cj_inline.specs.Inlining.{inlined, IsAfter}
use Rattle.cj_inline.proofs.Conditions.{CanInline, can_inline}
use Rattle.cj_inline.proofs.InlineSound.{not_left}

no_function : (facts : Facts) → if_reached facts None ≡ None
unfolding if_reached
no_function Unreached = refl
no_function (Known facts) = refl

module _ (P : Program) (code callee : Code) (c : Label) (can : CanInline code c callee) where
  enter : Place
  enter = call_place code.regs callee.regs (shift_label (length code.places) callee.entry) can.args can.place

  at_call : place_at (inlined P code c callee) c ≡ Some enter
  unfolding inlined inlined_at inlined_by enter
  at_call =
      subst (λ (k : Code). place_at k c ≡ Some enter) (sym (ap (inlined_at P code c callee) can.at ∙ ap (inlined_by P code c callee can.place) can.instr))
      (get-append_left (slice_set code.places c.0 enter) (map (inlined_place (seam_at P code can.place can.dest can.next)) callee.places) c.0 enter
      (get-set_same code.places c.0 enter (slice_get_within code.places c.0 can.place can.at)))

  no_call : called enter ≡ None
  unfolding called called_by enter call_place
  no_call = no_function can.place.facts

  pub call_is_gone : (again : Code) → inline_offence (inlined P code c callee) c again ≡ Some (NotCall c)
  unfolding inline_offence offence_at offence_by
  call_is_gone again = ap (offence_at (inlined P code c callee) c again) at_call ∙ ap (offence_by (inlined P code c callee) c again enter) no_call

pub gone_after : (P : Program) (code callee made again : Code) (c : Label) → inline_offence code c callee ≡ None → IsAfter P code c callee made →
    inline_offence made c again ≡ Some (NotCall c)
gone_after P code callee made again c free after =
    ap (λ (k : Code). inline_offence k c again) (after ∙ sym (not_left P code c callee free))
    ∙ call_is_gone P code callee c (can_inline code c callee free) again
