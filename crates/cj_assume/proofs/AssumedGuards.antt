-- The guards stand directly after the Anchor, where no condition is against them.
use Rattle.std.proofs.Common.{◌≡◌, ◌≢◌, ℕ, List, [], ◌∷◌, ◌++◌, length, Option, Some, None, refl, sym, ap, ◌∙◌, subst}
use Rattle.std.specs.Prelude.{slice_get, slice_set}
use Rattle.std.proofs.lemmas.Option.{none-some, slice_get_within}
use Rattle.std.proofs.lemmas.List.{length-set}
use Rattle.cj_ir.specs.declared.language.Label.{Label}
use Rattle.cj_ir.specs.declared.language.Guard.{Guard}
use Rattle.cj_ir.proofs.Labels.{same_label}
use Rattle.cj_draft.specs.declared.instructions.VInstr.{VInstr}
use Rattle.cj_draft.specs.declared.code.Place.{Place}
use Rattle.cj_draft.specs.declared.code.Code.{Code}
use Rattle.cj_draft.specs.Edges.{fresh_label}
use Rattle.cj_rows.proofs.ListReads.{get-set_same, get-set_other, get-append_left, get-append_end}
use Rattle.cj_rows.specs.Rows.{anchor_at, anchor_in, anchor_next}
use Rattle.cj_assume.specs.ImmediateAssume.{guard_count, count_in, guards_at, assume_offence, with_more, appended_in, appended, anchor_to, assume_of}
use Rattle.cj_assume.specs.ImmediateAssume.{inserted_in, inserted, assumed_by, assumed_after, assumed, IsAfter, HasGuardsNext}
use Rattle.cj_rows.specs.Places.{with_instr, with_places}
use Rattle.cj_assume.proofs.Conditions.{CanAssume, can_assume, has_assume}
use Rattle.cj_assume.proofs.AssumeSound.{anchor_is, not_left}

appended_guards : (code : Code) (a : Label) (gs : List Guard) (can : CanAssume code a gs) (count : ℕ) → guards_at code can.next ≡ Some count →
    HasGuardsNext (appended code can.next gs) a gs
unfolding appended appended_in with_places with_instr with_more anchor_at anchor_in anchor_next guards_at count_in guard_count
appended_guards code a gs can count e =
    let l = can.next in
    let has = has_assume code l count e in
    let grown : Place = with_instr (with_more gs has.place.instr) has.place in
    let is : appended code l gs ≡ with_places code (slice_set code.places l.0 grown) = ap (appended_in code l gs) has.at in
    let differs : a.0 ≢ l.0 = λ same. apart count (ap (guards_at code) (same_label a l same) ∙ e) in
    let there : slice_get (slice_set code.places l.0 grown) a.0 ≡ Some can.place = get-set_other code.places l.0 a.0 grown differs ∙ can.at in
    let here : slice_get (slice_set code.places l.0 grown) l.0
    ≡ Some grown = get-set_same code.places l.0 grown (slice_get_within code.places l.0 has.place has.at) in
    subst (λ (k : Code). HasGuardsNext k a gs) (sym is) (record {
      next = l;
      after = ap anchor_in there ∙ ap anchor_next can.instr;
      place = grown;
      at = here;
      own = has.guards;
      number = has.number;
      target = has.target;
      on = has.next;
      instr = ap (with_more gs) has.instr;
    })
  where
    apart : (count : ℕ) → guards_at code a ≡ Some count → ⊥
    apart count e = none-some count (sym (ap count_in can.at ∙ ap guard_count can.instr) ∙ e)

inserted_guards : (code : Code) (a : Label) (gs : List Guard) → CanAssume code a gs → HasGuardsNext (inserted code a gs) a gs
unfolding inserted inserted_in with_places with_instr anchor_to assume_of fresh_label anchor_at anchor_in anchor_next
inserted_guards code a gs can =
    let led : Place = with_instr (anchor_to (fresh_label code) can.place.instr) can.place in
    let fresh : Place = with_instr (assume_of gs can.place.instr) can.place in
    let places : List Place = slice_set code.places a.0 led in
    let is : inserted code a gs ≡ with_places code (places ++ fresh ∷ []) = ap (inserted_in code a gs) can.at in
    let there : slice_get (places ++ fresh ∷ []) a.0
    ≡ Some led = get-append_left places (fresh ∷ []) a.0 led (get-set_same code.places a.0 led (slice_get_within code.places a.0 can.place can.at)) in
    let here : slice_get (places ++ fresh ∷ []) (length code.places)
    ≡ Some fresh = subst (λ k. slice_get (places ++ fresh ∷ []) k ≡ Some fresh) (length-set code.places a.0 led) (get-append_end places fresh) in
    subst (λ (k : Code). HasGuardsNext k a gs) (sym is) (record {
      next = fresh_label code;
      after = ap anchor_in there ∙ ap (λ (i : VInstr). anchor_next (anchor_to (fresh_label code) i)) can.instr;
      place = fresh;
      at = here;
      own = [];
      number = can.number;
      target = can.target;
      on = can.next;
      instr = ap (assume_of gs) can.instr;
    })

pub assumed_guards : (code : Code) (a : Label) (gs : List Guard) (made : Code) → assume_offence code a gs ≡ None → IsAfter code a gs made →
    HasGuardsNext made a gs
unfolding assumed assumed_after assumed_by
assumed_guards code a gs made none after = subst (λ (k : Code). HasGuardsNext k a gs) (sym (after ∙ sym (not_left code a gs none)))
    (by_count (guards_at code can.next) refl)
  where
    can : CanAssume code a gs
    can = can_assume code a gs none

    by_count : (o : Option ℕ) → guards_at code can.next ≡ o → HasGuardsNext (assumed code a gs) a gs
    by_count (Some own) e =
        subst (λ (k : Code). HasGuardsNext k a gs) (sym (ap (assumed_after code a gs) (anchor_is code a gs can) ∙ ap (assumed_by code a gs can.next) e))
        (appended_guards code a gs can own e)
    by_count None e =
        subst (λ (k : Code). HasGuardsNext k a gs) (sym (ap (assumed_after code a gs) (anchor_is code a gs can) ∙ ap (assumed_by code a gs can.next) e))
        (inserted_guards code a gs can)
