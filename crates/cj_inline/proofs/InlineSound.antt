-- A sound callee in the place of a call keeps that a code is sound.
use Rattle.std.proofs.Common.{◌≡◌, ◌≢◌, ℕ, ◌+◌, ◌-◌, ◌<◌, ◌≤◌, ◌⊎◌, List, [], ◌++◌, length, map, Option, Some, None, refl, sym, ap, ap₂, ◌∙◌, subst, inl, inr}
use Rattle.std.proofs.Common.{⊎_elim, arith, length-append}
use Rattle.std.specs.Prelude.{slice_get, slice_set, All, Contains}
use Rattle.std.specs.Option.{option_map}
use Rattle.std.proofs.lemmas.Bool.{cases_lt}
use Rattle.std.proofs.lemmas.Option.{same_Some, slice_get_within, slice_get-map}
use Rattle.std.proofs.lemmas.List.{length-set, length-map}
use Rattle.std.proofs.lemmas.List.Elements.{All-contains}
use Rattle.std.specs.Prelude.{IsSomeAnd}
use Rattle.cj_ir.specs.WellFormed.{IsWellFormed}
use Rattle.cj_ir.specs.declared.language.FunId.{FunId}
use Rattle.cj_ir.specs.declared.language.Function.{Function}
use Rattle.cj_ir.specs.declared.language.Label.{Label}
use Rattle.cj_ir.specs.declared.language.Reg.{Reg}
use Rattle.cj_ir.specs.declared.language.Operand.{Operand}
use Rattle.cj_ir.specs.declared.language.Program.{Program}
use Rattle.cj_ir.proofs.Labels.{same_label, label_cases}
use Rattle.cj_draft.specs.declared.facts.Fact.{Fact}
use Rattle.cj_draft.specs.declared.points.PointFrame.{PointFrame}
use Rattle.cj_draft.specs.declared.instructions.VInstr.{VInstr}
use Rattle.cj_draft.specs.declared.instructions.VInstr.TheVariants.{Nop, Op, Move, Cond, Call, Return, Print, Load, Store, Fail, Assume, Anchor}
use Rattle.cj_draft.specs.declared.code.Back.{Back}
use Rattle.cj_draft.specs.declared.code.Place.{Place}
use Rattle.cj_draft.specs.declared.code.Code.{Code}
use Rattle.cj_draft.specs.declared.passes.Skipped.{Skipped}
use Rattle.cj_draft.specs.WellNamed.{IsVInstrFine, IsBackFine, IsPlaceFine, WellNamed}
use Rattle.cj_draft.specs.Arrives.{place_at}
use Rattle.cj_draft.specs.Sound.{Sound, guard_next}
use Rattle.cj_draft.specs.Inlining.{shift_label, joined_facts, appended_frames, call_place}
use Rattle.cj_ir.proofs.ListReads.{at_index, all_at}
use Rattle.cj_draft.proofs.Lists.{all_from, fine_of}
use Rattle.cj_draft.proofs.InlinedPlaces.{IsInlined, HasFirst, first_of_some}
use Rattle.cj_draft.proofs.Inline.{IsInlining, inlining_sound}
use Rattle.cj_rows.specs.Rows.{guard_in, guard_at}
use Rattle.cj_rows.proofs.ListReads.{get-set_same, get-set_other, get-append_left}
use Rattle.cj_rows.proofs.RowLemmas.{guard_place, has_guard}
use Rattle.cj_inline.specs.declared.seams.Seam.{Seam}
use Rattle.cj_inline.specs.Inlining.{most_frames, place_frames, inline_offence, inlined_back, inlined_place, seam_at, inlined_by, inlined_at, inlined}
use Rattle.cj_inline.specs.Inlining.{inlined_or_left}
use Rattle.cj_inline.proofs.MapReads.{get-append_after, get-map_some, get-map_from, contains-map, contains-map_from}
use Rattle.cj_inline.proofs.Greatest.{greatest_bounds}
use Rattle.cj_draft.proofs.Wider.{place_wider}
use Rattle.cj_draft.proofs.EdgeLemmas.{guard_next_within}
use Rattle.cj_draft.specs.Skips.{unless}
use Rattle.cj_inline.proofs.Seaming.{HasSeam, appended_below, place_inlined, call_fine}
use Rattle.cj_inline.proofs.Conditions.{CanInline}
use Rattle.cj_inline.proofs.InlineRows.{guard_next-inlined, HasGuardsOfBoth, rows_inlined}

numbered : ℕ → Label
numbered n = record { 0 = n }

some_weaker : (o : Option Function) (n m : ℕ) → n ≤ m → IsSomeAnd o (λ f. f.params ≤ n) → IsSomeAnd o (λ f. f.params ≤ m)
some_weaker None n m le h = h
some_weaker (Some f) n m le h = omega arith

module _ (P : Program) (formed : IsWellFormed P) (context : List Fact) (f : FunId) (code D : Code) (c : Label)
    (can : CanInline code c D) (sound : Sound P context f code) (sound_D : Sound P [] D.function D) where
  seam : Seam
  seam = seam_at P code can.place can.dest can.next

  enter : Place
  enter = call_place code.regs D.regs (shift_label (length code.places) D.entry) can.args can.place

  old : List Place
  old = slice_set code.places c.0 enter

  new : List Place
  new = map (inlined_place seam) D.places

  made : Code
  made = record { function = code.function; regs = code.regs + D.regs; entry = code.entry; places = old ++ new }

  is_made : inlined P code c D ≡ made
  unfolding inlined inlined_at inlined_by made old new enter seam
  is_made = ap (inlined_at P code c D) can.at ∙ ap (inlined_by P code c D can.place) can.instr

  c_in : c.0 < length code.places
  c_in = slice_get_within code.places c.0 can.place can.at

  length_old : length old ≡ length code.places
  unfolding old
  length_old = length-set code.places c.0 enter

  length_new : length new ≡ length D.places
  unfolding new
  length_new = length-map D.places (inlined_place seam)

  longer : length made.places ≡ length code.places + length D.places
  unfolding made
  longer = length-append old new ∙ ap₂ (λ a b. a + b) length_old length_new

  -- ---- what stands where

  at_c : place_at made c ≡ Some enter
  unfolding made old
  at_c = get-append_left old new c.0 enter (get-set_same code.places c.0 enter c_in)

  at_old : (x : Label) (p : Place) → x ≢ c → place_at code x ≡ Some p → place_at made x ≡ Some p
  unfolding made old
  at_old x p ne at = get-append_left old new x.0 p (get-set_other code.places c.0 x.0 enter (λ e. ne (same_label x c e)) ∙ at)

  at_new : (x : Label) → place_at made (shift_label (length code.places) x) ≡ slice_get new x.0
  unfolding made shift_label
  at_new x = ap (λ n. slice_get (old ++ new) (n + x.0)) (sym length_old) ∙ get-append_after old new x.0

  at_callee : (x : Label) (p : Place) → place_at D x ≡ Some p → place_at made (shift_label (length code.places) x) ≡ Some (inlined_place seam p)
  unfolding new
  at_callee x p at = at_new x ∙ get-map_some (inlined_place seam) D.places x.0 p at

  -- each label is one of the code, or one of the callee
  either : (x : Label) → (x.0 < length code.places) ⊎ ((y : Label) × (x ≡ shift_label (length code.places) y))
  unfolding shift_label numbered
  either x = ⊎_elim (λ h. inl h) (λ h.
      let e : x.0 ≡ length code.places + (x.0 - length code.places) = omega arith in
      inr (numbered (x.0 - length code.places), same_label x (numbered (length code.places + (x.0 - length code.places))) e))
      (cases_lt x.0 (length code.places))

  IsFrom : Label → Place → Type 0
  IsFrom y p' = (place_at code y ≡ Some p') ⊎ ((p' ≡ enter) ⊎ ((x : Label) × (p : Place) × (y ≡ shift_label (length code.places) x) × (place_at D x ≡ Some p)))

  from_old : (y : Label) (p' : Place) → y.0 < length code.places → place_at made y ≡ Some p' → IsFrom y p'
  unfolding IsFrom
  from_old y p' within at = ⊎_elim
      (λ e. inr (inl (same_Some p' enter (sym at ∙ ap (place_at made) e ∙ at_c))))
      (λ ne.
      let was = at_index code.places y.0 within in
      inl (was.1 ∙ ap Some (same_Some was.0 p' (sym (at_old y was.0 ne was.1) ∙ at))))
      (label_cases y c)

  from_new : (x y : Label) (p' : Place) → y ≡ shift_label (length code.places) x → place_at made y ≡ Some p' → IsFrom y p'
  unfolding IsFrom new
  from_new x y p' e at =
      let p = get-map_from (inlined_place seam) D.places x.0 p' (sym (at_new x) ∙ ap (place_at made) (sym e) ∙ at) in
      inr (inr (x, p.0, e, p.1))

  from : (y : Label) (p' : Place) → place_at made y ≡ Some p' → IsFrom y p'
  from y p' at = ⊎_elim (λ h. from_old y p' h at) (λ x. from_new x.0 y p' x.1 at) (either y)

  -- ---- the callee's places

  tail : List PointFrame
  tail = appended_frames P can.place.point.frames

  is_inlined : (p : Place) → HasFirst p.point → ((q : Back) → Contains p.backs q → HasFirst q.point) →
      IsInlined code.regs (length code.places) tail can.dest can.next p (inlined_place seam p)
  unfolding tail inlined_place inlined_back seam seam_at
  is_inlined p first firsts = record {
    instr = refl;
    point = refl;
    first = first;
    backs = λ q has. contains-map (inlined_back seam) p.backs q has;
    back = λ q' has.
        let q = contains-map_from (inlined_back seam) p.backs q' has in
        (q.0, q.1, sym q.2, firsts q.0 q.1);
  }

  fine : (x : Label) (p : Place) → place_at code x ≡ Some p → IsPlaceFine P code.regs (length code.places) p
  fine x p at = fine_of P code sound.named x p at

  fine_D : (x : Label) (p : Place) → place_at D x ≡ Some p → IsPlaceFine P D.regs (length D.places) p
  fine_D x p at = fine_of P D sound_D.named x p at

  call_fine_at : IsVInstrFine P code.regs (length code.places) (Call can.dest D.function can.args can.next)
  call_fine_at = subst (IsVInstrFine P code.regs (length code.places)) can.instr (fine c can.place can.at).instr

  kept : (x : Label) (p : Place) → place_at code x ≡ Some p → (p' : Place) × (place_at made x ≡ Some p') × (p.point ≡ p'.point) × (p.facts ≡ p'.facts)
      × (p.backs ≡ p'.backs)
  unfolding enter call_place
  kept x p at = ⊎_elim
      (λ e.
      let is : can.place ≡ p = same_Some can.place p (sym can.at ∙ ap (place_at code) (sym e) ∙ at) in
      (enter, ap (place_at made) e ∙ at_c, ap (λ (q : Place). q.point) (sym is), ap (λ (q : Place). q.facts) (sym is), ap (λ (q : Place). q.backs) (sym is)))
      (λ ne. (p, at_old x p ne at, refl, refl, refl))
      (label_cases x c)

  callee : (x : Label) (p : Place) → place_at D x ≡ Some p → (p' : Place) × (place_at made (shift_label (length code.places) x) ≡ Some p')
      × IsInlined code.regs (length code.places) (appended_frames P can.place.point.frames) can.dest can.next p p'
      × (p'.facts ≡ joined_facts code.regs can.place.facts p.facts)
  unfolding tail inlined_place seam seam_at
  callee x p at =
      let one = fine_D x p at in (
        inlined_place seam p,
        at_callee x p at,
        is_inlined p (first_of_some p.point one.point.some_frame) (λ q has. first_of_some q.point (back_some p.backs one.backs q has)),
        refl,
      )
    where
      back_some : (bs : List Back) → All (IsBackFine P D.regs) bs → (q : Back) → Contains bs q → 0 < length q.point.frames
      back_some bs all q has = (All-contains (IsBackFine P D.regs) bs q all has).point.some_frame

  is_inlining : IsInlining P code D made c can.place can.dest D.function can.args can.next
  unfolding made enter IsFrom
  is_inlining = record {
    function = refl;
    regs = refl;
    entry = refl;
    at_c = can.at;
    instr = can.instr;
    kept = kept;
    callee = callee;
    back = from;
  }

  -- ---- names and rows

  has_seam : HasSeam P code.regs (length code.places) (length can.place.point.frames) seam
  unfolding seam seam_at
  has_seam =
      let one = fine c can.place can.at in
      record {
        regs = refl;
        labels = refl;
        below = appended_below P formed code.regs can.place.point one.point;
        facts = one.facts;
        dest = call_fine_at.0;
        next = call_fine_at.3;
      }

  enter_fine : IsPlaceFine P (code.regs + D.regs) (length code.places + length D.places) enter
  unfolding enter
  enter_fine = call_fine P code.regs D.regs (length code.places) (length D.places) D.entry can.args can.place call_fine_at.2 sound_D.named.entry
      (fine c can.place can.at)

  few_at : (x : Label) (p : Place) → place_at D x ≡ Some p → length can.place.point.frames + place_frames p ≤ 4
  unfolding most_frames
  few_at x p at =
      let all : All (λ q. place_frames q ≤ most_frames D.places) D.places = greatest_bounds place_frames (most_frames D.places) D.places (omega arith) in
      let one : place_frames p ≤ most_frames D.places = all_at (λ q. place_frames q ≤ most_frames D.places) D.places x.0 p all at in
      omega (arith, can.frames, one)

  callee_fine : (x : Label) (p : Place) → place_at D x ≡ Some p →
      IsPlaceFine P (code.regs + D.regs) (length code.places + length D.places) (inlined_place seam p)
  callee_fine x p at =
      place_inlined P code.regs D.regs (length code.places) (length D.places) (length can.place.point.frames) seam has_seam p (few_at x p at) (fine_D x p at)

  fine_from : (y : Label) (p' : Place) → place_at made y ≡ Some p' → IsFrom y p' → IsPlaceFine P (code.regs + D.regs) (length code.places + length D.places) p'
  unfolding IsFrom
  fine_from y p' at is = ⊎_elim
      (λ was. place_wider P code.regs (code.regs + D.regs) (length code.places) (length code.places + length D.places) (omega arith) (omega arith) p'
      (fine y p' was))
      (λ fresh. ⊎_elim
      (λ e. subst (IsPlaceFine P (code.regs + D.regs) (length code.places + length D.places)) (sym e) enter_fine)
      (λ h.
      let same : inlined_place seam h.1 ≡ p' = same_Some (inlined_place seam h.1) p' (sym (at_callee h.0 h.1 h.3) ∙ ap (place_at made) (sym h.2) ∙ at) in
      subst (IsPlaceFine P (code.regs + D.regs) (length code.places + length D.places)) same (callee_fine h.0 h.1 h.3))
      fresh)
      is

  all_fine : All (IsPlaceFine P (code.regs + D.regs) (length made.places)) made.places
  unfolding numbered
  all_fine = all_from (IsPlaceFine P (code.regs + D.regs) (length made.places)) made.places (λ i p' at.
      subst (λ n. IsPlaceFine P (code.regs + D.regs) n p') (sym longer) (fine_from (numbered i) p' at (from (numbered i) p' at)))

  named : WellNamed P made
  unfolding made
  named = record {
    params = some_weaker (slice_get P.functions code.function.0) code.regs (code.regs + D.regs) (omega arith) sound.named.params;
    few_regs = can.regs;
    some_place = omega (arith, longer, sound.named.some_place);
    few_places = omega (arith, longer, can.labels);
    entry = omega (arith, longer, sound.named.entry);
    places = all_fine;
  }

  guards_old : (x : Label) → x.0 < length code.places → guard_at made x ≡ guard_at code x
  unfolding enter call_place guard_next
  guards_old x within = ⊎_elim
      (λ e.
      ap (guard_at made) e ∙ guard_place made c enter at_c
      ∙ sym (ap (guard_at code) e ∙ guard_place code c can.place can.at ∙ ap guard_next can.instr))
      (λ ne.
      let was = at_index code.places x.0 within in
      guard_place made x was.0 (at_old x was.0 ne was.1) ∙ sym (guard_place code x was.0 was.1))
      (label_cases x c)

  none_new : (x : Label) → place_at D x ≡ None → slice_get new x.0 ≡ None
  unfolding new
  none_new x e = slice_get-map (inlined_place seam) D.places x.0 ∙ ap (option_map (inlined_place seam)) e

  guards_new : (x : Label) → guard_at made (shift_label (length code.places) x) ≡ option_map (shift_label (length code.places)) (guard_at D x)
  unfolding inlined_place seam seam_at guard_in guard_at made
  guards_new x = by_place (place_at D x) refl
    where
      by_place : (o : Option Place) → place_at D x ≡ o → guard_at made (shift_label (length code.places) x)
          ≡ option_map (shift_label (length code.places)) (guard_at D x)
      by_place (Some p) e =
          guard_place made (shift_label (length code.places) x) (inlined_place seam p) (at_callee x p e)
          ∙ guard_next-inlined code.regs (length code.places) (appended_frames P can.place.point.frames) can.dest can.next p.instr
          ∙ ap (option_map (shift_label (length code.places))) (sym (guard_place D x p e))
      by_place None e =
          ap guard_in (at_new x ∙ none_new x e)
          ∙ ap (λ o. option_map (shift_label (length code.places)) (guard_in o)) (sym e)

  guards_both : HasGuardsOfBoth code D made
  guards_both = record {
    old = guards_old;
    new = guards_new;
    edges = λ x y e.
        let h = has_guard code x y e in
        guard_next_within P code.regs (length code.places) h.place.instr y (fine x h.place h.at).instr h.guard;
    all = either;
  }

  pub inlined_sound : Sound P context f (inlined P code c D)
  inlined_sound = subst (Sound P context f) (sym is_made)
      (inlining_sound P formed context f D.function code D made sound sound_D c can.place can.dest can.args can.next is_inlining named
      (rows_inlined code D made guards_both 8 sound.rows sound_D.rows))

-- ---- skipped or not

pub inlined_function : (P : Program) (code : Code) (c : Label) (D : Code) → (inlined P code c D).function ≡ code.function
unfolding inlined inlined_at inlined_by
inlined_function P code c D = by_place (place_at code c)
  where
    by_instr : (p : Place) (i : VInstr) → (inlined_by P code c D p i).function ≡ code.function
    by_instr p (Call d g args n) = refl
    by_instr p (Nop x) = refl
    by_instr p (Op d e x) = refl
    by_instr p (Move ps x) = refl
    by_instr p (Cond t x y) = refl
    by_instr p (Return v) = refl
    by_instr p (Print v x) = refl
    by_instr p (Load d a x) = refl
    by_instr p (Store a v x) = refl
    by_instr p (Fail g l) = refl
    by_instr p (Assume g b t x) = refl
    by_instr p (Anchor b t x) = refl

    by_place : (o : Option Place) → (inlined_at P code c D o).function ≡ code.function
    by_place None = refl
    by_place (Some p) = by_instr p p.instr

pub left_alone : (P : Program) (code : Code) (c : Label) (D : Code) (skipped : Skipped) → inline_offence code c D ≡ Some skipped →
    code ≡ inlined_or_left P code c D
unfolding inlined_or_left unless
left_alone P code c D skipped e = sym (ap (λ o. unless o code (inlined P code c D)) e)

pub not_left : (P : Program) (code : Code) (c : Label) (D : Code) → inline_offence code c D ≡ None → inlined P code c D ≡ inlined_or_left P code c D
unfolding inlined_or_left unless
not_left P code c D e = sym (ap (λ o. unless o code (inlined P code c D)) e)

-- ---- as the code makes it

code_of : Code → ℕ → List Place → Code
code_of code regs places = record { function = code.function; regs = regs; entry = code.entry; places = places }

pub inlined_is : (P : Program) (code D : Code) (c : Label) (p : Place) (dest : Reg) (g : FunId) (args items : List Operand) (next entry : Label) (meets : Seam)
    (enter : Place) (led places : List Place)
    → place_at code c ≡ Some p → p.instr ≡ Call dest g args next → meets ≡ seam_at P code p dest next → entry ≡ shift_label meets.labels D.entry → items ≡ args
    → enter ≡ call_place code.regs D.regs entry items p → led ≡ slice_set code.places c.0 enter → places ≡ led ++ map (inlined_place meets) D.places
    → record { function = code.function; regs = code.regs + D.regs; entry = code.entry; places = places } ≡ inlined P code c D
unfolding inlined inlined_at inlined_by code_of seam_at
inlined_is P code D c p dest g args items next entry meets enter led places at call is_seam is_entry is_args is_enter is_led is_places =
    let n = code.regs + D.regs in
    let s = seam_at P code p dest next in
    let to = shift_label (length code.places) D.entry in
    let entry_is : entry ≡ to = is_entry ∙ ap (λ (z : Seam). shift_label z.labels D.entry) is_seam in
    let enter_is : enter ≡ call_place code.regs D.regs to args p =
    is_enter ∙ ap (λ (l : Label). call_place code.regs D.regs l items p) entry_is ∙ ap (λ (os : List Operand). call_place code.regs D.regs to os p) is_args in
    let led_is = is_led ∙ ap (λ (q : Place). slice_set code.places c.0 q) enter_is in
    let places_is = is_places ∙ ap₂ (λ (ps : List Place) (z : Seam). ps ++ map (inlined_place z) D.places) led_is is_seam in
    ap (λ (ps : List Place). code_of code n ps) places_is
    ∙ sym (ap (inlined_at P code c D) at ∙ ap (inlined_by P code c D p) call)
