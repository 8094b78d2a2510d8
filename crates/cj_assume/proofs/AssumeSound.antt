-- Guards that are assumed directly after an Anchor keep that a code is sound.
use Rattle.std.proofs.Common.{◌≡◌, ◌≢◌, ℕ, ◌+◌, ◌<◌, ◌≤◌, ◌⊎◌, List, [], ◌∷◌, ◌++◌, length, Option, Some, None, refl, sym, ap, ◌∙◌, subst, inl, inr, ⊎_elim}
use Rattle.std.proofs.Common.{arith, length-append}
use Rattle.std.specs.Prelude.{slice_get, slice_set, All}
use Rattle.std.proofs.lemmas.Option.{same_Some, none-some, slice_get_within}
use Rattle.std.proofs.lemmas.List.{length-set}
use Rattle.std.proofs.lemmas.List.Elements.{All-append}
use Rattle.cj_ir.specs.declared.language.FunId.{FunId}
use Rattle.cj_ir.specs.declared.language.Label.{Label}
use Rattle.cj_ir.specs.declared.language.Program.{Program}
use Rattle.cj_ir.specs.declared.language.Guard.{Guard}
use Rattle.cj_ir.proofs.Labels.{label_cases, same_label}
use Rattle.cj_draft.specs.declared.facts.Fact.{Fact}
use Rattle.cj_draft.specs.declared.instructions.VInstr.{VInstr}
use Rattle.cj_draft.specs.declared.instructions.VInstr.TheVariants.{Anchor}
use Rattle.cj_draft.specs.declared.code.Place.{Place}
use Rattle.cj_draft.specs.declared.code.Code.{Code}
use Rattle.cj_draft.specs.declared.passes.Skipped.{Skipped}
use Rattle.cj_draft.specs.WellNamed.{WellNamed, IsGuardWithin, IsVInstrFine, IsPlaceFine}
use Rattle.cj_draft.specs.Arrives.{place_at}
use Rattle.cj_draft.specs.Sound.{Sound, guard_next, RowWithin}
use Rattle.cj_ir.proofs.ListReads.{at_index}
use Rattle.cj_draft.proofs.Lists.{all_from, fine_of}
use Rattle.cj_draft.proofs.SamePlaces.{KeepsPlaces, assume_at}
use Rattle.cj_draft.proofs.Immediate as direct
use Rattle.cj_draft.proofs.MoreGuards as more
use Rattle.cj_draft.specs.Edges.{fresh_label}
use Rattle.cj_draft.proofs.Wider.{place_wider}
use Rattle.cj_draft.proofs.EdgeLemmas.{guard_next_within}
use Rattle.cj_draft.specs.Skips.{unless}
use Rattle.cj_rows.specs.Rows.{guard_in, guard_at, anchor_at, anchor_in, anchor_next}
use Rattle.cj_rows.proofs.ListReads.{get-set_same, get-set_other, get-append_left, get-append_end}
use Rattle.cj_rows.proofs.RowLemmas.{guard_place, has_guard}
use Rattle.cj_assume.specs.ImmediateAssume.{guards_at, full_offence, assume_offence, with_more, appended_in, appended, anchor_to, assume_of, inserted_in}
use Rattle.cj_assume.specs.ImmediateAssume.{inserted, assumed_by, assumed_after, assumed, assumed_or_left}
use Rattle.cj_rows.specs.Places.{with_instr, with_places}
use Rattle.cj_assume.proofs.Conditions.{CanAssume, can_assume, HasAssume, has_assume, room_for_more, HasRoom, room_for_fresh}
use Rattle.cj_rows.proofs.GuardConditions.{guards_within}
use Rattle.cj_assume.proofs.AssumeRows.{row_same, HasGuardsAfter, rows_after}

-- ---- further guards of an Assume

module _ (P : Program) (context : List Fact) (f : FunId) (code : Code) (l : Label) (count : ℕ) (gs : List Guard)
    (has : HasAssume code l count) (registers : All (IsGuardWithin code.regs) gs) (few : count + length gs ≤ 8) (sound : Sound P context f code) where
  grown : Place
  grown = assume_at (has.guards ++ gs) has.number has.target has.next has.place

  code1 : Code
  code1 = with_places code (slice_set code.places l.0 grown)

  l_in : l.0 < length code.places
  l_in = slice_get_within code.places l.0 has.place has.at

  same_length : length code1.places ≡ length code.places
  unfolding code1 with_places
  same_length = length-set code.places l.0 grown

  here1 : place_at code1 l ≡ Some grown
  unfolding code1 with_places
  here1 = get-set_same code.places l.0 grown l_in

  else1 : (x : Label) → x ≢ l → place_at code1 x ≡ place_at code x
  unfolding code1 with_places
  else1 x ne = get-set_other code.places l.0 x.0 grown (λ e. ne (same_label x l e))

  was1 : (x : Label) (p' : Place) → place_at code1 x ≡ Some p' → (place_at code x ≡ Some p') ⊎ (grown ≡ p')
  was1 x p' at = ⊎_elim
      (λ e. inr (same_Some grown p' (sym here1 ∙ ap (place_at code1) (sym e) ∙ at)))
      (λ ne. inl (sym (else1 x ne) ∙ at))
      (label_cases x l)

  kept1 : KeepsPlaces code code1
  unfolding grown assume_at
  kept1 x p at = ⊎_elim
      (λ e.
      let is : has.place ≡ p = same_Some has.place p (sym has.at ∙ ap (place_at code) (sym e) ∙ at) in
      (grown, ap (place_at code1) e ∙ here1, ap (λ (q : Place). q.point) (sym is), ap (λ (q : Place). q.facts) (sym is), ap (λ (q : Place). q.backs) (sym is)))
      (λ ne. (p, else1 x ne ∙ at, refl, refl, refl))
      (label_cases x l)

  has_more : more.HasMoreGuards code code1 l has.place has.guards gs has.number has.target has.next
  unfolding code1 with_places grown
  has_more = record {
    function = refl;
    regs = refl;
    entry = refl;
    at = has.at;
    instr = has.instr;
    kept = kept1;
    back = was1;
  }

  grown_fine : IsPlaceFine P code.regs (length code1.places) grown
  unfolding grown assume_at
  grown_fine =
      let fine = fine_of P code sound.named l has.place has.at in
      let old = subst (IsVInstrFine P code.regs (length code.places)) has.instr fine.instr in
      let within : has.next.0 < length code.places = old.4 in
      let is : length has.guards ≡ count = has.count_is in
      let all : length (has.guards ++ gs) ≡ length has.guards + length gs = length-append has.guards gs in
      record {
        instr = (omega arith, All-append (IsGuardWithin code.regs) has.guards gs old.1 registers, old.2, old.3, omega (arith, same_length));
        point = fine.point;
        facts = fine.facts;
        backs = fine.backs;
      }

  named1 : WellNamed P code1
  unfolding code1 with_places
  named1 = record {
    params = sound.named.params;
    few_regs = sound.named.few_regs;
    some_place = omega (arith, same_length, sound.named.some_place);
    few_places = omega (arith, same_length, sound.named.few_places);
    entry = omega (arith, same_length, sound.named.entry);
    places = all_from (IsPlaceFine P code.regs (length code1.places)) code1.places (λ i p' at.
        ⊎_elim
        (λ old. place_wider P code.regs code.regs (length code.places) (length code1.places) (omega arith) (omega (arith, same_length)) p'
        (fine_of P code sound.named (label i) p' old))
        (λ new. subst (IsPlaceFine P code.regs (length code1.places)) new grown_fine)
        (was1 (label i) p' at));
  }
    where
      label : ℕ → Label
      label n = record { 0 = n }

  guards1 : (x : Label) → guard_at code1 x ≡ guard_at code x
  unfolding guard_at guard_in guard_next grown assume_at
  guards1 x = ⊎_elim
      (λ e. ap (guard_at code1) e ∙ guard_place code1 l grown here1
      ∙ sym (ap (guard_at code) e ∙ guard_place code l has.place has.at ∙ ap guard_next has.instr))
      (λ ne. ap guard_in (else1 x ne))
      (label_cases x l)

  rows1 : (x : Label) → RowWithin code1 8 x
  rows1 x = row_same code code1 guards1 8 x (sound.rows x)

  is_appended : appended code l gs ≡ code1
  unfolding appended appended_in code1 with_places with_instr with_more grown assume_at
  is_appended = ap (appended_in code l gs) has.at
      ∙ ap (λ (i : VInstr). with_places code (slice_set code.places l.0 (with_instr (with_more gs i) has.place))) has.instr

  pub appended_sound : Sound P context f (appended code l gs)
  appended_sound = subst (Sound P context f) (sym is_appended)
      (more.more_guards_sound P context f code code1 l has.place has.guards gs has.number has.target has.next sound has_more named1 rows1)

-- ---- a fresh Assume

module _ (P : Program) (context : List Fact) (f : FunId) (code : Code) (a : Label) (gs : List Guard)
    (can : CanAssume code a gs) (room : HasRoom code a (length gs)) (sound : Sound P context f code) where
  s : Label
  s = fresh_label code

  led : Place
  led = direct.anchor_to (fresh_label code) can.number can.target can.place

  fresh : Place
  fresh = assume_at gs can.number can.target can.next can.place

  code2 : Code
  code2 = with_places code (slice_set code.places a.0 led ++ fresh ∷ [])

  a_in : a.0 < length code.places
  a_in = slice_get_within code.places a.0 can.place can.at

  n-of_s : s.0 ≡ length code.places
  unfolding s fresh_label
  n-of_s = refl

  not_s : (x : Label) → x.0 < length code.places → x ≢ s
  not_s x h e = let is : x.0 ≡ s.0 = ap (λ (y : Label). y.0) e in omega (arith, n-of_s)

  longer : length code2.places ≡ length code.places + 1
  unfolding code2 with_places
  longer = length-append (slice_set code.places a.0 led) (fresh ∷ []) ∙ ap (λ k. k + 1) (length-set code.places a.0 led)

  at_a : place_at code2 a ≡ Some led
  unfolding code2 with_places
  at_a = get-append_left (slice_set code.places a.0 led) (fresh ∷ []) a.0 led (get-set_same code.places a.0 led a_in)

  at_s : place_at code2 s ≡ Some fresh
  unfolding code2 with_places s fresh_label
  at_s = subst (λ k. slice_get (slice_set code.places a.0 led ++ fresh ∷ []) k ≡ Some fresh) (length-set code.places a.0 led)
      (get-append_end (slice_set code.places a.0 led) fresh)

  else2 : (x : Label) (p : Place) → x ≢ a → place_at code x ≡ Some p → place_at code2 x ≡ Some p
  unfolding code2 with_places
  else2 x p ne at = get-append_left (slice_set code.places a.0 led) (fresh ∷ []) x.0 p (get-set_other code.places a.0 x.0 led (λ e. ne (same_label x a e)) ∙ at)

  kept2 : KeepsPlaces code code2
  unfolding led direct.anchor_to
  kept2 x p at = ⊎_elim
      (λ e.
      let is : can.place ≡ p = same_Some can.place p (sym can.at ∙ ap (place_at code) (sym e) ∙ at) in
      (led, ap (place_at code2) e ∙ at_a, ap (λ (q : Place). q.point) (sym is), ap (λ (q : Place). q.facts) (sym is), ap (λ (q : Place). q.backs) (sym is)))
      (λ ne. (p, else2 x p ne at, refl, refl, refl))
      (label_cases x a)

  was2 : (x : Label) (p' : Place) → place_at code2 x ≡ Some p' → (place_at code x ≡ Some p') ⊎ ((led ≡ p') ⊎ (fresh ≡ p'))
  was2 x p' at = ⊎_elim
      (λ e. inr (inl (same_Some led p' (sym at_a ∙ ap (place_at code2) (sym e) ∙ at))))
      (λ ne. ⊎_elim
      (λ e. inr (inr (same_Some fresh p' (sym at_s ∙ ap (place_at code2) (sym e) ∙ at))))
      (λ other.
      let inside : x.0 < length code2.places = slice_get_within code2.places x.0 p' at in
      let differs : x.0 ≢ s.0 = λ e. other (same_label x s e) in
      let less : x.0 < length code.places = omega (arith, longer, n-of_s) in
      let old = at_index code.places x.0 less in
      inl (old.1 ∙ ap Some (same_Some old.0 p' (sym (else2 x old.0 ne old.1) ∙ at))))
      (label_cases x s))
      (label_cases x a)

  is_immediate : direct.IsImmediate code code2 a s can.place gs can.number can.target can.next
  unfolding code2 with_places led fresh s
  is_immediate = record {
    function = refl;
    regs = refl;
    entry = refl;
    at = can.at;
    instr = can.instr;
    fresh = at_s;
    kept = kept2;
    back = was2;
  }

  anchor_fine : IsVInstrFine P code.regs (length code.places) (Anchor can.number can.target can.next)
  anchor_fine = subst (IsVInstrFine P code.regs (length code.places)) can.instr (fine_of P code sound.named a can.place can.at).instr

  led_fine : IsPlaceFine P code.regs (length code2.places) led
  unfolding led direct.anchor_to fresh_label
  led_fine =
      let fine = fine_of P code sound.named a can.place can.at in
      record {
        instr = (anchor_fine.0, anchor_fine.1, omega (arith, longer));
        point = fine.point;
        facts = fine.facts;
        backs = fine.backs;
      }

  fresh_fine : IsPlaceFine P code.regs (length code2.places) fresh
  unfolding fresh assume_at
  fresh_fine =
      let fine = fine_of P code sound.named a can.place can.at in
      let within : can.next.0 < length code.places = anchor_fine.2 in
      record {
        instr = (room.guards, guards_within code.regs gs can.registers, anchor_fine.0, anchor_fine.1, omega (arith, longer));
        point = fine.point;
        facts = fine.facts;
        backs = fine.backs;
      }

  named2 : WellNamed P code2
  unfolding code2 with_places
  named2 = record {
    params = sound.named.params;
    few_regs = sound.named.few_regs;
    some_place = omega (arith, longer);
    few_places = omega (arith, longer, room.labels);
    entry = omega (arith, longer, sound.named.entry);
    places = all_from (IsPlaceFine P code.regs (length code2.places)) code2.places (λ i p' at.
        ⊎_elim
        (λ old. place_wider P code.regs code.regs (length code.places) (length code2.places) (omega arith) (omega (arith, longer)) p'
        (fine_of P code sound.named (label i) p' old))
        (λ new. ⊎_elim
        (λ e. subst (IsPlaceFine P code.regs (length code2.places)) e led_fine)
        (λ e. subst (IsPlaceFine P code.regs (length code2.places)) e fresh_fine) new)
        (was2 (label i) p' at));
  }
    where
      label : ℕ → Label
      label n = record { 0 = n }

  guards_else : (x : Label) → x ≢ a → x ≢ s → guard_at code2 x ≡ guard_at code x
  unfolding guard_at guard_in
  guards_else x ne other = by_place (place_at code x) refl
    where
      by_place : (o : Option Place) → place_at code x ≡ o → guard_at code2 x ≡ guard_at code x
      by_place (Some p) e = guard_place code2 x p (else2 x p ne e) ∙ sym (guard_place code x p e)
      by_place None e = by_new (place_at code2 x) refl
        where
          by_new : (o : Option Place) → place_at code2 x ≡ o → guard_at code2 x ≡ guard_at code x
          by_new None e' = ap guard_in e' ∙ sym (ap guard_in e)
          by_new (Some p') e' = absurd (⊎_elim
              (λ old. none-some p' (sym e ∙ old))
              (λ new. past x other e p' e') (was2 x p' e'))
            where
              past : (x : Label) → x ≢ s → place_at code x ≡ None → (p' : Place) → place_at code2 x ≡ Some p' → ⊥
              past x other e p' at =
                  let inside : x.0 < length code2.places = slice_get_within code2.places x.0 p' at in
                  let differs : x.0 ≢ s.0 = λ is. other (same_label x s is) in
                  let less : x.0 < length code.places = omega (arith, longer, n-of_s) in
                  let old = at_index code.places x.0 less in
                  none-some old.0 (sym e ∙ old.1)

  guard_of_led : guard_at code2 a ≡ Some s
  unfolding led direct.anchor_to guard_next s
  guard_of_led = guard_place code2 a led at_a

  guard_of_fresh : guard_at code2 s ≡ Some can.next
  unfolding fresh assume_at guard_next
  guard_of_fresh = guard_place code2 s fresh at_s

  guard_of_anchor : guard_at code a ≡ Some can.next
  unfolding guard_next
  guard_of_anchor = guard_place code a can.place can.at ∙ ap guard_next can.instr

  next_in_code : (x y : Label) → guard_at code x ≡ Some y → y.0 < length code.places
  next_in_code x y e =
      let h = has_guard code x y e in
      guard_next_within P code.regs (length code.places) h.place.instr y (fine_of P code sound.named x h.place h.at).instr h.guard

  guards_after_a : HasGuardsAfter code code2 a s can.next
  guards_after_a = record {
    old = guards_else;
    anchor = guard_of_led;
    fresh = guard_of_fresh;
    was = guard_of_anchor;
    edges = λ x y e. not_s y (next_in_code x y e);
    apart = not_s a a_in;
  }

  rows2 : (x : Label) → RowWithin code2 8 x
  rows2 = rows_after code code2 a s can.next guards_after_a sound.rows room.row

  is_inserted : inserted code a gs ≡ code2
  unfolding inserted inserted_in code2 with_places with_instr anchor_to assume_of led fresh direct.anchor_to assume_at
  is_inserted = ap (inserted_in code a gs) can.at
      ∙ ap (λ (i : VInstr). with_places code (slice_set code.places a.0 (with_instr (anchor_to (fresh_label code) i) can.place)
      ++ with_instr (assume_of gs i) can.place ∷ [])) can.instr

  pub inserted_sound : Sound P context f (inserted code a gs)
  inserted_sound = subst (Sound P context f) (sym is_inserted)
      (direct.immediate_sound P context f code code2 a s can.place gs can.number can.target can.next sound is_immediate named2 rows2)

-- ---- both

pub anchor_is : (code : Code) (a : Label) (gs : List Guard) (can : CanAssume code a gs) → anchor_at code a ≡ Some can.next
unfolding anchor_at anchor_in anchor_next
anchor_is code a gs can = ap anchor_in can.at ∙ ap anchor_next can.instr

pub assumed_sound : (P : Program) (context : List Fact) (f : FunId) (code : Code) (a : Label) (gs : List Guard) → assume_offence code a gs ≡ None →
    Sound P context f code → Sound P context f (assumed code a gs)
unfolding assumed assumed_after assumed_by
assumed_sound P context f code a gs none sound = by_count (guards_at code can.next) refl
  where
    can : CanAssume code a gs
    can = can_assume code a gs none

    by_count : (o : Option ℕ) → guards_at code can.next ≡ o → Sound P context f (assumed code a gs)
    by_count (Some own) e =
        let full = sym (ap (full_offence code a (length gs)) e) ∙ can.full in
        subst (Sound P context f) (sym (ap (assumed_after code a gs) (anchor_is code a gs can) ∙ ap (assumed_by code a gs can.next) e))
        (appended_sound P context f code can.next own gs (has_assume code can.next own e) (guards_within code.regs gs can.registers)
        (room_for_more code a (length gs) own full) sound)
    by_count None e =
        let full = sym (ap (full_offence code a (length gs)) e) ∙ can.full in
        subst (Sound P context f) (sym (ap (assumed_after code a gs) (anchor_is code a gs can) ∙ ap (assumed_by code a gs can.next) e))
        (inserted_sound P context f code a gs can (room_for_fresh code a (length gs) full) sound)

pub assumed_function : (code : Code) (a : Label) (gs : List Guard) → (assumed code a gs).function ≡ code.function
unfolding assumed assumed_after assumed_by appended appended_in inserted inserted_in with_places
assumed_function code a gs = by_next (anchor_at code a)
  where
    by_appended : (l : Label) (o : Option Place) → (appended_in code l gs o).function ≡ code.function
    by_appended l None = refl
    by_appended l (Some p) = refl

    by_inserted : (o : Option Place) → (inserted_in code a gs o).function ≡ code.function
    by_inserted None = refl
    by_inserted (Some p) = refl

    by_count : (next : Label) (o : Option ℕ) → (assumed_by code a gs next o).function ≡ code.function
    by_count next (Some own) = by_appended next (place_at code next)
    by_count next None = by_inserted (place_at code a)

    by_next : (o : Option Label) → (assumed_after code a gs o).function ≡ code.function
    by_next None = refl
    by_next (Some next) = by_count next (guards_at code next)

-- ---- skipped or not

pub left_alone : (code : Code) (a : Label) (gs : List Guard) (skipped : Skipped) → assume_offence code a gs ≡ Some skipped → code ≡ assumed_or_left code a gs
unfolding assumed_or_left unless
left_alone code a gs skipped e = sym (ap (λ o. unless o code (assumed code a gs)) e)

pub not_left : (code : Code) (a : Label) (gs : List Guard) → assume_offence code a gs ≡ None → assumed code a gs ≡ assumed_or_left code a gs
unfolding assumed_or_left unless
not_left code a gs e = sym (ap (λ o. unless o code (assumed code a gs)) e)
