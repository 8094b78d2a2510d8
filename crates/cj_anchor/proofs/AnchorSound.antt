-- A fresh Anchor before a label keeps that a code is sound.
use Rattle.std.proofs.Common.{◌≡◌, ◌≢◌, ℕ, ◌+◌, ◌<◌, ◌≤◌, ◌⊎◌, List, [], ◌∷◌, ◌++◌, length, map, Option, Some, None, refl, sym, ap, ◌∙◌, subst, inl, inr}
use Rattle.std.proofs.Common.{⊎_elim, arith, length-append}
use Rattle.std.specs.Prelude.{ℤ, slice_get, slice_set}
use Rattle.std.specs.Option.{option_map}
use Rattle.std.proofs.lemmas.Option.{same_Some, none-some, slice_get-map, slice_get_within, slice_get_past}
use Rattle.std.proofs.lemmas.List.{length-map}
use Rattle.std.proofs.lemmas.List.Elements.{All-contains}
use Rattle.std.proofs.lemmas.Bool.{cases_eq}
use Rattle.cj_ir.specs.declared.language.FunId.{FunId}
use Rattle.cj_ir.specs.declared.language.Label.{Label}
use Rattle.cj_ir.specs.declared.language.Program.{Program}
use Rattle.cj_ir.proofs.Labels.{label_cases}
use Rattle.cj_base.specs.Machine.{Stack, On, Calls, Returns, Faults}
use Rattle.cj_draft.specs.declared.facts.Fact.{Fact}
use Rattle.cj_draft.specs.declared.code.Back.{Back}
use Rattle.cj_draft.specs.declared.code.Place.{Place}
use Rattle.cj_draft.specs.declared.code.Code.{Code}
use Rattle.cj_draft.specs.Points.{frames_of}
use Rattle.cj_draft.specs.Effects.{VersionEffect, Plain, Guarded, version_effect}
use Rattle.cj_draft.specs.WellNamed.{WellNamed, IsPlaceFine, IsBackFine}
use Rattle.cj_draft.specs.Arrives.{place_at, Arrives}
use Rattle.cj_draft.specs.Sound.{Sound, pair_of, IsOwn, guard_next, RowWithin}
use Rattle.cj_ir.proofs.ListReads.{at_index}
use Rattle.cj_draft.proofs.Lists.{all_from, fine_of}
use Rattle.cj_draft.proofs.Insert.{IsKept, IsInserted, NewOn, inserted_sound}
use Rattle.cj_draft.proofs.Rows.{guard_next-relabel, rows_inserted}
use Rattle.cj_draft.specs.Edges.{fresh_label, led_to}
use Rattle.cj_draft.proofs.EdgeLemmas.{led-same, led-other, relabel_fine, guard_successor}
use Rattle.cj_rows.specs.Edges.{led_place, IsClosed}
use Rattle.cj_rows.specs.Rows.{guard_in, guard_at, fresh_row}
use Rattle.cj_anchor.specs.AnchorInsertion.{offence_at, anchor_offence, anchor_place, anchored}
use Rattle.cj_rows.proofs.ListReads.{get-append_left, get-append_end, contains-at}
use Rattle.cj_rows.proofs.Closed.{named_closed, next_within}
use Rattle.cj_rows.proofs.RowLemmas.{has_guard, guard_place}
use Rattle.cj_rows.proofs.InsertedRows.{HasGuardsOf, rows_through}
use Rattle.cj_rows.proofs.Room as room
use Rattle.cj_rows.specs.Pairs.{AreWith}
use Rattle.cj_rows.proofs.WithPairs.{with_old, with_new, with_only}

-- ---- the conditions that no offence leaves

pub has_room : (code : Code) (l : Label) (p : Place) → place_at code l ≡ Some p → anchor_offence code l ≡ None →
    (fresh_row code l ≤ 8) × (length code.places + 1 ≤ 512)
unfolding anchor_offence offence_at
has_room code l p at none = room.has_room (fresh_row code l) (length code.places + 1) (sym (ap (offence_at code l) at) ∙ none)

-- ---- where edges go

-- ---- pairs

module _ (P : Program) (context : List Fact) (f : FunId) (code : Code) (l : Label) (place : Place) (backs : List Back)
    (at_l : place_at code l ≡ Some place) (own : AreWith place.backs (pair_of 0 place.point) backs)
    (sound : Sound P context f code) (none : anchor_offence code l ≡ None) where
  a : Label
  a = fresh_label code

  r : Label → Label
  r = led_to l (fresh_label code)

  code' : Code
  code' = anchored code l place backs

  New : Label → Back → Type 0
  New x q = (x ≡ a) × (q ≡ pair_of 0 place.point)

  closed : IsClosed code
  closed = named_closed P code sound.named

  fresh : Place
  fresh = anchor_place l place backs

  n-of_a : a.0 ≡ length code.places
  unfolding a fresh_label
  n-of_a = refl

  not_a : (x : Label) → x.0 < length code.places → x ≢ a
  not_a x h e = let same : x.0 ≡ a.0 = ap (λ (y : Label). y.0) e in omega (arith, n-of_a)

  l_within : l.0 < length code.places
  l_within = slice_get_within code.places l.0 place at_l

  -- ---- places

  old_at : (x : Label) (p : Place) → place_at code x ≡ Some p → place_at code' x ≡ Some (led_place r p)
  unfolding code' anchored r anchor_place fresh
  old_at x p at = get-append_left (map (led_place r) code.places) (fresh ∷ []) x.0 (led_place r p) (slice_get-map (led_place r) code.places x.0
      ∙ ap (option_map (led_place r)) at)

  fresh_at : place_at code' a ≡ Some fresh
  unfolding code' anchored r a fresh_label fresh
  fresh_at = subst (λ k. slice_get (map (led_place r) code.places ++ fresh ∷ []) k ≡ Some fresh) (length-map code.places (led_place r))
      (get-append_end (map (led_place r) code.places) fresh)

  length-new : length code'.places ≡ length code.places + 1
  unfolding code' anchored
  length-new = length-append (map (led_place (led_to l (fresh_label code))) code.places) (anchor_place l place backs ∷ [])
      ∙ ap (λ k. k + 1) (length-map code.places (led_place (led_to l (fresh_label code))))

  as_kept : (x : Label) (p : Place) → IsKept r (New x) p (led_place r p)
  unfolding led_place
  as_kept x p = record { instr = refl; point = refl; facts = refl; backs = λ q c. c; only = λ q c. inl c }

  -- where a place of the new code was
  was : (x : Label) (p' : Place) → place_at code' x ≡ Some p' → (x ≡ a) ⊎ ((p : Place) × (place_at code x ≡ Some p) × (led_place r p ≡ p'))
  unfolding a fresh_label
  was x p' at' = ⊎_elim
      (λ e. inl e)
      (λ ne.
      let inside : x.0 < length code'.places = slice_get_within code'.places x.0 p' at' in
      let old = at_index code.places x.0 (less x ne (omega (arith, length-new))) in
      inr (old.0, old.1, same_Some (led_place r old.0) p' (sym (old_at x old.0 old.1) ∙ at')))
      (label_cases x a)
    where
      less : (x : Label) → x ≢ a → x.0 < length code.places + 1 → x.0 < length code.places
      less x ne h = ⊎_elim (λ e. absurd (ne (same x e))) (λ other. omega arith) (cases_eq x.0 (length code.places))
        where
          label : ℕ → Label
          label n = record { 0 = n }

          same : (x : Label) → x.0 ≡ length code.places → x ≡ a
          same x e = ap label e

  inserted : IsInserted code code' l a r New
  unfolding code' anchored r fresh anchor_place New a fresh_label
  inserted = record {
    function = refl;
    regs = refl;
    entry = refl;
    leads = λ x. ⊎_elim (λ e. inl (e, led-same l (fresh_label code) x e)) (λ ne. inr (led-other l (fresh_label code) x ne)) (label_cases x l);
    kept = λ x p at. (led_place r p, old_at x p at, as_kept x p);
    back = λ x p' at. ⊎_elim (λ e. inl e) (λ w. inr (w.0, w.1, subst (IsKept r (New x) w.0) w.2 (as_kept x w.0))) (was x p' at);
    place = place;
    fresh = fresh;
    at_l = at_l;
    at_a = fresh_at;
    none_at_l = λ q n. not_a l l_within n.0;
    point = refl;
    facts = refl;
    backs = λ q c. with_old place.backs (pair_of 0 place.point) backs own q c;
    only = λ q c. ⊎_elim (λ o. inl o) (λ e. inr (refl, e)) (with_only place.backs (pair_of 0 place.point) backs own q c);
    guards = [];
    number = 0;
    target = place.point;
    instr = inl refl;
    target_in = with_new place.backs (pair_of 0 place.point) backs own;
  }

  -- ---- names

  led_within : (y : Label) → y.0 < length code.places → (r y).0 < length code'.places
  unfolding r a fresh_label
  led_within y h = ⊎_elim
      (λ e. subst (λ z. z.0 < length code'.places) (sym (led-same l (fresh_label code) y e)) (omega (arith, length-new, n-of_a)))
      (λ ne. subst (λ z. z.0 < length code'.places) (sym (led-other l (fresh_label code) y ne)) (omega (arith, length-new)))
      (label_cases y l)

  led_fine : (x : Label) (p : Place) → place_at code x ≡ Some p → IsPlaceFine P code.regs (length code'.places) (led_place r p)
  unfolding led_place
  led_fine x p at =
      let fine = fine_of P code sound.named x p at in
      record {
        instr = relabel_fine P code.regs (length code.places) r (length code'.places) p.instr (λ y c. led_within y (next_within code x p y closed at c))
            fine.instr;
        point = fine.point;
        facts = fine.facts;
        backs = fine.backs;
      }

  fresh_fine : IsPlaceFine P code.regs (length code'.places) fresh
  unfolding fresh anchor_place
  fresh_fine =
      let fine = fine_of P code sound.named l place at_l in
      record {
        instr = (omega arith, fine.point, omega (arith, length-new, l_within));
        point = fine.point;
        facts = fine.facts;
        backs = all_from (IsBackFine P code.regs) backs (λ i q at. ⊎_elim
            (λ old. All-contains (IsBackFine P code.regs) place.backs q fine.backs old)
            (λ new. subst (IsBackFine P code.regs) (sym new) (record { few_turns = omega arith; point = fine.point }))
            (with_only place.backs (pair_of 0 place.point) backs own q (contains-at backs i q at)));
      }

  named : WellNamed P code'
  unfolding code' anchored r
  named = record {
    params = sound.named.params;
    few_regs = sound.named.few_regs;
    some_place = omega (arith, length-new);
    few_places = omega (arith, length-new, (has_room code l place at_l none).1);
    entry = led_within code.entry closed.entry;
    places = all_from (IsPlaceFine P code.regs (length code'.places)) code'.places (λ i p' at.
        let x : Label = record { 0 = i } in
        ⊎_elim
        (λ e.
        let same : fresh ≡ p' = same_Some fresh p' (sym fresh_at ∙ ap (place_at code') (sym e) ∙ at) in
        subst (IsPlaceFine P code.regs (length code'.places)) same fresh_fine)
        (λ w. subst (IsPlaceFine P code.regs (length code'.places)) w.2 (led_fine x w.0 w.1))
        (was x p' at));
  }

  -- ---- rows

  guard_of_led : (p : Place) → guard_next (led_place r p).instr ≡ option_map r (guard_next p.instr)
  unfolding led_place
  guard_of_led p = guard_next-relabel r p.instr

  guard_of_old : (x : Label) → x ≢ a → guard_at code' x ≡ option_map r (guard_at code x)
  unfolding guard_at guard_in
  guard_of_old x ne = by_place (place_at code x) refl
    where
      by_place : (o : Option Place) → place_at code x ≡ o → guard_at code' x ≡ option_map r (guard_at code x)
      by_place (Some p) e = guard_place code' x (led_place r p) (old_at x p e) ∙ guard_of_led p ∙ ap (option_map r) (sym (guard_place code x p e))
      by_place None e = by_new (place_at code' x) refl
        where
          by_new : (o : Option Place) → place_at code' x ≡ o → guard_at code' x ≡ option_map r (guard_at code x)
          by_new None e' = ap guard_in e' ∙ ap (λ o. option_map r (guard_in o)) (sym e)
          by_new (Some p') e' = absurd (⊎_elim (λ is. ne is) (λ w. none-some w.0 (sym e ∙ w.1)) (was x p' e'))

  guard_of_fresh : guard_at code' a ≡ Some l
  unfolding fresh anchor_place guard_next
  guard_of_fresh = guard_place code' a fresh fresh_at

  no_guard_at_a : guard_at code a ≡ None
  unfolding guard_at guard_in a fresh_label
  no_guard_at_a = ap guard_in (slice_get_past code.places (length code.places) (omega arith))

  guards : HasGuardsOf code code' l a r
  unfolding r a
  guards = record {
    old = guard_of_old;
    fresh = guard_of_fresh;
    none = no_guard_at_a;
    to_l = led-same l (fresh_label code) l refl;
    others = λ x ne. led-other l (fresh_label code) x ne;
    edges = λ x next e.
        let h = has_guard code x next e in
        not_a next (next_within code x h.place next closed h.at (guard_successor h.place.instr next h.guard));
    apart = not_a l l_within;
  }

  rows : (x : Label) → RowWithin code' 8 x
  rows = rows_inserted code code' l a r New inserted sound.rows
      (rows_through code code' l a r guards sound.rows
      (λ x next e. slice_get_within code.places x.0 (has_guard code x next e).place (has_guard code x next e).at)
      (has_room code l place at_l none).0)

  -- ---- pairs

  new_own : (next : Label) (regs : List ℤ) (st : Stack) (arrives : Arrives P code next regs st) (q : Back) → New (r next) q → IsOwn P arrives.place regs q
  unfolding New r
  new_own next regs st arrives q new =
      let inside = slice_get_within code.places next.0 arrives.place arrives.at in
      let is_l : next ≡ l = ⊎_elim (λ e. e) (λ ne. absurd (not_a next inside (sym (led-other l (fresh_label code) next ne) ∙ new.0))) (label_cases next l) in
      let same : arrives.place ≡ place = same_Some arrives.place place (sym arrives.at ∙ ap (place_at code) is_l ∙ at_l) in
      subst (IsOwn P arrives.place regs) (sym new.1) (refl, ap (λ (p : Place). frames_of P p.point regs) (sym same))

  new_on : (p' : Place) (regs : List ℤ) (e : VersionEffect) → NewOn P code r New p' regs e
  new_on p' regs (Plain (On next regs' m printed)) = λ st arrives q new. inl (new_own next regs' st arrives q new)
  new_on p' regs (Plain (Calls dest g args next)) = λ v st arrives q new. new_own next (slice_set regs dest.0 v) st arrives q new
  new_on p' regs (Plain (Returns v)) = tt
  new_on p' regs (Plain (Faults fault)) = tt
  new_on p' regs (Guarded holds back target next) = λ h st arrives q new. inl (new_own next regs st arrives q new)

  pub anchored_sound : Sound P context f (anchored code l place backs)
  unfolding code' r
  anchored_sound = inserted_sound P context f code code' l a r New inserted sound named
      (λ x p p' at at' kept regs m admits. new_on p' regs (version_effect p.instr regs m))
      (λ regs st arrives q new. new_own code.entry regs st arrives q new) rows
