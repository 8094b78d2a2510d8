-- The lowered code is sound and has no Anchors.
use Rattle.std.proofs.Common.{◌≡◌, ℕ, zero, suc, ◌<◌, Bool, true, List, [], ◌∷◌, length, take, Option, Some, None, refl, sym, ap, ◌∙◌, subst, inl, inr, arith}
use Rattle.std.specs.Prelude.{ℤ, slice_get, slice_set, Contains}
use Rattle.std.specs.Option.{option_map}
use Rattle.std.proofs.lemmas.Option.{same_Some, none-some, slice_get-map}
use Rattle.std.proofs.lemmas.List.{length-map}
use Rattle.std.proofs.lemmas.List.Sums.{count_by-le-length}
use Rattle.cj_ir.specs.Values.{operand_value, expr_value}
use Rattle.cj_ir.specs.declared.language.FunId.{FunId}
use Rattle.cj_ir.specs.declared.language.Label.{Label}
use Rattle.cj_ir.specs.declared.language.Program.{Program}
use Rattle.cj_ir.proofs.Marks.{count_marks}
use Rattle.cj_ir.proofs.Members.{contains-head, contains-one}
use Rattle.cj_base.specs.Machine.{Fault, BadAddress, ZeroDivisor, Effect, On, with_value, cell, with_cell, op_effect, load_effect, store_effect}
use Rattle.cj_draft.specs.declared.facts.Fact.{Fact}
use Rattle.cj_draft.specs.declared.instructions.VInstr.{VInstr}
use Rattle.cj_draft.specs.declared.instructions.VInstr.TheVariants.{Nop, Op, Move, Cond, Call, Return, Print, Load, Store, Fail, Assume, Anchor}
use Rattle.cj_draft.specs.declared.code.Place.{Place}
use Rattle.cj_draft.specs.declared.code.Code.{Code}
use Rattle.cj_draft.specs.Effects.{Plain, version_effect}
use Rattle.cj_draft.specs.WellNamed.{WellNamed, IsPlaceFine}
use Rattle.cj_draft.specs.Arrives.{place_at}
use Rattle.cj_draft.specs.Sound.{Sound, guard_next, RowWithin}
use Rattle.cj_draft.specs.Relabel.{relabel}
use Rattle.cj_draft.specs.Bodies.{IsNoAnchor, HasNoAnchors}
use Rattle.cj_ir.proofs.ListReads.{at_index, all_at}
use Rattle.cj_draft.proofs.Lists.{all_from}
use Rattle.cj_draft.proofs.Insert.{IsKept}
use Rattle.cj_draft.proofs.Rows.{guard_next-relabel}
use Rattle.cj_draft.proofs.Lowering.{NoPair, ReachesOn, lowered_sound}
use Rattle.cj_draft.proofs.Lowering.{IsLowered as GoesTo}
use Rattle.cj_draft.proofs.EdgeLemmas.{relabel_fine, guard_successor, branch_in}
use Rattle.cj_draft.specs.Edges.{successors}
use Rattle.cj_rows.specs.Rows.{anchor_next, anchor_at}
use Rattle.cj_rows.specs.Edges.{led_place, IsClosed}
use Rattle.cj_passes.specs.Lowering.{passed, Reached, Entry, Edge, AreKept, renumbered, led, kept_of, lowered}
use Rattle.cj_passes.proofs.Keeping.{kept_at, stood_at, length-kept, count-below}
use Rattle.cj_rows.proofs.Closed.{named_closed}
use Rattle.cj_passes.proofs.Passing.{IsAnchorTo, has_anchor, anchor-at_place, passed_none, passed_next, passed_is_none, row_passed}
use Rattle.cj_passes.proofs.Searching.{reached_within}

-- ---- the labels to which an effect leads are successors

value_in : (R : Label → Type 0) (o : Option ℤ) (fault : Fault) (go : ℤ → Effect) → ((v : ℤ) → ReachesOn R (Plain (go v))) →
    ReachesOn R (Plain (with_value o fault go))
unfolding with_value
value_in R None fault go h = tt
value_in R (Some v) fault go h = h v

leads_to : (R : Label → Type 0) (i : VInstr) (regs m : List ℤ) → ((y : Label) → Contains (successors i) y → R y) → ReachesOn R (version_effect i regs m)
unfolding version_effect successors op_effect load_effect store_effect
leads_to R (Nop x) regs m h = h x (contains-head x [])
leads_to R (Op d e x) regs m h = value_in R (expr_value regs e) ZeroDivisor (λ v. On x (slice_set regs d.0 v) m []) (λ v. h x (contains-head x []))
leads_to R (Move ps x) regs m h = h x (contains-head x [])
leads_to R (Cond t x y) regs m h = branch_in R (operand_value regs t) x y (h x (contains-head x (y ∷ []))) (h y (1, omega arith, refl))
leads_to R (Call d f args x) regs m h = h x (contains-head x [])
leads_to R (Return v) regs m h = tt
leads_to R (Print v x) regs m h = h x (contains-head x [])
leads_to R (Load d a x) regs m h =
    let address = operand_value regs a in
    value_in R (cell m address) (BadAddress address) (λ v. On x (slice_set regs d.0 v) m []) (λ v. h x (contains-head x []))
leads_to R (Store a v x) regs m h =
    let address = operand_value regs a in
    value_in R (cell m address) (BadAddress address) (λ w. On x regs (with_cell m address (operand_value regs v)) []) (λ w. h x (contains-head x []))
leads_to R (Fail f l) regs m h = tt
leads_to R (Assume gs b t x) regs m h = h x (contains-head x [])
leads_to R (Anchor b t x) regs m h = h x (contains-head x [])

-- ---- instructions

no_anchor : (r : Label → Label) (i : VInstr) → anchor_next i ≡ None → IsNoAnchor (relabel r i)
unfolding relabel anchor_next
no_anchor r (Anchor b t x) e = none-some x (sym e)
no_anchor r (Nop x) e = tt
no_anchor r (Op d x n) e = tt
no_anchor r (Move ps n) e = tt
no_anchor r (Cond t x y) e = tt
no_anchor r (Call d f args n) e = tt
no_anchor r (Return v) e = tt
no_anchor r (Print v n) e = tt
no_anchor r (Load d x n) e = tt
no_anchor r (Store x y n) e = tt
no_anchor r (Fail f l) e = tt
no_anchor r (Assume g b t n) e = tt

successor_of_anchor : (i : VInstr) (next y : Label) → IsAnchorTo next i → Contains (successors i) y → next ≡ y
unfolding successors
successor_of_anchor i next y a c = contains-one next y (subst (λ z. Contains (successors z) y) a.is c)

-- what an option that is mapped was
record WasMapped {X Y : Type 0} (f : X → Y) (o : Option X) (y : Y) : Type 0 where
  item : X
  is : o ≡ Some item
  same : f item ≡ y

was_mapped : {X Y : Type 0} (f : X → Y) (o : Option X) (y : Y) → option_map f o ≡ Some y → WasMapped f o y
was_mapped f None y e = absurd (none-some y e)
was_mapped f (Some x) y e = record { item = x; is = refl; same = same_Some (f x) y e }

module _ (P : Program) (context : List Fact) (f : FunId) (code : Code) (kept : List Bool) (sound : Sound P context f code) (are : AreKept code kept) where
  r : Label → Label
  r = led code kept

  code' : Code
  code' = lowered code kept

  -- an edge to the label goes to one that is reached
  R : Label → Type 0
  R x = Reached code (passed code x)

  closed : IsClosed code
  closed = named_closed P code sound.named

  reached_plain : (x : Label) → Reached code x → anchor_at code x ≡ None
  reached_plain x Entry = passed_is_none code code.entry (sound.rows code.entry)
  reached_plain x (Edge from place next reached at c) = passed_is_none code next (sound.rows next)

  to_itself : (x : Label) → Reached code x → passed code x ≡ x
  to_itself x reached = passed_none code x (reached_plain x reached)

  is_kept : (x : Label) → Reached code x → slice_get kept x.0 ≡ Some true
  is_kept x reached = (are.reached x).1 reached

  -- the successors of a label to which edges go are such
  next_R : (x : Label) (p : Place) (y : Label) → R x → place_at code x ≡ Some p → Contains (successors p.instr) y → R y
  unfolding R
  next_R x p y rx at c = by_anchor (anchor_at code x) refl
    where
      by_anchor : (o : Option Label) → anchor_at code x ≡ o → Reached code (passed code y)
      by_anchor None e = Edge x p y (subst (Reached code) (passed_none code x e) rx) at c
      by_anchor (Some next) e =
          let a = has_anchor code x next e in
          let same : a.place ≡ p = same_Some a.place p (sym a.at ∙ at) in
          let to : next ≡ y = successor_of_anchor p.instr next y (subst (λ q. IsAnchorTo next q.instr) same a.anchor) c in
          subst (Reached code) (passed_next code x next (sound.rows x) e ∙ ap (passed code) to) rx

  reach : (x : Label) (p : Place) → R x → place_at code x ≡ Some p → (regs m : List ℤ) → ReachesOn R (version_effect p.instr regs m)
  reach x p rx at regs m = leads_to R p.instr regs m (λ y c. next_R x p y rx at c)

  -- ---- places

  kept_place : (x : Label) (p : Place) → Reached code x → place_at code x ≡ Some p → place_at code' (renumbered kept x) ≡ Some (led_place r p)
  unfolding code' lowered renumbered r
  kept_place x p reached at =
      slice_get-map (led_place (led code kept)) (kept_of kept code.places) (count_marks (take x.0 kept))
      ∙ ap (option_map (led_place (led code kept))) (kept_at kept code.places x.0 p (is_kept x reached) at)

  as_kept : (p : Place) → IsKept r NoPair p (led_place r p)
  unfolding led_place
  as_kept p = record { instr = refl; point = refl; facts = refl; backs = λ q c. c; only = λ q c. inl c }

  lowers : (x : Label) (p : Place) → R x → place_at code x ≡ Some p → GoesTo code code' r x p
  unfolding R r led
  lowers x p rx at = by_anchor (anchor_at code x) refl
    where
      by_anchor : (o : Option Label) → anchor_at code x ≡ o → GoesTo code code' r x p
      by_anchor None e =
          let itself = passed_none code x e in
          inr (led_place r p, ap (λ z. place_at code' (renumbered kept z)) itself ∙ kept_place x p (subst (Reached code) itself rx) at, as_kept p)
      by_anchor (Some next) e =
          let a = has_anchor code x next e in
          let same : a.place ≡ p = same_Some a.place p (sym a.at ∙ at) in
          let anchor = subst (λ q. IsAnchorTo next q.instr) same a.anchor in
          inl (anchor.back, anchor.target, next, anchor.is, ap (renumbered kept) (passed_next code x next (sound.rows x) e))

  -- where a place of the lowered code was
  record Was (p' : Place) : Type 0 where
    label : Label
    place : Place
    reached : Reached code label
    at : place_at code label ≡ Some place
    same : led_place r place ≡ p'

  was : (y : Label) (p' : Place) → place_at code' y ≡ Some p' → Was p'
  unfolding code' lowered r
  was y p' at =
      let m = was_mapped (led_place (led code kept)) (slice_get (kept_of kept code.places) y.0) p'
      (sym (slice_get-map (led_place (led code kept)) (kept_of kept code.places) y.0) ∙ at) in
      let s = stood_at kept code.places y.0 m.item m.is in
      let x : Label = record { 0 = s.place } in
      record { label = x; place = m.item; reached = (are.reached x).0 s.keeps; at = s.at; same = m.same }

  back : (y : Label) (p' : Place) → place_at code' y ≡ Some p' → (x : Label) × (p : Place) × R x × (place_at code x ≡ Some p) × IsKept r NoPair p p'
  unfolding R
  back y p' at =
      let w = was y p' at in
      (w.label, w.place, subst (Reached code) (sym (to_itself w.label w.reached)) w.reached, w.at, subst (IsKept r NoPair w.place) w.same (as_kept w.place))

  -- ---- names

  length-lowered : length code'.places ≡ count_marks kept
  unfolding code' lowered
  length-lowered = length-map (kept_of kept code.places) (led_place (led code kept)) ∙ length-kept kept code.places are.count

  led_within : (x : Label) → R x → (r x).0 < length code'.places
  unfolding R r led renumbered
  led_within x rx =
      let h : count_marks (take (passed code x).0 kept) < count_marks kept = count-below kept (passed code x).0 (is_kept (passed code x) rx) in
      subst (λ n. count_marks (take (passed code x).0 kept) < n) (sym length-lowered) h

  place_fine : (i : ℕ) (p' : Place) → slice_get code'.places i ≡ Some p' → IsPlaceFine P code.regs (length code'.places) p'
  unfolding led_place R
  place_fine i p' at =
      let w = was (record { 0 = i }) p' at in
      let fine = all_at (IsPlaceFine P code.regs (length code.places)) code.places w.label.0 w.place sound.named.places w.at in
      subst (IsPlaceFine P code.regs (length code'.places)) w.same (record {
        instr = relabel_fine P code.regs (length code.places) r (length code'.places) w.place.instr
            (λ y c. led_within y (Edge w.label w.place y w.reached w.at c)) fine.instr;
        point = fine.point;
        facts = fine.facts;
        backs = fine.backs;
      })

  entry_within : (r code.entry).0 < length code'.places
  unfolding R
  entry_within = led_within code.entry Entry

  named : WellNamed P code'
  unfolding code' lowered r
  named = record {
    params = sound.named.params;
    few_regs = sound.named.few_regs;
    some_place = omega (arith, entry_within);
    few_places = omega (arith, length-lowered, count_by-le-length (λ (k : Bool). k) kept, are.count, sound.named.few_places);
    entry = entry_within;
    places = all_from (IsPlaceFine P code.regs (length code'.places)) code'.places place_fine;
  }

  -- ---- rows

  guard_led : (p p' : Place) → led_place r p ≡ p' → guard_next p'.instr ≡ option_map r (guard_next p.instr)
  unfolding led_place
  guard_led p p' e = ap (λ z. guard_next z.instr) (sym e) ∙ guard_next-relabel r p.instr

  row_led : (n : ℕ) (x : Label) → Reached code x → RowWithin code n x → RowWithin code' n (renumbered kept x)
  unfolding r led
  row_led zero x reached row = λ p' at'.
      let old = at_index code.places x.0 (reached_within code x closed reached) in
      let same : led_place r old.0 ≡ p' = same_Some (led_place r old.0) p' (sym (kept_place x old.0 reached old.1) ∙ at') in
      guard_led old.0 p' same ∙ ap (option_map r) (row old.0 old.1)
  row_led (suc n) x reached row = λ p' next' at' g.
      let old = at_index code.places x.0 (reached_within code x closed reached) in
      let same : led_place r old.0 ≡ p' = same_Some (led_place r old.0) p' (sym (kept_place x old.0 reached old.1) ∙ at') in
      let m = was_mapped r (guard_next old.0.instr) next' (sym (guard_led old.0 p' same) ∙ g) in
      subst (RowWithin code' n) m.same
      (row_led n (passed code m.item) (Edge x old.0 m.item reached old.1 (guard_successor old.0.instr m.item m.is))
      (row_passed code n m.item (row old.0 m.item old.1 m.is)))

  rows : (y : Label) → RowWithin code' 8 y
  unfolding r led
  rows y = λ p' next' at' g.
      let w = was y p' at' in
      let m = was_mapped r (guard_next w.place.instr) next' (sym (guard_led w.place p' w.same) ∙ g) in
      subst (RowWithin code' 7) m.same
      (row_led 7 (passed code m.item) (Edge w.label w.place m.item w.reached w.at (guard_successor w.place.instr m.item m.is))
      (row_passed code 7 m.item (sound.rows w.label w.place m.item w.at m.is)))

  -- ---- the whole

  pub lowering_sound : Sound P context f (lowered code kept)
  unfolding code' lowered R r
  lowering_sound = lowered_sound P context f code code' r R sound refl reach lowers back named refl Entry refl rows

  pub lowering_has_no_anchors : HasNoAnchors (lowered code kept)
  unfolding code' led_place
  lowering_has_no_anchors = all_from (λ (p : Place). IsNoAnchor p.instr) code'.places
      (λ i p' at.
      let w = was (record { 0 = i }) p' at in
      subst (λ p. IsNoAnchor p.instr) w.same (no_anchor r w.place.instr (sym (anchor-at_place code w.label w.place w.at) ∙ reached_plain w.label w.reached)))
