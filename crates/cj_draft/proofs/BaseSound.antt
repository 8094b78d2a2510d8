-- The base body of a function, as a code, is sound.
use Rattle.std.proofs.Common.{◌≡◌, ℕ, zero, suc, ◌<◌, ◌≤◌, List, [], ◌∷◌, length, map, Option, Some, None, refl, sym, ap, ◌∙◌, subst, arith, inl}
use Rattle.std.specs.Prelude.{ℤ, All, IsSomeAnd, slice_get, slice_set, ⊤}
use Rattle.std.specs.List.{Contains}
use Rattle.std.specs.Option.{option_map}
use Rattle.std.proofs.lemmas.List.{length-set}
use Rattle.std.proofs.lemmas.List.Elements.{All-nil, All-cons}
use Rattle.std.proofs.lemmas.Option.{none-some, same_Some, slice_get_within}
use Rattle.cj_ir.specs.Values.{operand_value, expr_value}
use Rattle.cj_ir.specs.WellFormed.{IsWellFormed, IsFunctionFine, IsInstrFine}
use Rattle.cj_ir.specs.Program.{function_at, instr_at, regs_of, labels_of, reg_count, label_count}
use Rattle.cj_ir.specs.declared.language.FunId.{FunId}
use Rattle.cj_ir.specs.declared.language.Label.{Label}
use Rattle.cj_ir.specs.declared.language.Operand.{Operand}
use Rattle.cj_ir.specs.declared.language.Function.{Function}
use Rattle.cj_ir.specs.declared.language.Program.{Program}
use Rattle.cj_ir.specs.declared.language.Instr.{Instr}
use Rattle.cj_ir.specs.declared.language.Instr.TheVariants.{Nop, Op, Cond, Call, Return, Print, Load, Store, Fail}
use Rattle.cj_base.specs.declared.machine.Frame.{Frame}
use Rattle.cj_base.specs.Machine.{Stack, Fault, BadAddress, ZeroDivisor, Effect, On, Calls, Returns, Faults, with_value, cell, with_cell, op_effect}
use Rattle.cj_base.specs.Machine.{load_effect, store_effect, effect, entry_regs, entry_frame, waits, resumed, give, turn_by, base_turn}
use Rattle.cj_base.specs.Same.{Same}
use Rattle.cj_base.proofs.SameLaws.{same_refl}
use Rattle.cj_base.proofs.FitsLemmas.{fine_at, Leads, effect_leads, entry_fits, instr_found, turn_is}
use Rattle.cj_draft.specs.declared.points.PointFrame.{PointFrame}
use Rattle.cj_draft.specs.declared.facts.Fact.{Fact}
use Rattle.cj_draft.specs.declared.code.Place.{Place}
use Rattle.cj_draft.specs.declared.code.Code.{Code}
use Rattle.cj_draft.specs.Points.{frame_regs, top_of, stack_of, frames_of}
use Rattle.cj_draft.specs.Effects.{Plain, version_effect}
use Rattle.cj_draft.specs.WellNamed.{IsPointFrameFine, IsPointFine, IsFailure, IsVInstrFine, IsBackFine, IsPlaceFine, WellNamed}
use Rattle.cj_draft.specs.Arrives.{place_at, Admits, Arrives, IsAtCall, returned_by, after_call}
use Rattle.cj_draft.specs.Sound.{AllOwn, Resumes, SoundEffect, guard_next, RowWithin, AreAmong, Sound}
use Rattle.cj_draft.specs.BaseBody.{identity, as_version, base_point, base_place, base_code}
use Rattle.cj_ir.proofs.ListReads.{all_at}
use Rattle.cj_draft.proofs.Lists.{all_from}
use Rattle.cj_draft.proofs.Adopted.{no_facts}
use Rattle.cj_draft.proofs.BasePlaces.{length-identity, identity_within, identity_reads, base_place_at, length-base_code}

some_of : {A B : Type 0} (k : A → B) (o : Option A) (y : B) → option_map k o ≡ Some y → (x : A) × (o ≡ Some x) × (k x ≡ y)
some_of k None y e = absurd (none-some y e)
some_of k (Some x) y e = (x, refl, same_Some (k x) y e)

-- a call's effect is that of the base call
abbrev CallsOf : Program → Frame → Effect → Type 0
CallsOf P fr (On next regs m printed) = ⊤
CallsOf P fr (Calls dest g args next) =
    (operands : List Operand) × (instr_at P fr.function fr.label ≡ Some (Call dest g operands next)) × (map (operand_value fr.regs) operands ≡ args)
CallsOf P fr (Returns x) = ⊤
CallsOf P fr (Faults e) = ⊤

value_calls : (P : Program) (fr : Frame) (o : Option ℤ) (fault : Fault) (go : ℤ → Effect) → ((v : ℤ) → CallsOf P fr (go v)) →
    CallsOf P fr (with_value o fault go)
unfolding with_value
value_calls P fr None fault go h = tt
value_calls P fr (Some v) fault go h = h v

effect_calls : (P : Program) (fr : Frame) (m : List ℤ) (i : Instr) → instr_at P fr.function fr.label ≡ Some i → CallsOf P fr (effect i fr m)
unfolding effect op_effect load_effect store_effect
effect_calls P fr m (Nop n) e = tt
effect_calls P fr m (Op d x n) e = value_calls P fr (expr_value fr.regs x) ZeroDivisor (λ v. On n (slice_set fr.regs d.0 v) m []) (λ v. tt)
effect_calls P fr m (Cond t a b) e = tt
effect_calls P fr m (Call d g args n) e = (args, e, refl)
effect_calls P fr m (Return v) e = tt
effect_calls P fr m (Print v n) e = tt
effect_calls P fr m (Load d a n) e =
    let address = operand_value fr.regs a in
    value_calls P fr (cell m address) (BadAddress address) (λ v. On n (slice_set fr.regs d.0 v) m []) (λ v. tt)
effect_calls P fr m (Store a x n) e =
    let address = operand_value fr.regs a in
    value_calls P fr (cell m address) (BadAddress address) (λ v. On n fr.regs (with_cell m address (operand_value fr.regs x)) []) (λ v. tt)
effect_calls P fr m (Fail text) e = tt

same_effect : (f : FunId) (l : Label) (regs m : List ℤ) (i : Instr) →
    version_effect (as_version f l i) regs m ≡ Plain (effect i (record { function = f; label = l; regs = regs }) m)
unfolding version_effect as_version effect
same_effect f l regs m (Nop n) = refl
same_effect f l regs m (Op d e n) = refl
same_effect f l regs m (Cond t a b) = refl
same_effect f l regs m (Call d g args n) = refl
same_effect f l regs m (Return v) = refl
same_effect f l regs m (Print v n) = refl
same_effect f l regs m (Load d a n) = refl
same_effect f l regs m (Store a v n) = refl
same_effect f l regs m (Fail text) = refl

no_guard : (f : FunId) (l : Label) (i : Instr) → guard_next (as_version f l i) ≡ None
unfolding guard_next as_version
no_guard f l (Nop n) = refl
no_guard f l (Op d e n) = refl
no_guard f l (Cond t a b) = refl
no_guard f l (Call d g args n) = refl
no_guard f l (Return v) = refl
no_guard f l (Print v n) = refl
no_guard f l (Load d a n) = refl
no_guard f l (Store a v n) = refl
no_guard f l (Fail text) = refl

instr_named : (P : Program) (f : FunId) (l : Label) (regs labels : ℕ) (i : Instr) → instr_at P f l ≡ Some i → IsInstrFine P.functions regs labels i →
    IsVInstrFine P regs labels (as_version f l i)
unfolding as_version
instr_named P f l regs labels (Nop n) at fine = fine
instr_named P f l regs labels (Op d e n) at fine = fine
instr_named P f l regs labels (Cond t a b) at fine = fine
instr_named P f l regs labels (Call d g args n) at fine = fine
instr_named P f l regs labels (Return v) at fine = fine
instr_named P f l regs labels (Print v n) at fine = fine
instr_named P f l regs labels (Load d a n) at fine = fine
instr_named P f l regs labels (Store a v n) at fine = fine
instr_named P f l regs labels (Fail text) at fine = subst IsFailure (sym at) tt

-- a frame with no frames below
abbrev alone : FunId → Label → List ℤ → Stack
alone f l regs = record { top = record { function = f; label = l; regs = regs }; waiting = [] }

after_base_call : (P : Program) (f : FunId) (l : Label) (regs : List ℤ) (i : Instr) (next : Label) (x : ℤ) (s : Stack) → instr_at P f l ≡ Some i →
    returned_by (Some i) (alone f l regs) x ≡ s → after_call P (alone f l regs) x ≡ s
unfolding after_call
after_base_call P f l regs i next x s at e = ap (λ o. returned_by o (alone f l regs) x) at ∙ e

module _ (P : Program) (formed : IsWellFormed P) (f : FunId) (inside : f.0 < length P.functions) where
  n : ℕ
  n = reg_count P f

  the_code : Code
  the_code = base_code P f

  place_of : (l : Label) (i : Instr) → instr_at P f l ≡ Some i → place_at the_code l ≡ Some (base_place f n l i)
  unfolding the_code n
  place_of l i at = base_place_at P f l ∙ ap (option_map (base_place f (reg_count P f) l)) at

  instr_at_place : (l : Label) (p : Place) → place_at the_code l ≡ Some p → (i : Instr) × (instr_at P f l ≡ Some i) × (base_place f n l i ≡ p)
  unfolding the_code n
  instr_at_place l p at = some_of (base_place f (reg_count P f) l) (instr_at P f l) p (sym (base_place_at P f l) ∙ at)

  label_within : (l : Label) (i : Instr) → instr_at P f l ≡ Some i → l.0 < label_count P f
  unfolding the_code
  label_within l i at =
      let lt = slice_get_within (the_code).places l.0 (base_place f n l i) (place_of l i at) in
      let count : length (the_code).places ≡ label_count P f = length-base_code P f in
      omega arith

  -- a base point has the frame itself
  frames_base : (l : Label) (regs : List ℤ) → length regs ≡ n → frames_of P (base_point f n l) regs ≡ alone f l regs
  unfolding frames_of stack_of top_of frame_regs base_point
  frames_base l regs e = ap (λ z. alone f l z) (identity_reads regs n e)

  admits_at : (l : Label) (i : Instr) (regs : List ℤ) → length regs ≡ n → Admits the_code (base_place f n l i) regs
  unfolding the_code base_code base_place n
  admits_at l i regs e = record { count = e; facts = λ k d h. absurd (omega arith) }

  arrives_at : (l : Label) (regs : List ℤ) → l.0 < label_count P f → length regs ≡ n → Arrives P the_code l regs (alone f l regs)
  unfolding base_place
  arrives_at l regs within e =
      let found = instr_found P f l within in
      record {
        place = base_place f n l found.0;
        at = place_of l found.0 found.1;
        admits = admits_at l found.0 regs e;
        same = subst (Same P (alone f l regs)) (sym (frames_base l regs e)) (same_refl P (alone f l regs));
      }

  no_pairs : (l : Label) (i : Instr) (regs : List ℤ) → AllOwn P (base_place f n l i) regs
  unfolding base_place
  no_pairs l i regs q c = absurd (omega (arith, c.1))

  resumes_at : (l : Label) (regs : List ℤ) → l.0 < label_count P f → length regs ≡ n → Resumes P the_code l regs (alone f l regs)
  unfolding arrives_at
  resumes_at l regs within e =
      record { arrives = arrives_at l regs within e; backs = no_pairs l (instr_found P f l within).0 regs }

  -- the effect of a base place, from the frame itself
  effect_sound : (l : Label) (i : Instr) (regs m : List ℤ) → length regs ≡ n → (e : Effect) → base_turn P (alone f l regs) m ≡ turn_by P e (alone f l regs) m →
      Leads P f e → CallsOf P (record { function = f; label = l; regs = regs }) e → SoundEffect P the_code (base_place f n l i) regs m (Plain e)
  unfolding turn_by give base_place returned_by resumed waits n
  effect_sound l i regs m all (On next regs' m' printed) t leads c =
      let r = resumes_at next regs' leads.0 leads.1 in
      record {
        stack = alone f next regs';
        turn = ap (λ s. base_turn P s m) (frames_base l regs all) ∙ t;
        arrives = r.arrives;
        backs = λ q k. inl (r.backs q k);
      }
  effect_sound l i regs m all (Calls dest g args next) t leads c =
      let e = sym (frames_base l regs all) in
      record {
        call = subst (λ s. IsAtCall P s g args) e (record { dest = dest; operands = c.0; next = next; at = c.1; values = c.2 });
        resumes = λ x.
            let regs' : List ℤ = slice_set regs dest.0 x in
            let r = resumes_at next regs' leads.2 (length-set regs dest.0 x ∙ all) in
            let after : after_call P (alone f l regs) x
            ≡ alone f next regs' = after_base_call P f l regs (Call dest g c.0 next) next x (alone f next regs') c.1 refl in
            subst (λ s. Resumes P the_code next regs' (after_call P s x)) e
            (subst (λ s. Resumes P the_code next regs' s) (sym after) r);
      }
  effect_sound l i regs m all (Returns x) t leads c = ap (λ s. base_turn P s m) (frames_base l regs all) ∙ t
  effect_sound l i regs m all (Faults x) t leads c = ap (λ s. base_turn P s m) (frames_base l regs all) ∙ t

  place_sound : (l : Label) (i : Instr) → instr_at P f l ≡ Some i → (regs m : List ℤ) → length regs ≡ n →
      SoundEffect P the_code (base_place f n l i) regs m (version_effect (as_version f l i) regs m)
  unfolding n
  place_sound l i at regs m all =
      let fr : Frame = record { function = f; label = l; regs = regs } in
      subst (SoundEffect P the_code (base_place f (reg_count P f) l i) regs m) (sym (same_effect f l regs m i))
      (effect_sound l i regs m all (effect i fr m) (turn_is P (alone f l regs) m i at) (effect_leads P fr m i all (fine_at P formed f l i at))
      (effect_calls P fr m i at))

  any_place : (l : Label) (p : Place) → place_at the_code l ≡ Some p → (regs m : List ℤ) → Admits the_code p regs →
      SoundEffect P the_code p regs m (version_effect p.instr regs m)
  unfolding the_code base_code base_place n
  any_place l p at regs m fit =
      let r = instr_at_place l p at in
      subst (λ q. SoundEffect P the_code q regs m (version_effect q.instr regs m)) r.2 (place_sound l r.0 r.1 regs m fit.count)

  -- ---- the structural half

  point_fine : (l : Label) → l.0 < label_count P f → IsPointFine P n (base_point f n l)
  unfolding base_point n
  point_fine l within = record {
    some_frame = omega arith;
    few_frames = omega arith;
    frames = All-cons (IsPointFrameFine P (reg_count P f)) (record { function = f; label = l; dest = record { 0 = 0 }; map = identity (reg_count P f) }) []
        (record { label_within = within; whole_map = length-identity (reg_count P f); operands = identity_within (reg_count P f) })
        (All-nil (IsPointFrameFine P (reg_count P f)));
    dests = (refl, All-nil (λ (frame : PointFrame). frame.dest.0 < reg_count P frame.function));
  }

  place_fine : (l : Label) (i : Instr) → instr_at P f l ≡ Some i → IsPlaceFine P n (label_count P f) (base_place f n l i)
  unfolding base_place n
  place_fine l i at = record {
    instr = instr_named P f l (reg_count P f) (label_count P f) i at (fine_at P formed f l i at);
    point = point_fine l (label_within l i at);
    facts = no_facts (reg_count P f);
    backs = All-nil (IsBackFine P (reg_count P f));
  }

  places_fine : All (IsPlaceFine P n (label_count P f)) (the_code).places
  places_fine = all_from (IsPlaceFine P n (label_count P f)) (the_code).places (λ k p at.
      let r = instr_at_place (record { 0 = k }) p at in
      subst (IsPlaceFine P n (label_count P f)) r.2 (place_fine (record { 0 = k }) r.0 r.1))

  the_function : (g : Function) × (function_at P f ≡ Some g) × IsFunctionFine P.functions g
  the_function = found (function_at P f) refl
    where
      found : (o : Option Function) → function_at P f ≡ o → (g : Function) × (function_at P f ≡ Some g) × IsFunctionFine P.functions g
      found None e = absurd (outside P.functions f.0 inside e)
        where
          outside : (fs : List Function) (k : ℕ) → k < length fs → slice_get fs k ≡ None → ⊥
          outside [] k h e' = absurd (omega arith)
          outside (g ∷ fs) zero h e' = absurd (none-some g (sym e'))
          outside (g ∷ fs) (suc k) h e' = outside fs k (omega arith) e'
      found (Some g) e = (g, e, all_at (IsFunctionFine P.functions) P.functions f.0 g formed.functions e)

  named : WellNamed P the_code
  unfolding the_code base_code n
  named =
      let g = the_function in
      let regs : reg_count P f ≡ length g.0.regs = ap regs_of g.1 in
      let labels : label_count P f ≡ length g.0.code = ap labels_of g.1 in
      let count : length (base_code P f).places ≡ label_count P f = length-base_code P f in
      let few = g.2.few_registers in
      let params = g.2.params_are_registers in
      let entry = g.2.has_entry in
      let short = g.2.few_labels in
      record {
        params = subst (λ o. IsSomeAnd o (λ h. h.params ≤ reg_count P f)) (sym g.1) (omega arith);
        few_regs = omega arith;
        some_place = omega arith;
        few_places = omega arith;
        entry = omega arith;
        places = subst (λ k. All (IsPlaceFine P (reg_count P f) k) (base_code P f).places) (sym count) places_fine;
      }

  entry_among : (context : List Fact) (p : Place) → place_at the_code (record { 0 = 0 }) ≡ Some p → AreAmong context p.facts
  unfolding base_place
  entry_among context p at =
      let r = instr_at_place (record { 0 = 0 }) p at in
      subst (λ q. AreAmong context q.facts) r.2 (All-nil (Contains context))

  row_short : (k : ℕ) (l : Label) → RowWithin the_code (suc k) l
  unfolding base_place
  row_short k l p next at g =
      let r = instr_at_place l p at in
      absurd (none-some next (sym (no_guard f l r.0) ∙ ap (λ (q : Place). guard_next q.instr) r.2 ∙ g))

  -- The base body is sound, in every context.
  pub base_sound : (context : List Fact) → Sound P context f (base_code P f)
  unfolding the_code base_code entry_frame n
  base_sound context = record {
    function = refl;
    named = named;
    entry_facts = entry_among context;
    entry = λ args takes satisfied.
        let fits = entry_fits P f args formed takes in
        resumes_at (record { 0 = 0 }) (entry_regs (reg_count P f) args) fits.label_within fits.all_regs;
    places = any_place;
    rows = row_short 7;
  }

pub base_body_sound : (P : Program) → IsWellFormed P → (f : FunId) → f.0 < length P.functions → (context : List Fact) →
    Sound P context (base_code P f).function (base_code P f)
unfolding base_code
base_body_sound P formed f inside context = base_sound P formed f inside context
