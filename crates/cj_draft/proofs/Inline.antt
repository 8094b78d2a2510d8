-- Inlining keeps that a code is sound.
use Rattle.std.proofs.Common.{◌≡◌, ℕ, ◌+◌, ◌-◌, ◌≤◌, ◌⊎◌, List, [], ◌++◌, length, map, take, drop, replicate, Some, sym, ap, ap₂, ◌∙◌, subst, arith, inl}
use Rattle.std.proofs.Common.{⊎_elim}
use Rattle.std.specs.Prelude.{ℤ, pos, slice_set}
use Rattle.std.proofs.lemmas.List.{length-append, length-map, length-replicate, length-take-le, length-drop, take-append-drop, append-nil, set-append_left}
use Rattle.std.proofs.lemmas.List.Elements.{All-nil}
use Rattle.std.proofs.lemmas.Option.{same_Some}
use Rattle.cj_ir.specs.Values.{register, operand_value}
use Rattle.cj_ir.specs.WellFormed.{IsWellFormed, Takes}
use Rattle.cj_ir.specs.declared.language.FunId.{FunId}
use Rattle.cj_ir.specs.declared.language.Label.{Label}
use Rattle.cj_ir.specs.declared.language.Reg.{Reg}
use Rattle.cj_ir.specs.declared.language.Program.{Program}
use Rattle.cj_ir.specs.declared.language.Operand.{Operand}
use Rattle.cj_ir.specs.declared.language.Instr.TheVariants as base
use Rattle.cj_base.specs.Machine.{Stack, over, give, entry_regs, entry_frame, base_turn}
use Rattle.cj_base.proofs.Segments.{over_nil}
use Rattle.cj_base.proofs.FitsLemmas.{fine_at}
use Rattle.cj_draft.specs.declared.points.PointFrame.{PointFrame}
use Rattle.cj_draft.specs.declared.facts.Fact.{Fact}
use Rattle.cj_draft.specs.declared.instructions.VInstr.TheVariants.{Call}
use Rattle.cj_draft.specs.declared.code.Place.{Place}
use Rattle.cj_draft.specs.declared.code.Code.{Code}
use Rattle.cj_draft.specs.Points.{frames_of}
use Rattle.cj_draft.specs.Effects.{version_effect, moved}
use Rattle.cj_draft.specs.WellNamed.{IsVInstrFine, IsPlaceFine, WellNamed}
use Rattle.cj_draft.specs.Arrives.{place_at, Satisfies, Allows, Admits, IsAtCall, left_waiting, after_call}
use Rattle.cj_draft.specs.Sound.{StepsOn, Resumes, StepsIn, SoundEffect, RowWithin, AreAmong, Sound}
use Rattle.cj_draft.specs.Inlining.{shift_label, joined_facts, appended_frames, entry_pairs, call_place}
use Rattle.cj_ir.proofs.ListReads.{at_index, all_at}
use Rattle.cj_draft.proofs.Extend.{HasRoom, resumes_wider, effect_wider, effect-extend, dest_within, frames_left, allows_right}
use Rattle.cj_draft.proofs.InlinedPlaces.{IsInlined, Holds, inlined_place, resumes_in}
use Rattle.cj_draft.proofs.InlineParts.{params_within, call_turn, give_left, appended_is, entry_move_is, entry_grows, allows_joined}

-- code' is code with the callee's code D in the place of the call at c.
pub record IsInlining (P : Program) (code D code' : Code) (c : Label) (cp : Place) (dest : Reg) (g : FunId) (args : List Operand) (next : Label) : Type 0 where
  pub function : code'.function ≡ code.function
  pub regs : code'.regs ≡ code.regs + D.regs
  pub entry : code'.entry ≡ code.entry
  pub at_c : place_at code c ≡ Some cp
  pub instr : cp.instr ≡ Call dest g args next
  pub kept : (x : Label) (p : Place) → place_at code x ≡ Some p → (p' : Place) × (place_at code' x ≡ Some p') × (p.point ≡ p'.point) × (p.facts ≡ p'.facts)
      × (p.backs ≡ p'.backs)
  pub callee : (x : Label) (p : Place) → place_at D x ≡ Some p → (p' : Place) × (place_at code' (shift_label (length code.places) x) ≡ Some p')
      × IsInlined code.regs (length code.places) (appended_frames P cp.point.frames) dest next p p' × (p'.facts ≡ joined_facts code.regs cp.facts p.facts)
  pub back : (y : Label) (p' : Place) → place_at code' y ≡ Some p' →
      (place_at code y ≡ Some p')
      ⊎ ((p' ≡ call_place code.regs D.regs (shift_label (length code.places) D.entry) args cp)
      ⊎ ((x : Label) × (p : Place) × (y ≡ shift_label (length code.places) x) × (place_at D x ≡ Some p)))

module _ (P : Program) (formed : IsWellFormed P) (context : List Fact) (f g : FunId) (code D code' : Code) (sound : Sound P context f code)
    (sound_D : Sound P [] g D) (c : Label) (cp : Place) (dest : Reg) (args : List Operand) (next : Label)
    (ins : IsInlining P code D code' c cp dest g args next) where
  k : ℕ
  k = length code.places

  tail : List PointFrame
  tail = appended_frames P cp.point.frames

  fine_of : (x : Label) (p : Place) → place_at code x ≡ Some p → IsPlaceFine P code.regs (length code.places) p
  fine_of x p at = all_at (IsPlaceFine P code.regs (length code.places)) code.places x.0 p sound.named.places at

  room : (n : ℕ) → n ≡ D.regs → HasRoom P code code' n
  room n e = record { regs = ins.regs ∙ ap (λ z. code.regs + z) (sym e); kept = ins.kept; fine = fine_of }

  fine_over : (a : List ℤ) (x : Label) (p : Place) → length a ≡ code.regs → place_at code x ≡ Some p → IsPlaceFine P (length a) (length code.places) p
  fine_over a x p e at = subst (λ n. IsPlaceFine P n (length code.places) p) (sym e) (fine_of x p at)

  call_step : (a m : List ℤ) → Admits code cp a → StepsIn P code cp a dest g (map (operand_value a) args) next
  unfolding version_effect
  call_step a m fit = subst (λ i. SoundEffect P code cp a m (version_effect i a m)) ins.instr (sound.places c cp ins.at_c a m fit)

  callee_facts : (x : Label) (p p' : Place) → place_at D x ≡ Some p → place_at code' (shift_label (length code.places) x) ≡ Some p' →
      p'.facts ≡ joined_facts code.regs cp.facts p.facts
  callee_facts x p p' at at' =
      let r = ins.callee x p at in
      ap (λ z. z.facts) (same_Some p' r.0 (sym at' ∙ r.1)) ∙ r.3

  holds : (a : List ℤ) → Admits code cp a → Holds P D code' a k tail (left_waiting P (frames_of P cp.point a)) dest next
  unfolding k tail
  holds a fit =
      let fine = fine_over a c cp fit.count ins.at_c in
      record {
        place = λ x p at. let r = ins.callee x p at in
            (r.0, r.1, subst (λ n. IsInlined n (length code.places) (appended_frames P cp.point.frames) dest next p r.0) (sym fit.count) r.2);
        admits = λ x p p' b at at' h. record {
          count = length-append a b ∙ ap₂ (λ u v. u + v) fit.count h.count ∙ sym ins.regs;
          facts =
              let e : p'.facts ≡ joined_facts (length a) cp.facts p.facts = callee_facts x p p' at at'
              ∙ ap (λ n. joined_facts n cp.facts p.facts) (sym fit.count) in
              subst (λ z. Allows z (a ++ b)) (sym e) ((allows_joined a b cp.facts p.facts fine.facts).1 (fit.facts, h.facts));
        };
        below = λ b. appended_is P a b cp.point fine.point;
      }

  takes_of : (a : List ℤ) → IsAtCall P (frames_of P cp.point a) g (map (operand_value a) args) → Takes P.functions g (length (map (operand_value a) args))
  takes_of a call =
      let top = (frames_of P cp.point a).top in
      let fine = fine_at P formed top.function top.label (base.Call call.dest g call.operands call.next) call.at in
      subst (λ n. Takes P.functions g n) (sym (length-map call.operands (operand_value top.regs)) ∙ ap length call.values) fine.1

  -- the move at c
  call_sound : (a b m : List ℤ) → Admits code cp a → length b ≡ D.regs →
      let p' : Place = call_place code.regs D.regs (shift_label (length code.places) D.entry) args cp in SoundEffect P code' p' (a ++ b) m
      (version_effect p'.instr (a ++ b) m)
  unfolding call_place version_effect over k tail
  call_sound a b m fit nb =
      let fine = fine_over a c cp fit.count ins.at_c in
      let s = call_step a m fit in
      let values = map (operand_value a) args in
      let takes = takes_of a s.call in
      let few : length values
      ≤ D.regs = params_within P D (length values) sound_D.named (subst (λ z. Takes P.functions z (length values)) (sym sound_D.function) takes) in
      let short : length args ≤ length b = omega (arith, length-map args (operand_value a)) in
      let ws = left_waiting P (frames_of P cp.point a) in
      let st : Stack = record { top = entry_frame P g values; waiting = [] } in
      let regs' = entry_regs D.regs values in
      let none : Satisfies [] values = All-nil (λ fact. register values fact.reg.0 ≡ fact.value) in
      let r = resumes_in P D code' a (length code.places) (appended_frames P cp.point.frames) ws dest next (holds a fit) D.entry regs' st
      (sound_D.entry values takes none) in
      let in_call = subst (λ i. IsVInstrFine P (length a) (length code.places) i) ins.instr fine.instr in
      let e0 = entry_move_is args a b short in_call.2 in
      let e : a ++ regs' ≡ moved (a ++ b) (entry_pairs code.regs args D.regs) (a ++ b) =
      sym (subst (λ n. moved (a ++ b) (entry_pairs n args D.regs) (a ++ b) ≡ a ++ regs') fit.count
      (subst (λ n. moved (a ++ b) (entry_pairs (length a) args n) (a ++ b) ≡ a ++ entry_regs n values) nb e0)) in
      let same = frames_left P a b cp.point fine.point in
      let p' : Place = call_place code.regs D.regs (shift_label (length code.places) D.entry) args cp in
      let to = shift_label (length code.places) D.entry in
      let step : StepsOn P code' p' (a ++ b) m to (a ++ regs') m [] = record {
        stack = over st ws;
        turn = ap (λ z. base_turn P z m) same ∙ call_turn P (frames_of P cp.point a) g values s.call m;
        arrives = r.arrives;
        backs = λ q i. inl (r.backs q i);
      } in
      subst (λ z. StepsOn P code' p' (a ++ b) m to z m []) e step

  -- a place of the callee
  callee_sound : (a b m : List ℤ) (x : Label) (p p' : Place) → Admits code cp a → Admits D p b → place_at D x ≡ Some p →
      IsInlined code.regs k tail dest next p p' → SoundEffect P code' p' (a ++ b) m (version_effect p'.instr (a ++ b) m)
  unfolding k tail
  callee_sound a b m x p p' fit fit_b at is =
      let fine = fine_over a c cp fit.count ins.at_c in
      let s = call_step a m fit in
      let st = frames_of P cp.point a in
      let values = map (operand_value a) args in
      let in_call = subst (λ i. IsVInstrFine P (length a) (length code.places) i) ins.instr fine.instr in
      inlined_place P D code' a (length code.places) (appended_frames P cp.point.frames) (left_waiting P st) dest next (holds a fit) p p' b m
      (λ m' v.
      let back = ap (λ z. give v z m') (sym (append-nil (left_waiting P st))) ∙ give_left P st g values s.call v [] m' in (
        over (after_call P st v) [],
        back,
        subst (λ z. Resumes P code' next z (over (after_call P st v) [])) (sym (set-append_left a b dest.0 v in_call.0))
            (subst (λ z. Resumes P code' next (slice_set a dest.0 v ++ b) z) (sym (over_nil (after_call P st v)))
            (resumes_wider P code code' b (room (length b) fit_b.count) next (slice_set a dest.0 v) (after_call P st v) (s.resumes v))),
      ))
      (subst (λ n. IsInlined n (length code.places) (appended_frames P cp.point.frames) dest next p p') (sym fit.count) is)
      (sound_D.places x p at b m fit_b)

  -- a place of the caller
  caller_sound : (a b m : List ℤ) (y : Label) (p : Place) → place_at code y ≡ Some p → length b ≡ D.regs → Admits code p a →
      SoundEffect P code' p (a ++ b) m (version_effect p.instr (a ++ b) m)
  caller_sound a b m y p at nb fit =
      let fine = fine_over a y p fit.count at in
      subst (SoundEffect P code' p (a ++ b) m) (sym (effect-extend P (length code.places) a b m p.instr fine.instr))
      (effect_wider P code code' b (room (length b) nb) p a m fine (version_effect p.instr a m)
      (dest_within P (length a) (length code.places) p.instr a m fine.instr) (sound.places y p at a m fit))

  -- registers of the new code, in two parts
  any_sound : (y : Label) (p' : Place) → place_at code' y ≡ Some p' → (a b m : List ℤ) → length a ≡ code.regs → length b ≡ D.regs → Allows p'.facts (a ++ b) →
      SoundEffect P code' p' (a ++ b) m (version_effect p'.instr (a ++ b) m)
  unfolding call_place k tail
  any_sound y p' at a b m na nb facts = ⊎_elim
      (λ old.
      let fine = fine_over a y p' na old in
      caller_sound a b m y p' old nb (record { count = na; facts = allows_right a b p'.facts fine.facts facts }))
      (λ new. ⊎_elim
      (λ e.
      let fine = fine_over a c cp na ins.at_c in
      let facts_c = subst (λ z. Allows z.facts (a ++ b)) e facts in
      subst (λ z. SoundEffect P code' z (a ++ b) m (version_effect z.instr (a ++ b) m)) (sym e)
      (call_sound a b m (record { count = na; facts = allows_right a b cp.facts fine.facts facts_c }) nb))
      (λ h.
      let fine = fine_over a c cp na ins.at_c in
      let at' = subst (λ z. place_at code' z ≡ Some p') h.2 at in
      let r = ins.callee h.0 h.1 h.3 in
      let same : r.0 ≡ p' = same_Some r.0 p' (sym r.1 ∙ at') in
      let is = subst (λ z. IsInlined code.regs (length code.places) (appended_frames P cp.point.frames) dest next h.1 z) same r.2 in
      let e : p'.facts ≡ joined_facts (length a) cp.facts h.1.facts = callee_facts h.0 h.1 p' h.3 at' ∙ ap (λ n. joined_facts n cp.facts h.1.facts) (sym na) in
      let both = (allows_joined a b cp.facts h.1.facts fine.facts).0 (subst (λ z. Allows z (a ++ b)) e facts) in
      callee_sound a b m h.0 h.1 p' (record { count = na; facts = both.0 }) (record { count = nb; facts = both.1 }) h.3 is)
      new)
      (ins.back y p' at)

  -- The code with the callee's body in the place of the call is sound where it is well named and its rows are short.
  pub inlining_sound : WellNamed P code' → ((x : Label) → RowWithin code' 8 x) → Sound P context f code'
  inlining_sound named rows = record {
    function = ins.function ∙ sound.function;
    named = named;
    entry_facts = λ p' at.
        let old = at_index code.places code.entry.0 sound.named.entry in
        let kept = ins.kept code.entry old.0 old.1 in
        let new : kept.0 ≡ p' = same_Some kept.0 p' (sym kept.1 ∙ ap (place_at code') (sym ins.entry) ∙ at) in
        subst (AreAmong context) (kept.3 ∙ ap (λ z. z.facts) new) (sound.entry_facts old.0 old.1);
    entry = λ xs takes satisfied.
        let z : List ℤ = replicate D.regs (pos 0) in
        let nz : length z ≡ D.regs = length-replicate D.regs (pos 0) in
        let st : Stack = record { top = entry_frame P f xs; waiting = [] } in
        let few = params_within P code (length xs) sound.named (subst (λ h. Takes P.functions h (length xs)) (sym sound.function) takes) in
        let r = resumes_wider P code code' z (room (length z) nz) code.entry (entry_regs code.regs xs) st (sound.entry xs takes satisfied) in
        let e = entry_grows code.regs D.regs xs few ∙ ap (λ n. entry_regs n xs) (sym ins.regs) in
        subst (λ l. Resumes P code' l (entry_regs code'.regs xs) st) (sym ins.entry) (subst (λ regs. Resumes P code' code.entry regs st) e r);
    places = λ y p' at regs m fit.
        let a = take code.regs regs in
        let b = drop code.regs regs in
        let total : length regs ≡ code.regs + D.regs = fit.count ∙ ins.regs in
        let na : length a ≡ code.regs = length-take-le code.regs regs (omega arith) in
        let nb0 : length b ≡ length regs - code.regs = length-drop code.regs regs in
        let nb : length b ≡ D.regs = nb0 ∙ (omega arith) in
        let e : a ++ b ≡ regs = take-append-drop code.regs regs in
        subst (λ z. SoundEffect P code' p' z m (version_effect p'.instr z m)) e
        (any_sound y p' at a b m na nb (subst (λ z. Allows p'.facts z) (sym e) fit.facts));
    rows = rows;
  }
