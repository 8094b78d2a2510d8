-- A place of a sound callee inside a caller, with the caller's frames appended, owes nothing more.
use Rattle.std.proofs.Common.{◌≡◌, ℕ, ◌+◌, ◌<◌, Bool, List, [], ◌∷◌, ◌++◌, length, map, Some, refl, sym, ap, ◌∙◌, subst, arith, inl, inr, ⊎_elim}
use Rattle.std.specs.Prelude.{ℤ, slice_set}
use Rattle.std.specs.List.{Contains}
use Rattle.cj_ir.specs.declared.language.FunId.{FunId}
use Rattle.cj_ir.specs.declared.language.Label.{Label}
use Rattle.cj_ir.specs.declared.language.Reg.{Reg}
use Rattle.cj_ir.specs.declared.language.Program.{Program}
use Rattle.cj_base.specs.declared.machine.Waiting.{Waiting}
use Rattle.cj_base.specs.declared.machine.End.TheVariants.{Returned}
use Rattle.cj_base.specs.Machine.{Stack, over, On, Calls, Returns, Faults, Goes, Ends, give, base_turn}
use Rattle.cj_base.specs.Run.{IsSilent}
use Rattle.cj_base.specs.Same.{Same}
use Rattle.cj_base.proofs.SameLaws.{same_over}
use Rattle.cj_base.proofs.Segments.{lift, turn_over, lift_fault}
use Rattle.cj_draft.specs.declared.points.PointFrame.{PointFrame}
use Rattle.cj_draft.specs.declared.points.Point.{Point}
use Rattle.cj_draft.specs.declared.instructions.VInstr.{VInstr}
use Rattle.cj_draft.specs.declared.instructions.VInstr.TheVariants.{Nop, Op, Move, Cond, Call, Return, Print, Load, Store, Fail, Assume, Anchor}
use Rattle.cj_draft.specs.declared.code.Back.{Back}
use Rattle.cj_draft.specs.declared.code.Place.{Place}
use Rattle.cj_draft.specs.declared.code.Code.{Code}
use Rattle.cj_draft.specs.Points.{waiting_of, frames_of}
use Rattle.cj_draft.specs.Effects.{VersionEffect, Plain, Guarded, version_effect}
use Rattle.cj_draft.specs.Arrives.{place_at, Admits, Arrives, instr_of, IsAtCall, returned_by, after_call}
use Rattle.cj_draft.specs.Sound.{pair_of, IsOwn, IsCarried, IsSilentIn, StepsOn, Resumes, StepsIn, StepsGuarded, SoundEffect}
use Rattle.cj_draft.specs.Inlining.{shift_reg, shift_label, joined, inlined_instr}
use Rattle.cj_draft.proofs.Inlined.{frames_joined, set_shift, inlined_plain, inlined_effect, effect-inlined}

-- it has a first frame
abbrev pub HasFirst : Point → Type 0
HasFirst p = (first : PointFrame) × (others : List PointFrame) × (p.frames ≡ first ∷ others)

pub first_of_some : (p : Point) → 0 < length p.frames → HasFirst p
first_of_some p h = by_frames p.frames h refl
  where
    by_frames : (fs : List PointFrame) → 0 < length fs → p.frames ≡ fs → HasFirst p
    by_frames [] h' e = absurd (omega arith)
    by_frames (f ∷ fs) h' e = (f, fs, e)

-- a callee's place as it stands in the new code
pub record IsInlined (n k : ℕ) (tail : List PointFrame) (dest : Reg) (after : Label) (p p' : Place) : Type 0 where
  pub instr : p'.instr ≡ inlined_instr n k tail dest after p.instr
  pub point : p'.point ≡ joined n tail p.point
  pub first : HasFirst p.point
  pub backs : (q : Back) → Contains p.backs q → Contains p'.backs (pair_of q.turns (joined n tail q.point))
  pub back : (q' : Back) → Contains p'.backs q' → (q : Back) × Contains p.backs q × (q' ≡ pair_of q.turns (joined n tail q.point)) × HasFirst q.point

-- the callee D inside code', with the caller's registers `a` in front, and its frames `ws` below
pub record Holds (P : Program) (D code' : Code) (a : List ℤ) (k : ℕ) (tail : List PointFrame) (ws : List Waiting) (dest : Reg) (after : Label) : Type 0 where
  pub place : (x : Label) (p : Place) → place_at D x ≡ Some p → (p' : Place) × (place_at code' (shift_label k x) ≡ Some p')
      × IsInlined (length a) k tail dest after p p'
  pub admits : (x : Label) (p p' : Place) (b : List ℤ) → place_at D x ≡ Some p → place_at code' (shift_label k x) ≡ Some p' → Admits D p b →
      Admits code' p' (a ++ b)
  pub below : (b : List ℤ) → map (waiting_of P (a ++ b)) tail ≡ ws

module _ (P : Program) (D code' : Code) (a : List ℤ) (k : ℕ) (tail : List PointFrame) (ws : List Waiting) (dest : Reg) (after : Label)
    (h : Holds P D code' a k tail ws dest after) where
  point_of : (q : Point) (b : List ℤ) → HasFirst q → frames_of P (joined (length a) tail q) (a ++ b) ≡ over (frames_of P q b) ws
  point_of q b f =
      let parts : Point = record { frames = f.0 ∷ f.1 } in
      let e : q ≡ parts = ap (λ fs. with_frames fs) f.2 in
      subst (λ p. frames_of P (joined (length a) tail p) (a ++ b) ≡ over (frames_of P p b) ws) (sym e)
      (frames_joined P a b f.0 f.1 tail ∙ ap (over (frames_of P parts b)) (h.below b))
    where
      with_frames : List PointFrame → Point
      with_frames fs = record { frames = fs }

  place_point : (p p' : Place) (b : List ℤ) → IsInlined (length a) k tail dest after p p' → frames_of P p'.point (a ++ b) ≡ over (frames_of P p.point b) ws
  place_point p p' b i = ap (λ q. frames_of P q (a ++ b)) i.point ∙ point_of p.point b i.first

  -- an arrival in the callee is one in the new code, with the caller's frames below
  record ArrivesIn (x : Label) (b : List ℤ) (st : Stack) (p : Place) : Type 0 where
    arrives : Arrives P code' (shift_label k x) (a ++ b) (over st ws)
    inlined : IsInlined (length a) k tail dest after p arrives.place

  arrives_in : (x : Label) (b : List ℤ) (st : Stack) (r : Arrives P D x b st) → ArrivesIn x b st r.place
  arrives_in x b st r =
      let p = h.place x r.place r.at in
      record {
        arrives = record {
          place = p.0;
          at = p.1;
          admits = h.admits x r.place p.0 b r.at p.1 r.admits;
          same = subst (Same P (over st ws)) (sym (place_point r.place p.0 b p.2)) (same_over P st (frames_of P r.place.point b) ws r.same);
        };
        inlined = p.2;
      }

  own_in : (p p' : Place) (b : List ℤ) (q q' : Back) → IsInlined (length a) k tail dest after p p' → q' ≡ pair_of q.turns (joined (length a) tail q.point) →
      HasFirst q.point → IsOwn P p b q → IsOwn P p' (a ++ b) q'
  own_in p p' b q q' i e f o = (
    ap (λ z. z.turns) e ∙ o.0,
    ap (λ z. frames_of P z.point (a ++ b)) e ∙ point_of q.point b f ∙ ap (λ z. over z ws) o.1 ∙ sym (place_point p p' b i),
  )

  silent_instr : (i : VInstr) → IsSilentIn i → IsSilentIn (inlined_instr (length a) k tail dest after i)
  unfolding IsSilentIn inlined_instr
  silent_instr (Nop n) s = tt
  silent_instr (Cond t x y) s = tt
  silent_instr (Op x e n) s = absurd s
  silent_instr (Move ps n) s = absurd s
  silent_instr (Call x f args n) s = absurd s
  silent_instr (Return x) s = absurd s
  silent_instr (Print x n) s = absurd s
  silent_instr (Load x y n) s = absurd s
  silent_instr (Store x y n) s = absurd s
  silent_instr (Fail f l) s = absurd s
  silent_instr (Assume g b t n) s = absurd s
  silent_instr (Anchor b t n) s = absurd s

  carried_in : (p p' : Place) (b : List ℤ) (q q' : Back) → IsInlined (length a) k tail dest after p p' →
      q' ≡ pair_of q.turns (joined (length a) tail q.point) → IsCarried P p b q → IsCarried P p' (a ++ b) q'
  unfolding over
  carried_in p p' b q q' i e s =
      record {
        instr = subst IsSilentIn (sym i.instr) (silent_instr p.instr s.instr);
        base = subst (λ st. IsSilent (instr_of P st)) (sym (place_point p p' b i)) s.base;
        before = s.before;
        turns = ap (λ z. z.turns) e ∙ s.turns;
        carried = subst (λ z. Contains p'.backs (pair_of s.before z.point)) (sym e) (i.backs (pair_of s.before q.point) s.carried);
      }

  turn_in : (p p' : Place) (b m : List ℤ) → IsInlined (length a) k tail dest after p p' →
      base_turn P (frames_of P p'.point (a ++ b)) m ≡ lift ws m (base_turn P (frames_of P p.point b) m)
  turn_in p p' b m i = ap (λ s. base_turn P s m) (place_point p p' b i) ∙ turn_over P (frames_of P p.point b) ws m

  on_in : (p p' : Place) (b m : List ℤ) (next : Label) (b' m' printed : List ℤ) → IsInlined (length a) k tail dest after p p' →
      StepsOn P D p b m next b' m' printed → StepsOn P code' p' (a ++ b) m (shift_label k next) (a ++ b') m' printed
  on_in p p' b m next b' m' printed i s =
      let r = arrives_in next b' s.stack s.arrives in
      record {
        stack = over s.stack ws;
        turn = turn_in p p' b m i ∙ ap (lift ws m) s.turn;
        arrives = r.arrives;
        backs = λ q' c. let q = r.inlined.back q' c in
            ⊎_elim (λ own. inl (own_in s.arrives.place r.arrives.place b' q.0 q' r.inlined q.2 q.3 own)) (λ sil. inr (carried_in p p' b q.0 q' i q.2 sil))
            (s.backs q.0 q.1);
      }

  -- a return of the callee is the move after which the caller goes on
  return_in : (p p' : Place) (b m : List ℤ) (x : ℤ) (st : Stack) → IsInlined (length a) k tail dest after p p' →
      base_turn P (frames_of P p.point b) m ≡ Ends (Returned x) → give x ws m ≡ Goes [] (record { stack = st; memory = m }) →
      Resumes P code' after (slice_set (a ++ b) dest.0 x) st → StepsOn P code' p' (a ++ b) m after (slice_set (a ++ b) dest.0 x) m []
  return_in p p' b m x st i t g r =
      record { stack = st; turn = turn_in p p' b m i ∙ ap (lift ws m) t ∙ g; arrives = r.arrives; backs = λ q c. inl (r.backs q c) }

  pub resumes_in : (x : Label) (b : List ℤ) (st : Stack) → Resumes P D x b st → Resumes P code' (shift_label k x) (a ++ b) (over st ws)
  resumes_in x b st s =
      let r = arrives_in x b st s.arrives in
      record {
        arrives = r.arrives;
        backs = λ q' c. let q = r.inlined.back q' c in own_in s.arrives.place r.arrives.place b q.0 q' r.inlined q.2 q.3
            (s.backs q.0 q.1);
      }

  after_over : (st : Stack) (f : FunId) (args : List ℤ) → IsAtCall P st f args → (x : ℤ) → after_call P (over st ws) x ≡ over (after_call P st x) ws
  unfolding after_call returned_by over
  after_over st f args c x = subst (λ i. returned_by i (over st ws) x ≡ over (returned_by i st x) ws) (sym c.at) refl

  call_over : (st : Stack) (f : FunId) (args : List ℤ) → IsAtCall P st f args → IsAtCall P (over st ws) f args
  unfolding over
  call_over st f args c = record { dest = c.dest; operands = c.operands; next = c.next; at = c.at; values = c.values }

  call_in : (p p' : Place) (b : List ℤ) (d : Reg) (f : FunId) (args : List ℤ) (next : Label) → IsInlined (length a) k tail dest after p p' →
      StepsIn P D p b d f args next → StepsIn P code' p' (a ++ b) (shift_reg (length a) d) f args (shift_label k next)
  unfolding shift_reg
  call_in p p' b d f args next i s =
      let e = sym (place_point p p' b i) in
      record {
        call = subst (λ st. IsAtCall P st f args) e (call_over (frames_of P p.point b) f args s.call);
        resumes = λ x.
            let r = resumes_in next (slice_set b d.0 x) (after_call P (frames_of P p.point b) x) (s.resumes x) in
            let r1 = subst (λ regs. Resumes P code' (shift_label k next) regs (over (after_call P (frames_of P p.point b) x) ws))
            (sym (set_shift a b d.0 x)) r in
            let r2 = subst (λ st. Resumes P code' (shift_label k next) (slice_set (a ++ b) (length a + d.0) x) st)
            (sym (after_over (frames_of P p.point b) f args s.call x)) r1 in
            subst (λ st. Resumes P code' (shift_label k next) (slice_set (a ++ b) (length a + d.0) x) (after_call P st x)) e r2;
      }

  guard_in : (p p' : Place) (b : List ℤ) (holds : Bool) (back : ℕ) (target : Point) (next : Label) → IsInlined (length a) k tail dest after p p' →
      StepsGuarded P D p b holds back target next → StepsGuarded P code' p' (a ++ b) holds back (joined (length a) tail target) (shift_label k next)
  guard_in p p' b holds back target next i s =
      record {
        target_in = i.backs (pair_of back target) s.target_in;
        passes = λ t.
            let g = s.passes t in
            let r = arrives_in next b (frames_of P p.point b) g.arrives in
            record {
              arrives = record {
                place = r.arrives.place;
                at = r.arrives.at;
                admits = r.arrives.admits;
                same = subst
                    (λ st. Same P st (frames_of P r.arrives.place.point (a ++ b))) (sym (place_point p p' b i)) r.arrives.same;
              };
              equal = place_point p p' b i ∙ ap (λ z. over z ws) g.equal ∙ sym (place_point g.arrives.place r.arrives.place b r.inlined);
              backs = λ q' c. let q = r.inlined.back q' c in
                  ⊎_elim (λ own. inl (own_in g.arrives.place r.arrives.place b q.0 q' r.inlined q.2 q.3 own))
                  (λ old. inr (subst (Contains p'.backs) (sym q.2) (i.backs q.0 old))) (g.backs q.0 q.1);
            };
      }

  -- what the caller owes at a return
  abbrev Caller : List ℤ → Type 0
  Caller b = (m : List ℤ) (x : ℤ) → (st : Stack) × (give x ws m ≡ Goes [] (record { stack = st; memory = m }))
      × Resumes P code' after (slice_set (a ++ b) dest.0 x) st

  effect_in : (p p' : Place) (b m : List ℤ) → Caller b → IsInlined (length a) k tail dest after p p' → (e : VersionEffect) → SoundEffect P D p b m e →
      SoundEffect P code' p' (a ++ b) m (inlined_effect a b m k tail dest after e)
  unfolding inlined_effect inlined_plain
  effect_in p p' b m c i (Plain (On next b' m' printed)) s = on_in p p' b m next b' m' printed i s
  effect_in p p' b m c i (Plain (Calls d f args next)) s = call_in p p' b d f args next i s
  effect_in p p' b m c i (Plain (Returns x)) s = let r = c m x in return_in p p' b m x r.0 i s r.1 r.2
  effect_in p p' b m c i (Plain (Faults e)) s = turn_in p p' b m i ∙ ap (lift ws m) s ∙ lift_fault e ws m
  effect_in p p' b m c i (Guarded holds back target next) s = guard_in p p' b holds back target next i s

  -- a place of a sound callee, inlined, owes nothing more
  pub inlined_place : (p p' : Place) (b m : List ℤ) → Caller b → IsInlined (length a) k tail dest after p p' →
      SoundEffect P D p b m (version_effect p.instr b m) → SoundEffect P code' p' (a ++ b) m (version_effect p'.instr (a ++ b) m)
  inlined_place p p' b m c i s =
      let e = ap (λ z. version_effect z (a ++ b) m) i.instr ∙ effect-inlined a b m k tail dest after p.instr in
      subst (SoundEffect P code' p' (a ++ b) m) (sym e) (effect_in p p' b m c i (version_effect p.instr b m) s)
