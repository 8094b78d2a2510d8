-- A code over more registers: what names registers below a count does not see those that follow.
use Rattle.std.proofs.Common.{◌≡◌, ℕ, ◌+◌, ◌<◌, List, [], ◌∷◌, ◌++◌, length, map, Option, Some, None, refl, sym, ap, ap₂, ◌∙◌, subst, arith, inl, inr, ⊎_elim}
use Rattle.std.specs.Prelude.{ℤ, pos, All, slice_set, ⊤, ◌&&◌, ◌-ℤ◌, ◌*ℤ◌, ◌+ℤ◌, neg_ℤ, int_div, int_rem, int_lt}
use Rattle.std.specs.List.{Contains}
use Rattle.std.specs.Ordering.{int_eq}
use Rattle.std.proofs.lemmas.List.{length-append, length-set, get_or_append_left, set-append_left}
use Rattle.std.proofs.lemmas.List.Elements.{All-head, All-tail, All-contains}
use Rattle.cj_ir.specs.Values.{register, operand_value, expr_value, wrap, divided, as_number, IsOperandWithin, IsExprWithin}
use Rattle.cj_ir.specs.declared.language.Label.{Label}
use Rattle.cj_ir.specs.declared.language.Program.{Program}
use Rattle.cj_ir.specs.declared.language.Operand.{Operand}
use Rattle.cj_ir.specs.declared.language.Operand.TheVariants as operand
use Rattle.cj_ir.specs.declared.language.Expr.{Expr}
use Rattle.cj_ir.specs.declared.language.Expr.TheVariants as expr
use Rattle.cj_ir.specs.declared.language.Guard.{Guard}
use Rattle.cj_ir.specs.declared.language.Guard.TheVariants.{Is, Never}
use Rattle.cj_base.specs.Machine.{Stack, Fault, BadAddress, ZeroDivisor, Effect, On, Calls, Returns, Faults, with_value, cell, with_cell, branch, op_effect}
use Rattle.cj_base.specs.Machine.{load_effect, store_effect, base_turn}
use Rattle.cj_base.specs.Run.{IsSilent}
use Rattle.cj_base.specs.Same.{Same}
use Rattle.cj_draft.specs.declared.points.PointFrame.{PointFrame}
use Rattle.cj_draft.specs.declared.points.Point.{Point}
use Rattle.cj_draft.specs.declared.facts.Fact.{Fact}
use Rattle.cj_draft.specs.declared.facts.Facts.{Facts}
use Rattle.cj_draft.specs.declared.facts.Facts.TheVariants.{Unreached, Known}
use Rattle.cj_draft.specs.declared.instructions.Pair.{Pair}
use Rattle.cj_draft.specs.declared.instructions.VInstr.{VInstr}
use Rattle.cj_draft.specs.declared.instructions.VInstr.TheVariants.{Nop, Op, Move, Cond, Call, Return, Print, Load, Store, Fail, Assume, Anchor}
use Rattle.cj_draft.specs.declared.code.Back.{Back}
use Rattle.cj_draft.specs.declared.code.Place.{Place}
use Rattle.cj_draft.specs.declared.code.Code.{Code}
use Rattle.cj_draft.specs.Points.{frame_regs, top_of, waiting_of, stack_of, frames_of}
use Rattle.cj_draft.specs.Effects.{VersionEffect, Plain, Guarded, guard_holds, guards_hold, moved, version_effect}
use Rattle.cj_draft.specs.WellNamed.{IsPointFrameFine, IsPointFine, IsGuardWithin, IsVInstrFine, HasFineFacts, IsBackFine, IsPlaceFine}
use Rattle.cj_draft.specs.Arrives.{place_at, Satisfies, Allows, Arrives, instr_of, IsAtCall, after_call}
use Rattle.cj_draft.specs.Sound.{IsOwn, Resumes, SoundEffect}

-- ---- values

register_left : (a b : List ℤ) (r : ℕ) → r < length a → register (a ++ b) r ≡ register a r
register_left a b r h = get_or_append_left a b (pos 0) r h

operand_left : (a b : List ℤ) (o : Operand) → IsOperandWithin (length a) o → operand_value (a ++ b) o ≡ operand_value a o
operand_left a b (operand.Reg r) h = register_left a b r.0 h
operand_left a b (operand.Const v) h = refl

pub operands_left : (a b : List ℤ) (os : List Operand) → All (IsOperandWithin (length a)) os → map (operand_value (a ++ b)) os ≡ map (operand_value a) os
operands_left a b [] h = refl
operands_left a b (o ∷ os) h =
    ap₂ (λ x xs. x ∷ xs) (operand_left a b o (All-head (IsOperandWithin (length a)) o os h))
    (operands_left a b os (All-tail (IsOperandWithin (length a)) o os h))

expr_left : (a b : List ℤ) (e : Expr) → IsExprWithin (length a) e → expr_value (a ++ b) e ≡ expr_value a e
expr_left a b (expr.Copy x) h = ap Some (operand_left a b x h)
expr_left a b (expr.Neg x) h = ap (λ v. Some (wrap (neg_ℤ v))) (operand_left a b x h)
expr_left a b (expr.Eqz x) h = ap (λ v. Some (as_number (int_eq v (pos 0)))) (operand_left a b x h)
expr_left a b (expr.Add x y) h = ap₂ (λ v w. Some (wrap (v +ℤ w))) (operand_left a b x h.0) (operand_left a b y h.1)
expr_left a b (expr.Sub x y) h = ap₂ (λ v w. Some (wrap (v -ℤ w))) (operand_left a b x h.0) (operand_left a b y h.1)
expr_left a b (expr.Mul x y) h = ap₂ (λ v w. Some (wrap (v *ℤ w))) (operand_left a b x h.0) (operand_left a b y h.1)
expr_left a b (expr.Div x y) h = ap₂ (divided int_div) (operand_left a b x h.0) (operand_left a b y h.1)
expr_left a b (expr.Rem x y) h = ap₂ (divided int_rem) (operand_left a b x h.0) (operand_left a b y h.1)
expr_left a b (expr.Eq x y) h = ap₂ (λ v w. Some (as_number (int_eq v w))) (operand_left a b x h.0) (operand_left a b y h.1)
expr_left a b (expr.Lt x y) h = ap₂ (λ v w. Some (as_number (int_lt v w))) (operand_left a b x h.0) (operand_left a b y h.1)

guard_left : (a b : List ℤ) (g : Guard) → IsGuardWithin (length a) g → guard_holds (a ++ b) g ≡ guard_holds a g
unfolding guard_holds
guard_left a b (Is r v) h = ap (λ x. int_eq x v) (register_left a b r.0 h)
guard_left a b Never h = refl

guards_left : (a b : List ℤ) (gs : List Guard) → All (IsGuardWithin (length a)) gs → guards_hold (a ++ b) gs ≡ guards_hold a gs
unfolding guards_hold
guards_left a b [] h = refl
guards_left a b (g ∷ gs) h =
    ap₂ (λ x y. x && y) (guard_left a b g (All-head (IsGuardWithin (length a)) g gs h)) (guards_left a b gs (All-tail (IsGuardWithin (length a)) g gs h))

moved_left : (a b c : List ℤ) (ps : List Pair) → length c ≡ length a → All (λ p. p.dest.0 < length a) ps → All (λ p. IsOperandWithin (length a) p.value) ps →
    moved (a ++ b) ps (c ++ b) ≡ moved a ps c ++ b
unfolding moved
moved_left a b c [] e ds os = refl
moved_left a b c (p ∷ ps) e ds os =
    let within : p.dest.0 < length a = All-head (λ (q : Pair). q.dest.0 < length a) p ps ds in
    let here : p.dest.0 < length c = omega arith in
    ap (λ z. moved (a ++ b) ps z)
    (ap (λ v. slice_set (c ++ b) p.dest.0 v) (operand_left a b p.value (All-head (λ (q : Pair). IsOperandWithin (length a) q.value) p ps os))
    ∙ set-append_left c b p.dest.0 (operand_value a p.value) here)
    ∙ moved_left a b (slice_set c p.dest.0 (operand_value a p.value)) ps (length-set c p.dest.0 (operand_value a p.value) ∙ e)
    (All-tail (λ (q : Pair). q.dest.0 < length a) p ps ds) (All-tail (λ (q : Pair). IsOperandWithin (length a) q.value) p ps os)

-- ---- frames

pub waiting_left : (P : Program) (a b : List ℤ) (fs : List PointFrame) → All (IsPointFrameFine P (length a)) fs →
    map (waiting_of P (a ++ b)) fs ≡ map (waiting_of P a) fs
unfolding waiting_of frame_regs
waiting_left P a b [] h = refl
waiting_left P a b (f ∷ fs) h =
    ap₂ (λ x xs. record { function = f.function; label = f.label; regs = x; dest = f.dest } ∷ xs)
    (operands_left a b f.map (All-head (IsPointFrameFine P (length a)) f fs h).operands)
    (waiting_left P a b fs (All-tail (IsPointFrameFine P (length a)) f fs h))

stack_left : (P : Program) (a b : List ℤ) (fs : List PointFrame) → All (IsPointFrameFine P (length a)) fs → stack_of P fs (a ++ b) ≡ stack_of P fs a
unfolding stack_of top_of frame_regs
stack_left P a b [] h = refl
stack_left P a b (f ∷ fs) h =
    ap₂ (λ x ws. record { top = record { function = f.function; label = f.label; regs = x }; waiting = ws })
    (operands_left a b f.map (All-head (IsPointFrameFine P (length a)) f fs h).operands)
    (waiting_left P a b fs (All-tail (IsPointFrameFine P (length a)) f fs h))

pub frames_left : (P : Program) (a b : List ℤ) (p : Point) → IsPointFine P (length a) p → frames_of P p (a ++ b) ≡ frames_of P p a
unfolding frames_of
frames_left P a b p h = stack_left P a b p.frames h.frames

-- ---- effects

unfoldable pub extend_plain : List ℤ → Effect → Effect
extend_plain b (On next regs m printed) = On next (regs ++ b) m printed
extend_plain b (Calls d f args next) = Calls d f args next
extend_plain b (Returns x) = Returns x
extend_plain b (Faults e) = Faults e

-- the same effect, over registers that `b` follows
unfoldable pub extend_effect : List ℤ → VersionEffect → VersionEffect
extend_effect b (Plain e) = Plain (extend_plain b e)
extend_effect b (Guarded holds back target next) = Guarded holds back target next

value_left : (b : List ℤ) (o : Option ℤ) (fault : Fault) (go go' : ℤ → Effect) → ((v : ℤ) → go' v ≡ extend_plain b (go v)) →
    with_value o fault go' ≡ extend_plain b (with_value o fault go)
unfolding with_value extend_plain
value_left b None fault go go' h = refl
value_left b (Some v) fault go go' h = h v

pub effect-extend : (P : Program) (labels : ℕ) (a b m : List ℤ) (i : VInstr) → IsVInstrFine P (length a) labels i →
    version_effect i (a ++ b) m ≡ extend_effect b (version_effect i a m)
unfolding version_effect extend_effect extend_plain op_effect load_effect store_effect
effect-extend P labels a b m (Nop n) h = refl
effect-extend P labels a b m (Op d e n) h =
    ap Plain (ap (λ o. with_value o ZeroDivisor (λ v. On n (slice_set (a ++ b) d.0 v) m [])) (expr_left a b e h.1)
    ∙ value_left b (expr_value a e) ZeroDivisor (λ v. On n (slice_set a d.0 v) m []) (λ v. On n (slice_set (a ++ b) d.0 v) m [])
    (λ v. ap (λ r. On n r m []) (set-append_left a b d.0 v h.0)))
effect-extend P labels a b m (Move ps n) h = ap (λ r. Plain (On n r m [])) (moved_left a b a ps refl h.0.dests h.0.operands)
effect-extend P labels a b m (Cond t x y) h = ap (λ v. Plain (On (branch v x y) (a ++ b) m [])) (operand_left a b t h.0)
effect-extend P labels a b m (Call d f args n) h = ap (λ xs. Plain (Calls d f xs n)) (operands_left a b args h.2)
effect-extend P labels a b m (Return v) h = ap (λ x. Plain (Returns x)) (operand_left a b v h)
effect-extend P labels a b m (Print v n) h = ap (λ x. Plain (On n (a ++ b) m (x ∷ []))) (operand_left a b v h.0)
effect-extend P labels a b m (Load d x n) h =
    let address = operand_value a x in
    ap (λ y. Plain (load_effect d y n (a ++ b) m)) (operand_left a b x h.1)
    ∙ ap Plain (value_left b (cell m address) (BadAddress address) (λ v. On n (slice_set a d.0 v) m []) (λ v. On n (slice_set (a ++ b) d.0 v) m [])
    (λ v. ap (λ r. On n r m []) (set-append_left a b d.0 v h.0)))
effect-extend P labels a b m (Store x v n) h =
    let address = operand_value a x in
    let value = operand_value a v in
    ap₂ (λ y z. Plain (store_effect y z n (a ++ b) m)) (operand_left a b x h.0) (operand_left a b v h.1)
    ∙ ap Plain (value_left b (cell m address) (BadAddress address) (λ w. On n a (with_cell m address value) [])
    (λ w. On n (a ++ b) (with_cell m address value) []) (λ w. refl))
effect-extend P labels a b m (Fail f l) h = refl
effect-extend P labels a b m (Assume gs back t n) h = ap (λ z. Guarded z back t n) (guards_left a b gs h.1)
effect-extend P labels a b m (Anchor back t n) h = refl

-- a call's destination is below n
abbrev pub IsDestWithin : ℕ → VersionEffect → Type 0
IsDestWithin n (Plain (On next regs m printed)) = ⊤
IsDestWithin n (Plain (Calls d f args next)) = d.0 < n
IsDestWithin n (Plain (Returns x)) = ⊤
IsDestWithin n (Plain (Faults e)) = ⊤
IsDestWithin n (Guarded holds back target next) = ⊤

value_dest : (n : ℕ) (o : Option ℤ) (fault : Fault) (go : ℤ → Effect) → ((v : ℤ) → IsDestWithin n (Plain (go v))) →
    IsDestWithin n (Plain (with_value o fault go))
unfolding with_value
value_dest n None fault go h = tt
value_dest n (Some v) fault go h = h v

pub dest_within : (P : Program) (n labels : ℕ) (i : VInstr) (a m : List ℤ) → IsVInstrFine P n labels i → IsDestWithin n (version_effect i a m)
unfolding version_effect op_effect load_effect store_effect
dest_within P n labels (Nop x) a m h = tt
dest_within P n labels (Op d e x) a m h = value_dest n (expr_value a e) ZeroDivisor (λ v. On x (slice_set a d.0 v) m []) (λ v. tt)
dest_within P n labels (Move ps x) a m h = tt
dest_within P n labels (Cond t x y) a m h = tt
dest_within P n labels (Call d f args x) a m h = h.0
dest_within P n labels (Return v) a m h = tt
dest_within P n labels (Print v x) a m h = tt
dest_within P n labels (Load d y x) a m h = value_dest n (cell m (operand_value a y)) (BadAddress (operand_value a y)) (λ v. On x (slice_set a d.0 v) m [])
    (λ v. tt)
dest_within P n labels (Store y v x) a m h = value_dest n (cell m (operand_value a y)) (BadAddress (operand_value a y))
    (λ w. On x a (with_cell m (operand_value a y) (operand_value a v)) []) (λ w. tt)
dest_within P n labels (Fail f l) a m h = tt
dest_within P n labels (Assume g b t x) a m h = tt
dest_within P n labels (Anchor b t x) a m h = tt

-- ---- facts

pub satisfies_left : (a b : List ℤ) (fs : List Fact) → All (λ x. x.reg.0 < length a) fs → Satisfies fs a → Satisfies fs (a ++ b)
satisfies_left a b fs within h k d lt = register_left a b _ (within k d lt) ∙ h k d lt

pub satisfies_right : (a b : List ℤ) (fs : List Fact) → All (λ x. x.reg.0 < length a) fs → Satisfies fs (a ++ b) → Satisfies fs a
satisfies_right a b fs within h k d lt = sym (register_left a b _ (within k d lt)) ∙ h k d lt

pub allows_left : (a b : List ℤ) (fs : Facts) → HasFineFacts (length a) fs → Allows fs a → Allows fs (a ++ b)
allows_left a b Unreached fine h = h
allows_left a b (Known fs) fine h = satisfies_left a b fs fine.registers h

pub allows_right : (a b : List ℤ) (fs : Facts) → HasFineFacts (length a) fs → Allows fs (a ++ b) → Allows fs a
allows_right a b Unreached fine h = h
allows_right a b (Known fs) fine h = satisfies_right a b fs fine.registers h

-- ---- places

-- code' has n registers more, and at each label of code a place with the same point, facts and pairs
pub record HasRoom (P : Program) (code code' : Code) (n : ℕ) : Type 0 where
  pub regs : code'.regs ≡ code.regs + n
  pub kept : (x : Label) (p : Place) → place_at code x ≡ Some p → (p' : Place) × (place_at code' x ≡ Some p') × (p.point ≡ p'.point) × (p.facts ≡ p'.facts)
      × (p.backs ≡ p'.backs)
  pub fine : (x : Label) (p : Place) → place_at code x ≡ Some p → IsPlaceFine P code.regs (length code.places) p

module _ (P : Program) (code code' : Code) (b : List ℤ) (room : HasRoom P code code' (length b)) where
  abbrev pub IsFineOver : List ℤ → Place → Type 0
  IsFineOver a p = IsPlaceFine P (length a) (length code.places) p

  fine_here : (a : List ℤ) (x : Label) (p : Place) → length a ≡ code.regs → place_at code x ≡ Some p → IsFineOver a p
  fine_here a x p e at = subst (λ n. IsPlaceFine P n (length code.places) p) (sym e) (room.fine x p at)

  -- an arrival over the registers `a` is one over `a` and those that follow
  pub record Wider (a : List ℤ) (x : Label) (st : Stack) (p : Place) : Type 0 where
    pub arrives : Arrives P code' x (a ++ b) st
    pub fine : IsFineOver a p
    pub point : p.point ≡ arrives.place.point
    pub backs : p.backs ≡ arrives.place.backs

  frames_wider : (a : List ℤ) (p p' : Place) → IsFineOver a p → p.point ≡ p'.point → frames_of P p'.point (a ++ b) ≡ frames_of P p.point a
  frames_wider a p p' i e = ap (λ q. frames_of P q (a ++ b)) (sym e) ∙ frames_left P a b p.point i.point

  wider : (x : Label) (a : List ℤ) (st : Stack) (r : Arrives P code x a st) → Wider a x st r.place
  wider x a st r =
      let k = room.kept x r.place r.at in
      let i = fine_here a x r.place r.admits.count r.at in
      let n : length (a ++ b) ≡ code'.regs = length-append a b ∙ ap (λ z. z + length b) r.admits.count ∙ sym room.regs in
      record {
        arrives = record {
          place = k.0;
          at = k.1;
          admits = record { count = n; facts = subst (λ z. Allows z (a ++ b)) k.3 (allows_left a b r.place.facts i.facts r.admits.facts) };
          same = subst (Same P st) (sym (frames_wider a r.place k.0 i k.2)) r.same;
        };
        fine = i;
        point = k.2;
        backs = k.4;
      }

  own_wider : (a : List ℤ) (x : Label) (st : Stack) (p : Place) (w : Wider a x st p) (q : Back) → Contains p.backs q → IsOwn P p a q →
      IsOwn P w.arrives.place (a ++ b) q
  own_wider a x st p w q c o =
      let fine = All-contains (IsBackFine P (length a)) p.backs q w.fine.backs c in
      (o.0, frames_left P a b q.point fine.point ∙ o.1 ∙ sym (frames_wider a p w.arrives.place w.fine w.point))

  pub resumes_wider : (x : Label) (a : List ℤ) (st : Stack) → Resumes P code x a st → Resumes P code' x (a ++ b) st
  resumes_wider x a st s =
      let w = wider x a st s.arrives in
      record {
        arrives = w.arrives;
        backs = λ q c. let c' = subst (λ bs. Contains bs q) (sym w.backs) c in own_wider a x st s.arrives.place w q c'
            (s.backs q c');
      }

  -- what the effect of a place owes, over more registers
  pub effect_wider : (p : Place) (a m : List ℤ) → IsFineOver a p → (e : VersionEffect) → IsDestWithin (length a) e → SoundEffect P code p a m e →
      SoundEffect P code' p (a ++ b) m (extend_effect b e)
  unfolding extend_effect extend_plain
  effect_wider p a m i (Plain (On next regs' m' printed)) d s =
      let w = wider next regs' s.stack s.arrives in
      let same = frames_left P a b p.point i.point in
      record {
        stack = s.stack;
        turn = ap (λ z. base_turn P z m) same ∙ s.turn;
        arrives = w.arrives;
        backs = λ q c. let c' = subst (λ bs. Contains bs q) (sym w.backs) c in
            ⊎_elim (λ own. inl (own_wider regs' next s.stack s.arrives.place w q c' own))
            (λ sil. inr (record {
              instr = sil.instr;
              base = subst (λ z. IsSilent (instr_of P z)) (sym same) sil.base;
              before = sil.before;
              turns =
                  sil.turns;
              carried = sil.carried;
            })) (s.backs q c');
      }
  effect_wider p a m i (Plain (Calls dest f args next)) d s =
      let same = sym (frames_left P a b p.point i.point) in
      record {
        call = subst (λ z. IsAtCall P z f args) same s.call;
        resumes = λ x. subst (λ z. Resumes P code' next (slice_set (a ++ b) dest.0 x) (after_call P z x)) same
            (subst (λ z. Resumes P code' next z (after_call P (frames_of P p.point a) x)) (sym (set-append_left a b dest.0 x d))
            (resumes_wider next (slice_set a dest.0 x) (after_call P (frames_of P p.point a) x) (s.resumes x)));
      }
  effect_wider p a m i (Plain (Returns x)) d s = ap (λ z. base_turn P z m) (frames_left P a b p.point i.point) ∙ s
  effect_wider p a m i (Plain (Faults e)) d s = ap (λ z. base_turn P z m) (frames_left P a b p.point i.point) ∙ s
  effect_wider p a m i (Guarded holds back target next) d s =
      record {
        target_in = s.target_in;
        passes = λ h.
            let g = s.passes h in
            let w = wider next a (frames_of P p.point a) g.arrives in
            let same = frames_left P a b p.point i.point in
            record {
              arrives = record {
                place = w.arrives.place;
                at = w.arrives.at;
                admits = w.arrives.admits;
                same = subst
                    (λ z. Same P z (frames_of P w.arrives.place.point (a ++ b))) (sym same) w.arrives.same;
              };
              equal = same ∙ g.equal ∙ sym (frames_wider a g.arrives.place w.arrives.place w.fine w.point);
              backs = λ q c. let c' = subst (λ bs. Contains bs q) (sym w.backs) c in
                  ⊎_elim (λ own. inl (own_wider a next (frames_of P p.point a) g.arrives.place w q c' own)) (λ o. inr o) (g.backs q c');
            };
      }
