-- Edges that are led to other labels keep what the instructions owe.
use Rattle.std.proofs.Common.{◌≡◌, ℕ, ◌⊎◌, Bool, true, false, List, [], Option, Some, None, refl, sym, ap, ◌∙◌, subst, inl, inr, ⊎_elim}
use Rattle.std.specs.Prelude.{ℤ, pos, slice_set, ⊤, if◌then◌else◌}
use Rattle.std.specs.List.{Contains}
use Rattle.std.specs.Ordering.{int_eq}
use Rattle.cj_ir.specs.Values.{operand_value, expr_value}
use Rattle.cj_ir.specs.declared.language.FunId.{FunId}
use Rattle.cj_ir.specs.declared.language.Label.{Label}
use Rattle.cj_ir.specs.declared.language.Reg.{Reg}
use Rattle.cj_ir.specs.declared.language.Program.{Program}
use Rattle.cj_base.specs.declared.machine.End.TheVariants.{Returned}
use Rattle.cj_base.specs.Machine.{Stack, Fault, BadAddress, ZeroDivisor, Effect, On, Calls, Returns, Faults, Goes, Ends, end_of, with_value, cell, with_cell}
use Rattle.cj_base.specs.Machine.{branch, op_effect, load_effect, store_effect, base_turn}
use Rattle.cj_base.specs.Run.{IsSilent}
use Rattle.cj_base.specs.Same.{Same}
use Rattle.cj_draft.specs.declared.points.Point.{Point}
use Rattle.cj_draft.specs.declared.instructions.VInstr.{VInstr}
use Rattle.cj_draft.specs.declared.instructions.VInstr.TheVariants.{Nop, Op, Move, Cond, Call, Return, Print, Load, Store, Fail, Assume, Anchor}
use Rattle.cj_draft.specs.declared.code.Back.{Back}
use Rattle.cj_draft.specs.declared.code.Place.{Place}
use Rattle.cj_draft.specs.declared.code.Code.{Code}
use Rattle.cj_draft.specs.Points.{frames_of}
use Rattle.cj_draft.specs.Effects.{VersionEffect, Plain, Guarded, version_effect}
use Rattle.cj_draft.specs.Arrives.{Arrives, instr_of, IsAtCall, after_call}
use Rattle.cj_draft.specs.Sound.{pair_of, IsOwn, IsSilentIn, IsCarried, StepsOn, Resumes, StepsIn, StepsGuarded, SoundEffect}
use Rattle.cj_draft.specs.Relabel.{relabel}
use Rattle.cj_draft.specs.RelabelEffects.{relabel_plain, relabel_effect}

-- ---- the effect of a relabelled instruction

pub branch-relabel : (r : Label → Label) (test : ℤ) (a b : Label) → branch test (r a) (r b) ≡ r (branch test a b)
unfolding branch
branch-relabel r test a b = by_test (int_eq test (pos 0))
  where
    by_test : (is_zero : Bool) → (if is_zero then r b else r a) ≡ r (if is_zero then b else a)
    by_test true = refl
    by_test false = refl

value-relabel : (r : Label → Label) (o : Option ℤ) (fault : Fault) (go go' : ℤ → Effect) → ((v : ℤ) → go' v ≡ relabel_plain r (go v)) →
    with_value o fault go' ≡ relabel_plain r (with_value o fault go)
unfolding with_value relabel_plain
value-relabel r None fault go go' h = refl
value-relabel r (Some v) fault go go' h = h v

pub effect-relabel : (r : Label → Label) (i : VInstr) (regs m : List ℤ) → version_effect (relabel r i) regs m ≡ relabel_effect r (version_effect i regs m)
unfolding version_effect relabel relabel_effect relabel_plain op_effect load_effect store_effect
effect-relabel r (Nop n) regs m = refl
effect-relabel r (Op d x n) regs m =
    ap Plain (value-relabel r (expr_value regs x) ZeroDivisor (λ v. On n (slice_set regs d.0 v) m []) (λ v. On (r n) (slice_set regs d.0 v) m []) (λ v. refl))
effect-relabel r (Move ps n) regs m = refl
effect-relabel r (Cond t a b) regs m = ap (λ l. Plain (On l regs m [])) (branch-relabel r (operand_value regs t) a b)
effect-relabel r (Call d f args n) regs m = refl
effect-relabel r (Return x) regs m = refl
effect-relabel r (Print x n) regs m = refl
effect-relabel r (Load d a n) regs m =
    let address = operand_value regs a in
    ap Plain (value-relabel r (cell m address) (BadAddress address) (λ v. On n (slice_set regs d.0 v) m []) (λ v. On (r n) (slice_set regs d.0 v) m [])
    (λ v. refl))
effect-relabel r (Store a x n) regs m =
    let address = operand_value regs a in
    let value = operand_value regs x in
    ap Plain (value-relabel r (cell m address) (BadAddress address) (λ v. On n regs (with_cell m address value) [])
    (λ v. On (r n) regs (with_cell m address value) []) (λ v. refl))
effect-relabel r (Fail f l) regs m = refl
effect-relabel r (Assume g b t n) regs m = refl
effect-relabel r (Anchor b t n) regs m = refl

pub silent-relabel : (r : Label → Label) (i : VInstr) → IsSilentIn i → IsSilentIn (relabel r i)
unfolding IsSilentIn relabel
silent-relabel r (Nop n) s = tt
silent-relabel r (Cond t x y) s = tt
silent-relabel r (Op x e n) s = absurd s
silent-relabel r (Move ps n) s = absurd s
silent-relabel r (Call x f args n) s = absurd s
silent-relabel r (Return x) s = absurd s
silent-relabel r (Print x n) s = absurd s
silent-relabel r (Load x y n) s = absurd s
silent-relabel r (Store x y n) s = absurd s
silent-relabel r (Fail f l) s = absurd s
silent-relabel r (Assume g b t n) s = absurd s
silent-relabel r (Anchor b t n) s = absurd s

-- where labels stay, so does the effect
pub relabel-same : (e : VersionEffect) → relabel_effect (λ x. x) e ≡ e
unfolding relabel_effect relabel_plain
relabel-same (Plain (On next regs m printed)) = refl
relabel-same (Plain (Calls d f args next)) = refl
relabel-same (Plain (Returns x)) = refl
relabel-same (Plain (Faults e)) = refl
relabel-same (Guarded holds back target next) = refl

-- ---- ways between codes

-- Whatever arrives at a label of one code arrives at a label of another, with the same frames. Each pair there is one of
-- the first label, or its own, or one of `Extra`.
pub record Way (P : Program) (code code' : Code) (Extra : Back → Type 0) (regs : List ℤ) (stack : Stack) (from : Place) (label' : Label) : Type 0 where
  pub arrives : Arrives P code' label' regs stack
  pub point : frames_of P from.point regs ≡ frames_of P arrives.place.point regs
  pub backs : (pair : Back) → Contains arrives.place.backs pair → Contains from.backs pair ⊎ (IsOwn P arrives.place regs pair ⊎ Extra pair)

-- a place with the same point, at least the same pairs, and silent where the first is
pub record Grown (from from' : Place) : Type 0 where
  pub point : from.point ≡ from'.point
  pub backs : (pair : Back) → Contains from.backs pair → Contains from'.backs pair
  pub silent : IsSilentIn from.instr → IsSilentIn from'.instr

-- a place has grown to itself
pub grown-same : (from : Place) → Grown from from
grown-same from = record { point = refl; backs = λ pair c. c; silent = λ s. s }

module _ (P : Program) where
  own_way : (from to : Place) (regs : List ℤ) (q : Back) → frames_of P from.point regs ≡ frames_of P to.point regs → IsOwn P from regs q → IsOwn P to regs q
  own_way from to regs q e o = (o.0, o.1 ∙ e)

  carried_way : (from from' : Place) (regs : List ℤ) (q : Back) → Grown from from' → IsCarried P from regs q → IsCarried P from' regs q
  carried_way from from' regs q g s =
      record {
        instr = g.silent s.instr;
        base = subst (λ p. IsSilent (instr_of P (frames_of P p regs))) g.point s.base;
        before = s.before;
        turns = s.turns;
        carried = g.backs (pair_of s.before q.point) s.carried;
      }

  pub on_way : (code code' : Code) (from from' : Place) (regs m : List ℤ) (next next' : Label) (regs' m' printed : List ℤ) → Grown from from' →
      ((st : Stack) (a : Arrives P code next regs' st) → Way P code code' (λ q. IsCarried P from' regs q) regs' st a.place next') →
      StepsOn P code from regs m next regs' m' printed → StepsOn P code' from' regs m next' regs' m' printed
  on_way code code' from from' regs m next next' regs' m' printed g ways s =
      let w = ways s.stack s.arrives in
      record {
        stack = s.stack;
        turn = subst (λ p. base_turn P (frames_of P p regs) m ≡ Goes printed (record { stack = s.stack; memory = m' })) g.point s.turn;
        arrives = w.arrives;
        backs = λ q i. ⊎_elim
            (λ old. ⊎_elim (λ own. inl (own_way s.arrives.place w.arrives.place regs' q w.point own)) (λ sil. inr (carried_way from from' regs q g sil))
            (s.backs q old))
            (λ new. new) (w.backs q i);
      }

  pub resumes_way : (code code' : Code) (l l' : Label) (regs : List ℤ) (st : Stack) →
      ((a : Arrives P code l regs st) → Way P code code' (λ q. ⊥) regs st a.place l') → Resumes P code l regs st → Resumes P code' l' regs st
  resumes_way code code' l l' regs st ways s =
      let w = ways s.arrives in
      record {
        arrives = w.arrives;
        backs = λ q i. ⊎_elim (λ old. own_way s.arrives.place w.arrives.place regs q w.point (s.backs q old))
            (λ new. ⊎_elim (λ own. own) (λ none. absurd none) new) (w.backs q i);
      }

  pub in_way : (code code' : Code) (from from' : Place) (regs : List ℤ) (dest : Reg) (f : FunId) (args : List ℤ) (next next' : Label) → Grown from from' →
      ((x : ℤ) (st : Stack) (a : Arrives P code next (slice_set regs dest.0 x) st) → Way P code code' (λ q. ⊥) (slice_set regs dest.0 x) st a.place next') →
      StepsIn P code from regs dest f args next → StepsIn P code' from' regs dest f args next'
  in_way code code' from from' regs dest f args next next' g ways s =
      record {
        call = subst (λ p. IsAtCall P (frames_of P p regs) f args) g.point s.call;
        resumes = λ x. subst (λ p. Resumes P code' next' (slice_set regs dest.0 x) (after_call P (frames_of P p regs) x)) g.point
            (resumes_way code code' next next' (slice_set regs dest.0 x) (after_call P (frames_of P from.point regs) x)
            (ways x (after_call P (frames_of P from.point regs) x)) (s.resumes x));
      }

  pub guarded_way : (code code' : Code) (from from' : Place) (regs : List ℤ) (holds : Bool) (back : ℕ) (target : Point) (next next' : Label) →
      Grown from from' → (holds ≡ true → (st : Stack) (a : Arrives P code next regs st) →
      Way P code code' (λ q. Contains from'.backs q) regs st a.place next') → StepsGuarded P code from regs holds back target next →
      StepsGuarded P code' from' regs holds back target next'
  guarded_way code code' from from' regs holds back target next next' g ways s =
      record {
        target_in = g.backs (pair_of back target) s.target_in;
        passes = λ h.
            let p = s.passes h in
            let w = ways h (frames_of P from.point regs) p.arrives in
            record {
              arrives = record {
                place = w.arrives.place;
                at = w.arrives.at;
                admits = w.arrives.admits;
                same = subst (λ x. Same P (frames_of P x regs) (frames_of P w.arrives.place.point regs)) g.point w.arrives.same;
              };
              equal = sym (ap (λ x. frames_of P x regs) g.point) ∙ p.equal ∙ w.point;
              backs = λ q i. ⊎_elim
                  (λ old. ⊎_elim (λ own. inl (own_way p.arrives.place w.arrives.place regs q w.point own)) (λ c. inr (g.backs q c)) (p.backs q old))
                  (λ new. new) (w.backs q i);
            };
      }

  -- a way for each edge of an effect
  abbrev pub WaysOn : Code → Code → (Label → Label) → Place → List ℤ → VersionEffect → Type 0
  WaysOn code code' r from' regs (Plain (On next regs' m printed)) =
      (st : Stack) (a : Arrives P code next regs' st) → Way P code code' (λ q. IsCarried P from' regs q) regs' st a.place (r next)
  WaysOn code code' r from' regs (Plain (Calls dest f args next)) =
      (x : ℤ) (st : Stack) (a : Arrives P code next (slice_set regs dest.0 x) st) → Way P code code' (λ q. ⊥) (slice_set regs dest.0 x) st a.place (r next)
  WaysOn code code' r from' regs (Plain (Returns x)) = ⊤
  WaysOn code code' r from' regs (Plain (Faults e)) = ⊤
  WaysOn code code' r from' regs (Guarded holds back target next) =
      holds ≡ true → (st : Stack) (a : Arrives P code next regs st) → Way P code code' (λ q. Contains from'.backs q) regs st a.place (r next)

  -- what an instruction owes in one code, its relabelled effect owes in the other
  pub effect_way : (code code' : Code) (r : Label → Label) (from from' : Place) (regs m : List ℤ) (e : VersionEffect) → Grown from from' →
      WaysOn code code' r from' regs e → SoundEffect P code from regs m e → SoundEffect P code' from' regs m (relabel_effect r e)
  unfolding relabel_effect relabel_plain
  effect_way code code' r from from' regs m (Plain (On next regs' m' printed)) g ways s = on_way code code' from from' regs m next
      (r next) regs' m' printed g ways s
  effect_way code code' r from from' regs m (Plain (Calls dest f args next)) g ways s = in_way code code' from from' regs dest f args next (r next) g ways s
  effect_way code code' r from from' regs m (Plain (Returns x)) g ways s = subst (λ p. base_turn P (frames_of P p regs) m ≡ Ends (Returned x)) g.point s
  effect_way code code' r from from' regs m (Plain (Faults e)) g ways s = subst (λ p. base_turn P (frames_of P p regs) m ≡ Ends (end_of e)) g.point s
  effect_way code code' r from from' regs m (Guarded holds back target next) g ways s = guarded_way code code' from from' regs holds back target next
      (r next) g ways s
