-- Guards that hold one after the other.
use Rattle.std.proofs.Common.{◌≡◌, ℕ, ◌+◌, ◌<◌, ◌≤◌, ◌==◌, Bool, true, false, List, [], ◌∷◌, ◌++◌, length, take, drop, get_or, Option, Some, None, refl, sym}
use Rattle.std.proofs.Common.{ap, ◌∙◌, ⊎_elim, add-one}
use Rattle.std.specs.Prelude.{ℤ, if◌then◌else◌}
use Rattle.std.specs.Option.{is_some}
use Rattle.std.specs.Ordering.{int_eq}
use Rattle.std.proofs.Math.Seq.{take-suc}
use Rattle.std.proofs.lemmas.Option.{none-some}
use Rattle.std.proofs.lemmas.Bool.{cases_eq, eq-eqb, ne_eqb, cond-true, cond-false}
use Rattle.cj_ir.specs.declared.language.Reg.{Reg}
use Rattle.cj_ir.specs.declared.language.Guard.{Guard}
use Rattle.cj_ir.specs.declared.language.Guard.TheVariants.{Is, Never}
use Rattle.cj_const.specs.Knowledge.{Knowledge, with_known}
use Rattle.cj_const.specs.Flow.{with_value, with_guard, with_guards}
use Rattle.cj_const.specs.Folding.{or_else}
use Rattle.cj_const.proofs.FlowSteps.{guard-fails, guards-all}
use Rattle.cj_const.proofs.Rows.{drop-at}
use Rattle.cj_const.proofs.Monotone.{at-written, at-other}
use Rattle.cj_sparse.specs.Holding.{asked_by, asked, fits, may_follow}

-- what is known after guards that hold
abbrev pub IsAfter : Knowledge → List Guard → Knowledge → Type 0
IsAfter k before now = (r : ℕ) → now r ≡ or_else (k r) (asked before r)

else-none : (o : Option ℤ) → or_else o None ≡ o
unfolding or_else
else-none None = refl
else-none (Some v) = refl

else-assoc : (a b c : Option ℤ) → or_else (or_else a b) c ≡ or_else a (or_else b c)
unfolding or_else
else-assoc None b c = refl
else-assoc (Some v) b c = refl

asked-append : (before others : List Guard) (r : ℕ) → asked (before ++ others) r ≡ or_else (asked before r) (asked others r)
unfolding asked or_else
asked-append [] others r = refl
asked-append (guard ∷ before) others r =
    ap (or_else (asked_by r guard)) (asked-append before others r) ∙ sym (else-assoc (asked_by r guard) (asked before r) (asked others r))

-- ---- one guard

with-asked : (now : Knowledge) (reg : Reg) (v : ℤ) (r : ℕ) → now reg.0 ≡ None → with_known now reg.0 (Some v) r ≡ or_else (now r) (asked_by r (Is reg v))
unfolding asked_by or_else
with-asked now reg v r none = ⊎_elim
    (λ same.
    at-written now reg.0 r (Some v) same
    ∙ sym (cond-true (reg.0 == r) (Some v) None (eq-eqb reg.0 r (sym same)))
    ∙ ap (λ (o : Option ℤ). or_else o (if reg.0 == r then Some v else None)) (sym none ∙ ap now (sym same)))
    (λ other.
    at-other now reg.0 r (Some v) other
    ∙ sym (else-none (now r))
    ∙ ap (or_else (now r)) (sym (cond-false (reg.0 == r) (Some v) None (ne_eqb reg.0 r (λ e. other (sym e))))))
    (cases_eq r reg.0)

same-asked : (now : Knowledge) (reg : Reg) (v w : ℤ) (r : ℕ) → now reg.0 ≡ Some w → now r ≡ or_else (now r) (asked_by r (Is reg v))
unfolding asked_by or_else
same-asked now reg v w r some = ⊎_elim
    (λ same. at-some (now r) (ap now same ∙ some))
    (λ other. sym (else-none (now r)) ∙ ap (or_else (now r)) (sym (cond-false (reg.0 == r) (Some v) None (ne_eqb reg.0 r (λ e. other (sym e))))))
    (cases_eq r reg.0)
  where
    at-some : (o : Option ℤ) → o ≡ Some w → o ≡ or_else o (if reg.0 == r then Some v else None)
    at-some None e = absurd (none-some w e)
    at-some (Some u) e = refl

abbrev pub Holds : Knowledge → Guard → Type 0
Holds now guard = (next : Knowledge) × (with_guard guard now ≡ Some next) × ((r : ℕ) → next r ≡ or_else (now r) (asked_by r guard))

value-holds : (now : Knowledge) (reg : Reg) (v : ℤ) (o : Option ℤ) → now reg.0 ≡ o → fits v o ≡ true →
    (next : Knowledge) × (with_value now reg v o ≡ Some next) × ((r : ℕ) → next r ≡ or_else (now r) (asked_by r (Is reg v)))
unfolding with_value fits
value-holds now reg v None e yes_ = (with_known now reg.0 (Some v), refl, λ r. with-asked now reg v r e)
value-holds now reg v (Some w) e yes_ = (now, cond-true (int_eq w v) (Some now) None yes_, λ r. same-asked now reg v w r e)

value-fails : (now : Knowledge) (reg : Reg) (v : ℤ) (o : Option ℤ) → fits v o ≡ false → with_value now reg v o ≡ None
unfolding with_value fits
value-fails now reg v None no_ = absurd (cc)
value-fails now reg v (Some w) no_ = cond-false (int_eq w v) (Some now) None no_

guard-holds : (k now : Knowledge) (before : List Guard) (guard : Guard) → IsAfter k before now → may_follow k before guard ≡ true → Holds now guard
unfolding may_follow with_guard
guard-holds k now before (Is reg v) after yes_ = value-holds now reg v (now reg.0) refl (ap (fits v) (after reg.0) ∙ yes_)
guard-holds k now before Never after yes_ = absurd (cc)

guard-fails-after : (k now : Knowledge) (before : List Guard) (guard : Guard) → IsAfter k before now → may_follow k before guard ≡ false →
    with_guard guard now ≡ None
unfolding may_follow with_guard
guard-fails-after k now before (Is reg v) after no_ = value-fails now reg v (now reg.0) (ap (fits v) (after reg.0) ∙ no_)
guard-fails-after k now before Never after no_ = refl

-- ---- the loop

-- the guards before an index hold, and what is known then
abbrev pub IsHeld : Knowledge → List Guard → ℕ → Type 0
IsHeld k guards i = (now : Knowledge) × IsAfter k (take i guards) now × (with_guards (drop i guards) (Some now) ≡ with_guards guards (Some k))

pub held-none : (k : Knowledge) (guards : List Guard) → IsHeld k guards 0
unfolding asked or_else
held-none k guards = (k, λ r. sym (else-none (k r)), refl)

pub held-more : (k : Knowledge) (guards before : List Guard) (i : ℕ) (d : Guard) (holds : Bool) → i < length guards → before ≡ take i guards →
    holds ≡ may_follow k before (get_or guards i d) → holds ≡ true → IsHeld k guards i → IsHeld k guards (i + 1)
unfolding asked with_guards
held-more k guards before i d holds h same is yes_ held =
    let guard : Guard = get_or guards i d in
    let step : Holds held.0 guard = guard-holds k held.0 (take i guards) guard held.1 (ap (λ (gs : List Guard). may_follow k gs guard) (sym same) ∙ sym is
    ∙ yes_) in
    let longer : take (i + 1) guards ≡ take i guards ++ guard ∷ [] = ap (λ n. take n guards) (add-one i) ∙ take-suc guards i d h in (
      step.0,
      (λ r.
          step.2 r
          ∙ ap (λ (o : Option ℤ). or_else o (asked_by r guard)) (held.1 r)
          ∙ else-assoc (k r) (asked (take i guards) r) (asked_by r guard)
          ∙ ap (λ (o : Option ℤ). or_else (k r) (or_else (asked (take i guards) r) o)) (sym (else-none (asked_by r guard)))
          ∙ ap (or_else (k r)) (sym (asked-append (take i guards) (guard ∷ []) r))
          ∙ ap (λ (gs : List Guard). or_else (k r) (asked gs r)) (sym longer)),
      ap (with_guards (drop (i + 1) guards)) (sym step.1) ∙ sym (ap (λ (gs : List Guard). with_guards gs (Some held.0)) (drop-at guards i d h)) ∙ held.2,
    )

pub held-fails : (k : Knowledge) (guards before : List Guard) (i : ℕ) (d : Guard) (holds : Bool) → i < length guards → before ≡ take i guards →
    holds ≡ may_follow k before (get_or guards i d) → holds ≡ false → IsHeld k guards i → false ≡ is_some (with_guards guards (Some k))
held-fails k guards before i d holds h same is no_ held =
    let guard : Guard = get_or guards i d in
    let none = guard-fails-after k held.0 (take i guards) guard held.1 (ap (λ (gs : List Guard). may_follow k gs guard) (sym same) ∙ sym is ∙ no_) in
    ap is_some (guard-fails guards i d held.0 [] false (with_guards guards (Some k)) h refl (sym none) held.2)

pub held-all : (k : Knowledge) (guards : List Guard) (i : ℕ) → length guards ≤ i → IsHeld k guards i → true ≡ is_some (with_guards guards (Some k))
held-all k guards i h held = ap is_some (guards-all guards i (Some held.0) (with_guards guards (Some k)) h held.2)

-- ---- what is asked

pub asked-more : (guards : List Guard) (i : ℕ) (d : Guard) (r : ℕ) (all found : Option ℤ) (some : Bool) → i < length guards →
    found ≡ asked_by r (get_or guards i d) → some ≡ is_some found → some ≡ false → asked (drop i guards) r ≡ all → asked (drop (i + 1) guards) r ≡ all
unfolding asked or_else
asked-more guards i d r all (Some v) some h is answer no_ left = absurd (cc)
asked-more guards i d r all None some h is answer no_ left =
    ap (λ (o : Option ℤ). or_else o (asked (drop (i + 1) guards) r)) is
    ∙ sym (ap (λ (gs : List Guard). asked gs r) (drop-at guards i d h))
    ∙ left

pub asked-here : (guards : List Guard) (i : ℕ) (d : Guard) (r : ℕ) (all found : Option ℤ) (some : Bool) → i < length guards →
    found ≡ asked_by r (get_or guards i d) → some ≡ is_some found → some ≡ true → asked (drop i guards) r ≡ all → found ≡ all
unfolding asked or_else
asked-here guards i d r all None some h is answer yes_ left = absurd (cc)
asked-here guards i d r all (Some v) some h is answer yes_ left =
    ap (λ (o : Option ℤ). or_else o (asked (drop (i + 1) guards) r)) is
    ∙ sym (ap (λ (gs : List Guard). asked gs r) (drop-at guards i d h))
    ∙ left
