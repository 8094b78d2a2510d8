-- Two lists of facts together hold exactly where both do.
use Rattle.std.proofs.Common.{◌≡◌, ℕ, zero, suc, ◌<◌, false, List, Option, Some, None, refl, sym, ap, ◌∙◌, subst, ⊎_elim, arith}
use Rattle.std.specs.Prelude.{ℤ, Contains}
use Rattle.std.specs.Ordering.{int_eq}
use Rattle.std.proofs.lemmas.Option.{none-some}
use Rattle.std.proofs.lemmas.Bool.{cases_eq, cases_Bool, or_from, or_parts, not-false, not_from_true, cond-true, cond-false}
use Rattle.std.proofs.lemmas.Bool.Decides.{Decides-int_eq}
use Rattle.std.proofs.lemmas.List.Elements.{All-contains}
use Rattle.cj_ir.specs.Values.{register}
use Rattle.cj_ir.proofs.Members.{all-from_contains}
use Rattle.cj_draft.specs.declared.facts.Fact.{Fact}
use Rattle.cj_draft.specs.declared.facts.Facts.{Facts}
use Rattle.cj_draft.specs.declared.facts.Facts.TheVariants.{Unreached, Known}
use Rattle.cj_draft.specs.WellNamed.{AreFactsFine, HasFineFacts}
use Rattle.cj_draft.specs.Arrives.{Satisfies, Allows}
use Rattle.cj_const.specs.Knowledge.{Knowledge, told_by}
use Rattle.cj_const.specs.Folding.{facts_below, differ, clash, or_else, both, together_of, together}
use Rattle.cj_const.proofs.Told.{fact, told-contains, fine-told, below-in, in-below}
use Rattle.cj_const.proofs.Effects.{Agrees}

pub satisfies-agrees : (facts : List Fact) (regs : List ℤ) → Satisfies facts regs → Agrees (told_by facts) regs
satisfies-agrees facts regs h r v e = All-contains (λ (x : Fact). register regs x.reg.0 ≡ x.value) facts (fact r v) h (told-contains facts r v e)

-- ---- both hold

differ-none : (o o' : Option ℤ) (z : ℤ) → ((v : ℤ) → o ≡ Some v → z ≡ v) → ((v : ℤ) → o' ≡ Some v → z ≡ v) → differ o o' ≡ false
unfolding differ
differ-none None o' z h h' = refl
differ-none (Some v) None z h h' = refl
differ-none (Some v) (Some w) z h h' = not_from_true (int_eq v w) ((Decides-int_eq v w).1 (sym (h v refl) ∙ h' w refl))

agree-clash : (k k' : Knowledge) (regs : List ℤ) (n : ℕ) → Agrees k regs → Agrees k' regs → clash k k' n ≡ false
unfolding clash
agree-clash k k' regs zero h h' = refl
agree-clash k k' regs (suc n) h h' =
    or_from (clash k k' n) (differ (k n) (k' n)) (agree-clash k k' regs n h h') (differ-none (k n) (k' n) (register regs n) (h n) (h' n))

either-value : (o o' : Option ℤ) (z v : ℤ) → ((v : ℤ) → o ≡ Some v → z ≡ v) → ((v : ℤ) → o' ≡ Some v → z ≡ v) → or_else o o' ≡ Some v → z ≡ v
unfolding or_else
either-value None o' z v h h' e = h' v e
either-value (Some w) o' z v h h' e = h v e

agree-both : (k k' : Knowledge) (regs : List ℤ) → Agrees k regs → Agrees k' regs → Agrees (both k k') regs
unfolding both
agree-both k k' regs h h' r v e = either-value (k r) (k' r) (register regs r) v (h r) (h' r) e

below-satisfied : (k : Knowledge) (n : ℕ) (regs : List ℤ) → Agrees k regs → Satisfies (facts_below k n) regs
below-satisfied k n regs h =
    all-from_contains (λ (x : Fact). register regs x.reg.0 ≡ x.value) (facts_below k n) (λ x c. h x.reg.0 x.value (below-in k n x c).1)

pub together-allows : (n : ℕ) (old facts : Facts) (regs : List ℤ) → Allows old regs → Allows facts regs → Allows (together n old facts) regs
unfolding together together_of
together-allows n Unreached facts regs h h' = absurd h
together-allows n (Known old) Unreached regs h h' = absurd h'
together-allows n (Known old) (Known facts) regs h h' =
    let k : Knowledge = told_by old in
    let k' : Knowledge = told_by facts in
    let agrees = satisfies-agrees old regs h in
    let agrees' = satisfies-agrees facts regs h' in
    subst (λ (z : Facts). Allows z regs)
    (sym (cond-false (clash k k' n) Unreached (Known (facts_below (both k k') n)) (agree-clash k k' regs n agrees agrees')))
    (below-satisfied (both k k') n regs (agree-both k k' regs agrees agrees'))

-- ---- those together hold

clash-false : (k k' : Knowledge) (n r : ℕ) → clash k k' n ≡ false → r < n → differ (k r) (k' r) ≡ false
unfolding clash
clash-false k k' zero r e h = absurd (omega arith)
clash-false k k' (suc n) r e h =
    let parts = or_parts (clash k k' n) (differ (k n) (k' n)) e in
    ⊎_elim
    (λ same. subst (λ j. differ (k j) (k' j) ≡ false) (sym same) parts.1)
    (λ other. clash-false k k' n r parts.0 (omega arith))
    (cases_eq r n)

second-known : (o o' : Option ℤ) (v : ℤ) → differ o o' ≡ false → o' ≡ Some v → or_else o o' ≡ Some v
unfolding or_else differ
second-known None o' v clear e = e
second-known (Some w) None v clear e = absurd (none-some v e)
second-known (Some w) (Some u) v clear e = ap Some ((Decides-int_eq w u).0 (not-false (int_eq w u) clear)) ∙ e

first-known : (o o' : Option ℤ) (v : ℤ) → o ≡ Some v → or_else o o' ≡ Some v
unfolding or_else
first-known None o' v e = absurd (none-some v e)
first-known (Some w) o' v e = e

told-holds : (k : Knowledge) (n : ℕ) (facts : List Fact) (regs : List ℤ) → AreFactsFine n facts → ((x : Fact) → Contains facts x → k x.reg.0 ≡ Some x.value) →
    Satisfies (facts_below k n) regs → Satisfies facts regs
told-holds k n facts regs fine h satisfied = all-from_contains (λ (x : Fact). register regs x.reg.0 ≡ x.value) facts (λ x c.
    let low : x.reg.0 < n = All-contains (λ (y : Fact). y.reg.0 < n) facts x fine.registers c in
    All-contains (λ (y : Fact). register regs y.reg.0 ≡ y.value) (facts_below k n) (fact x.reg.0 x.value) satisfied (in-below k n x.reg.0 x.value low (h x c)))

both-hold : (n : ℕ) (old facts : List Fact) (regs : List ℤ) → AreFactsFine n old → AreFactsFine n facts → clash (told_by old) (told_by facts) n ≡ false →
    Satisfies (facts_below (both (told_by old) (told_by facts)) n) regs → Satisfies old regs × Satisfies facts regs
unfolding both
both-hold n old facts regs fine fine' clear h =
    let k : Knowledge = told_by old in
    let k' : Knowledge = told_by facts in (
      told-holds (both k k') n old regs fine (λ x c. first-known (k x.reg.0) (k' x.reg.0) x.value (fine-told n old x fine c)) h,
      told-holds (both k k') n facts regs fine' (λ x c.
          let low : x.reg.0 < n = All-contains (λ (y : Fact). y.reg.0 < n) facts x fine'.registers c in
          second-known (k x.reg.0) (k' x.reg.0) x.value (clash-false k k' n x.reg.0 clear low) (fine-told n facts x fine' c)) h,
    )

pub together-old : (n : ℕ) (old facts : Facts) (regs : List ℤ) → HasFineFacts n old → HasFineFacts n facts → Allows (together n old facts) regs →
    Allows old regs × Allows facts regs
unfolding together together_of
together-old n Unreached facts regs fine fine' h = absurd h
together-old n (Known old) Unreached regs fine fine' h = absurd h
together-old n (Known old) (Known facts) regs fine fine' h =
    let k : Knowledge = told_by old in
    let k' : Knowledge = told_by facts in
    let below : Facts = Known (facts_below (both k k') n) in
    ⊎_elim
    (λ yes_. absurd (subst (λ (z : Facts). Allows z regs) (cond-true (clash k k' n) Unreached below yes_) h))
    (λ no_. both-hold n old facts regs fine fine' no_ (subst (λ (z : Facts). Allows z regs) (cond-false (clash k k' n) Unreached below no_) h))
    (cases_Bool (clash k k' n))
