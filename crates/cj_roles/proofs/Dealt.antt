-- Roles dealt seats, one by one.
use Rattle.std.proofs.Common.{◌≡◌, ◌∙◌, refl, sym, ap, subst, ℕ, zero, suc, ◌+◌, ◌<◌, ◌≤◌, List, [], ◌∷◌, ◌++◌, map, replicate, length, arith, append_assoc}
use Rattle.std.proofs.Common.{append-nil, length-append}
use Rattle.std.specs.List.{AllZip}
use Rattle.std.proofs.lemmas.List.{map_push, length-replicate}
use Rattle.cj_profile.specs.declared.profile.Profile.{Profile}
use Rattle.cj_publish.specs.declared.seats.CodeTable.{CodeTable}
use Rattle.cj_publish.specs.Seats.{view_of}
use Rattle.cj_publish.specs.Views.{given}
use Rattle.cj_ir.proofs.Zips.{AllZip-push}
use Rattle.cj_records.specs.declared.store.Store.{Store}
use Rattle.cj_records.specs.Chains.{numbers_from}
use Rattle.cj_roles.specs.declared.role.Role.{Role}
use Rattle.cj_roles.specs.declared.role.Role.TheVariants.{Caller, Worker}
use Rattle.cj_roles.specs.declared.role.Slot.{Slot}
use Rattle.cj_roles.specs.declared.role.Slot.TheVariants.{Given}
use Rattle.cj_roles.specs.Roles.{JobFits, callers_to, roles_in}
use Rattle.cj_roles.specs.Slots.{IsJobOf, IsFor}
use Rattle.cj_roles.specs.Dealt.{CanBeSplit, HasSplit, Deals, HasDealt}
use Rattle.cj_roles.proofs.Shares.{numbers_next}

pub dealt_none : (a : Store) → CanBeSplit a → HasDealt a [] [] a
dealt_none a can = record {
  split = record {
    can = can;
    code_table = refl;
    profile_table = refl;
    code_splits = omega arith;
    profile_splits = omega arith;
    view = refl;
    reads =
        refl;
    joined = refl;
  };
  slots_are = tt;
}

module _ (a b c : Store) (roles : List Role) (slots after : List Slot) (role : Role) (h : HasDealt a roles slots b) (d : Deals b role slots after c) where
  job_is : IsJobOf a.code a.profile (view_of a.code_seat) role d.job
  job_is = record {
    fits = subst (λ (p : Profile). JobFits a.code p d.job) h.split.profile_table
        (subst (λ (t : CodeTable). JobFits t b.profile d.job) h.split.code_table d.is_job.fits);
    role_is = d.is_job.role_is;
    view = d.is_job.view ∙ ap given h.split.view;
  }

  pub dealt_more : HasDealt a (roles ++ role ∷ []) after c
  dealt_more = record {
    split = record {
      can = d.split.can;
      code_table = d.split.code_table ∙ h.split.code_table;
      profile_table = d.split.profile_table ∙ h.split.profile_table;
      code_splits = let x = d.split.code_splits in let y = h.split.code_splits in omega (arith, x, y, length-append roles (role ∷ []));
      profile_splits = let x = d.split.profile_splits in let y = h.split.profile_splits in omega (arith, x, y, length-append roles (role ∷ []));
      view = d.split.view ∙ h.split.view;
      reads = d.split.reads ∙ h.split.reads;
      joined = d.split.joined ∙ h.split.joined;
    };
    slots_are = subst (AllZip (IsFor a.code a.profile (view_of a.code_seat)) (roles ++ role ∷ [])) (sym d.slots)
        (AllZip-push (IsFor a.code a.profile (view_of a.code_seat)) roles slots role (Given d.job) h.slots_are job_is);
  }

-- ---- the roles so far

pub callers_more : (callers n : ℕ) → callers_to callers (n + 1) ≡ callers_to callers n ++ Caller n callers ∷ []
callers_more callers n =
    let one : n + 1 ≡ suc n = omega arith in
    let same : 0 + n ≡ n = omega arith in
    ap (λ m. callers_to callers m) one
    ∙ ap (map (λ (first : ℕ). Caller first callers)) (numbers_next 0 n ∙ ap (λ m. numbers_from 0 n ++ m ∷ []) same)
    ∙ map_push (λ (first : ℕ). Caller first callers) (numbers_from 0 n) n

replicate_push : {A : Type 0} (n : ℕ) (x : A) → replicate (suc n) x ≡ replicate n x ++ x ∷ []
replicate_push zero x = refl
replicate_push (suc n) x = ap (λ l. x ∷ l) (replicate_push n x)

pub workers_more : (roles : List Role) (callers n : ℕ) → roles ++ replicate (n + 1) (Worker callers) ≡ (roles ++ replicate n (Worker callers))
    ++ Worker callers ∷ []
workers_more roles callers n =
    let one : n + 1 ≡ suc n = omega arith in
    ap (λ m. roles ++ replicate m (Worker callers)) one ∙ ap (λ l. roles ++ l) (replicate_push n (Worker callers))
    ∙ sym (append_assoc roles (replicate n (Worker callers)) (Worker callers ∷ []))

pub length_numbers : {B : Type 0} (f : ℕ → B) (k n : ℕ) → length (map f (numbers_from k n)) ≡ n
unfolding numbers_from
length_numbers f k zero = refl
length_numbers f k (suc n) = ap suc (length_numbers f (k + 1) n)

pub length_callers : (callers n : ℕ) → length (callers_to callers n) ≡ n
length_callers callers n = length_numbers (λ (first : ℕ). Caller first callers) 0 n

pub length_roles : (callers n m : ℕ) → length (callers_to callers n ++ replicate m (Worker callers)) ≡ n + m
length_roles callers n m = omega
    (arith, length-append (callers_to callers n) (replicate m (Worker callers)), length_callers callers n, length-replicate m (Worker callers))

-- ---- the loops

pub deal_none : (a : Store) (callers : ℕ) (slots : List Slot) → slots ≡ [] → CanBeSplit a → HasDealt a (callers_to callers 0) slots a
unfolding numbers_from
deal_none a callers slots none can = subst (λ (xs : List Slot). HasDealt a [] xs a) (sym none) (dealt_none a can)

pub deal_caller : (a b c : Store) (callers n : ℕ) (slots after : List Slot) → HasDealt a (callers_to callers n) slots b →
    Deals b (Caller n callers) slots after c → HasDealt a (callers_to callers (n + 1)) after c
deal_caller a b c callers n slots after h d = subst (λ (rs : List Role). HasDealt a rs after c) (sym (callers_more callers n))
    (dealt_more a b c (callers_to callers n) slots after (Caller n callers) h d)

pub deal_callers : (a b : Store) (callers n : ℕ) (slots : List Slot) → n ≡ callers → HasDealt a (callers_to callers n) slots b →
    HasDealt a (callers_to callers callers ++ replicate 0 (Worker callers)) slots b
deal_callers a b callers n slots e h = subst (λ (rs : List Role). HasDealt a rs slots b) (ap (callers_to callers) e
    ∙ sym (append-nil (callers_to callers callers))) h

pub deal_worker : (a b c : Store) (callers n : ℕ) (slots after : List Slot) → HasDealt a (callers_to callers callers ++ replicate n (Worker callers)) slots b →
    Deals b (Worker callers) slots after c
    → HasDealt a (callers_to callers callers ++ replicate (n + 1) (Worker callers)) after c
deal_worker a b c callers n slots after h d = subst (λ (rs : List Role). HasDealt a rs after c) (sym (workers_more (callers_to callers callers) callers n))
    (dealt_more a b c (callers_to callers callers ++ replicate n (Worker callers)) slots after (Worker callers) h d)

-- few seats were split off so far
pub few_callers : (a b : Store) (callers n : ℕ) (slots : List Slot) → HasDealt a (callers_to callers n) slots b →
    (a.code_seat.splits ≡ 0) × (a.profile_seat.splits ≡ 0) → n ≤ 4 → (b.code_seat.splits < 16) × (b.profile_seat.splits < 16)
few_callers a b callers n slots h none few =
    let x = h.split.code_splits in let y = h.split.profile_splits in let p = none.0 in let q = none.1 in
    (omega (arith, x, p, few, length_callers callers n), omega (arith, y, q, few, length_callers callers n))

pub few_workers : (a b : Store) (callers n : ℕ) (slots : List Slot) → HasDealt a (callers_to callers callers ++ replicate n (Worker callers)) slots b →
    (a.code_seat.splits ≡ 0) × (a.profile_seat.splits ≡ 0) → callers ≤ 4 → n ≤ 4
    → (b.code_seat.splits < 16) × (b.profile_seat.splits < 16)
few_workers a b callers n slots h none few some =
    let x = h.split.code_splits in let y = h.split.profile_splits in let p = none.0 in let q = none.1 in
    (omega (arith, x, p, few, some, length_roles callers callers n), omega (arith, y, q, few, some, length_roles callers callers n))
