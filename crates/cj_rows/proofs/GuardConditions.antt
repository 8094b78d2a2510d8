-- What holds where nothing is against the guards.
use Rattle.std.proofs.Common.{◌≡◌, ℕ, ◌+◌, ◌-◌, ◌^◌, ◌<◌, ◌≤◌, min, Bool, true, false, nat_lt, List, [], ◌∷◌, length, get_or, drop, Option, Some, None, refl}
use Rattle.std.proofs.Common.{sym, ap, ◌∙◌, arith}
use Rattle.std.specs.Prelude.{All}
use Rattle.std.proofs.lemmas.List.{drop_more}
use Rattle.std.proofs.Math.ListN.{drop_of_length-le}
use Rattle.std.proofs.lemmas.List.Elements.{All-cons, All-nil}
use Rattle.std.proofs.lemmas.Option.{none-some}
use Rattle.std.proofs.lemmas.Bool.{ltb-true, ltb-false, lt-ltb}
use Rattle.cj_ir.specs.declared.language.Guard.{Guard}
use Rattle.cj_ir.specs.declared.language.Guard.TheVariants.{Is, Never}
use Rattle.cj_draft.specs.declared.passes.Room.TheVariants.{Guards}
use Rattle.cj_draft.specs.declared.passes.Skipped.{Skipped}
use Rattle.cj_draft.specs.declared.passes.Skipped.TheVariants.{NoRegister, Full}
use Rattle.cj_draft.specs.WellNamed.{IsGuardWithin}
use Rattle.cj_draft.specs.Skips.{told}
use Rattle.cj_rows.specs.Rooms.{if_full}
use Rattle.cj_rows.specs.Guards.{or_next, if_missing, guard_offence, register_offence, guards_offence}
use Rattle.cj_rows.proofs.Room.{not_full}

-- ---- one condition after another

pub no_offence : (first others : Option Skipped) → or_next first others ≡ None → (first ≡ None) × (others ≡ None)
unfolding or_next
no_offence None others e = (refl, e)
no_offence (Some skipped) others e = absurd (none-some skipped (sym e))

-- ---- registers

pub offence_here : (regs : ℕ) (guard : Guard) (guards : List Guard) (skipped : Skipped) → guard_offence regs guard ≡ Some skipped →
    register_offence regs (guard ∷ guards) ≡ Some skipped
unfolding register_offence or_next
offence_here regs guard guards skipped e = ap (λ o. or_next o (register_offence regs guards)) e

pub offence_later : (regs : ℕ) (guard : Guard) (guards : List Guard) → guard_offence regs guard ≡ None →
    register_offence regs (guard ∷ guards) ≡ register_offence regs guards
unfolding register_offence or_next
offence_later regs guard guards e = ap (λ o. or_next o (register_offence regs guards)) e

-- at a guard of the list, where none is missing before it
pub offence_found : (regs : ℕ) (guards : List Guard) (i : ℕ) (guard : Guard) (skipped : Skipped) → i < length guards →
    register_offence regs (drop i guards) ≡ register_offence regs guards → guard_offence regs (get_or guards i guard) ≡ Some skipped →
    Some skipped ≡ register_offence regs guards
offence_found regs guards i guard skipped h so_far e =
    sym (offence_here regs (get_or guards i guard) (drop (i + 1) guards) skipped e)
    ∙ ap (register_offence regs) (sym (drop_more guards i guard h)) ∙ so_far

pub offence_past : (regs : ℕ) (guards : List Guard) (i : ℕ) (guard : Guard) → i < length guards →
    register_offence regs (drop i guards) ≡ register_offence regs guards → guard_offence regs (get_or guards i guard) ≡ None →
    register_offence regs (drop (i + 1) guards) ≡ register_offence regs guards
offence_past regs guards i guard h so_far e =
    sym (offence_later regs (get_or guards i guard) (drop (i + 1) guards) e)
    ∙ ap (register_offence regs) (sym (drop_more guards i guard h)) ∙ so_far

pub offence_none : (regs : ℕ) (guards : List Guard) (i : ℕ) → length guards ≤ i → register_offence regs (drop i guards) ≡ register_offence regs guards →
    None ≡ register_offence regs guards
unfolding register_offence
offence_none regs guards i h so_far = sym (ap (register_offence regs) (drop_of_length-le guards h)) ∙ so_far

guard_within : (regs : ℕ) (guard : Guard) → guard_offence regs guard ≡ None → IsGuardWithin regs guard
unfolding guard_offence if_missing
guard_within regs (Is reg value) e = by_test (nat_lt reg.0 regs) refl e
  where
    by_test : (b : Bool) → nat_lt reg.0 regs ≡ b → if_missing b (NoRegister reg) ≡ None → reg.0 < regs
    by_test true is e = ltb-true reg.0 regs is
    by_test false is e = absurd (none-some (NoRegister reg) (sym e))
guard_within regs Never e = tt

pub guards_within : (regs : ℕ) (guards : List Guard) → register_offence regs guards ≡ None → All (IsGuardWithin regs) guards
unfolding register_offence
guards_within regs [] e = All-nil (IsGuardWithin regs)
guards_within regs (guard ∷ guards) e =
    let h = no_offence (guard_offence regs guard) (register_offence regs guards) e in
    All-cons (IsGuardWithin regs) guard guards (guard_within regs guard h.0) (guards_within regs guards h.1)

-- ---- guards

pub few_guards : (count : ℕ) → guards_offence count ≡ None → count ≤ 8
unfolding guards_offence
few_guards count e = ltb-false 8 count (not_full (nat_lt 8 count) Guards (told count) None e).0

pub has_few : (count : ℕ) → count ≤ 8 → guards_offence count ≡ None
unfolding guards_offence if_full
has_few count h = ap (λ b. if_full b Guards (told count) None) (not_less count h)
  where
    not_less : (n : ℕ) → n ≤ 8 → nat_lt 8 n ≡ false
    not_less n h = by_test (nat_lt 8 n) refl
      where
        by_test : (b : Bool) → nat_lt 8 n ≡ b → nat_lt 8 n ≡ false
        by_test false e = e
        by_test true e = let less : 8 < n = ltb-true 8 n e in absurd (omega arith)

pub has_many : (count capped : ℕ) → 8 < capped → capped ≡ min count (2 ^ 64 - 1) → Some (Full Guards (told capped)) ≡ guards_offence count
unfolding guards_offence if_full told
has_many count capped h e =
    let many : nat_lt 8 count ≡ true = lt-ltb 8 count (omega arith) in
    let same : min capped (2 ^ 32 - 1) ≡ min count (2 ^ 32 - 1) = omega arith in
    ap (λ (n : ℕ). Some (Full Guards n)) same ∙ sym (ap (λ b. if_full b Guards (min count (2 ^ 32 - 1)) None) many)
