-- What holds where no condition is against an Assume at the end of a path.
use Rattle.std.proofs.Common.{◌≡◌, ◌≢◌, ℕ, zero, suc, ◌+◌, ◌-◌, ◌<◌, ◌≤◌, Bool, true, false, not, nat_lt, nat_le, nat_eq, List, length, get_or, take, Option}
use Rattle.std.proofs.Common.{Some, None, refl, sym, ap, ◌∙◌, subst, arith}
use Rattle.std.specs.Prelude.{All}
use Rattle.std.specs.List.{list_any}
use Rattle.std.proofs.lemmas.Option.{none-some, slice_get_within}
use Rattle.std.proofs.lemmas.Bool.{ltb-true, leb-true, eqb-true, eq-eqb, ne_eqb}
use Rattle.std.proofs.lemmas.List.{get_or-take, length-take-le}
use Rattle.std.proofs.lemmas.List.Folds.{list_any_at}
use Rattle.std.proofs.lemmas.List.Elements.{All-contains}
use Rattle.cj_ir.specs.declared.language.Label.{Label}
use Rattle.cj_ir.specs.declared.language.Guard.{Guard}
use Rattle.cj_ir.specs.declared.language.Program.{Program}
use Rattle.cj_draft.specs.declared.instructions.VInstr.{VInstr}
use Rattle.cj_draft.specs.declared.instructions.VInstr.TheVariants.{Nop, Op, Move, Cond, Call, Return, Print, Load, Store, Fail, Assume, Anchor}
use Rattle.cj_draft.specs.declared.code.Place.{Place}
use Rattle.cj_draft.specs.declared.code.Code.{Code}
use Rattle.cj_draft.specs.declared.passes.Skipped.{Skipped}
use Rattle.cj_draft.specs.declared.passes.Skipped.TheVariants.{NoPlace, NotAnchor}
use Rattle.cj_draft.specs.Arrives.{place_at}
use Rattle.cj_draft.specs.WellNamed.{IsGuardWithin}
use Rattle.cj_rows.specs.Rows.{fresh_row}
use Rattle.cj_rows.proofs.Room.{has_room}
use Rattle.cj_rows.specs.Guards.{if_missing}
use Rattle.cj_delay.specs.DelayedAssume.{all_nexts, is_label, edges_into, passed_in, on_path, is_edge, joined_offence, silent_offence, step_offence}
use Rattle.cj_delay.specs.DelayedAssume.{steps_offence, turns_back, long_offence, end_offence, anchor_number, offence_from, offence_on, delay_offence}
use Rattle.cj_delay.specs.CountedEdges.{AreNextsWithin}
use Rattle.cj_delay.specs.DelaySteps.{IsPathIn, BeginsPath}
use Rattle.cj_rows.proofs.GuardConditions.{no_offence, guards_within, few_guards}
use Rattle.cj_delay.proofs.PathSteps.{HasEdge, has_edge, edge_parts, nexts_contain}

missing_none : (b : Bool) (skipped : Skipped) → if_missing b skipped ≡ None → b ≡ true
unfolding if_missing
missing_none true skipped e = refl
missing_none false skipped e = absurd (none-some skipped (sym e))

-- ---- steps

steps_none : (P : Program) (code : Code) (path : List Label) (n at k : ℕ) → steps_offence P code path n at ≡ None → at ≤ k → k < at + n →
    step_offence P code path k ≡ None
unfolding steps_offence
steps_none P code path zero at k e h lt = absurd (omega arith)
steps_none P code path (suc n) at k e h lt =
    let parts = no_offence (step_offence P code path at) (steps_offence P code path n (suc at)) e in
    by_test (nat_eq k at) refl parts.0 (λ more. steps_none P code path n (suc at) k parts.1 more (omega arith))
  where
    by_test : (b : Bool) → nat_eq k at ≡ b → step_offence P code path at ≡ None → (suc at ≤ k → step_offence P code path k ≡ None) →
        step_offence P code path k ≡ None
    by_test true is here later = let same : at ≡ k = sym (eqb-true k at is) in subst (λ j. step_offence P code path j ≡ None) same here
    by_test false is here later =
        let ne : k ≡ at → ⊥ = λ e. let t : false ≡ true = sym is ∙ eq-eqb k at e in absurd (cc) in
        later (omega arith)

-- the path goes on to its label of that number
pub record IsStep (P : Program) (code : Code) (path : List Label) (at : ℕ) : Type 0 where
  pub edge : HasEdge code (on_path path (at - 1)) (on_path path at)
  pub new : (j : ℕ) → j < at → on_path path j ≡ on_path path at → ⊥
  pub one : edges_into code (on_path path at) ≡ 1
  pub passed : suc at ≢ length path → passed_in P (place_at code (on_path path at)) ≡ true

earlier : (path : List Label) (at j : ℕ) → at ≤ length path → j < at → on_path path j ≡ on_path path at → list_any (is_label (on_path path at)) (take at path)
    ≡ true
unfolding is_label on_path
earlier path at j h lt e =
    let none : Label = record { 0 = 0 } in
    let size : j < length (take at path) = omega (arith, length-take-le at path h) in
    let read : get_or (take at path) j none ≡ get_or path at none = get_or-take at path j none lt ∙ e in
    list_any_at (is_label (get_or path at none)) (take at path) j none size
    (eq-eqb (get_or (take at path) j none).0 (get_or path at none).0 (ap (λ (l : Label). l.0) read))

silent_none : (P : Program) (code : Code) (label : Label) (b : Bool) → b ≡ false → silent_offence P code label b ≡ None →
    passed_in P (place_at code label) ≡ true
unfolding silent_offence
silent_none P code label true is e = let f : true ≡ false = is in absurd (cc)
silent_none P code label false is e = missing_none (passed_in P (place_at code label)) _ e

step_of : (P : Program) (code : Code) (path : List Label) (at : ℕ) → at < length path → step_offence P code path at ≡ None → IsStep P code path at
unfolding step_offence joined_offence
step_of P code path at h e =
    let label = on_path path at in
    let one = no_offence _ _ e in
    let two = no_offence _ _ one.1 in
    let parts = edge_parts code path at (missing_none (is_edge code path at) _ one.0) in
    record {
      edge = has_edge code (on_path path (at - 1)) label parts.0;
      new = λ j lt same.
          let has = earlier path at j (omega arith) lt same in
          let no : not true ≡ true = ap not (sym has) ∙ parts.1 in
          let f : false ≡ true = no in cc;
      one = eqb-true (edges_into code label) 1 (missing_none (nat_eq (edges_into code label) 1) _ two.0);
      passed = λ ne. silent_none P code label (nat_eq (suc at) (length path)) (ne_eqb (suc at) (length path) ne) two.1;
    }

-- ---- the whole

pub record CanDelay (P : Program) (code : Code) (path : List Label) (guards : List Guard) : Type 0 where
  pub long : 2 ≤ length path
  pub begins : BeginsPath code path
  pub steps : (at : ℕ) → 0 < at → at < length path → IsStep P code path at
  pub registers : All (IsGuardWithin code.regs) guards
  pub few : length guards ≤ 8
  pub row : fresh_row code (on_path path (length path - 1)) ≤ 8
  pub labels : length code.places + 1 ≤ 512

pub can_delay : (P : Program) (code : Code) (path : List Label) (guards : List Guard) → delay_offence P code path guards ≡ None → CanDelay P code path guards
unfolding delay_offence offence_on offence_from anchor_number end_offence long_offence
can_delay P code path gs none =
    let parts = no_offence _ _ none in
    by_place (ltb-true 1 (length path) (missing_none (nat_lt 1 (length path)) _ parts.0)) (place_at code (on_path path 0)) refl (no_offence _ _ parts.1).1
  where
    first : Label
    first = on_path path 0

    other : offence_from P code path gs None ≡ None → CanDelay P code path gs
    other e = absurd (none-some (NotAnchor (on_path path 0)) (sym e))

    by_instr : 1 < length path → (p : Place) → place_at code (on_path path 0) ≡ Some p → (i : VInstr) → p.instr ≡ i →
        offence_from P code path gs (anchor_number i) ≡ None → CanDelay P code path gs
    by_instr long p at (Anchor b t n) is e =
        let steps = no_offence _ _ e in
        let back = no_offence _ _ steps.1 in
        let regs = no_offence _ _ back.1 in
        let guards = no_offence _ _ regs.1 in
        let room = has_room (fresh_row code (on_path path (length path - 1))) (length code.places + 1) guards.1 in
        let short : turns_back code path b ≤ 4 = leb-true (turns_back code path b) 4 (missing_none (nat_le (turns_back code path b) 4) _ back.0) in
        record {
          long = omega arith;
          begins = record { place = p; at = at; number = b; target = t; next = n; instr = is; few = omega arith };
          steps = λ k some within. step_of P code path k within (steps_none P code path (length path - 1) 1 k steps.0 (omega arith) (omega arith));
          registers = guards_within code.regs gs regs.0;
          few = few_guards (length gs) guards.0;
          row = room.0;
          labels = room.1;
        }
    by_instr long p at (Assume g b t n) is e = other e
    by_instr long p at (Nop n) is e = other e
    by_instr long p at (Op d x n) is e = other e
    by_instr long p at (Move ps n) is e = other e
    by_instr long p at (Cond t x y) is e = other e
    by_instr long p at (Call d f args n) is e = other e
    by_instr long p at (Return v) is e = other e
    by_instr long p at (Print v n) is e = other e
    by_instr long p at (Load d x n) is e = other e
    by_instr long p at (Store x y n) is e = other e
    by_instr long p at (Fail f l) is e = other e

    by_place : 1 < length path → (o : Option Place) → place_at code (on_path path 0) ≡ o → offence_on P code path gs o ≡ None → CanDelay P code path gs
    by_place long None at e = absurd (none-some (NoPlace (on_path path 0)) (sym e))
    by_place long (Some p) at e = by_instr long p at p.instr refl e

pub path_in : (P : Program) (code : Code) (path : List Label) (guards : List Guard) → AreNextsWithin code.places → CanDelay P code path guards →
    IsPathIn code path
path_in P code path gs closed can = record {
  long = can.long;
  within = λ at h. by_number at h;
  apart = λ i j lt within same. (can.steps j (omega arith) within).new i lt same;
}
  where
    by_number : (at : ℕ) → at < length path → (on_path path at).0 < length code.places
    by_number zero h = slice_get_within code.places (on_path path 0).0 can.begins.place can.begins.at
    by_number (suc k) h =
        let step = can.steps (suc k) (omega arith) h in
        All-contains (λ (next : Label). next.0 < length code.places) (all_nexts code.places) (on_path path (suc k)) closed.within
        (nexts_contain code.places (on_path path (suc k - 1)).0 step.edge.place (on_path path (suc k)) step.edge.at step.edge.goes)
