-- A code is sound whose first instruction is a store that fails, as that of the base body: nothing comes to the places behind it.
use Rattle.std.proofs.Common.{◌≡◌, ℕ, zero, suc, ◌<◌, ◌≤◌, List, [], ◌∷◌, length, Option, Some, None, refl, sym, ap, ◌∙◌, subst, arith}
use Rattle.std.specs.Prelude.{ℤ, pos, negsuc, All, Contains, IsSomeAnd, slice_get}
use Rattle.std.specs.Option.{option_map}
use Rattle.std.proofs.lemmas.List.Elements.{All-nil, All-cons}
use Rattle.std.proofs.lemmas.Option.{none-some, same_Some}
use Rattle.cj_ir.specs.WellFormed.{Takes}
use Rattle.cj_ir.specs.Program.{instr_at, reg_count}
use Rattle.cj_ir.specs.Values.{register}
use Rattle.cj_ir.specs.declared.language.FunId.{FunId}
use Rattle.cj_ir.specs.declared.language.Label.{Label}
use Rattle.cj_ir.specs.declared.language.Instr.{Instr}
use Rattle.cj_ir.specs.declared.language.Program.{Program}
use Rattle.cj_ir.specs.declared.language.Operand.{Operand}
use Rattle.cj_ir.specs.declared.language.Operand.TheVariants as operand
use Rattle.cj_base.specs.Machine.{Stack, Faults, BadAddress, with_value, cell, store_effect, entry_regs, entry_frame}
use Rattle.cj_base.specs.Same.{Same}
use Rattle.cj_draft.specs.declared.limits.TheConstants.{MAX_CODE_LABELS, MAX_ROW}
use Rattle.cj_draft.specs.declared.facts.Fact.{Fact}
use Rattle.cj_draft.specs.declared.facts.Facts.TheVariants.{Unreached, Known}
use Rattle.cj_draft.specs.declared.instructions.VInstr.TheVariants.{Store}
use Rattle.cj_draft.specs.declared.code.Back.{Back}
use Rattle.cj_draft.specs.declared.code.Place.{Place}
use Rattle.cj_draft.specs.declared.code.Code.{Code}
use Rattle.cj_draft.specs.Points.{frames_of}
use Rattle.cj_draft.specs.Effects.{Plain, version_effect}
use Rattle.cj_draft.specs.WellNamed.{IsPointFine, IsBackFine, IsPlaceFine, WellNamed}
use Rattle.cj_draft.specs.Arrives.{place_at, Satisfies, Allows, Admits}
use Rattle.cj_draft.specs.Sound.{Resumes, SoundEffect, RowWithin, AreAmong, Sound}
use Rattle.cj_draft.specs.BaseBody.{base_place, base_code}
use Rattle.cj_draft.proofs.Adopted.{no_facts}
use Rattle.cj_draft.proofs.BasePlaces.{base_place_at}
use Rattle.cj_draft.proofs.Lists.{fine_of}
use Rattle.cj_test_passes.specs.ByHand.{label, failing, place}

-- a store to an address that no memory has fails
pub store_fails :
    (value : Operand) (next : Label) (regs m : List ℤ) →
    version_effect (Store (operand.Const (negsuc 0)) value next) regs m ≡ Plain (Faults (BadAddress (negsuc 0)))
unfolding version_effect store_effect with_value cell
store_fails value next regs m = refl

pub regs_of_base : (P : Program) (f : FunId) → reg_count P f ≡ (base_code P f).regs
unfolding base_code
regs_of_base P f = refl

free-facts : (f : FunId) (n : ℕ) (l : Label) (o : Option Instr) (p : Place) → option_map (base_place f n l) o ≡ Some p → p.facts ≡ Known []
unfolding base_place
free-facts f n l None p e = absurd (none-some p e)
free-facts f n l (Some i) p e = sym (ap (λ (q : Place). q.facts) (same_Some (base_place f n l i) p e))

no-pair : (pair : Back) → Contains [] pair → ⊥
no-pair pair c = let h : c.0 < 0 = c.1 in omega arith

-- the code with these places behind the store
abbrev pub dead_code : FunId → ℕ → Place → List Place → Code
dead_code f n first rest =
    record { function = f; regs = n; entry = label 0; places = place first.point (Known []) failing ∷ rest }

module _ (P : Program) (f : FunId) (context : List Fact) (first : Place)
    (sound : Sound P context f (base_code P f)) (at : place_at (base_code P f) (label 0) ≡ Some first)
    (fails : (regs m : List ℤ) → version_effect first.instr regs m ≡ Plain (Faults (BadAddress (negsuc 0)))) where
  abbrev code : Code
  code = base_code P f

  entry-first : place_at code code.entry ≡ Some first
  unfolding base_code
  entry-first = at

  free : first.facts ≡ Known []
  free = free-facts f (reg_count P f) (label 0) (instr_at P f (label 0)) first (sym (base_place_at P f (label 0)) ∙ at)

  base-params : IsSomeAnd (slice_get P.functions f.0) (λ g. g.params ≤ code.regs)
  unfolding base_code
  base-params = sound.named.params

  module _ (n : ℕ) (same_regs : code.regs ≡ n) where
    -- the point of the base body's first place is fine
    pub first_fine : IsPointFine P n first.point
    first_fine = subst (λ k. IsPointFine P k first.point) same_regs (fine_of P code sound.named (label 0) first at).point

    module _ (rest : List Place) (few : suc (length rest) ≤ MAX_CODE_LABELS) (more : 1 ≤ length rest)
        (fine : All (IsPlaceFine P n (suc (length rest))) rest)
        (dead : (k : ℕ) (p : Place) → slice_get rest k ≡ Some p → p.facts ≡ Unreached)
        (rows : (x : Label) → RowWithin (dead_code f n first rest) MAX_ROW x) where
      abbrev code' : Code
      code' = dead_code f n first rest

      abbrev entered : Place
      entered = place first.point (Known []) failing

      abbrev Fine : Place → Type 0
      Fine = IsPlaceFine P n (suc (length rest))

      first-fine : Fine entered
      first-fine = record { instr = (tt, tt, omega arith); point = first_fine; facts = no_facts n; backs = All-nil (IsBackFine P n) }

      named : WellNamed P code'
      named = record {
        params = subst (λ k. IsSomeAnd (slice_get P.functions f.0) (λ g. g.params ≤ k)) same_regs base-params;
        few_regs = subst (λ k. k ≤ 128) same_regs sound.named.few_regs;
        some_place = omega arith;
        few_places = few;
        entry = omega arith;
        places = All-cons Fine entered rest first-fine fine;
      }

      at-entry : (p : Place) → place_at code' (label 0) ≡ Some p → entered ≡ p
      at-entry p e = same_Some entered p e

      places :
          (k : ℕ) (p : Place) → slice_get (entered ∷ rest) k ≡ Some p → (regs m : List ℤ) → Admits code' p regs →
          SoundEffect P code' p regs m (version_effect p.instr regs m)
      places zero p e regs m fit =
          let allowed = subst (λ facts. Allows facts regs) (sym free) (All-nil (λ (x : Fact). register regs x.reg.0 ≡ x.value)) in
          let old = sound.places (label 0) first at regs m (record { count = fit.count ∙ sym same_regs; facts = allowed }) in
          let ends = subst (SoundEffect P code first regs m) (fails regs m) old in
          subst (λ q. SoundEffect P code' q regs m (version_effect q.instr regs m)) (at-entry p e)
          (subst (SoundEffect P code' entered regs m) (sym (store_fails (operand.Const (pos 0)) (label 1) regs m)) ends)
      places (suc k) p e regs m fit = absurd (subst (λ facts. Allows facts regs) (dead k p e) fit.facts)

      entry :
          (args : List ℤ) → Takes P.functions f (length args) → Satisfies context args →
          Resumes P code' (label 0) (entry_regs n args) (record { top = entry_frame P f args; waiting = [] })
      entry args takes satisfied =
          let stack : Stack = record { top = entry_frame P f args; waiting = [] } in
          let old = sound.entry args takes satisfied in
          let same-place : old.arrives.place ≡ first = same_Some old.arrives.place first (sym old.arrives.at ∙ entry-first) in
          let same = subst (λ k. Same P stack (frames_of P old.arrives.place.point (entry_regs k args))) same_regs old.arrives.same in
          record {
            arrives = record {
              place = entered;
              at = refl;
              admits = record {
                count = subst (λ k. length (entry_regs k args) ≡ k) same_regs old.arrives.admits.count;
                facts = All-nil (λ (x : Fact). register (entry_regs n args) x.reg.0 ≡ x.value);
              };
              same = subst (λ (q : Place). Same P stack (frames_of P q.point (entry_regs n args))) same-place same;
            };
            backs = λ pair c. absurd (no-pair pair c);
          }

      pub dead_sound : Sound P context f code'
      dead_sound = record {
        function = refl;
        named = named;
        entry_facts = λ p e. subst (λ (q : Place). AreAmong context q.facts) (at-entry p e) (All-nil (Contains context));
        entry = entry;
        places = λ x p e. places x.0 p e;
        rows = rows;
      }
