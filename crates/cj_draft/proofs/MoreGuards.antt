-- Further guards of an Assume keep that a code is sound: with them fewer registers pass.
use Rattle.std.proofs.Common.{◌≡◌, ℕ, ◌⊎◌, true, List, [], ◌∷◌, ◌++◌, Some, refl, sym, ◌∙◌, subst, ⊎_elim}
use Rattle.std.proofs.lemmas.Bool.{and_parts}
use Rattle.std.specs.Prelude.{ℤ}
use Rattle.std.specs.List.{Contains}
use Rattle.std.specs.Cmp.Derive.{both_true}
use Rattle.cj_ir.specs.declared.language.FunId.{FunId}
use Rattle.cj_ir.specs.declared.language.Label.{Label}
use Rattle.cj_ir.specs.declared.language.Program.{Program}
use Rattle.cj_ir.specs.declared.language.Guard.{Guard}
use Rattle.cj_base.specs.Machine.{Stack, entry_regs, entry_frame}
use Rattle.cj_draft.specs.declared.points.Point.{Point}
use Rattle.cj_draft.specs.declared.facts.Fact.{Fact}
use Rattle.cj_draft.specs.declared.instructions.VInstr.TheVariants.{Assume}
use Rattle.cj_draft.specs.declared.code.Place.{Place}
use Rattle.cj_draft.specs.declared.code.Code.{Code}
use Rattle.cj_draft.specs.Effects.{guard_holds, guards_hold, version_effect}
use Rattle.cj_draft.specs.WellNamed.{WellNamed}
use Rattle.cj_draft.specs.Arrives.{place_at, Allows, Admits}
use Rattle.cj_draft.specs.Sound.{IsSilentIn, Resumes, StepsGuarded, SoundEffect, RowWithin, Sound}
use Rattle.cj_draft.proofs.Ways.{relabel-same, Grown, grown-same, effect_way, guarded_way, resumes_way}
use Rattle.cj_draft.proofs.SamePlaces.{KeepsPlaces, assume_at, admits_same, same_way, same_ways, same_entry_facts}

-- where more guards hold, the first of them do
pub guards_hold-append : (regs : List ℤ) (guards more : List Guard) → guards_hold regs (guards ++ more) ≡ true → guards_hold regs guards ≡ true
unfolding guards_hold
guards_hold-append regs [] more h = refl
guards_hold-append regs (g ∷ guards) more h =
    let parts = and_parts (guard_holds regs g) (guards_hold regs (guards ++ more)) h in
    both_true parts.0 (guards_hold-append regs guards more parts.1)

-- code' is code with further guards of the Assume at `s`
pub record HasMoreGuards (code code' : Code) (s : Label) (place : Place) (guards more : List Guard) (number : ℕ) (target : Point) (next : Label) : Type 0 where
  pub function : code'.function ≡ code.function
  pub regs : code.regs ≡ code'.regs
  pub entry : code'.entry ≡ code.entry
  pub at : place_at code s ≡ Some place
  pub instr : place.instr ≡ Assume guards number target next
  pub kept : KeepsPlaces code code'
  pub back : (x : Label) (p' : Place) → place_at code' x ≡ Some p' → (place_at code x ≡ Some p') ⊎ (assume_at (guards ++ more) number target next place ≡ p')

module _ (P : Program) (context : List Fact) (f : FunId) (code code' : Code) (s : Label) (place : Place) (guards more : List Guard) (number : ℕ)
    (target : Point) (next : Label) (sound : Sound P context f code) (has : HasMoreGuards code code' s place guards more number target next) where
  old_guard : (regs m : List ℤ) → Admits code place regs → StepsGuarded P code place regs (guards_hold regs guards) number target next
  unfolding version_effect
  old_guard regs m fit = subst (λ i. SoundEffect P code place regs m (version_effect i regs m)) has.instr (sound.places s place has.at regs m fit)

  guarded_sound : (regs m : List ℤ) → Admits code place regs →
      let p' : Place = assume_at (guards ++ more) number target next place in SoundEffect P code' p' regs m (version_effect p'.instr regs m)
  unfolding version_effect assume_at IsSilentIn
  guarded_sound regs m fit =
      let p' : Place = assume_at (guards ++ more) number target next place in
      let g = old_guard regs m fit in
      let grown : Grown place p' = record { point = refl; backs = λ q c. c; silent = λ i. absurd (not_silent (subst IsSilentIn has.instr i)) } in
      guarded_way P code code' place p' regs (guards_hold regs (guards ++ more)) number target next next grown
      (λ h st r. same_way P code code' has.regs has.kept (λ q. Contains p'.backs q) regs st next r)
      (record { target_in = g.target_in; passes = λ h. g.passes (guards_hold-append regs guards more h) })
    where
      not_silent : IsSilentIn (Assume guards number target next) → ⊥
      not_silent i = i

  pub more_guards_sound : WellNamed P code' → ((x : Label) → RowWithin code' 8 x) → Sound P context f code'
  unfolding assume_at
  more_guards_sound named rows = record {
    function = has.function ∙ sound.function;
    named = named;
    entry_facts = same_entry_facts P code code' has.regs has.kept context sound.named has.entry sound.entry_facts;
    entry = λ args takes satisfied.
        let st : Stack = record { top = entry_frame P f args; waiting = [] } in
        let w = resumes_way P code code' code.entry code.entry (entry_regs code.regs args) st
        (λ r. same_way P code code' has.regs has.kept (λ q. ⊥) (entry_regs code.regs args) st code.entry r) (sound.entry args takes satisfied) in
        subst (λ e. Resumes P code' e (entry_regs code'.regs args) st) (sym has.entry)
        (subst (λ n. Resumes P code' code.entry (entry_regs n args) st) has.regs w);
    places = λ x p' at regs m fit. ⊎_elim
        (λ old.
        let e = version_effect p'.instr regs m in
        subst (SoundEffect P code' p' regs m) (relabel-same e)
        (effect_way P code code' (λ z. z) p' p' regs m e (grown-same p') (same_ways P code code' has.regs has.kept p' regs e)
        (sound.places x p' old regs m (admits_same code code' p' regs has.regs fit))))
        (λ e.
        let fit0 : Admits code place regs = record { count = fit.count ∙ sym has.regs; facts = subst (λ (z : Place). Allows' z regs) (sym e) fit.facts } in
        subst (λ z. SoundEffect P code' z regs m (version_effect z.instr regs m)) e (guarded_sound regs m fit0))
        (has.back x p' at);
    rows = rows;
  }
    where
      Allows' : Place → List ℤ → Type 0
      Allows' z regs = Allows z.facts regs
