-- Stronger facts, and instructions with the same effect under them, keep that a code is sound. Constant propagation is such.
use Rattle.std.proofs.Common.{◌≡◌, ℕ, true, List, [], Some, sym, ap, ◌∙◌, subst, inl, length}
use Rattle.std.specs.Prelude.{ℤ, slice_set, ⊤}
use Rattle.std.specs.List.{Contains}
use Rattle.cj_ir.specs.WellFormed.{Takes}
use Rattle.cj_ir.specs.declared.language.FunId.{FunId}
use Rattle.cj_ir.specs.declared.language.Label.{Label}
use Rattle.cj_ir.specs.declared.language.Program.{Program}
use Rattle.cj_base.specs.Machine.{Stack, On, Calls, Returns, Faults, entry_regs, entry_frame}
use Rattle.cj_base.specs.Same.{Same}
use Rattle.cj_draft.specs.declared.facts.Fact.{Fact}
use Rattle.cj_draft.specs.declared.code.Back.{Back}
use Rattle.cj_draft.specs.declared.code.Place.{Place}
use Rattle.cj_draft.specs.declared.code.Code.{Code}
use Rattle.cj_draft.specs.Points.{frames_of}
use Rattle.cj_draft.specs.Effects.{VersionEffect, Plain, Guarded, version_effect}
use Rattle.cj_draft.specs.WellNamed.{WellNamed}
use Rattle.cj_draft.specs.Arrives.{place_at, Satisfies, Allows, Arrives}
use Rattle.cj_draft.specs.Sound.{IsCarried, IsSilentIn, Resumes, SoundEffect, RowWithin, AreAmong, Sound}
use Rattle.cj_draft.proofs.Ways.{relabel-same, Way, Grown, WaysOn, effect_way, resumes_way}

-- Told x regs: at label x a table of facts admits these registers. What it owes along the edges of an effect.
abbrev pub Flows : (Label → List ℤ → Type 0) → List ℤ → VersionEffect → Type 0
Flows Told regs (Plain (On next regs' m printed)) = Told next regs'
Flows Told regs (Plain (Calls dest f args next)) = (x : ℤ) → Told next (slice_set regs dest.0 x)
Flows Told regs (Plain (Returns x)) = ⊤
Flows Told regs (Plain (Faults e)) = ⊤
Flows Told regs (Guarded holds back target next) = holds ≡ true → Told next regs

-- The place p' at label x is p under the facts of a table, over lists of n registers. Told x regs: at label x the table
-- admits these registers.
pub record IsRefined (n : ℕ) (Told : Label → List ℤ → Type 0) (x : Label) (p p' : Place) : Type 0 where
  pub point : p.point ≡ p'.point
  pub backs : p.backs ≡ p'.backs
  pub silent : IsSilentIn p.instr → IsSilentIn p'.instr
  pub facts : (regs : List ℤ) → length regs ≡ n → Allows p.facts regs → Told x regs → Allows p'.facts regs
  pub old : (regs : List ℤ) → length regs ≡ n → Allows p'.facts regs → Allows p.facts regs × Told x regs
  pub effect : (regs m : List ℤ) → Told x regs → version_effect p'.instr regs m ≡ version_effect p.instr regs m
  pub flows : (regs m : List ℤ) → Told x regs → Flows Told regs (version_effect p.instr regs m)

module _ (P : Program) (context : List Fact) (f : FunId) (code code' : Code) (Told : Label → List ℤ → Type 0) (same_regs : code.regs ≡ code'.regs)
    (kept : (x : Label) (p : Place) → place_at code x ≡ Some p → (p' : Place) × (place_at code' x ≡ Some p') × IsRefined code.regs Told x p p')
    (back : (x : Label) (p' : Place) → place_at code' x ≡ Some p' → (p : Place) × (place_at code x ≡ Some p) × IsRefined code.regs Told x p p') where
  way : (Extra : Back → Type 0) (regs : List ℤ) (st : Stack) (x : Label) (a : Arrives P code x regs st) → Told x regs → Way P code code' Extra regs st a.place x
  way Extra regs st x a told =
      let k = kept x a.place a.at in
      let e = ap (λ z. frames_of P z regs) k.2.point in
      record {
        arrives = record {
          place = k.0;
          at = k.1;
          admits = record {
            count = a.admits.count
                ∙ same_regs;
            facts = k.2.facts regs a.admits.count a.admits.facts told;
          };
          same = subst (Same P st) e a.same;
        };
        point = e;
        backs = λ q c. inl (subst (λ bs. Contains bs q) (sym k.2.backs) c);
      }

  ways : (p' : Place) (regs : List ℤ) (e : VersionEffect) → Flows Told regs e → WaysOn P code code' (λ x. x) p' regs e
  ways p' regs (Plain (On next regs' m printed)) told = λ st a. way (λ q. IsCarried P p' regs q) regs' st next a told
  ways p' regs (Plain (Calls dest g args next)) told = λ v st a. way (λ q. ⊥) (slice_set regs dest.0 v) st next a (told v)
  ways p' regs (Plain (Returns x)) told = tt
  ways p' regs (Plain (Faults e)) told = tt
  ways p' regs (Guarded holds b target next) told = λ h st a. way (λ q. Contains p'.backs q) regs st next a (told h)

  pub refined_sound : Sound P context f code → WellNamed P code' → code'.function ≡ code.function → code'.entry ≡ code.entry
      → ((p' : Place) → place_at code' code'.entry ≡ Some p' → AreAmong context p'.facts)
      → ((args : List ℤ) → Takes P.functions f (length args) → Satisfies context args → Told code.entry (entry_regs code.regs args))
      → ((x : Label) → RowWithin code' 8 x)
      → Sound P context f code'
  refined_sound s named fun en among first rows = record {
    function = fun ∙ s.function;
    named = named;
    entry_facts = among;
    entry = λ args takes satisfied.
        let st : Stack = record { top = entry_frame P f args; waiting = [] } in
        let w = resumes_way P code code' code.entry code.entry (entry_regs code.regs args) st
        (λ a. way (λ q. ⊥) (entry_regs code.regs args) st code.entry a (first args takes satisfied)) (s.entry args takes satisfied) in
        subst (λ e. Resumes P code' e (entry_regs code'.regs args) st) (sym en) (subst (λ n. Resumes P code' code.entry (entry_regs n args) st) same_regs w);
    places = λ x p' at regs m fit.
        let k = back x p' at in
        let count : length regs ≡ code.regs = fit.count ∙ sym same_regs in
        let o = k.2.old regs count fit.facts in
        let g : Grown k.0 p' = record { point = k.2.point; backs = λ q c. subst (λ bs. Contains bs q) k.2.backs c; silent = k.2.silent } in
        let e = version_effect k.0.instr regs m in
        let old = s.places x k.0 k.1 regs m (record { count = count; facts = o.0 }) in
        subst (SoundEffect P code' p' regs m) (relabel-same e ∙ sym (k.2.effect regs m o.1))
        (effect_way P code code' (λ z. z) k.0 p' regs m e g (ways p' regs e (k.2.flows regs m o.1)) old);
    rows = rows;
  }
