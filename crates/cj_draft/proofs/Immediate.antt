-- A fresh Assume directly after an Anchor keeps that a code is sound.
use Rattle.std.proofs.Common.{◌≡◌, ℕ, ◌⊎◌, true, List, [], Some, refl, sym, ap, ◌∙◌, subst, inr, ⊎_elim}
use Rattle.std.specs.Prelude.{ℤ}
use Rattle.std.specs.List.{Contains}
use Rattle.cj_ir.specs.declared.language.FunId.{FunId}
use Rattle.cj_ir.specs.declared.language.Label.{Label}
use Rattle.cj_ir.specs.declared.language.Program.{Program}
use Rattle.cj_ir.specs.declared.language.Guard.{Guard}
use Rattle.cj_base.specs.Machine.{Stack, entry_regs, entry_frame}
use Rattle.cj_draft.specs.declared.points.Point.{Point}
use Rattle.cj_draft.specs.declared.facts.Fact.{Fact}
use Rattle.cj_draft.specs.declared.instructions.VInstr.TheVariants.{Assume, Anchor}
use Rattle.cj_draft.specs.declared.code.Place.{Place}
use Rattle.cj_draft.specs.declared.code.Code.{Code}
use Rattle.cj_draft.specs.Points.{frames_of}
use Rattle.cj_draft.specs.Effects.{version_effect, guards_hold}
use Rattle.cj_draft.specs.WellNamed.{WellNamed}
use Rattle.cj_draft.specs.Arrives.{place_at, Allows, Admits}
use Rattle.cj_draft.specs.Sound.{IsSilentIn, Resumes, StepsGuarded, SoundEffect, RowWithin, Sound}
use Rattle.cj_base.proofs.SameLaws.{same_refl}
use Rattle.cj_draft.proofs.SamePlaces.{KeepsPlaces, assume_at, admits_same, same_way, same_ways, same_entry_facts}
use Rattle.cj_draft.proofs.Ways.{relabel-same, Grown, grown-same, effect_way, guarded_way, resumes_way}

-- the Anchor with its next label changed
unfoldable pub anchor_to : Label → ℕ → Point → Place → Place
anchor_to s number target p = record p { instr = Anchor number target s }

-- code' is code with a fresh Assume at `s` directly after the Anchor at `a`.
pub record IsImmediate (code code' : Code) (a s : Label) (anchor : Place) (guards : List Guard) (number : ℕ) (target : Point) (next : Label) : Type 0 where
  pub function : code'.function ≡ code.function
  pub regs : code.regs ≡ code'.regs
  pub entry : code'.entry ≡ code.entry
  pub at : place_at code a ≡ Some anchor
  pub instr : anchor.instr ≡ Anchor number target next
  pub fresh : place_at code' s ≡ Some (assume_at guards number target next anchor)
  pub kept : KeepsPlaces code code'
  pub back : (x : Label) (p' : Place) → place_at code' x ≡ Some p' →
      (place_at code x ≡ Some p') ⊎ ((anchor_to s number target anchor ≡ p') ⊎ (assume_at guards number target next anchor ≡ p'))

module _ (P : Program) (context : List Fact) (f : FunId) (code code' : Code) (a s : Label) (anchor : Place) (guards : List Guard) (number : ℕ) (target : Point)
    (next : Label) (sound : Sound P context f code) (imm : IsImmediate code code' a s anchor guards number target next) where
  guard_at : (regs : List ℤ) → Admits code anchor regs → StepsGuarded P code anchor regs true number target next
  unfolding version_effect
  guard_at regs fit = subst (λ i. SoundEffect P code anchor regs [] (version_effect i regs [])) imm.instr (sound.places a anchor imm.at regs [] fit)

  of_anchor : (p : Place) (regs : List ℤ) → Admits code p regs → p.facts ≡ anchor.facts → Admits code anchor regs
  of_anchor p regs h e = record { count = h.count; facts = subst (λ z. Allows z regs) e h.facts }

  -- the Anchor goes on to the fresh Assume
  anchor_sound : (regs m : List ℤ) → Admits code anchor regs →
      let p' : Place = anchor_to s number target anchor in SoundEffect P code' p' regs m (version_effect p'.instr regs m)
  unfolding version_effect anchor_to assume_at
  anchor_sound regs m fit =
      let g = guard_at regs fit in
      record {
        target_in = g.target_in;
        passes = λ h. record {
          arrives = record {
            place = assume_at guards number target next anchor;
            at = imm.fresh;
            admits = record {
              count = fit.count
                  ∙ imm.regs;
              facts = fit.facts;
            };
            same = same_refl P (frames_of P anchor.point regs);
          };
          equal = refl;
          backs = λ q c. inr c;
        };
      }

  -- the fresh Assume goes on where the Anchor went
  assume_sound : (regs m : List ℤ) → Admits code anchor regs →
      let p' : Place = assume_at guards number target next anchor in SoundEffect P code' p' regs m (version_effect p'.instr regs m)
  unfolding version_effect assume_at IsSilentIn
  assume_sound regs m fit =
      let p' : Place = assume_at guards number target next anchor in
      let g = guard_at regs fit in
      let same : Grown anchor p' = record { point = refl; backs = λ q c. c; silent = λ i. absurd (not_silent (subst IsSilentIn imm.instr i)) } in
      guarded_way P code code' anchor p' regs (guards_hold regs guards) number target next next same
      (λ h st r. same_way P code code' imm.regs imm.kept (λ q. Contains p'.backs q) regs st next r)
      (record { target_in = g.target_in; passes = λ h. g.passes refl })
    where
      not_silent : IsSilentIn (Anchor number target next) → ⊥
      not_silent i = i

  pub immediate_sound : WellNamed P code' → ((x : Label) → RowWithin code' 8 x) → Sound P context f code'
  unfolding anchor_to assume_at
  immediate_sound named rows = record {
    function = imm.function ∙ sound.function;
    named = named;
    entry_facts = same_entry_facts P code code' imm.regs imm.kept context sound.named imm.entry sound.entry_facts;
    entry = λ args takes satisfied.
        let st : Stack = record { top = entry_frame P f args; waiting = [] } in
        let w = resumes_way P code code' code.entry code.entry (entry_regs code.regs args) st
        (λ r. same_way P code code' imm.regs imm.kept (λ q. ⊥) (entry_regs code.regs args) st code.entry r) (sound.entry args takes satisfied) in
        subst (λ e. Resumes P code' e (entry_regs code'.regs args) st) (sym imm.entry)
        (subst (λ n. Resumes P code' code.entry (entry_regs n args) st) imm.regs w);
    places = λ x p' at regs m fit. ⊎_elim
        (λ old.
        let e = version_effect p'.instr regs m in
        subst (SoundEffect P code' p' regs m) (relabel-same e)
        (effect_way P code code' (λ z. z) p' p' regs m e (grown-same p') (same_ways P code code' imm.regs imm.kept p' regs e)
        (sound.places x p' old regs m (admits_same code code' p' regs imm.regs fit))))
        (λ new. ⊎_elim
        (λ e. subst (λ z. SoundEffect P code' z regs m (version_effect z.instr regs m)) e
        (anchor_sound regs m (of_anchor p' regs (admits_same code code' p' regs imm.regs fit) (ap (λ z. z.facts) (sym e)))))
        (λ e. subst (λ z. SoundEffect P code' z regs m (version_effect z.instr regs m)) e
        (assume_sound regs m (of_anchor p' regs (admits_same code code' p' regs imm.regs fit) (ap (λ z. z.facts) (sym e)))))
        new)
        (imm.back x p' at);
    rows = rows;
  }
