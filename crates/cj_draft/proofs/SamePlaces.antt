-- A code with the same points, facts and pairs at each label of another: whatever arrives in the one arrives in the other.
use Rattle.std.proofs.Common.{◌≡◌, List, Some, sym, ap, ◌∙◌, subst, inl}
use Rattle.std.proofs.lemmas.Option.{same_Some}
use Rattle.std.specs.Prelude.{ℕ, ℤ, slice_set}
use Rattle.std.specs.List.{Contains}
use Rattle.cj_ir.specs.declared.language.Label.{Label}
use Rattle.cj_ir.specs.declared.language.Program.{Program}
use Rattle.cj_ir.specs.declared.language.Guard.{Guard}
use Rattle.cj_base.specs.Machine.{Stack, On, Calls, Returns, Faults}
use Rattle.cj_base.specs.Same.{Same}
use Rattle.cj_draft.specs.declared.facts.Fact.{Fact}
use Rattle.cj_draft.specs.declared.points.Point.{Point}
use Rattle.cj_draft.specs.declared.instructions.VInstr.TheVariants.{Assume}
use Rattle.cj_draft.specs.declared.code.Back.{Back}
use Rattle.cj_draft.specs.declared.code.Place.{Place}
use Rattle.cj_draft.specs.declared.code.Code.{Code}
use Rattle.cj_draft.specs.Points.{frames_of}
use Rattle.cj_draft.specs.Effects.{VersionEffect, Plain, Guarded}
use Rattle.cj_draft.specs.WellNamed.{WellNamed}
use Rattle.cj_draft.specs.Arrives.{place_at, Allows, Admits, Arrives}
use Rattle.cj_draft.specs.Sound.{IsCarried, AreAmong}
use Rattle.cj_ir.proofs.ListReads.{at_index}
use Rattle.cj_draft.proofs.Ways.{Way, WaysOn}

-- at each label of code, code' has a place with the same point, facts and pairs
abbrev pub KeepsPlaces : Code → Code → Type 0
KeepsPlaces code code' =
    (x : Label) (p : Place) → place_at code x ≡ Some p → (p' : Place) × (place_at code' x ≡ Some p') × (p.point ≡ p'.point) × (p.facts ≡ p'.facts)
    × (p.backs ≡ p'.backs)

-- this place with an Assume of these guards
unfoldable pub assume_at : List Guard → ℕ → Point → Label → Place → Place
assume_at guards number target next p = record p { instr = Assume guards number target next }

-- what a code with the same number of registers admits at a place
pub admits_same : (code code' : Code) (p : Place) (regs : List ℤ) → code.regs ≡ code'.regs → Admits code' p regs → Admits code p regs
admits_same code code' p regs same h = record { count = h.count ∙ sym same; facts = h.facts }

module _ (P : Program) (code code' : Code) (same_regs : code.regs ≡ code'.regs) (kept : KeepsPlaces code code') where
  pub same_way : (Extra : Back → Type 0) (regs : List ℤ) (st : Stack) (x : Label) (r : Arrives P code x regs st) → Way P code code' Extra regs st r.place x
  same_way Extra regs st x r =
      let k = kept x r.place r.at in
      let e = ap (λ z. frames_of P z regs) k.2 in
      record {
        arrives = record {
          place = k.0;
          at = k.1;
          admits = record { count = r.admits.count ∙ same_regs; facts = subst (λ z. Allows z regs) k.3 r.admits.facts };
          same = subst (Same P st) e r.same;
        };
        point = e;
        backs = λ q c. inl (subst (λ bs. Contains bs q) (sym k.4) c);
      }

  pub same_ways : (p' : Place) (regs : List ℤ) (e : VersionEffect) → WaysOn P code code' (λ x. x) p' regs e
  same_ways p' regs (Plain (On n regs' m printed)) = λ st r. same_way (λ q. IsCarried P p' regs q) regs' st n r
  same_ways p' regs (Plain (Calls d g args n)) = λ v st r. same_way (λ q. ⊥) (slice_set regs d.0 v) st n r
  same_ways p' regs (Plain (Returns x)) = tt
  same_ways p' regs (Plain (Faults e)) = tt
  same_ways p' regs (Guarded holds b t n) = λ h st r. same_way (λ q. Contains p'.backs q) regs st n r

  pub same_entry_facts : (context : List Fact) → WellNamed P code → code'.entry ≡ code.entry →
      ((p : Place) → place_at code code.entry ≡ Some p → AreAmong context p.facts) → (p' : Place) → place_at code' code'.entry ≡ Some p' →
      AreAmong context p'.facts
  same_entry_facts context named entry among p' at =
      let old = at_index code.places code.entry.0 named.entry in
      let k = kept code.entry old.0 old.1 in
      let new : k.0 ≡ p' = same_Some k.0 p' (sym k.1 ∙ ap (place_at code') (sym entry) ∙ at) in
      subst (AreAmong context) (k.3 ∙ ap (λ z. z.facts) new) (among old.0 old.1)
