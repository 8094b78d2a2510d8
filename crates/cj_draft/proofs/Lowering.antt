-- Lowering keeps that a code is sound: Anchors are dropped, labels renumbered, and those that are not reached go.
use Rattle.std.proofs.Common.{◌≡◌, ℕ, zero, suc, ◌⊎◌, true, List, [], Some, refl, sym, ap, ◌∙◌, subst, inl, inr, ⊎_elim, length}
use Rattle.std.proofs.lemmas.Option.{same_Some, none-some}
use Rattle.std.specs.Prelude.{ℤ, slice_set, ⊤}
use Rattle.std.specs.List.{Contains}
use Rattle.cj_ir.specs.declared.language.FunId.{FunId}
use Rattle.cj_ir.specs.declared.language.Label.{Label}
use Rattle.cj_ir.specs.declared.language.Program.{Program}
use Rattle.cj_base.specs.Machine.{Stack, On, Calls, Returns, Faults, entry_regs, entry_frame}
use Rattle.cj_base.specs.Same.{Same}
use Rattle.cj_draft.specs.declared.points.Point.{Point}
use Rattle.cj_draft.specs.declared.facts.Fact.{Fact}
use Rattle.cj_draft.specs.declared.instructions.VInstr.TheVariants.{Anchor}
use Rattle.cj_draft.specs.declared.code.Back.{Back}
use Rattle.cj_draft.specs.declared.code.Place.{Place}
use Rattle.cj_draft.specs.declared.code.Code.{Code}
use Rattle.cj_draft.specs.Points.{frames_of}
use Rattle.cj_draft.specs.Effects.{VersionEffect, Plain, Guarded, version_effect}
use Rattle.cj_draft.specs.WellNamed.{WellNamed, IsPlaceFine, HasFineFacts}
use Rattle.cj_draft.specs.Arrives.{place_at, Allows, Admits, Arrives}
use Rattle.cj_draft.specs.Sound.{IsCarried, IsSilentIn, Resumes, Passes, StepsGuarded, SoundEffect, guard_next, RowWithin, AreAmong, Sound}
use Rattle.cj_base.proofs.SameLaws.{same_refl, same_trans}
use Rattle.cj_ir.proofs.ListReads.{at_index, all_at}
use Rattle.cj_draft.proofs.FactLists.{among-allowed}
use Rattle.cj_draft.proofs.Ways.{effect-relabel, silent-relabel, Way, Grown, WaysOn, effect_way, resumes_way}
use Rattle.cj_draft.proofs.Insert.{IsKept}

-- no pair is added
abbrev pub NoPair : Back → Type 0
NoPair q = ⊥

-- where labels go: an Anchor's where its next goes, and any other to a place of its own
abbrev pub IsLowered : Code → Code → (Label → Label) → Label → Place → Type 0
IsLowered code code' r x p =
    ((back : ℕ) × (target : Point) × (next : Label) × (p.instr ≡ Anchor back target next) × (r x ≡ r next))
    ⊎ ((p' : Place) × (place_at code' (r x) ≡ Some p') × IsKept r NoPair p p')

-- the labels to which an effect leads are reached
abbrev pub ReachesOn : (Label → Type 0) → VersionEffect → Type 0
ReachesOn R (Plain (On next regs m printed)) = R next
ReachesOn R (Plain (Calls dest f args next)) = R next
ReachesOn R (Plain (Returns x)) = ⊤
ReachesOn R (Plain (Faults e)) = ⊤
ReachesOn R (Guarded holds back target next) = R next

module _ (P : Program) (context : List Fact) (f : FunId) (code code' : Code) (r : Label → Label) (R : Label → Type 0) (sound : Sound P context f code)
    (same_regs : code.regs ≡ code'.regs)
    (reach : (x : Label) (p : Place) → R x → place_at code x ≡ Some p → (regs m : List ℤ) → ReachesOn R (version_effect p.instr regs m))
    (lowers : (x : Label) (p : Place) → R x → place_at code x ≡ Some p → IsLowered code code' r x p)
    (back : (y : Label) (p' : Place) → place_at code' y ≡ Some p' → (x : Label) × (p : Place) × R x × (place_at code x ≡ Some p) × IsKept r NoPair p p') where
  -- what arrives at a kept label
  kept_way : (regs : List ℤ) (st : Stack) (x : Label) (a : Arrives P code x regs st) (p' : Place) → place_at code' (r x) ≡ Some p' →
      IsKept r NoPair a.place p' → Way P code code' NoPair regs st a.place (r x)
  kept_way regs st x a p' at k =
      let e = ap (λ z. frames_of P z regs) k.point in
      record {
        arrives = record {
          place = p';
          at = at;
          admits = record {
            count = a.admits.count
                ∙ same_regs;
            facts = subst (λ z. Allows z regs) k.facts a.admits.facts;
          };
          same = subst (Same P st) e a.same;
        };
        point = e;
        backs = λ q c. ⊎_elim (λ o. inl o) (λ n. absurd n) (k.only q c);
      }

  -- what arrives at an Anchor goes on to its next label
  anchor_way : (regs : List ℤ) (st : Stack) (x : Label) (a : Arrives P code x regs st) (next y : Label) (g : Passes P code a.place regs next) →
      Way P code code' NoPair regs (frames_of P a.place.point regs) g.arrives.place y → Way P code code' NoPair regs st a.place y
  anchor_way regs st x a next y g w =
      record {
        arrives = record {
          place = w.arrives.place;
          at = w.arrives.at;
          admits = w.arrives.admits;
          same = same_trans P st (frames_of P a.place.point regs)
              (frames_of P w.arrives.place.point regs) a.same w.arrives.same;
        };
        point = g.equal ∙ w.point;
        backs = λ q c. ⊎_elim (λ o. ⊎_elim (λ own. inr (inl (own.0, own.1 ∙ w.point))) (λ i. inl i) (g.backs q o)) (λ n. inr n) (w.backs q c);
      }

  passes_of : (x : Label) (p : Place) → place_at code x ≡ Some p → (regs : List ℤ) → Admits code p regs → (b : ℕ) (t : Point) (next : Label) →
      p.instr ≡ Anchor b t next → Passes P code p regs next
  unfolding version_effect
  passes_of x p at regs fit b t next e =
      let s : StepsGuarded P code p regs true b t next = subst (λ i. SoundEffect P code p regs [] (version_effect i regs [])) e
      (sound.places x p at regs [] fit) in
      s.passes refl

  lower_way : (n : ℕ) (x : Label) → R x → RowWithin code n x → (regs : List ℤ) (st : Stack) (a : Arrives P code x regs st) →
      Way P code code' NoPair regs st a.place (r x)
  unfolding guard_next version_effect
  lower_way zero x rx row regs st a = ⊎_elim
      (λ h. absurd (none-some h.2 (sym (row a.place a.at) ∙ ap guard_next h.3)))
      (λ h. kept_way regs st x a h.0 h.1 h.2) (lowers x a.place rx a.at)
  lower_way (suc n) x rx row regs st a = ⊎_elim
      (λ h.
      let g = passes_of x a.place a.at regs a.admits h.0 h.1 h.2 h.3 in
      let rn : R h.2 = subst (λ i. ReachesOn R (version_effect i regs [])) h.3 (reach x a.place rx a.at regs []) in
      let w = lower_way n h.2 rn (row a.place h.2 a.at (ap guard_next h.3)) regs (frames_of P a.place.point regs) g.arrives in
      subst (λ y. Way P code code' NoPair regs st a.place y) (sym h.4) (anchor_way regs st x a h.2 (r h.2) g w))
      (λ h. kept_way regs st x a h.0 h.1 h.2) (lowers x a.place rx a.at)

  more_way : (Extra : Back → Type 0) (regs : List ℤ) (st : Stack) (x : Label) → R x → (a : Arrives P code x regs st) →
      Way P code code' Extra regs st a.place (r x)
  more_way Extra regs st x rx a =
      let w = lower_way 8 x rx (sound.rows x) regs st a in
      record { arrives = w.arrives; point = w.point; backs = λ q c. ⊎_elim (λ o. inl o) (λ n. ⊎_elim (λ own. inr (inl own)) (λ z. absurd z) n) (w.backs q c) }

  ways : (p' : Place) (regs : List ℤ) (e : VersionEffect) → ReachesOn R e → WaysOn P code code' r p' regs e
  ways p' regs (Plain (On next regs' m printed)) rn = λ st a. more_way (λ q. IsCarried P p' regs q) regs' st next rn a
  ways p' regs (Plain (Calls dest g args next)) rn = λ v st a. more_way NoPair (slice_set regs dest.0 v) st next rn a
  ways p' regs (Plain (Returns x)) rn = tt
  ways p' regs (Plain (Faults e)) rn = tt
  ways p' regs (Guarded holds back target next) rn = λ h st a. more_way (λ q. Contains p'.backs q) regs st next rn a

  -- registers that the old entry allows are allowed by the new one
  entry_allows : R code.entry → (p p' : Place) → place_at code code.entry ≡ Some p → place_at code' (r code.entry) ≡ Some p' → (regs : List ℤ) →
      length regs ≡ code.regs → Allows p.facts regs → Allows p'.facts regs
  entry_allows re p p' at at' regs count allowed =
      let st = frames_of P p.point regs in
      let a : Arrives P code code.entry regs st = record { place = p; at = at; admits = record { count = count; facts = allowed }; same = same_refl P st } in
      let w = more_way NoPair regs st code.entry re a in
      let same : w.arrives.place ≡ p' = same_Some w.arrives.place p' (sym w.arrives.at ∙ at') in
      subst (λ z. Allows z.facts regs) same w.arrives.admits.facts

  entry_among : R code.entry → WellNamed P code' → (p' : Place) → place_at code' (r code.entry) ≡ Some p' → AreAmong context p'.facts
  entry_among re named p' at' =
      let old = at_index code.places code.entry.0 sound.named.entry in
      let fine = all_at (IsPlaceFine P code.regs (length code.places)) code.places code.entry.0 old.0 sound.named.places old.1 in
      let fine' = all_at (IsPlaceFine P code'.regs (length code'.places)) code'.places (r code.entry).0 p' named.places at' in
      among-allowed code.regs context old.0.facts p'.facts (sound.entry_facts old.0 old.1) fine.facts
      (subst (λ n. HasFineFacts n p'.facts) (sym same_regs) fine'.facts)
      (entry_allows re old.0 p' old.1 at')

  -- The lowered code is sound where it is well named and its rows are short.
  pub lowered_sound : WellNamed P code' → code'.function ≡ code.function → R code.entry → code'.entry ≡ r code.entry → ((x : Label) → RowWithin code' 8 x) →
      Sound P context f code'
  lowered_sound named fun re en rows = record {
    function = fun ∙ sound.function;
    named = named;
    entry_facts = λ p' at. entry_among re named p' (subst (λ e. place_at code' e ≡ Some p') en at);
    entry = λ args takes satisfied.
        let st : Stack = record { top = entry_frame P f args; waiting = [] } in
        let w = resumes_way P code code' code.entry (r code.entry) (entry_regs code.regs args) st
        (λ a. more_way NoPair (entry_regs code.regs args) st code.entry re a) (sound.entry args takes satisfied) in
        subst (λ e. Resumes P code' e (entry_regs code'.regs args) st) (sym en)
        (subst (λ n. Resumes P code' (r code.entry) (entry_regs n args) st) same_regs w);
    places = λ y p' at regs m fit.
        let k = back y p' at in
        let kk = k.4 in
        let fit0 : Admits code k.1 regs = record { count = fit.count ∙ sym same_regs; facts = subst (λ z. Allows z regs) (sym kk.facts) fit.facts } in
        let g : Grown k.1 p' = record { point = kk.point; backs = kk.backs; silent = λ i. subst IsSilentIn (sym kk.instr) (silent-relabel r k.1.instr i) } in
        let e = version_effect k.1.instr regs m in
        let same = ap (λ i. version_effect i regs m) kk.instr ∙ effect-relabel r k.1.instr regs m in
        subst (SoundEffect P code' p' regs m) (sym same)
        (effect_way P code code' r k.1 p' regs m e g (ways p' regs e (reach k.0 k.1 k.2 k.3 regs m)) (sound.places k.0 k.1 k.3 regs m fit0));
    rows = rows;
  }
