-- A fresh Assume or Anchor before a label keeps that a code is sound. Anchors and delayed Assumes are such.
use Rattle.std.proofs.Common.{◌≡◌, ℕ, ◌⊎◌, true, List, [], Some, sym, ap, ◌∙◌, subst, inl, inr, ⊎_elim}
use Rattle.std.proofs.lemmas.Option.{same_Some}
use Rattle.std.specs.Prelude.{ℤ, slice_set, ⊤}
use Rattle.std.specs.List.{Contains}
use Rattle.cj_ir.specs.declared.language.FunId.{FunId}
use Rattle.cj_ir.specs.declared.language.Label.{Label}
use Rattle.cj_ir.specs.declared.language.Program.{Program}
use Rattle.cj_ir.specs.declared.language.Guard.{Guard}
use Rattle.cj_base.specs.Machine.{Stack, On, Calls, Returns, Faults, entry_regs, entry_frame}
use Rattle.cj_base.specs.Same.{Same}
use Rattle.cj_draft.specs.declared.points.Point.{Point}
use Rattle.cj_draft.specs.declared.facts.Fact.{Fact}
use Rattle.cj_draft.specs.declared.instructions.VInstr.TheVariants.{Assume, Anchor}
use Rattle.cj_draft.specs.declared.code.Back.{Back}
use Rattle.cj_draft.specs.declared.code.Place.{Place}
use Rattle.cj_draft.specs.declared.code.Code.{Code}
use Rattle.cj_draft.specs.Points.{frames_of}
use Rattle.cj_draft.specs.Effects.{VersionEffect, Plain, Guarded, version_effect}
use Rattle.cj_draft.specs.WellNamed.{WellNamed}
use Rattle.cj_draft.specs.Arrives.{place_at, Allows, Admits, Arrives}
use Rattle.cj_draft.specs.Sound.{pair_of, IsOwn, IsCarried, IsSilentIn, Resumes, Passes, SoundEffect, RowWithin, AreAmong, Sound}
use Rattle.cj_draft.specs.Relabel.{relabel}
use Rattle.cj_base.proofs.SameLaws.{same_refl}
use Rattle.cj_ir.proofs.ListReads.{at_index}
use Rattle.cj_draft.proofs.Ways.{effect-relabel, silent-relabel, Way, Grown, WaysOn, effect_way, resumes_way}

-- A place as the new code has it: relabelled, with the pairs of New added.
pub record IsKept (r : Label → Label) (New : Back → Type 0) (p p' : Place) : Type 0 where
  pub instr : p'.instr ≡ relabel r p.instr
  pub point : p.point ≡ p'.point
  pub facts : p.facts ≡ p'.facts
  pub backs : (q : Back) → Contains p.backs q → Contains p'.backs q
  pub only : (q : Back) → Contains p'.backs q → Contains p.backs q ⊎ New q

-- code' is code with a fresh place at `a` before `l`. New x are the pairs that are added at label x; none at l itself.
pub record IsInserted (code code' : Code) (l a : Label) (r : Label → Label) (New : Label → Back → Type 0) : Type 0 where
  pub function : code'.function ≡ code.function
  pub regs : code.regs ≡ code'.regs
  pub entry : code'.entry ≡ r code.entry
  -- an edge into l goes to a, and any other stays
  pub leads : (x : Label) → ((x ≡ l) × (r x ≡ a)) ⊎ (r x ≡ x)
  pub kept : (x : Label) (p : Place) → place_at code x ≡ Some p → (p' : Place) × (place_at code' x ≡ Some p') × IsKept r (New x) p p'
  pub back : (x : Label) (p' : Place) → place_at code' x ≡ Some p' → (x ≡ a) ⊎ ((p : Place) × (place_at code x ≡ Some p) × IsKept r (New x) p p')
  pub place : Place
  pub fresh : Place
  pub at_l : place_at code l ≡ Some place
  pub at_a : place_at code' a ≡ Some fresh
  pub none_at_l : (q : Back) → New l q → ⊥
  -- the fresh place has l's point, facts and pairs
  pub point : place.point ≡ fresh.point
  pub facts : place.facts ≡ fresh.facts
  pub backs : (q : Back) → Contains place.backs q → Contains fresh.backs q
  pub only : (q : Back) → Contains fresh.backs q → Contains place.backs q ⊎ New a q
  pub guards : List Guard
  pub number : ℕ
  pub target : Point
  pub instr : (fresh.instr ≡ Anchor number target l) ⊎ (fresh.instr ≡ Assume guards number target l)
  pub target_in : Contains fresh.backs (pair_of number target)

-- where a new pair may stand: it is its label's own, or comes along the edge
abbrev pub NewOn : Program → Code → (Label → Label) → (Label → Back → Type 0) → Place → List ℤ → VersionEffect → Type 0
NewOn P code r New p' regs (Plain (On next regs' m printed)) =
    (st : Stack) (a : Arrives P code next regs' st) (q : Back) → New (r next) q → IsOwn P a.place regs' q ⊎ IsCarried P p' regs q
NewOn P code r New p' regs (Plain (Calls dest f args next)) =
    (x : ℤ) (st : Stack) (a : Arrives P code next (slice_set regs dest.0 x) st) (q : Back) → New (r next) q → IsOwn P a.place (slice_set regs dest.0 x) q
NewOn P code r New p' regs (Plain (Returns x)) = ⊤
NewOn P code r New p' regs (Plain (Faults e)) = ⊤
NewOn P code r New p' regs (Guarded holds back target next) =
    holds ≡ true → (st : Stack) (a : Arrives P code next regs st) (q : Back) → New (r next) q → IsOwn P a.place regs q ⊎ Contains p'.backs q

module _ (P : Program) (context : List Fact) (f : FunId) (code code' : Code) (l a : Label) (r : Label → Label) (New : Label → Back →
    Type 0) (ins : IsInserted code code' l a r New) where
  admits_to : (p p' : Place) (regs : List ℤ) → p.facts ≡ p'.facts → Admits code p regs → Admits code' p' regs
  admits_to p p' regs e h = record { count = h.count ∙ ins.regs; facts = subst (λ x. Allows x regs) e h.facts }

  admits_from : (p p' : Place) (regs : List ℤ) → p.facts ≡ p'.facts → Admits code' p' regs → Admits code p regs
  admits_from p p' regs e h = record { count = h.count ∙ sym ins.regs; facts = subst (λ x. Allows x regs) (sym e) h.facts }

  -- an arrival at a label of the old code, at a place of the new one that has its point and facts
  way_to : (Extra : Back → Type 0) (regs : List ℤ) (st : Stack) (next : Label) (x : Arrives P code next regs st) (k : Label) (p' : Place) →
      place_at code' k ≡ Some p' → x.place.point ≡ p'.point → x.place.facts ≡ p'.facts →
      ((q : Back) → Contains p'.backs q → Contains x.place.backs q ⊎ New k q) → ((q : Back) → New k q → IsOwn P x.place regs q ⊎ Extra q) →
      Way P code code' Extra regs st x.place k
  way_to Extra regs st next x k p' at point facts only new =
      let e = ap (λ z. frames_of P z regs) point in
      record {
        arrives = record { place = p'; at = at; admits = admits_to x.place p' regs facts x.admits; same = subst (Same P st) e x.same };
        point = e;
        backs = λ q c. ⊎_elim (λ old. inl old) (λ n. ⊎_elim (λ own. inr (inl (own.0, own.1 ∙ e))) (λ ex. inr (inr ex)) (new q n)) (only q c);
      }

  way_any : (Extra : Back → Type 0) (regs : List ℤ) (st : Stack) (next : Label) (x : Arrives P code next regs st) →
      ((q : Back) → New (r next) q → IsOwn P x.place regs q ⊎ Extra q) → Way P code code' Extra regs st x.place (r next)
  way_any Extra regs st next x new = ⊎_elim
      (λ h.
      let same : x.place ≡ ins.place = same_Some x.place ins.place (sym x.at ∙ ap (place_at code) h.0 ∙ ins.at_l) in
      let w = way_to Extra regs st next x a ins.fresh ins.at_a (ap (λ p. p.point) same ∙ ins.point) (ap (λ p. p.facts) same ∙ ins.facts)
      (λ q c. ⊎_elim (λ o. inl (subst (λ p. Contains p.backs q) (sym same) o)) (λ n. inr n) (ins.only q c)) (λ q n. new q (subst (λ k. New k q) (sym h.1) n)) in
      subst (λ k. Way P code code' Extra regs st x.place k) (sym h.1) w)
      (λ h.
      let k = ins.kept next x.place x.at in
      let w = way_to Extra regs st next x next k.0 k.1 k.2.point k.2.facts k.2.only (λ q n. new q (subst (λ z. New z q) (sym h) n)) in
      subst (λ z. Way P code code' Extra regs st x.place z) (sym h) w)
      (ins.leads next)

  ways_on : (p' : Place) (regs : List ℤ) (e : VersionEffect) → NewOn P code r New p' regs e → WaysOn P code code' r p' regs e
  ways_on p' regs (Plain (On next regs' m printed)) new = λ st x. way_any (λ q. IsCarried P p' regs q) regs' st next x (new st x)
  ways_on p' regs (Plain (Calls dest g args next)) new = λ v st x. way_any (λ q. ⊥) (slice_set regs dest.0 v) st next x (λ q n. inl (new v st x q n))
  ways_on p' regs (Plain (Returns x)) new = tt
  ways_on p' regs (Plain (Faults e)) new = tt
  ways_on p' regs (Guarded holds back target next) new = λ h st x. way_any (λ q. Contains p'.backs q) regs st next x (new h st x)

  -- a place of the old code
  old_place : (x : Label) (p p' : Place) → IsKept r (New x) p p' → (regs m : List ℤ) → SoundEffect P code p regs m (version_effect p.instr regs m) →
      NewOn P code r New p' regs (version_effect p.instr regs m) → SoundEffect P code' p' regs m (version_effect p'.instr regs m)
  old_place x p p' k regs m s new =
      let g : Grown p p' = record { point = k.point; backs = k.backs; silent = λ i. subst IsSilentIn (sym k.instr) (silent-relabel r p.instr i) } in
      let e = ap (λ i. version_effect i regs m) k.instr ∙ effect-relabel r p.instr regs m in
      subst (SoundEffect P code' p' regs m) (sym e)
      (effect_way P code code' r p p' regs m (version_effect p.instr regs m) g (ways_on p' regs (version_effect p.instr regs m) new) s)

  -- the fresh place goes on to l, with the same frames and facts
  fresh_passes : (regs : List ℤ) → Admits code' ins.fresh regs → Passes P code' ins.fresh regs l
  fresh_passes regs h =
      let k = ins.kept l ins.place ins.at_l in
      let e = ap (λ z. frames_of P z regs) (sym k.2.point ∙ ins.point) in
      record {
        arrives = record {
          place = k.0;
          at = k.1;
          admits = admits_to ins.place k.0 regs k.2.facts (admits_from ins.place ins.fresh regs ins.facts h);
          same =
              subst (λ s. Same P s (frames_of P k.0.point regs)) e (same_refl P (frames_of P k.0.point regs));
        };
        equal = sym e;
        backs = λ q c. ⊎_elim (λ o. inr (ins.backs q o)) (λ n. absurd (ins.none_at_l q n)) (k.2.only q c);
      }

  fresh_place : (regs m : List ℤ) → Admits code' ins.fresh regs → SoundEffect P code' ins.fresh regs m (version_effect ins.fresh.instr regs m)
  unfolding version_effect
  fresh_place regs m h = ⊎_elim
      (λ i. subst (λ z. SoundEffect P code' ins.fresh regs m (version_effect z regs m)) (sym i)
      (record { target_in = ins.target_in; passes = λ t. fresh_passes regs h }))
      (λ i. subst (λ z. SoundEffect P code' ins.fresh regs m (version_effect z regs m)) (sym i)
      (record { target_in = ins.target_in; passes = λ t. fresh_passes regs h }))
      ins.instr

  -- the new entry's facts are the old one's
  entry_place : (p p' : Place) → place_at code code.entry ≡ Some p → place_at code' (r code.entry) ≡ Some p' → p.facts ≡ p'.facts
  entry_place p p' at at' = ⊎_elim
      (λ h.
      let old : p ≡ ins.place = same_Some p ins.place (sym at ∙ ap (place_at code) h.0 ∙ ins.at_l) in
      let new : ins.fresh ≡ p' = same_Some ins.fresh p' (sym ins.at_a ∙ ap (place_at code') (sym h.1) ∙ at') in
      ap (λ z. z.facts) old ∙ ins.facts ∙ ap (λ z. z.facts) new)
      (λ h.
      let k = ins.kept code.entry p at in
      let new : k.0 ≡ p' = same_Some k.0 p' (sym k.1 ∙ ap (place_at code') (sym h) ∙ at') in
      k.2.facts ∙ ap (λ z. z.facts) new)
      (ins.leads code.entry)

  -- The new code is sound where it is well named, its rows are short, and each new pair may stand where it stands.
  pub inserted_sound : Sound P context f code
      → WellNamed P code'
      → ((x : Label) (p p' : Place) → place_at code x ≡ Some p → place_at code' x ≡ Some p' → IsKept r (New x) p p' → (regs m : List ℤ) → Admits code p regs →
      NewOn P code r New p' regs (version_effect p.instr regs m))
      → ((regs : List ℤ) (st : Stack) (s : Arrives P code code.entry regs st) (q : Back) → New (r code.entry) q → IsOwn P s.place regs q)
      → ((x : Label) → RowWithin code' 8 x)
      → Sound P context f code'
  inserted_sound s named new first rows = record {
    function = ins.function ∙ s.function;
    named = named;
    entry_facts = λ p' at.
        let old = at_index code.places code.entry.0 s.named.entry in
        subst (AreAmong context) (entry_place old.0 p' old.1 (subst (λ e. place_at code' e ≡ Some p') ins.entry at)) (s.entry_facts old.0 old.1);
    entry = λ args takes satisfied.
        let st : Stack = record { top = entry_frame P f args; waiting = [] } in
        let old = s.entry args takes satisfied in
        let w = resumes_way P code code' code.entry (r code.entry) (entry_regs code.regs args) st
        (λ x. way_any (λ q. ⊥) (entry_regs code.regs args) st code.entry x (λ q n. inl (first (entry_regs code.regs args) st x q n))) old in
        subst (λ e. Resumes P code' e (entry_regs code'.regs args) st) (sym ins.entry)
        (subst (λ n. Resumes P code' (r code.entry) (entry_regs n args) st) ins.regs w);
    places = λ x p' at regs m fit. ⊎_elim
        (λ e.
        let same : ins.fresh ≡ p' = same_Some ins.fresh p' (sym ins.at_a ∙ ap (place_at code') (sym e) ∙ at) in
        subst (λ p. SoundEffect P code' p regs m (version_effect p.instr regs m)) same (fresh_place regs m (subst (λ p. Admits code' p regs) (sym same) fit)))
        (λ k.
        let fit0 = admits_from k.0 p' regs k.2.facts fit in
        old_place x k.0 p' k.2 regs m (s.places x k.0 k.1 regs m fit0) (new x k.0 p' k.1 at k.2 regs m fit0))
        (ins.back x p' at);
    rows = rows;
  }
