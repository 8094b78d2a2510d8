-- A sound code folded over a consistent table is sound.
use Rattle.std.proofs.Common.{◌≡◌, ℕ, zero, suc, ◌<◌, ◌≤◌, List, length, replicate, Option, Some, None, refl, sym, ap, ◌∙◌, subst, ⊎_elim, arith, length-append}
use Rattle.std.specs.Prelude.{ℤ, pos, ◌-◌, All, Contains, IsSomeAnd, slice_get}
use Rattle.std.proofs.Math.ListN.{get_or-append}
use Rattle.std.proofs.lemmas.List.{length-replicate, get_or_past}
use Rattle.std.proofs.lemmas.Bool.{cases_lt}
use Rattle.std.proofs.lemmas.List.Elements.{All-contains, All-contains_itself, All-weaker, All-get_or}
use Rattle.cj_ir.specs.Values.{register}
use Rattle.cj_ir.specs.WellFormed.{Takes}
use Rattle.cj_ir.specs.declared.language.FunId.{FunId}
use Rattle.cj_ir.specs.declared.language.Label.{Label}
use Rattle.cj_ir.specs.declared.language.Function.{Function}
use Rattle.cj_ir.specs.declared.language.Program.{Program}
use Rattle.cj_ir.specs.declared.language.Operand.{Operand}
use Rattle.cj_base.specs.Machine.{entry_regs}
use Rattle.cj_draft.specs.declared.facts.Fact.{Fact}
use Rattle.cj_draft.specs.declared.facts.Facts.{Facts}
use Rattle.cj_draft.specs.declared.facts.Facts.TheVariants.{Unreached, Known}
use Rattle.cj_draft.specs.declared.instructions.VInstr.{VInstr}
use Rattle.cj_draft.specs.declared.instructions.VInstr.TheVariants.{Nop, Op, Move, Cond, Call, Return, Print, Load, Store, Fail, Assume, Anchor}
use Rattle.cj_draft.specs.declared.code.Place.{Place}
use Rattle.cj_draft.specs.declared.code.Code.{Code}
use Rattle.cj_draft.specs.Effects.{version_effect}
use Rattle.cj_draft.specs.WellNamed.{IsPlaceFine, AreFactsFine, HasFineFacts, IsContextOf, WellNamed}
use Rattle.cj_draft.specs.Arrives.{place_at, Satisfies, Allows}
use Rattle.cj_draft.specs.Sound.{IsSilentIn, guard_next, RowWithin, AreAmong, Sound}
use Rattle.cj_ir.proofs.ListReads.{all_at}
use Rattle.cj_draft.proofs.Lists.{all_from}
use Rattle.cj_draft.proofs.FactLists.{among-allowed}
use Rattle.cj_draft.proofs.Refine.{Flows}
use Rattle.cj_const.specs.Knowledge.{Knowledge, told_by, known_value}
use Rattle.cj_const.specs.Flow.{facts_at, IsConsistent}
use Rattle.cj_const.specs.Folding.{folded_cond, folded_instr, folded_by, together, folded_place, folded_places, folded}
use Rattle.cj_const.proofs.Effects.{instr-effect}
use Rattle.cj_const.proofs.Flowing.{Tells, flows}
use Rattle.cj_const.proofs.FoldedNames.{writes_within, by-fine, together-fine}
use Rattle.cj_const.proofs.FoldedPlaces.{length-folded, get-folded, got-folded}
use Rattle.cj_draft.proofs.Refine.{IsRefined, refined_sound}
use Rattle.cj_const.proofs.Together.{satisfies-agrees, together-allows, together-old}

-- ---- instructions

by-effect : (facts : Facts) (instr : VInstr) (regs m : List ℤ) → Allows facts regs → version_effect (folded_by facts instr) regs m ≡ version_effect instr regs m
unfolding folded_by
by-effect Unreached instr regs m allows = absurd allows
by-effect (Known facts) instr regs m allows = instr-effect (told_by facts) regs m (satisfies-agrees facts regs allows) instr

cond-silent : (test : Operand) (o : Option ℤ) (a b : Label) → IsSilentIn (folded_cond test o a b)
unfolding folded_cond IsSilentIn
cond-silent test None a b = tt
cond-silent test (Some v) a b = tt

instr-silent : (k : Knowledge) (instr : VInstr) → IsSilentIn instr → IsSilentIn (folded_instr k instr)
unfolding folded_instr IsSilentIn
instr-silent k (Nop next) h = tt
instr-silent k (Op dest e next) h = absurd h
instr-silent k (Move pairs next) h = absurd h
instr-silent k (Cond test a b) h = cond-silent test (known_value k test) a b
instr-silent k (Call dest f args next) h = absurd h
instr-silent k (Return v) h = absurd h
instr-silent k (Print v next) h = absurd h
instr-silent k (Load dest a next) h = absurd h
instr-silent k (Store a v next) h = absurd h
instr-silent k (Fail f l) h = absurd h
instr-silent k (Assume guards b t next) h = absurd h
instr-silent k (Anchor b t next) h = absurd h

by-silent : (facts : Facts) (instr : VInstr) → IsSilentIn instr → IsSilentIn (folded_by facts instr)
unfolding folded_by
by-silent Unreached instr h = h
by-silent (Known facts) instr h = instr-silent (told_by facts) instr h

cond-next : (test : Operand) (o : Option ℤ) (a b : Label) → guard_next (folded_cond test o a b) ≡ None
unfolding folded_cond guard_next
cond-next test None a b = refl
cond-next test (Some v) a b = refl

instr-next : (k : Knowledge) (instr : VInstr) → guard_next (folded_instr k instr) ≡ guard_next instr
unfolding folded_instr guard_next
instr-next k (Nop next) = refl
instr-next k (Op dest e next) = refl
instr-next k (Move pairs next) = refl
instr-next k (Cond test a b) = cond-next test (known_value k test) a b
instr-next k (Call dest f args next) = refl
instr-next k (Return v) = refl
instr-next k (Print v next) = refl
instr-next k (Load dest a next) = refl
instr-next k (Store a v next) = refl
instr-next k (Fail f l) = refl
instr-next k (Assume guards b t next) = refl
instr-next k (Anchor b t next) = refl

by-next : (facts : Facts) (instr : VInstr) → guard_next (folded_by facts instr) ≡ guard_next instr
unfolding folded_by
by-next Unreached instr = refl
by-next (Known facts) instr = instr-next (told_by facts) instr

-- ---- the context

among-allows : (context : List Fact) (facts : Facts) (regs : List ℤ) → AreAmong context facts → Satisfies context regs → Allows facts regs
among-allows context Unreached regs among satisfied = absurd among
among-allows context (Known facts) regs among satisfied =
    All-weaker (Contains context) (λ (x : Fact). register regs x.reg.0 ≡ x.value)
    (λ x c. All-contains (λ (y : Fact). register regs y.reg.0 ≡ y.value) context x satisfied c) facts among

-- facts of the arguments are facts of the registers with which a function is entered
satisfied-entry : (context : List Fact) (n count : ℕ) (args : List ℤ) → AreFactsFine count context → length args ≡ count → Satisfies context args →
    Satisfies context (entry_regs n args)
unfolding entry_regs
satisfied-entry context n count args fine e satisfied = λ k d lt.
    let low = fine.registers k d lt in
    get_or-append args (replicate (n - length args) (pos 0)) (pos 0) _ (omega arith) ∙ satisfied k d lt

length-entry : (n : ℕ) (args : List ℤ) → length args ≤ n → length (entry_regs n args) ≡ n
unfolding entry_regs
length-entry n args h = omega (arith, length-append args (replicate (n - length args) (pos 0)), length-replicate (n - length args) (pos 0))

abbrev pub ParamsWithin : Option Function → ℕ → Type 0
ParamsWithin o n = IsSomeAnd o (λ f. f.params ≤ n)

abbrev pub FineContext : Option Function → List Fact → Type 0
FineContext o context = IsSomeAnd o (λ f. AreFactsFine f.params context)

pub context-wider : (o : Option Function) (n : ℕ) (context : List Fact) → ParamsWithin o n → FineContext o context → AreFactsFine n context
context-wider None n context few fine = absurd few
context-wider (Some f) n context few fine = record {
  registers = All-weaker (λ (x : Fact). x.reg.0 < f.params) (λ (x : Fact). x.reg.0 < n) (λ x h. omega arith) context fine.registers;
  increasing = fine.increasing;
}

taken-few : (o : Option Function) (n : ℕ) (callee : Function) → ParamsWithin o n → o ≡ Some callee → callee.params ≤ n
taken-few o n callee few e = subst (λ (z : Option Function). ParamsWithin z n) e few

taken-fine : (o : Option Function) (context : List Fact) (callee : Function) → FineContext o context → o ≡ Some callee → AreFactsFine callee.params context
taken-fine o context callee fine e = subst (λ (z : Option Function). FineContext z context) e fine

-- ---- the whole

pub folded_function : (code : Code) (table : List Facts) → (folded code table).function ≡ code.function
unfolding folded
folded_function code table = refl

module _ (P : Program) (context : List Fact) (f : FunId) (code : Code) (table : List Facts) (sound : Sound P context f code) (fits : IsContextOf P f context)
    (consistent : IsConsistent context code table) where
  abbrev n : ℕ
  n = code.regs

  fine-at : (x : Label) → HasFineFacts n (facts_at table x)
  fine-at x = ⊎_elim
      (λ below. All-get_or (HasFineFacts n) table x.0 Unreached below consistent.fine)
      (λ past. subst (HasFineFacts n) (sym (get_or_past table x.0 Unreached past)) tt)
      (cases_lt x.0 (length table))

  place-fine : (x : Label) (p : Place) → place_at code x ≡ Some p → IsPlaceFine P n (length code.places) p
  place-fine x p at = all_at (IsPlaceFine P n (length code.places)) code.places x.0 p sound.named.places at

  by-flows : (x : Label) (p : Place) (at : place_at code x ≡ Some p) (facts : Facts) → facts_at table x ≡ facts → (regs m : List ℤ) → length regs ≡ n →
      Allows facts regs → Flows (Tells n table) regs (version_effect p.instr regs m)
  by-flows x p at Unreached e regs m count allows = absurd allows
  by-flows x p at (Known facts) e regs m count allows =
      flows n table (told_by facts) regs count (satisfies-agrees facts regs allows) p.instr m
      (writes_within P n (length code.places) p.instr (place-fine x p at).instr)
      (λ to c. consistent.edges x to p facts at e c)

  place-refined : (x : Label) (p : Place) → place_at code x ≡ Some p → IsRefined n (Tells n table) x p (folded_place n p (facts_at table x))
  unfolding folded_place
  place-refined x p at = record {
    point = refl;
    backs = refl;
    silent = by-silent (facts_at table x) p.instr;
    facts = λ regs count allows told. together-allows n p.facts (facts_at table x) regs allows told.1;
    old = λ regs count allows.
        let h = together-old n p.facts (facts_at table x) regs (place-fine x p at).facts (fine-at x) allows in
        (h.0, (count, h.1));
    effect = λ regs m told. by-effect (facts_at table x) p.instr regs m told.1;
    flows = λ regs m told. by-flows x p at (facts_at table x) refl regs m told.0 told.1;
  }

  abbrev code' : Code
  code' = folded code table

  kept : (x : Label) (p : Place) → place_at code x ≡ Some p → (p' : Place) × (place_at code' x ≡ Some p') × IsRefined n (Tells n table) x p p'
  unfolding folded
  kept x p at = (folded_place n p (facts_at table x), get-folded n code.places table x.0 p consistent.count at, place-refined x p at)

  back : (x : Label) (p' : Place) → place_at code' x ≡ Some p' → (p : Place) × (place_at code x ≡ Some p) × IsRefined n (Tells n table) x p p'
  unfolding folded
  back x p' at' =
      let g = got-folded n code.places table x.0 p' at' in
      (g.0, g.1, subst (IsRefined n (Tells n table) x g.0) g.2 (place-refined x g.0 g.1))

  place-named : (x : Label) (p' : Place) → place_at code' x ≡ Some p' → IsPlaceFine P n (length code.places) p'
  unfolding folded folded_place
  place-named x p' at' =
      let g = got-folded n code.places table x.0 p' at' in
      let old = place-fine x g.0 g.1 in
      subst (IsPlaceFine P n (length code.places)) g.2 (record {
        instr = by-fine P n (length code.places) (facts_at table x) g.0.instr old.instr;
        point = old.point;
        facts = together-fine n g.0.facts (facts_at table x);
        backs = old.backs;
      })

  named : WellNamed P code'
  unfolding folded
  named =
      let len : length (folded_places n code.places table) ≡ length code.places = length-folded n code.places table consistent.count in
      record {
        params = sound.named.params;
        few_regs = sound.named.few_regs;
        some_place = omega (arith, sound.named.some_place);
        few_places = omega (arith, sound.named.few_places);
        entry = omega (arith, sound.named.entry);
        places = subst (λ (m : ℕ). All (IsPlaceFine P n m) (folded_places n code.places table)) (sym len)
            (all_from (IsPlaceFine P n (length code.places)) (folded_places n code.places table) (λ i p' at'. place-named (record { 0 = i }) p' at'));
      }

  rows : (m : ℕ) (x : Label) → RowWithin code m x → RowWithin code' m x
  unfolding folded folded_place
  rows zero x row = λ p' at'.
      let g = got-folded n code.places table x.0 p' at' in
      sym (ap (λ (p : Place). guard_next p.instr) g.2) ∙ by-next (facts_at table x) g.0.instr ∙ row g.0 g.1
  rows (suc m) x row = λ p' next at' e.
      let g = got-folded n code.places table x.0 p' at' in
      rows m next (row g.0 next g.1 (sym (by-next (facts_at table x) g.0.instr) ∙ ap (λ (p : Place). guard_next p.instr) g.2 ∙ e))

  context-fine : AreFactsFine n context
  context-fine = context-wider (slice_get P.functions f.0) n context
      (subst (λ (g : FunId). ParamsWithin (slice_get P.functions g.0) n) sound.function sound.named.params) fits

  entry-among : (p' : Place) → place_at code' code.entry ≡ Some p' → AreAmong context p'.facts
  unfolding folded folded_place
  entry-among p' at' =
      let g = got-folded n code.places table code.entry.0 p' at' in
      let fine : HasFineFacts n (together n g.0.facts (facts_at table code.entry)) = together-fine n g.0.facts (facts_at table code.entry) in
      subst (λ (p : Place). AreAmong context p.facts) g.2
      (among-allowed n context (Known context) (together n g.0.facts (facts_at table code.entry)) (All-contains_itself context) context-fine fine
      (λ regs count satisfied.
      together-allows n g.0.facts (facts_at table code.entry) regs
      (among-allows context g.0.facts regs (sound.entry_facts g.0 g.1) satisfied)
      (among-allows context (facts_at table code.entry) regs consistent.entry satisfied)))

  first : (args : List ℤ) → Takes P.functions f (length args) → Satisfies context args → Tells n table code.entry (entry_regs n args)
  first args takes satisfied =
      let callee = slice_get P.functions f.0 in
      let few = subst (λ (g : FunId). ParamsWithin (slice_get P.functions g.0) n) sound.function sound.named.params in
      let within = taken-few callee n takes.0 few takes.1 in
      let fine = taken-fine callee context takes.0 fits takes.1 in
      let count : length args ≤ n = omega (arith, within, takes.2) in (
        length-entry n args count,
        among-allows context (facts_at table code.entry) (entry_regs n args) consistent.entry
            (satisfied-entry context n takes.0.params args fine (sym takes.2) satisfied),
      )

  pub folded_sound : Sound P context f (folded code table)
  unfolding folded
  folded_sound = refined_sound P context f code code' (Tells n table) refl kept back sound named refl refl entry-among first (λ x. rows 8 x (sound.rows x))
