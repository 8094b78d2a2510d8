-- What is passed along an edge, after which the edge rests.
use Rattle.std.proofs.Common.{◌≡◌, ℕ, ◌<◌, true, false, List, ◌∷◌, length, Option, Some, None, refl, sym, ap, ◌∙◌, subst, inl, inr, ⊎_elim}
use Rattle.std.specs.Prelude.{ℤ, Contains}
use Rattle.std.specs.Option.{option_map}
use Rattle.std.proofs.lemmas.Option.{none-some, same_Some}
use Rattle.std.proofs.lemmas.Bool.{cases_eq}
use Rattle.cj_ir.specs.declared.language.Label.{Label}
use Rattle.cj_ir.specs.declared.language.Reg.{Reg}
use Rattle.cj_ir.proofs.Members.{contains-cases}
use Rattle.cj_draft.specs.declared.facts.Fact.{Fact}
use Rattle.cj_draft.specs.declared.instructions.VInstr.{VInstr}
use Rattle.cj_draft.specs.declared.code.Place.{Place}
use Rattle.cj_draft.specs.declared.code.Code.{Code}
use Rattle.cj_draft.specs.Arrives.{place_at}
use Rattle.cj_draft.specs.Edges.{successors}
use Rattle.cj_const.specs.Knowledge.{Knowledge}
use Rattle.cj_const.specs.Flow.{leaves, facts_at, IsWithin}
use Rattle.cj_const.specs.Search.{SaysLess, reached_at}
use Rattle.cj_const.proofs.Monotone.{at-written, at-other}
use Rattle.cj_const.proofs.SearchSteps.{arrives-above}
use Rattle.cj_sparse.specs.declared.search.Work.{Work}
use Rattle.cj_sparse.specs.declared.search.Work.TheVariants.{Reached, Lost}
use Rattle.cj_sparse.specs.Reading.{reads, assigns}
use Rattle.cj_sparse.specs.Losses.{SameOrLost, EdgeRests, IsLostAt, IsBegun, Lowers, IsAbove, HasMet}
use Rattle.cj_sparse.proofs.Forgetting.{without, without-unknown, leaves-forgets, leaves-assigned}
use Rattle.cj_sparse.proofs.Lowering.{same-self, same-less, same-trans, lowered-at, still-reached}
use Rattle.cj_sparse.proofs.Meetings.{met-told}

abbrev Row : Type 0
Row = List (Option ℤ)

abbrev Rows : Type 0
Rows = List (Option Row)

-- what leaves a label says no less than a consistent table does at the next
pub above-next : (context : List Fact) (code : Code) (rows : Rows) (work : List Work) (label to : Label) (p : Place) (k a : Knowledge) →
    IsBegun context code rows work → place_at code label ≡ Some p → Contains (successors p.instr) to → reached_at rows label ≡ Some k →
    leaves k p.instr to ≡ Some a → IsAbove context code to a
above-next context code rows work label to p k a begun at edge here leaving table consistent =
    subst (IsWithin (facts_at table to)) leaving
    (arrives-above context code table label to p k consistent at edge (subst (IsWithin (facts_at table label)) here (begun.found.above table consistent label)))

-- ---- all that is known is passed

pub rests-unreached : (rows : Rows) (work : List Work) (instr : VInstr) (label to : Label) → reached_at rows label ≡ None → EdgeRests rows work instr label to
rests-unreached rows work instr label to none k here = absurd (none-some k (sym none ∙ here))

pub rests-dead : (rows : Rows) (work : List Work) (instr : VInstr) (label to : Label) (k : Knowledge) → reached_at rows label ≡ Some k →
    leaves k instr to ≡ None → EdgeRests rows work instr label to
rests-dead rows work instr label to k was dead k' here =
    inr (k, subst (SaysLess (reached_at rows to)) (sym dead) tt, subst (SameOrLost work label k) (same_Some k k' (sym was ∙ here)) (same-self work label k))

pub rests-told : (rows rows' : Rows) (work work' : List Work) (instr : VInstr) (label to : Label) (k a : Knowledge) → reached_at rows label ≡ Some k →
    leaves k instr to ≡ Some a → Lowers rows work rows' work' → SaysLess (reached_at rows' to) (Some a) → EdgeRests rows' work' instr label to
rests-told rows rows' work work' instr label to k a was leaving lowers less k' here =
    inr (k, subst (SaysLess (reached_at rows' to)) (sym leaving) less, lowered-at rows rows' work work' label k k' lowers was here)

-- ---- a lost register alone is passed

lost-apart : (label : Label) (reg other : Reg) → Lost label reg ≡ Lost label other → reg.0 ≡ other.0
lost-apart label reg other e = ap (λ (r : Reg). r.0) (same-reg e)
  where
    same-reg : Lost label reg ≡ Lost label other → reg ≡ other
    same-reg e = cc

reached-lost : (label other : Label) (reg : Reg) → Lost label reg ≡ Reached other → ⊥
reached-lost label other reg e = cc

same-without : (work : List Work) (label : Label) (reg : Reg) (before k : Knowledge) → k reg.0 ≡ None → SameOrLost (Lost label reg ∷ work) label before k →
    SameOrLost work label (without reg.0 before) k
same-without work label reg before k none same = λ r. ⊎_elim
    (λ this. inl (ap k this ∙ none ∙ sym (at-written before reg.0 r None this)))
    (λ other. ⊎_elim
    (λ is. inl (is ∙ sym (at-other before reg.0 r None other)))
    (λ lost. ⊎_elim
    (λ this. absurd (other (sym (lost-apart label reg (record { 0 = r }) this))))
    (λ waits. inr (waits, lost.1))
    (contains-cases (Lost label reg) (Lost label (record { 0 = r })) work lost.0))
    (same r))
    (cases_eq r reg.0)

waits-still : (work : List Work) (label : Label) (reg : Reg) → Contains (Lost label reg ∷ work) (Reached label) → Contains work (Reached label)
waits-still work label reg c = ⊎_elim (λ this. absurd (reached-lost label label reg this)) (λ rest. rest)
    (contains-cases (Lost label reg) (Reached label) work c)

pub lost-none : (rows : Rows) (label : Label) (reg : Reg) (k : Knowledge) → IsLostAt rows (Lost label reg) → reached_at rows label ≡ Some k → k reg.0 ≡ None
lost-none rows label reg k lost here = ap (λ (j : Knowledge). j reg.0) (same_Some k lost.0 (sym here ∙ lost.1)) ∙ lost.2

pub rests-assigned : (rows : Rows) (work : List Work) (instr : VInstr) (label to : Label) (reg : Reg) → IsLostAt rows (Lost label reg) →
    reads instr reg.0 ≡ false → assigns instr reg.0 ≡ true → EdgeRests rows (Lost label reg ∷ work) instr label to → EdgeRests rows work instr label to
rests-assigned rows work instr label to reg lost no_ yes_ rests k here = ⊎_elim
    (λ waits. inl (waits-still work label reg waits))
    (λ old. inr (
      without reg.0 old.0,
      subst (SaysLess (reached_at rows to)) (sym (leaves-assigned old.0 reg.0 instr to no_ yes_)) old.1,
      same-without work label reg old.0 k (lost-none rows label reg k lost here) old.2,
    ))
    (rests k here)

-- nothing is known of the register in what leaves
pub lost-leaves : (k a : Knowledge) (r : ℕ) (instr : VInstr) (to : Label) → k r ≡ None → reads instr r ≡ false → assigns instr r ≡ false →
    leaves k instr to ≡ Some a → a r ≡ None
lost-leaves k a r instr to none no_ not leaving =
    let same : Some a ≡ Some (without r a) = sym leaving ∙ ap (λ (j : Knowledge). leaves j instr to) (sym (without-unknown k r none))
    ∙ leaves-forgets k r instr to no_ not ∙ ap (option_map (without r)) leaving in
    ap (λ (j : Knowledge). j r) (same_Some a (without r a) same) ∙ at-written a r r None refl

less-without : (rows rows' : Rows) (work work' : List Work) (to : Label) (reg : Reg) (x : Option Knowledge) → Lowers rows work rows' work' →
    ((k : Knowledge) → reached_at rows' to ≡ Some k → (v : ℤ) → k reg.0 ≡ Some v → None ≡ Some v) → SaysLess (reached_at rows to) x →
    SaysLess (reached_at rows' to) (option_map (without reg.0) x)
less-without rows rows' work work' to reg None lowers told less = tt
less-without rows rows' work work' to reg (Some a) lowers told less = by_before (reached_at rows to) refl less
  where
    by_before : (o : Option Knowledge) → reached_at rows to ≡ o → SaysLess o (Some a) → SaysLess (reached_at rows' to) (Some (without reg.0 a))
    by_before None is less = absurd less
    by_before (Some k) is less =
        let now = still-reached rows rows' work work' to k lowers is in
        subst (λ o. SaysLess o (Some (without reg.0 a))) (sym now.1) (λ r v e. ⊎_elim
        (λ this. absurd (none-some v (told now.0 now.1 v (ap now.0 (sym this) ∙ e))))
        (λ other. at-other a reg.0 r None other ∙ less r v (same-less work' to k now.0 now.2 r v e))
        (cases_eq r reg.0))

pub rests-lost : (rows rows' : Rows) (work work' : List Work) (instr : VInstr) (label to : Label) (reg : Reg) (k : Knowledge) → to.0 < length rows →
    reached_at rows label ≡ Some k → k reg.0 ≡ None → reads instr reg.0 ≡ false → assigns instr reg.0 ≡ false → HasMet rows work to reg None rows' work' →
    Lowers rows work rows' work' → EdgeRests rows (Lost label reg ∷ work) instr label to → EdgeRests rows' work' instr label to
rests-lost rows rows' work work' instr label to reg k inside was none no_ not met lowers rests k' here = ⊎_elim
    (λ waits. inl (lowers.still (Reached label) (waits-still work label reg waits)))
    (λ old. inr (
      without reg.0 old.0,
      subst (SaysLess (reached_at rows' to)) (sym (leaves-forgets old.0 reg.0 instr to no_ not))
          (less-without rows rows' work work' to reg (leaves old.0 instr to) lowers
          (λ j at v e. met-told rows rows' work work' to reg None j inside met at v e) old.1),
      same-trans work work' label (without reg.0 old.0) k k' lowers.still (same-without work label reg old.0 k none old.2)
          (lowered-at rows rows' work work' label k k' lowers was here),
    ))
    (rests k was)
