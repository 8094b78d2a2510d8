-- The calls of the sparse search.
use Rattle.std.proofs.Common.{◌≡◌, ◌≢◌, ℕ, ◌+◌, ◌<◌, ◌≤◌, Bool, true, false, not, List, [], ◌∷◌, ◌++◌, length, get_or, Option, Some, None, refl, sym, ap, ◌∙◌}
use Rattle.std.proofs.Common.{subst, inl, inr, ⊎_elim, arith}
use Rattle.std.specs.Prelude.{ℤ, All, Contains, slice_index_or, slice_set}
use Rattle.std.specs.Option.{is_some, option_map, option_to_list}
use Rattle.std.proofs.lemmas.Option.{none-some, same_Some}
use Rattle.std.proofs.lemmas.Bool.{cases_eq}
use Rattle.std.proofs.lemmas.List.{set-get_or}
use Rattle.std.proofs.lemmas.List.Elements.{All-contains, All-get_or}
use Rattle.cj_ir.specs.declared.language.Label.{Label}
use Rattle.cj_ir.specs.declared.language.Program.{Program}
use Rattle.cj_ir.specs.declared.language.Reg.{Reg}
use Rattle.cj_ir.proofs.ListReads.{all_at}
use Rattle.cj_ir.proofs.Labels.{same_label}
use Rattle.cj_ir.proofs.Members.{contains-head, contains-cases, contains-tail, all-from_contains}
use Rattle.cj_draft.specs.declared.facts.Fact.{Fact}
use Rattle.cj_draft.specs.declared.instructions.VInstr.{VInstr}
use Rattle.cj_draft.specs.declared.code.Place.{Place}
use Rattle.cj_draft.specs.declared.code.Code.{Code}
use Rattle.cj_draft.specs.Arrives.{place_at}
use Rattle.cj_draft.specs.Edges.{successors}
use Rattle.cj_draft.specs.WellNamed.{IsPlaceFine}
use Rattle.cj_draft.proofs.EdgeLemmas.{successor_within}
use Rattle.cj_const.specs.Knowledge.{Knowledge, known}
use Rattle.cj_const.specs.Flow.{leaves}
use Rattle.cj_const.specs.Search.{SaysLess, HasWidth, reached_at, agrees}
use Rattle.cj_const.proofs.SearchCalls.{read-at, place-read}
use Rattle.cj_const.proofs.Rows.{known-inside}
use Rattle.cj_sparse.specs.declared.search.Work.{Work}
use Rattle.cj_sparse.specs.declared.search.Work.TheVariants.{Reached, Lost}
use Rattle.cj_sparse.specs.Reading.{reads, assigns}
use Rattle.cj_sparse.specs.Losses.{label_of, EdgeRests, IsPassed, IsItem, IsBegun, IsSearch, LowersAt, Lowers, work_left, GoesOn, IsAbove, slot_at, slot_in}
use Rattle.cj_sparse.specs.Losses.{HasMet, AreMet}
use Rattle.cj_sparse.proofs.Lowering.{goes-trans, rests-lowered, row-reached}
use Rattle.cj_sparse.proofs.Meetings.{differ-known, met-goes, met-more}
use Rattle.cj_sparse.proofs.Passing.{above-next, lost-leaves, lost-none, rests-lost}

abbrev Row : Type 0
Row = List (Option ℤ)

abbrev Rows : Type 0
Rows = List (Option Row)

-- ---- a register is forgotten

pub forget-none : (rows : Rows) (to : Label) (r : ℕ) (other : Option ℤ) (o : Option Row) → to.0 < length rows → o ≡ get_or rows to.0 o → o ≡ None →
    (agrees (slot_at rows to r) other ≡ true) × (slice_set rows to.0 o ≡ rows)
unfolding slot_at slot_in agrees
forget-none rows to r other o h is none =
    let there : slice_index_or rows to.0 None ≡ None = read-at rows rows to.0 o None refl h is ∙ none in
    (ap (λ (z : Option Row). agrees (slot_in z r) other) there, ap (slice_set rows to.0) is ∙ set-get_or rows to.0 o)

pub forget-inside : (row items : Row) (r : ℕ) (told other : Option ℤ) (same : Bool) → told ≡ known items r → items ≡ row → same ≡ agrees told other →
    same ≡ false → r < length row
forget-inside row items r told other same is e agree no_ =
    let some = differ-known told other (sym agree ∙ no_) in
    known-inside row r some.0 (sym (ap (λ (z : Row). known z r) e) ∙ sym is ∙ some.1)

-- ---- rows

pub none-from : {X : Type 0} (o : Option X) → is_some o ≡ false → o ≡ None
none-from None e = refl
none-from (Some x) e = absurd (cc)

pub some-from : {X : Type 0} (o : Option X) → is_some o ≡ true → (x : X) × (o ≡ Some x)
some-from None e = absurd (cc)
some-from (Some x) e = (x, refl)

pub row-none : (rows : Rows) (label : Label) (o : Option Row) (none : Bool) → label.0 < length rows → o ≡ get_or rows label.0 o → is_some o ≡ not none →
    none ≡ true → slice_index_or rows label.0 None ≡ None
row-none rows label o none h is answer yes_ = read-at rows rows label.0 o None refl h is ∙ none-from o (answer ∙ ap not yes_)

pub row-some : (rows : Rows) (label : Label) (o : Option Row) (none : Bool) → label.0 < length rows → o ≡ get_or rows label.0 o → is_some o ≡ not none →
    none ≡ false → (k : Knowledge) × (reached_at rows label ≡ Some k)
row-some rows label o none h is answer no_ =
    let some = some-from o (answer ∙ ap not no_) in
    (known some.0, ap (option_map known) (read-at rows rows label.0 o None refl h is ∙ some.1))

pub row-here : (rows : Rows) (label : Label) (o : Option Row) (row : Row) → label.0 < length rows → o ≡ get_or rows label.0 o → o ≡ Some row →
    reached_at rows label ≡ Some (known row)
row-here rows label o row h is some = ap (option_map known) (read-at rows rows label.0 o None refl h is ∙ some)

-- ---- edges

pub edge-inside : (P : Program) (code : Code) (label to : Label) (p : Place) → All (IsPlaceFine P code.regs (length code.places)) code.places →
    place_at code label ≡ Some p → Contains (successors p.instr) to → to.0 < length code.places
edge-inside P code label to p fine at edge =
    successor_within P code.regs (length code.places) p.instr to (all_at (IsPlaceFine P code.regs (length code.places)) code.places label.0 p fine at).instr
    edge

pub passed-at : (code : Code) (rows : Rows) (work : List Work) (label to : Label) (p : Place) → place_at code label ≡ Some p →
    EdgeRests rows work p.instr label to → IsPassed code rows work label to
passed-at code rows work label to p at rests place at' = subst (λ (z : Place). EdgeRests rows work z.instr label to) (same_Some p place (sym at ∙ at')) rests

pub passed-lowered : (code : Code) (rows rows' : Rows) (work work' : List Work) (label to : Label) → Lowers rows work rows' work' →
    IsPassed code rows work label to → IsPassed code rows' work' label to
passed-lowered code rows rows' work work' label to lowers passed place at = rests-lowered rows rows' work work' place.instr label to lowers (passed place at)

pub item-is : (item : Work) (label : Label) (reg : Reg) (other : Label) → item ≡ Lost label reg → other ≡ label_of item → item ≡ Lost other reg
item-is item label reg other is e = is ∙ ap (λ (l : Label). Lost l reg) (sym (e ∙ ap label_of is))

-- ---- a loss that is met

module _ (context : List Fact) (code : Code) (rows rows' : Rows) (work work' : List Work) (label to : Label) (reg : Reg) (p : Place) (row : Row)
    (begun : IsBegun context code rows work) (item : IsItem code rows (Lost label reg))
    (at : place_at code label ≡ Some p) (edge : Contains (successors p.instr) to) (within : to.0 < length code.places) (here : reached_at rows label
    ≡ Some (known row))
    (unread : reads p.instr reg.0 ≡ false) (other : assigns p.instr reg.0 ≡ false) (live : is_some (leaves (known row) p.instr to) ≡ true)
    (met : HasMet rows work to reg None rows' work') where
  none : known row reg.0 ≡ None
  none = lost-none rows label reg (known row) item.lost here

  pub loss-goes : GoesOn context code rows work rows' work'
  loss-goes =
      let leaving = some-from (leaves (known row) p.instr to) live in
      met-goes context code rows rows' work work' to reg None begun within leaving.0
      (above-next context code rows work label to p (known row) leaving.0 begun at edge here leaving.1)
      (lost-leaves (known row) leaving.0 reg.0 p.instr to none unread other leaving.1)
      met

  pub loss-rests : EdgeRests rows (Lost label reg ∷ work) p.instr label to → IsPassed code rows' work' label to
  loss-rests rests =
      passed-at code rows' work' label to p at
      (rests-lost rows rows' work work' p.instr label to reg (known row) (omega (arith, within, begun.found.count)) here none unread other met loss-goes.lowers
      rests)

-- ---- a step

pub cons-lowers : (rows rows' : Rows) (work work' : List Work) (item : Work) → Lowers rows work rows' work' → Lowers rows (item ∷ work) rows' (item ∷ work')
cons-lowers rows rows' work work' item lowers = record {
  still = λ x c. ⊎_elim
      (λ this. subst (Contains (item ∷ work')) this (contains-first item work'))
      (λ rest. contains-tail item x work' (lowers.still x rest))
      (contains-cases item x work c);
  labels = λ label. longer label (reached_at rows label) (lowers.labels label);
}
  where
    contains-first : (x : Work) (xs : List Work) → Contains (x ∷ xs) x
    contains-first x xs = contains-head x xs

    longer : (label : Label) (o : Option Knowledge) → LowersAt work' label o (reached_at rows' label) → LowersAt (item ∷ work') label o (reached_at rows' label)
    longer label None low = ⊎_elim (λ none. inl none) (λ waits. inr (contains-tail item (Reached label) work' waits)) low
    longer label (Some k) low =
        (low.0, low.1, λ r. ⊎_elim (λ is. inl is) (λ lost. inr (contains-tail item (Lost label (record { 0 = r })) work' lost.0, lost.1)) (low.2 r))

pub popped : (work rest : List Work) (item : Work) (o : Option Work) → work ≡ option_to_list o ++ rest → o ≡ Some item → work ≡ item ∷ rest
popped work rest item o is e = is ∙ ap (λ (z : Option Work). option_to_list z ++ rest) e

module _ (context : List Fact) (code : Code) (rows : Rows) (work rest : List Work) (item : Work) (is : work ≡ item ∷ rest)
    (s : IsSearch context code rows work) where
  first : IsSearch context code rows (item ∷ rest)
  first = subst (IsSearch context code rows) is s

  pub rest-begun : IsBegun context code rows rest
  rest-begun = record { found = s.begun.found; items = λ x c. first.begun.items x (contains-tail item x rest c) }

  pub first-item : IsItem code rows item
  first-item = first.begun.items item (contains-head item rest)

  pub first-rests : (p : Place) (nexts : List Label) → place_at code (label_of item) ≡ Some p → nexts ≡ successors p.instr →
      All (IsPassed code rows (item ∷ rest) (label_of item)) nexts
  first-rests p nexts at e =
      subst (All (IsPassed code rows (item ∷ rest) (label_of item))) (sym e)
      (all-from_contains (IsPassed code rows (item ∷ rest) (label_of item)) (successors p.instr) (λ to c.
      passed-at code rows (item ∷ rest) (label_of item) to p at (first.edges (label_of item) p to at c)))

  -- an edge of another label does not wait for the item
  other-rests : (instr : VInstr) (label to : Label) → label.0 ≢ (label_of item).0 → EdgeRests rows (item ∷ rest) instr label to →
      EdgeRests rows rest instr label to
  other-rests instr label to apart rests k here = ⊎_elim
      (λ waits. inl (later (Reached label) refl waits))
      (λ old. inr (old.0, old.1, λ r. ⊎_elim (λ same. inl same) (λ lost. inr (later (Lost label (record { 0 = r })) refl lost.0, lost.1)) (old.2 r)))
      (rests k here)
    where
      later : (x : Work) → label_of x ≡ label → Contains (item ∷ rest) x → Contains rest x
      later x e c = ⊎_elim (λ this. absurd (apart (sym (ap (λ (l : Label). l.0) (ap label_of this ∙ e))))) (λ c'. c') (contains-cases item x rest c)

  pub step-search : (rows' : Rows) (work' : List Work) (p : Place) (nexts : List Label) → place_at code (label_of item) ≡ Some p → nexts ≡ successors p.instr →
      GoesOn context code rows rest rows' work' → All (IsPassed code rows' work' (label_of item)) nexts → IsSearch context code rows' work'
  step-search rows' work' p nexts at e goes passed = record { begun = goes.begun; edges = edges }
    where
      edges : (label : Label) (place : Place) (to : Label) → place_at code label ≡ Some place → Contains (successors place.instr) to →
          EdgeRests rows' work' place.instr label to
      edges label place to at' c = ⊎_elim
          (λ same.
          let mine : label ≡ label_of item = same_label label (label_of item) same in
          let here : place_at code (label_of item) ≡ Some place = subst (λ (l : Label). place_at code l ≡ Some place) mine at' in
          let listed : Contains nexts to = subst (λ (ls : List Label). Contains ls to) (sym e)
          (subst (λ (z : Place). Contains (successors z.instr) to) (same_Some place p (sym here ∙ at)) c) in
          subst (λ (l : Label). EdgeRests rows' work' place.instr l to) (sym mine)
          (All-contains (IsPassed code rows' work' (label_of item)) nexts to passed listed place here))
          (λ apart. rests-lowered rows rows' rest work' place.instr label to goes.lowers
          (other-rests place.instr label to apart (first.edges label place to at' c)))
          (cases_eq label.0 (label_of item).0)

  pub step-less : (rows' : Rows) (work' : List Work) → GoesOn context code rows rest rows' work' →
      work_left code.regs rows' work' < work_left code.regs rows work
  unfolding work_left
  step-less rows' work' goes =
      let left : work_left code.regs rows' work' ≤ work_left code.regs rows rest = goes.left in
      let one : length work ≡ length (item ∷ rest) = ap length is in
      omega (arith, left, one)

-- ---- what arrives

pub reached-goes : (context : List Fact) (code : Code) (rows rows' : Rows) (work work' : List Work) (to : Label) (row : Row) → IsBegun context code rows work →
    to.0 < length code.places → length row ≡ code.regs → IsAbove context code to (known row) → slice_index_or rows to.0 None ≡ None →
    rows' ≡ slice_set rows to.0 (Some row) → work' ≡ work ++ Reached to ∷ [] → GoesOn context code rows work rows' work'
reached-goes context code rows rows' work work' to row begun within width above none made pushed =
    subst (λ (r : Rows). GoesOn context code rows work r work') (sym made)
    (subst (GoesOn context code rows work (slice_set rows to.0 (Some row))) (sym pushed)
    (row-reached context code rows work to row begun within width above none))

pub arrive-step : (context : List Fact) (code : Code) (rows rows' rows'' : Rows) (work work' work'' : List Work) (to : Label) (reg : Reg) (other : Option ℤ)
    (arrival items : Row) → to.0 < length code.places → IsAbove context code to (known arrival) → GoesOn context code rows work rows' work' →
    AreMet rows' to arrival reg.0 → HasMet rows' work' to reg other rows'' work'' → other ≡ known items reg.0 → items ≡ arrival →
    GoesOn context code rows work rows'' work'' × AreMet rows'' to arrival (reg.0 + 1)
arrive-step context code rows rows' rows'' work work' work'' to reg other arrival items within above goes before met is same =
    let told : other ≡ known arrival reg.0 = is ∙ ap (λ (r : Row). known r reg.0) same in
    let step = met-goes context code rows' rows'' work' work'' to reg other goes.begun within (known arrival) above (sym told) met in (
      goes-trans context code rows rows' rows'' work work' work'' goes step,
      met-more rows' rows'' work' work'' to reg other arrival reg.0 (omega (arith, within, goes.begun.found.count)) step.lowers met refl told before,
    )

row-inside : (n : ℕ) (o : Option Row) (k : Knowledge) (r : ℕ) (v : ℤ) → HasWidth n o → option_map known o ≡ Some k → k r ≡ Some v → r < n
row-inside n None k r v wide here e = absurd (none-some k here)
row-inside n (Some row) k r v wide here e = subst (λ m. r < m) wide (known-inside row r v (ap (λ (j : Knowledge). j r) (same_Some (known row) k here) ∙ e))

pub arrive-told : (context : List Fact) (code : Code) (rows : Rows) (work : List Work) (to : Label) (arrival : Row) (n : ℕ) → IsBegun context code rows work →
    to.0 < length code.places → code.regs ≤ n → AreMet rows to arrival n → SaysLess (reached_at rows to) (Some (known arrival))
arrive-told context code rows work to arrival n begun within all met =
    let inside : to.0 < length rows = omega (arith, within, begun.found.count) in
    let wide : HasWidth code.regs (slice_index_or rows to.0 None) = All-get_or (HasWidth code.regs) rows to.0 None inside begun.found.widths in
    subst (λ o. SaysLess o (Some (known arrival))) (sym met.1) (λ r v e.
    let low = row-inside code.regs (slice_index_or rows to.0 None) met.0 r v wide met.1 e in
    met.2 r v (omega (arith, low, all)) e)

-- the place that is read for an item
pub item-place : (code code' : Code) (places : List Place) (rows : Rows) (item : Work) (label : Label) (p : Place) → IsItem code rows item →
    label ≡ label_of item → code' ≡ code → places ≡ code'.places → p ≡ get_or places label.0 p → place_at code (label_of item) ≡ Some p
item-place code code' places rows item label p is e same read at =
    let inside : label.0 < length code.places = subst (λ (l : Label). l.0 < length code.places) (sym e) is.label in
    subst (λ (l : Label). place_at code l ≡ Some p) e (place-read code code' places label p same read inside at)
