-- An Assume at the end of a path keeps that a code is sound.
use Rattle.std.proofs.Common.{◌≡◌, ◌≢◌, ℕ, zero, suc, ◌+◌, ◌-◌, ◌<◌, ◌≤◌, ◌⊎◌, Bool, true, false, cond, List, [], ◌∷◌, ◌++◌, length, Option, Some, None, refl}
use Rattle.std.proofs.Common.{sym, ap, ◌∙◌, subst, inl, inr, ⊎_elim, arith, length-append, length-set}
use Rattle.std.specs.Prelude.{ℤ, slice_get, slice_set, Contains, All}
use Rattle.std.specs.Option.{option_map}
use Rattle.std.proofs.lemmas.Option.{same_Some, none-some, slice_get_within, slice_get_past}
use Rattle.std.proofs.lemmas.List.Elements.{All-contains}
use Rattle.std.proofs.lemmas.Bool.{cases_eq, cases_lt}
use Rattle.cj_ir.specs.declared.language.FunId.{FunId}
use Rattle.cj_ir.specs.declared.language.Label.{Label}
use Rattle.cj_ir.specs.declared.language.Guard.{Guard}
use Rattle.cj_ir.specs.declared.language.Program.{Program}
use Rattle.cj_draft.specs.declared.points.Point.{Point}
use Rattle.cj_draft.specs.declared.facts.Fact.{Fact}
use Rattle.cj_draft.specs.declared.instructions.VInstr.{VInstr}
use Rattle.cj_draft.specs.declared.instructions.VInstr.TheVariants.{Nop, Op, Move, Cond, Call, Return, Print, Load, Store, Fail, Assume, Anchor}
use Rattle.cj_draft.specs.declared.code.Back.{Back}
use Rattle.cj_draft.specs.declared.code.Place.{Place}
use Rattle.cj_draft.specs.declared.code.Code.{Code}
use Rattle.cj_draft.specs.WellNamed.{WellNamed, IsPointFine, IsPlaceFine, IsBackFine, IsVInstrFine, HasFineFacts}
use Rattle.cj_draft.specs.Arrives.{place_at, Arrives, instr_of}
use Rattle.cj_draft.specs.declared.points.PointFrame.{PointFrame}
use Rattle.cj_draft.specs.Sound.{Sound, pair_of, IsOwn, IsSilentIn, IsCarried, SoundEffect, guard_next, RowWithin}
use Rattle.cj_draft.specs.Relabel.{relabel}
use Rattle.cj_ir.proofs.ListReads.{at_index}
use Rattle.cj_draft.proofs.Lists.{all_from, fine_of}
use Rattle.cj_draft.specs.Points.{top_of, stack_of, frames_of}
use Rattle.cj_draft.specs.Effects.{Plain, version_effect}
use Rattle.cj_base.specs.Machine.{Stack, Fault, BadAddress, ZeroDivisor, Effect, On, with_value, cell, with_cell, branch, op_effect, load_effect, store_effect}
use Rattle.cj_base.specs.Run.{IsSilent}
use Rattle.cj_ir.specs.Values.{operand_value, expr_value}
use Rattle.cj_ir.specs.declared.language.Instr.{Instr}
use Rattle.cj_ir.specs.declared.language.Instr.TheVariants as base
use Rattle.cj_ir.proofs.Members.{contains-head}
use Rattle.cj_ir.proofs.Labels.{same_label, label_cases}
use Rattle.cj_draft.proofs.Ways.{silent-relabel}
use Rattle.cj_draft.proofs.Insert.{IsKept, IsInserted, NewOn, inserted_sound}
use Rattle.cj_draft.proofs.Rows.{guard_next-relabel, rows_inserted}
use Rattle.cj_draft.specs.Edges.{successors, led_to, fresh_label}
use Rattle.cj_draft.proofs.EdgeLemmas.{relabel_none, relabel_fine, guard_successor, led-same, led-other, branch_among}
use Rattle.cj_rows.specs.Rows.{guard_in, guard_at}
use Rattle.cj_rows.proofs.ListReads.{get-set_same, get-set_other, get-append_left, get-append_end, contains-at}
use Rattle.cj_rows.proofs.RowLemmas.{has_guard, guard_place}
use Rattle.cj_rows.proofs.InsertedRows.{HasGuardsOf, rows_through}
use Rattle.cj_rows.specs.Places.{with_instr}
use Rattle.cj_delay.specs.DelayedAssume.{is_silent, base_in, base_at, is_turn, turn_in, passed_in, is_passed, on_path, turn_at, turns_before, turns_back}
use Rattle.cj_delay.specs.DelayedAssume.{path_pair, with_backs, led_edge, fresh_place, delayed, IsDelayed}
use Rattle.cj_delay.specs.CountedEdges.{AreNextsWithin}
use Rattle.cj_delay.specs.DelaySteps.{IsPathIn}
use Rattle.cj_delay.proofs.DelayConditions.{CanDelay, IsStep, path_in}
use Rattle.cj_delay.proofs.PathSteps.{turns_more, turns_first}
use Rattle.cj_delay.proofs.OneEdge.{only_edge, entry_other, named_within, next_within}
use Rattle.cj_rows.proofs.WithPairs.{with_old, with_new, with_only}

-- ---- where edges go

-- of a label that passes, or an Anchor, all edges are led
led_all : (P : Program) (point : Point) (l a : Label) (i : VInstr) → is_passed P point i ≡ true → led_edge l a i ≡ relabel (led_to l a) i
unfolding is_passed led_edge relabel
led_all P point l a (Nop x) e = refl
led_all P point l a (Cond t x y) e = refl
led_all P point l a (Assume g b t x) e = refl
led_all P point l a (Anchor b t x) e = refl
led_all P point l a (Op d v x) e = let f : false ≡ true = e in absurd (cc)
led_all P point l a (Move ps x) e = let f : false ≡ true = e in absurd (cc)
led_all P point l a (Call d f args x) e = let f : false ≡ true = e in absurd (cc)
led_all P point l a (Return v) e = let f : false ≡ true = e in absurd (cc)
led_all P point l a (Print v x) e = let f : false ≡ true = e in absurd (cc)
led_all P point l a (Load d x y) e = let f : false ≡ true = e in absurd (cc)
led_all P point l a (Store x y z) e = let f : false ≡ true = e in absurd (cc)
led_all P point l a (Fail g k) e = let f : false ≡ true = e in absurd (cc)

led_anchor : (l a : Label) (i : VInstr) (n : ℕ) (t : Point) (x : Label) → i ≡ Anchor n t x → led_edge l a i ≡ relabel (led_to l a) i
unfolding led_edge relabel
led_anchor l a i n t x e = subst (λ (j : VInstr). led_edge l a j ≡ relabel (led_to l a) j) (sym e) refl

-- ---- numbers along a path

turns_grow : (code : Code) (path : List Label) (i d : ℕ) → 0 < i → i + d ≤ length path → turns_before code path i ≤ turns_before code path (i + d)
turns_grow code path i zero h k = let e : i + 0 ≡ i = omega arith in omega (arith, ap (turns_before code path) e)
turns_grow code path i (suc d) h k =
    let e : i + suc d ≡ (i + d) + 1 = omega arith in
    omega (arith, turns_grow code path i d h (omega arith), turns_more code path (i + d) (omega arith) (omega arith), ap (turns_before code path) e)

pub turns_most : (code : Code) (path : List Label) (i j : ℕ) → 0 < i → i ≤ j → j ≤ length path → turns_before code path i ≤ turns_before code path j
turns_most code path i j h le k =
    let e : i + (j - i) ≡ j = omega arith in
    omega (arith, turns_grow code path i (j - i) h (omega arith), ap (turns_before code path) e)

-- a label is one of those between the ends, or none
pub find : (path : List Label) (x : Label) (n : ℕ) → ((at : ℕ) × (0 < at) × (at < n) × (on_path path at ≡ x))
    ⊎ ((at : ℕ) → 0 < at → at < n → on_path path at ≢ x)
find path x zero = inr (λ at some h e. absurd (omega arith))
find path x (suc n) = ⊎_elim
    (λ has. inl (has.0, has.1, omega (arith, has.2), has.3))
    (λ none. ⊎_elim
    (λ (first : n ≡ 0). inr (λ at some h e. absurd (omega arith)))
    (λ later. ⊎_elim
    (λ here. inl (n, omega arith, omega arith, here))
    (λ other. inr (λ at some h e. ⊎_elim
    (λ (same : at ≡ n). other (ap (on_path path) (sym same) ∙ e))
    (λ less. none at some (omega arith) e)
    (cases_eq at n)))
    (label_cases (on_path path n) x))
    (cases_eq n 0))
    (find path x n)

-- ---- a code with an Assume at the end of a path

-- all that the theorem is about
pub record Delay (P : Program) (code : Code) (path : List Label) (gs : List Guard) (made : Code) : Type 0 where
  pub can : CanDelay P code path gs
  pub is : IsDelayed code path gs made

module _ (P : Program) (context : List Fact) (f : FunId) (code : Code) (path : List Label) (gs : List Guard) (made : Code) (d : Delay P code path gs made)
    (sound : Sound P context f code) where
  abbrev e : Label
  e = on_path path (length path - 1)

  abbrev before : Label
  before = on_path path (length path - 2)

  abbrev s : Label
  s = fresh_label code

  abbrev r : Label → Label
  r = led_to (on_path path (length path - 1)) (fresh_label code)

  abbrev pair : ℕ → Back
  pair at = path_pair code path d.is.target d.is.number at

  -- the pairs that are added: each label of the path from the second on gets its own, and the last one's stands at the
  -- fresh label
  pub New : Label → Back → Type 0
  New x q = (at : ℕ) × (0 < at) × (at < length path) × (x ≡ led_to (on_path path (length path - 1)) (fresh_label code) (on_path path at))
      × (q ≡ path_pair code path d.is.target d.is.number at)

  abbrev fresh : Place
  fresh = fresh_place (Assume gs (turns_back code path d.is.number) d.is.target (on_path path (length path - 1))) d.is.last d.is.backs

  abbrev led : Place
  led = with_instr (led_edge (on_path path (length path - 1)) (fresh_label code) d.is.from.instr) d.is.from

  abbrev code' : Code
  code' = delayed code d.is.places (on_path path (length path - 2)) (on_path path (length path - 1)) d.is.from fresh

  closed : AreNextsWithin code.places
  closed = named_within P code sound.named

  in_code : IsPathIn code path
  in_code = path_in P code path gs (named_within P code sound.named) d.can

  e_in : e.0 < length code.places
  e_in = slice_get_within code.places e.0 d.is.last d.is.at_last

  n-of_s : s.0 ≡ length code.places
  unfolding fresh_label
  n-of_s = refl

  not_s : (x : Label) → x.0 < length code.places → x ≢ s
  not_s x h is = let same : x.0 ≡ s.0 = ap (λ (y : Label). y.0) is in omega (arith, n-of_s)

  -- a label between the ends is not the last one
  not_e : (at : ℕ) → at < length path - 1 → on_path path at ≢ e
  not_e at h is = in_code.apart at (length path - 1) h (let long = d.can.long in omega arith) is

  r_between : (at : ℕ) → at < length path - 1 → r (on_path path at) ≡ on_path path at
  r_between at h = led-other e s (on_path path at) (not_e at h)

  -- labels of the code are led to different labels
  r_same : (x y : Label) → x.0 < length code.places → y.0 < length code.places → r x ≡ r y → x ≡ y
  r_same x y hx hy is = ⊎_elim
      (λ xe. ⊎_elim
      (λ ye. xe ∙ sym ye)
      (λ ne. absurd (not_s y hy (sym (led-other e s y ne) ∙ sym is ∙ led-same e s x xe)))
      (label_cases y e))
      (λ ne. ⊎_elim
      (λ ye. absurd (not_s x hx (sym (led-other e s x ne) ∙ is ∙ led-same e s y ye)))
      (λ ne'. sym (led-other e s x ne) ∙ is ∙ led-other e s y ne')
      (label_cases y e))
      (label_cases x e)

  -- ---- places

  -- a place of the old code, as the marked places have it
  pub record WasMarked (x : Label) (p : Place) : Type 0 where
    pub place : Place
    pub at : slice_get d.is.places x.0 ≡ Some place
    pub instr : place.instr ≡ p.instr
    pub point : place.point ≡ p.point
    pub facts : place.facts ≡ p.facts
    pub old : (q : Back) → Contains p.backs q → Contains place.backs q
    pub only : (q : Back) → Contains place.backs q → Contains p.backs q ⊎ New x q
    pub has : (at : ℕ) → 0 < at → at < length path - 1 → x ≡ on_path path at → Contains place.backs (path_pair code path d.is.target d.is.number at)

  was_marked : (x : Label) (p : Place) → place_at code x ≡ Some p → WasMarked x p
  unfolding New with_backs
  was_marked x p at = ⊎_elim
      (λ found.
      let k = found.0 in
      let here : on_path path k ≡ x = found.3 in
      let got = d.is.are_marked.marked k p found.1 found.2 (ap (place_at code) here ∙ at) in
      let long = d.can.long in
      let bs = got.0 in
      record {
        place = with_backs bs p;
        at = ap (λ (y : Label). slice_get d.is.places y.0) (sym here) ∙ got.2;
        instr = refl;
        point = refl;
        facts = refl;
        old = λ q c. with_old p.backs (pair k) bs got.1 q c;
        only = λ q c. ⊎_elim
            (λ old. inl old)
            (λ new. inr (k, found.1, omega (arith, found.2), sym here ∙ sym (r_between k found.2), new))
            (with_only p.backs (pair k) bs got.1 q c);
        has = λ j some within is. ⊎_elim
            (λ (same : j ≡ k). subst (λ i. Contains bs (pair i)) (sym same) (with_new p.backs (pair k) bs got.1))
            (λ other. absurd (apart k j (omega (arith, found.2)) (omega arith) (λ w. other (sym w)) (here ∙ is)))
            (cases_eq j k);
      })
      (λ none. record {
        place = p;
        at = d.is.are_marked.others x none ∙ at;
        instr = refl;
        point = refl;
        facts = refl;
        old = λ q c. c;
        only = λ q c. inl c;
        has = λ j some within is. absurd (none j some within (sym is));
      })
      (find path x (length path - 1))
    where
      apart : (i j : ℕ) → i < length path → j < length path → i ≢ j → on_path path i ≡ on_path path j → ⊥
      apart i j hi hj ne is = ⊎_elim
          (λ less. in_code.apart i j less hj is)
          (λ more. in_code.apart j i (omega arith) hi (sym is))
          (cases_lt i j)

  -- the last edge
  abbrev end : ℕ
  end = length path - 1

  last_step : IsStep P code path (length path - 1)
  last_step = let long = d.can.long in d.can.steps (length path - 1) (omega arith) (omega arith)

  end_before : on_path path (length path - 1 - 1) ≡ before
  end_before = let same : length path - 1 - 1 ≡ length path - 2 = omega arith in ap (on_path path) same

  -- only the label before the last one goes on to that
  goes_to_e : (x : Label) (p : Place) → place_at code x ≡ Some p → Contains (successors p.instr) e → x ≡ before
  goes_to_e x p at c =
      same_label x before (only_edge code e x (on_path path (length path - 1 - 1)) p last_step.edge.place last_step.one at last_step.edge.at c
      last_step.edge.goes
      ∙ ap (λ (y : Label). y.0) end_before)

  stays : (x : Label) (p : Place) → x ≢ before → place_at code x ≡ Some p → relabel r p.instr ≡ p.instr
  stays x p ne at = relabel_none r p.instr (λ y c. led-other e s y (λ is. ne (goes_to_e x p at (subst (Contains (successors p.instr)) is c))))

  -- the place before the last one is the Anchor's, or passes
  kind_at : (k : ℕ) (p : Place) → suc k < length path → place_at code (on_path path k) ≡ Some p →
      ((k ≡ 0) × (p.instr ≡ Anchor d.is.number d.is.target d.is.next)) ⊎ ((0 < k) × (is_passed P p.point p.instr ≡ true))
  unfolding passed_in
  kind_at zero p within at = inl (refl, ap (λ (q : Place). q.instr) (same_Some p d.is.anchor (sym at ∙ d.is.at_first)) ∙ d.is.is_anchor)
  kind_at (suc k) p within at =
      let step = d.can.steps (suc k) (omega arith) (omega arith) in
      let passed = step.passed (λ is. absurd (omega arith)) in
      inr (omega arith, ap (passed_in P) (sym at) ∙ passed)

  before_number : suc (length path - 2) < length path
  before_number = let long = d.can.long in omega arith

  led_before : (p : Place) → place_at code before ≡ Some p → led_edge e s p.instr ≡ relabel r p.instr
  led_before p at = ⊎_elim
      (λ first. led_anchor e s p.instr d.is.number d.is.target d.is.next first.1)
      (λ later. led_all P p.point e s p.instr later.1)
      (kind_at (length path - 2) p before_number at)

  length-marked : length (slice_set d.is.places before.0 led) ≡ length code.places
  length-marked = length-set d.is.places before.0 led ∙ d.is.are_marked.count

  length-new : length code'.places ≡ length code.places + 1
  unfolding delayed
  length-new = length-append (slice_set d.is.places before.0 led) (fresh ∷ []) ∙ ap (λ k. k + 1) length-marked

  fresh_at : place_at code' s ≡ Some fresh
  unfolding delayed fresh_label
  fresh_at = subst (λ k. slice_get (slice_set d.is.places before.0 led ++ fresh ∷ []) k ≡ Some fresh) length-marked
      (get-append_end (slice_set d.is.places before.0 led) fresh)

  -- a place of the old code, as the new one has it
  pub record Now (x : Label) (p : Place) : Type 0 where
    pub place : Place
    pub at : place_at code' x ≡ Some place
    pub kept : IsKept r (New x) p place
    pub has : (at : ℕ) → 0 < at → at < length path - 1 → x ≡ on_path path at → Contains place.backs (path_pair code path d.is.target d.is.number at)

  now_at : (x : Label) (p : Place) → place_at code x ≡ Some p → Now x p
  unfolding delayed with_instr
  now_at x p at =
      let w = was_marked x p at in
      let places = d.is.places in
      ⊎_elim
      (λ (here : x ≡ before).
      let same : w.place ≡ d.is.from = same_Some w.place d.is.from (sym w.at ∙ ap (λ (y : Label). slice_get places y.0) here ∙ d.is.at_from) in
      let within : before.0 < length places = slice_get_within places before.0 d.is.from d.is.at_from in
      let instr : led_edge e s d.is.from.instr ≡ relabel r p.instr = ap (led_edge e s) (ap (λ (q : Place). q.instr) (sym same) ∙ w.instr)
      ∙ led_before p (ap (place_at code) (sym here) ∙ at) in
      record {
        place = led;
        at = get-append_left (slice_set places before.0 led) (fresh ∷ []) x.0 led (ap (λ (y : Label). slice_get (slice_set places before.0 led) y.0) here
            ∙ get-set_same places before.0 led within);
        kept = record {
          instr = instr;
          point = sym w.point ∙ ap (λ (q : Place). q.point) same;
          facts = sym w.facts ∙ ap (λ (q : Place). q.facts) same;
          backs = λ q c. subst (λ (y : Place). Contains y.backs q) same (w.old q c);
          only = λ q c. w.only q (subst (λ (y : Place). Contains y.backs q) (sym same) c);
        };
        has = λ k some within is. subst (λ (y : Place). Contains y.backs (pair k)) same (w.has k some within is);
      })
      (λ ne. record {
        place = w.place;
        at = get-append_left (slice_set places before.0 led) (fresh ∷ []) x.0 w.place
            (get-set_other places before.0 x.0 led (λ is. ne (same_label x before is)) ∙ w.at);
        kept = record {
          instr = w.instr ∙ sym (stays x p ne at);
          point = sym w.point;
          facts = sym w.facts;
          backs = w.old;
          only = w.only;
        };
        has = w.has;
      })
      (label_cases x before)

  -- where a place of the new code was
  was : (x : Label) (p' : Place) → place_at code' x ≡ Some p' → (x ≡ s) ⊎ ((p : Place) × (place_at code x ≡ Some p) × IsKept r (New x) p p')
  was x p' at' = ⊎_elim
      (λ is. inl is)
      (λ ne.
      let inside : x.0 < length code'.places = slice_get_within code'.places x.0 p' at' in
      let other : x.0 ≢ length code.places = λ same. ne (same_label x s (same ∙ sym n-of_s)) in
      let old = at_index code.places x.0 (omega (arith, length-new)) in
      let now = now_at x old.0 old.1 in
      inr (old.0, old.1, subst (IsKept r (New x) old.0) (same_Some now.place p' (sym now.at ∙ at')) now.kept))
      (label_cases x s)

  entry_stays : r code.entry ≡ code.entry
  entry_stays = led-other e s code.entry
      (entry_other code e (on_path path (length path - 1 - 1)) last_step.edge.place last_step.one last_step.edge.at last_step.edge.goes)

  pub inserted : IsInserted code code' e s r New
  unfolding New delayed fresh_place turns_back path_pair
  inserted = record {
    function = refl;
    regs = refl;
    entry = sym entry_stays;
    leads = λ x. ⊎_elim (λ is. inl (is, led-same e s x is)) (λ ne. inr (led-other e s x ne)) (label_cases x e);
    kept = λ x p at. let now = now_at x p at in (now.place, now.at, now.kept);
    back = was;
    place = d.is.last;
    fresh = fresh;
    at_l = d.is.at_last;
    at_a = fresh_at;
    none_at_l = λ q new. ⊎_elim
        (λ is. not_s e e_in (new.3 ∙ led-same e s (on_path path new.0) is))
        (λ ne. ne (sym (led-other e s (on_path path new.0) ne) ∙ sym new.3))
        (label_cases (on_path path new.0) e);
    point = refl;
    facts = refl;
    backs = λ q c. with_old d.is.last.backs (pair (length path - 1)) d.is.backs d.is.with_pair q c;
    only = λ q c. ⊎_elim
        (λ old. inl old)
        (λ new. let long = d.can.long in inr (length path - 1, omega arith, omega arith, sym (led-same e s e refl), new))
        (with_only d.is.last.backs (pair (length path - 1)) d.is.backs d.is.with_pair q c);
    guards = gs;
    number = turns_back code path d.is.number;
    target = d.is.target;
    instr = inr refl;
    target_in = with_new d.is.last.backs (pair (length path - 1)) d.is.backs d.is.with_pair;
  }

  -- ---- numbers

  anchor_is : Anchor d.can.begins.number d.can.begins.target d.can.begins.next ≡ Anchor d.is.number d.is.target d.is.next
  anchor_is = sym d.can.begins.instr ∙ ap (λ (q : Place). q.instr) (same_Some d.can.begins.place d.is.anchor (sym d.can.begins.at ∙ d.is.at_first))
      ∙ d.is.is_anchor

  short : turns_back code path d.is.number ≤ 4
  short =
      let same : d.can.begins.number ≡ d.is.number = let a = anchor_is in cc in
      subst (λ k. turns_back code path k ≤ 4) same d.can.begins.few

  -- ---- names

  target_fine : IsPointFine P code.regs d.is.target
  target_fine =
      let fine = subst (IsVInstrFine P code.regs (length code.places)) d.is.is_anchor
      (fine_of P code sound.named (on_path path 0) d.is.anchor d.is.at_first).instr in
      fine.1

  pair_fine : (at : ℕ) → 0 < at → at < length path → IsBackFine P code.regs (pair at)
  unfolding path_pair turns_back
  pair_fine at some within =
      let most = turns_most code path at (length path - 1) some (omega arith) (omega arith) in
      let few : d.is.number + turns_before code path (length path - 1) ≤ 4 = short in
      record { few_turns = omega (arith, most, few); point = target_fine }

  backs_fine : (x : Label) (p p' : Place) → IsKept r (New x) p p' → All (IsBackFine P code.regs) p.backs → All (IsBackFine P code.regs) p'.backs
  unfolding New
  backs_fine x p p' k fine = all_from (IsBackFine P code.regs) p'.backs (λ i q at. ⊎_elim
      (λ old. All-contains (IsBackFine P code.regs) p.backs q fine old)
      (λ new. subst (IsBackFine P code.regs) (sym new.4) (pair_fine new.0 new.1 new.2))
      (k.only q (contains-at p'.backs i q at)))

  led_within : (y : Label) → y.0 < length code.places → (r y).0 < length code'.places
  led_within y h = ⊎_elim
      (λ is. subst (λ (z : Label). z.0 < length code'.places) (sym (led-same e s y is)) (omega (arith, length-new, n-of_s)))
      (λ ne. subst (λ (z : Label). z.0 < length code'.places) (sym (led-other e s y ne)) (omega (arith, length-new)))
      (label_cases y e)

  old_fine : (x : Label) (p p' : Place) → place_at code x ≡ Some p → IsKept r (New x) p p' → IsPlaceFine P code.regs (length code'.places) p'
  old_fine x p p' at k =
      let fine = fine_of P code sound.named x p at in
      record {
        instr = subst (IsVInstrFine P code.regs (length code'.places)) (sym k.instr)
            (relabel_fine P code.regs (length code.places) r (length code'.places) p.instr (λ y c. led_within y (next_within code x p y closed at c))
            fine.instr);
        point = subst (IsPointFine P code.regs) k.point fine.point;
        facts = subst (HasFineFacts code.regs) k.facts fine.facts;
        backs = backs_fine x p p' k fine.backs;
      }

  fresh_fine : IsPlaceFine P code.regs (length code'.places) fresh
  unfolding fresh_place
  fresh_fine =
      let fine = fine_of P code sound.named e d.is.last d.is.at_last in
      let long = d.can.long in
      record {
        instr = (d.can.few, d.can.registers, short, target_fine, omega (arith, length-new, e_in));
        point = fine.point;
        facts = fine.facts;
        backs = all_from (IsBackFine P code.regs) d.is.backs (λ i q at. ⊎_elim
            (λ old. All-contains (IsBackFine P code.regs) d.is.last.backs q fine.backs old)
            (λ new. subst (IsBackFine P code.regs) (sym new) (pair_fine (length path - 1) (omega arith) (omega arith)))
            (with_only d.is.last.backs (pair (length path - 1)) d.is.backs d.is.with_pair q (contains-at d.is.backs i q at)));
      }

  named' : WellNamed P code'
  unfolding delayed
  named' = record {
    params = sound.named.params;
    few_regs = sound.named.few_regs;
    some_place = omega (arith, length-new);
    few_places = omega (arith, length-new, d.can.labels);
    entry = omega (arith, length-new, sound.named.entry);
    places = all_from (IsPlaceFine P code.regs (length code'.places)) code'.places (λ i p' at.
        let x : Label = record { 0 = i } in
        ⊎_elim
        (λ is.
        let same : fresh ≡ p' = same_Some fresh p' (sym fresh_at ∙ ap (place_at code') (sym is) ∙ at) in
        subst (IsPlaceFine P code.regs (length code'.places)) same fresh_fine)
        (λ w. old_fine x w.0 p' w.1 w.2)
        (was x p' at));
  }

  -- ---- rows

  guard_of_old : (x : Label) → x ≢ s → guard_at code' x ≡ option_map r (guard_at code x)
  unfolding guard_at guard_in
  guard_of_old x ne = by_place (place_at code x) refl
    where
      by_place : (o : Option Place) → place_at code x ≡ o → guard_at code' x ≡ option_map r (guard_at code x)
      by_place (Some p) at =
          let now = now_at x p at in
          guard_place code' x now.place now.at ∙ ap guard_next now.kept.instr ∙ guard_next-relabel r p.instr ∙ ap (option_map r) (sym (guard_place code x p at))
      by_place None at = by_new (place_at code' x) refl
        where
          by_new : (o : Option Place) → place_at code' x ≡ o → guard_at code' x ≡ option_map r (guard_at code x)
          by_new None at' = ap guard_in at' ∙ ap (λ o. option_map r (guard_in o)) (sym at)
          by_new (Some p') at' = absurd (⊎_elim (λ is. ne is) (λ w. none-some w.0 (sym at ∙ w.1)) (was x p' at'))

  guard_of_fresh : guard_at code' s ≡ Some e
  unfolding fresh_place guard_next
  guard_of_fresh = guard_place code' s fresh fresh_at

  no_guard_at_s : guard_at code s ≡ None
  unfolding guard_at guard_in fresh_label
  no_guard_at_s = ap guard_in (slice_get_past code.places (length code.places) (omega arith))

  guards_of : HasGuardsOf code code' e s r
  guards_of = record {
    old = guard_of_old;
    fresh = guard_of_fresh;
    none = no_guard_at_s;
    to_l = led-same e s e refl;
    others = λ x ne. led-other e s x ne;
    edges = λ x next is.
        let h = has_guard code x next is in
        not_s next (next_within code x h.place next closed h.at (guard_successor h.place.instr next h.guard));
    apart = not_s e e_in;
  }

  rows : (x : Label) → RowWithin code' 8 x
  rows = rows_inserted code code' e s r New inserted sound.rows
      (rows_through code code' e s r guards_of sound.rows
      (λ x next is. slice_get_within code.places x.0 (has_guard code x next is).place (has_guard code x next is).at)
      d.can.row)

  -- ---- pairs along the path

  -- the edge on which a new pair comes is one of the path
  pub record FromPath (x : Label) (q : Back) : Type 0 where
    pub k : ℕ
    pub here : x ≡ on_path path k
    pub within : suc k < length path
    pub is : q ≡ path_pair code path d.is.target d.is.number (suc k)

  from_path : (x : Label) (p : Place) (next : Label) (q : Back) → place_at code x ≡ Some p → Contains (successors p.instr) next → New (r next) q → FromPath x q
  unfolding New
  from_path x p next q at c new =
      let number = new.0 in
      let step = d.can.steps number new.1 new.2 in
      let on = on_path path number in
      let is : next ≡ on = r_same next on (next_within code x p next closed at c) (in_code.within number new.2) new.3 in
      let same : x ≡ on_path path (number - 1) = same_label x (on_path path (number - 1))
      (only_edge code on x (on_path path (number - 1)) p step.edge.place step.one at step.edge.at (subst (Contains (successors p.instr)) is c) step.edge.goes)
      in
      let some : 0 < number = new.1 in
      let inside : number < length path = new.2 in
      let later : number ≡ suc (number - 1) = omega arith in
      record { k = number - 1; here = same; within = omega arith; is = new.4 ∙ ap pair later }

  own_has : (x : Label) (p p' : Place) (k : ℕ) → place_at code x ≡ Some p → place_at code' x ≡ Some p' → 0 < k → suc k < length path → x ≡ on_path path k →
      Contains p'.backs (pair k)
  own_has x p p' k at at' some within is =
      let now = now_at x p at in
      subst (λ (y : Place). Contains y.backs (pair k)) (same_Some now.place p' (sym now.at ∙ at')) (now.has k some (omega arith) is)

  turn_here : (x : Label) (p : Place) (k : ℕ) → place_at code x ≡ Some p → x ≡ on_path path k → turn_at code (on_path path k) ≡ is_turn p.instr
  unfolding turn_at turn_in
  turn_here x p k at is = ap (λ (y : Label). turn_in (place_at code y)) (sym is) ∙ ap turn_in at

  turns_step : (x : Label) (p : Place) (k : ℕ) (b : Bool) → place_at code x ≡ Some p → x ≡ on_path path k → is_turn p.instr ≡ b → 0 < k → k < length path →
      turns_before code path (suc k) ≡ turns_before code path k + cond b 1 0
  turns_step x p k b at is turn some within =
      let later : suc k ≡ k + 1 = omega arith in
      ap (turns_before code path) later ∙ turns_more code path k some within
      ∙ ap (λ (t : Bool). turns_before code path k + cond t 1 0) (turn_here x p k at is ∙ turn)

  -- an Assume or Anchor has the pair that comes along its edge
  guarded_pair : (x : Label) (p p' : Place) (q : Back) → place_at code x ≡ Some p → place_at code' x ≡ Some p' → IsKept r (New x) p p' →
      is_turn p.instr ≡ false → FromPath x q → (p.instr ≡ Anchor d.is.number d.is.target d.is.next → Contains p.backs (pair_of d.is.number d.is.target)) →
      Contains p'.backs q
  unfolding path_pair
  guarded_pair x p p' q at at' kept turn from own = ⊎_elim
      (λ first.
      let one : suc from.k ≡ 1 = ap suc first.0 in
      let none : d.is.number + turns_before code path (suc from.k) ≡ d.is.number = omega (arith, ap (turns_before code path) one, turns_first code path) in
      subst (Contains p'.backs) (sym (from.is ∙ ap (λ i. pair_of i d.is.target) none)) (kept.backs (pair_of d.is.number d.is.target) (own first.1)))
      (λ later.
      let step = turns_step x p from.k false at from.here turn later.0 (omega (arith, from.within)) in
      let same : d.is.number + turns_before code path (suc from.k) ≡ d.is.number + turns_before code path from.k = omega (arith, step) in
      subst (Contains p'.backs) (sym (from.is ∙ ap (λ i. pair_of i d.is.target) same)) (own_has x p p' from.k at at' later.0 from.within from.here))
      (kind_at from.k p from.within (ap (place_at code) (sym from.here) ∙ at))

  silent_is : (o : Option Instr) → is_silent o ≡ true → IsSilent o
  unfolding is_silent IsSilent
  silent_is (Some (base.Nop next)) h = tt
  silent_is (Some (base.Cond test a b)) h = tt
  silent_is (Some (base.Op x y z)) h = let f : false ≡ true = h in absurd (cc)
  silent_is (Some (base.Call x y z w)) h = let f : false ≡ true = h in absurd (cc)
  silent_is (Some (base.Return x)) h = let f : false ≡ true = h in absurd (cc)
  silent_is (Some (base.Print x y)) h = let f : false ≡ true = h in absurd (cc)
  silent_is (Some (base.Load x y z)) h = let f : false ≡ true = h in absurd (cc)
  silent_is (Some (base.Store x y z)) h = let f : false ≡ true = h in absurd (cc)
  silent_is (Some (base.Fail x)) h = let f : false ≡ true = h in absurd (cc)
  silent_is None h = let f : false ≡ true = h in absurd (cc)

  frames_instr : (frames : List PointFrame) (regs : List ℤ) → 0 < length frames → instr_of P (stack_of P frames regs) ≡ base_in P frames
  unfolding stack_of top_of base_in
  frames_instr [] regs h = absurd (omega arith)
  frames_instr (top ∷ others) regs h = refl

  -- a Nop or Cond carries the pair over its turn
  carried : (x : Label) (p p' : Place) (q : Back) (regs : List ℤ) → place_at code x ≡ Some p → place_at code' x ≡ Some p' → IsKept r (New x) p p' →
      is_turn p.instr ≡ true → IsSilentIn p.instr → (p.instr ≡ Anchor d.is.number d.is.target d.is.next → ⊥) →
      (is_passed P p.point p.instr ≡ true → is_silent (base_at P p.point) ≡ true) → FromPath x q → IsCarried P p' regs q
  unfolding path_pair base_at frames_of
  carried x p p' q regs at at' kept turn silent no_anchor quiet from = ⊎_elim
      (λ first. absurd (no_anchor first.1))
      (λ later.
      let step = turns_step x p from.k true at from.here turn later.0 (omega (arith, from.within)) in
      let some = (fine_of P code sound.named x p at).point.some_frame in
      let base = silent_is (base_in P p.point.frames) (quiet later.1) in
      record {
        instr = subst IsSilentIn (sym kept.instr) (silent-relabel r p.instr silent);
        base = subst (λ (point : Point). IsSilent (instr_of P (stack_of P point.frames regs))) kept.point
            (subst IsSilent (sym (frames_instr p.point.frames regs some)) base);
        before = d.is.number + turns_before code path from.k;
        turns = ap (λ (b : Back). b.turns) from.is ∙ omega (arith, step);
        carried = subst (Contains p'.backs) (ap (λ (b : Back). pair_of (d.is.number + turns_before code path from.k) b.point) (sym from.is))
            (own_has x p p' from.k at at' later.0 from.within from.here);
      })
      (kind_at from.k p from.within (ap (place_at code) (sym from.here) ∙ at))

  -- no new pair comes from other instructions
  never : (x : Label) (p : Place) (q : Back) → place_at code x ≡ Some p → is_passed P p.point p.instr ≡ false → FromPath x q → ⊥
  unfolding is_passed
  never x p q at not_passed from = ⊎_elim
      (λ first. let f : true ≡ false = sym (ap (is_passed P p.point) first.1) ∙ not_passed in cc)
      (λ later. let f : true ≡ false = sym later.1 ∙ not_passed in cc)
      (kind_at from.k p from.within (ap (place_at code) (sym from.here) ∙ at))

  value_new : (p' : Place) (regs : List ℤ) (o : Option ℤ) (fault : Fault) (go : ℤ → Effect) → ((v : ℤ) → NewOn P code r New p' regs (Plain (go v))) →
      NewOn P code r New p' regs (Plain (with_value o fault go))
  unfolding with_value
  value_new p' regs None fault go h = tt
  value_new p' regs (Some v) fault go h = h v

  module _ (x : Label) (p p' : Place) (at : place_at code x ≡ Some p) (at' : place_at code' x ≡ Some p') (kept : IsKept r (New x) p p') (regs m : List ℤ) where
    comes : (i : VInstr) (next : Label) (q : Back) → p.instr ≡ i → Contains (successors i) next → New (r next) q → FromPath x q
    comes i next q is c new = from_path x p next q at (subst (λ (j : VInstr). Contains (successors j) next) (sym is) c) new

    lost : {A : Type 0} (i : VInstr) (next : Label) (q : Back) → p.instr ≡ i → is_passed P p.point i ≡ false → Contains (successors i) next → New (r next) q → A
    lost i next q is not_passed c new = absurd (never x p q at (ap (is_passed P p.point) is ∙ not_passed) (comes i next q is c new))

    new_on : (i : VInstr) → p.instr ≡ i → SoundEffect P code p regs m (version_effect i regs m) → NewOn P code r New p' regs (version_effect i regs m)
    unfolding version_effect op_effect load_effect store_effect successors is_passed is_turn IsSilentIn
    new_on (Nop next) is s = λ st a q new. inr
        (carried x p p' q regs at at' kept (ap is_turn is) (subst IsSilentIn (sym is) tt)
        (λ h. let f : Nop next ≡ Anchor d.is.number d.is.target d.is.next = sym is ∙ h in cc) (λ h. ap (is_passed P p.point) (sym is) ∙ h)
        (comes (Nop next) next q is (contains-head next []) new))
    new_on (Cond t a b) is s = λ st arr q new. inr
        (carried x p p' q regs at at' kept (ap is_turn is) (subst IsSilentIn (sym is) tt) (λ h. let f : Cond t a b
        ≡ Anchor d.is.number d.is.target d.is.next = sym is ∙ h in cc) (λ h. ap (is_passed P p.point) (sym is) ∙ h)
        (comes (Cond t a b) (branch (operand_value regs t) a b) q is (branch_among (operand_value regs t) a b) new))
    new_on (Assume g b t next) is s = λ h st a q new. inr
        (guarded_pair x p p' q at at' kept (ap is_turn is) (comes (Assume g b t next) next q is (contains-head next []) new) (λ h. let f : Assume g b t next
        ≡ Anchor d.is.number d.is.target d.is.next = sym is ∙ h in absurd (cc)))
    new_on (Anchor b t next) is s = λ h st a q new. inr
        (guarded_pair x p p' q at at' kept (ap is_turn is) (comes (Anchor b t next) next q is (contains-head next []) new) (λ h.
        let same : Anchor b t next ≡ Anchor d.is.number d.is.target d.is.next = sym is ∙ h in
        let number : b ≡ d.is.number = cc in
        let target : t ≡ d.is.target = cc in
        subst (λ (y : Point). Contains p.backs (pair_of d.is.number y)) target (subst (λ k. Contains p.backs (pair_of k t)) number s.target_in)))
    new_on (Op dest expr next) is s = value_new p' regs (expr_value regs expr) ZeroDivisor (λ v. On next (slice_set regs dest.0 v) m [])
        (λ v st a q new. lost (Op dest expr next) next q is refl (contains-head next []) new)
    new_on (Move pairs next) is s = λ st a q new. lost (Move pairs next) next q is refl (contains-head next []) new
    new_on (Call dest g args next) is s = λ v st a q new. lost (Call dest g args next) next q is refl (contains-head next []) new
    new_on (Return value) is s = tt
    new_on (Print value next) is s = λ st a q new. lost (Print value next) next q is refl (contains-head next []) new
    new_on (Load dest address next) is s = value_new p' regs (cell m (operand_value regs address)) (BadAddress (operand_value regs address))
        (λ v. On next (slice_set regs dest.0 v) m []) (λ v st a q new. lost (Load dest address next) next q is refl (contains-head next []) new)
    new_on (Store address value next) is s = value_new p' regs (cell m (operand_value regs address)) (BadAddress (operand_value regs address))
        (λ w. On next regs (with_cell m (operand_value regs address) (operand_value regs value)) [])
        (λ w st a q new. lost (Store address value next) next q is refl (contains-head next []) new)
    new_on (Fail g l) is s = tt

  first_own : (regs : List ℤ) (st : Stack) (a : Arrives P code code.entry regs st) (q : Back) → New (r code.entry) q → IsOwn P a.place regs q
  unfolding New
  first_own regs st a q new =
      let step = d.can.steps new.0 new.1 new.2 in
      let is : code.entry ≡ on_path path new.0 = r_same code.entry (on_path path new.0) sound.named.entry (in_code.within new.0 new.2) new.3 in
      absurd (entry_other code (on_path path new.0) (on_path path (new.0 - 1)) step.edge.place step.one step.edge.at step.edge.goes is)

  pub delayed_sound : Sound P context f made
  delayed_sound = subst (Sound P context f) (sym d.is.same)
      (inserted_sound P context f code code' e s r New inserted sound named'
      (λ x p p' at at' kept regs m fit. new_on x p p' at at' kept regs m p.instr refl (sound.places x p at regs m fit))
      first_own rows)
