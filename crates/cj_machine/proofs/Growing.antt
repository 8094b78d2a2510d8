-- More code and a longer trail change no turn that is defined, and keep what a state stands for.
use Rattle.std.proofs.Common.{◌≡◌, ℕ, zero, suc, ◌⊎◌, true, false, List, [], ◌∷◌, ◌++◌, Option, Some, None, refl, sym, ap, ◌∙◌, inl, inr, ⊎_elim}
use Rattle.std.specs.Prelude.{ℤ, slice_get}
use Rattle.std.specs.Option.{option_and_then, option_map}
use Rattle.cj_ir.specs.Program.{instr_at}
use Rattle.cj_ir.specs.declared.language.FunId.{FunId}
use Rattle.cj_ir.specs.declared.language.Program.{Program}
use Rattle.cj_ir.specs.declared.language.Instr.{Instr}
use Rattle.cj_base.specs.declared.machine.Frame.{Frame}
use Rattle.cj_base.specs.declared.machine.Waiting.{Waiting}
use Rattle.cj_base.specs.Machine.{Stack, Effect, On, Calls, Returns, Faults, effect}
use Rattle.cj_base.specs.Run.{Begun}
use Rattle.cj_draft.specs.declared.code.Place.{Place}
use Rattle.cj_draft.specs.declared.code.Code.{Code}
use Rattle.cj_draft.specs.Effects.{VersionEffect, Plain, Guarded, version_effect}
use Rattle.cj_draft.specs.Arrives.{place_at}
use Rattle.cj_calls.specs.declared.report.Look.{Look}
use Rattle.cj_activations.specs.Activations.{VersionFrame, Active, InBase, InVersion, Paused, BaseWaits, VersionWaits}
use Rattle.cj_machine.specs.Versions.{State, Codes, Progress, Undefined, place_in, paused, version_entry, entered_at, offset_told, entered, enters, resumed_at}
use Rattle.cj_machine.specs.Versions.{returns_to, turn_by, version_turn_by, turn_in_base, turn_in_version, turn_of, version_turn}
use Rattle.cj_machine.specs.Marks.{place_marks, marks_in, turn_marks}
use Rattle.cj_machine.specs.CodeMaps.{Grows}
use Rattle.cj_machine.specs.Stands.{IsPlaced, PausedIs, PausedAre, TopStands, Stands}

-- what was there is the same later
abbrev pub IsKept : {A : Type 0} → Option A → Option A → Type 0
IsKept o later = (o ≡ None) ⊎ (o ≡ later)

abbrev pub Kept : Progress → Progress → Type 0
Kept o later = (o ≡ Undefined) ⊎ (o ≡ later)

pub grows_more : (codes later last : Codes) → Grows codes later → Grows later last → Grows codes last
grows_more codes later last g h f offset code found = h f offset code (g f offset code found)

-- the next look, in a longer trail
pub look_kept : (trail more : List Look) (n : ℕ) → IsKept (slice_get trail n) (slice_get (trail ++ more) n)
look_kept [] more n = inl refl
look_kept (x ∷ trail) more zero = inr refl
look_kept (x ∷ trail) more (suc n) = look_kept trail more n

-- ---- a state that stands

module _ (P : Program) (call : Begun) (codes later : Codes) (g : Grows codes later) where
  abbrev placed_grows : (v : VersionFrame) → IsPlaced codes v → IsPlaced later v
  placed_grows v p =
      record { code = p.code; place = p.place; found = g v.function v.offset p.code p.found; at = p.at; admits = p.admits }

  paused_grows : (a : Paused) (frames : List Waiting) → PausedIs P codes a frames → PausedIs P later a frames
  paused_grows (BaseWaits w) frames h = h
  paused_grows (VersionWaits v) frames h =
      record { placed = placed_grows v h.placed; dest = h.dest; function = h.function; args = h.args; next = h.next; instr = h.instr; same = h.same }

  all_grow : (callers : List Paused) (frames : List Waiting) → PausedAre P codes callers frames → PausedAre P later callers frames
  all_grow [] frames h = h
  all_grow (a ∷ others) frames h = (h.0, h.1, paused_grows a h.0 h.2, all_grow others h.1 h.3, h.4)

  top_grows : (s : State) (below : List Waiting) (row : ℕ) (a : Active) (stack : Stack) → TopStands P codes call s below row a stack →
      TopStands P later call s below row a stack
  top_grows s below row (InBase fr) stack h = h
  top_grows s below row (InVersion v) stack h =
      record { placed = placed_grows v h.placed; same = h.same; backs = h.backs; ahead = h.ahead }

  -- a state that stands still stands when code is added
  pub stands_grows : (s : State) → Stands P codes call s → Stands P later call s
  stands_grows s h = record {
    stack = h.stack;
    below = h.below;
    since = h.since;
    row = h.row;
    run = h.run;
    top = top_grows s h.below h.row s.stack.top h.stack h.top;
    waiting = all_grow s.stack.waiting h.below h.waiting;
    counts = h.counts;
    notes = h.notes;
  }

-- ---- turns

module _ (P : Program) (codes later : Codes) (g : Grows codes later) where
  code_kept : (v : VersionFrame) (o : Option Code) → codes v.function v.offset ≡ o →
      IsKept (option_and_then (λ (c : Code). place_at c v.label) o) (place_in later v)
  unfolding place_in
  code_kept v None e = inl refl
  code_kept v (Some code) e = inr (sym (ap (option_and_then (λ (c : Code). place_at c v.label)) (g v.function v.offset code e)))

  pub place_kept : (v : VersionFrame) → IsKept (place_in codes v) (place_in later v)
  unfolding place_in
  place_kept v = code_kept v (codes v.function v.offset) refl

  by_place : (v : VersionFrame) (go : Option Place → Progress) → go None ≡ Undefined → Kept (go (place_in codes v)) (go (place_in later v))
  by_place v go none = ⊎_elim (λ e. inl (ap go e ∙ none)) (λ e. inr (ap go e)) (place_kept v)

  offset_kept : (f : FunId) (n : ℕ) (args : List ℤ) (o : Option Code) → codes f n ≡ o →
      IsKept (option_map (version_entry f n args) o) (option_map (version_entry f n args) (later f n))
  offset_kept f n args None e = inl refl
  offset_kept f n args (Some code) e = inr (sym (ap (option_map (version_entry f n args)) (g f n code e)))

  at_kept : (f : FunId) (args : List ℤ) (n : ℕ) → IsKept (entered_at P codes f args n) (entered_at P later f args n)
  unfolding entered_at
  at_kept f args zero = inr refl
  at_kept f args (suc n) = offset_kept f (suc n) args (codes f (suc n)) refl

  told_kept : (f : FunId) (args : List ℤ) (o : Option ℕ) →
      IsKept (option_and_then (entered_at P codes f args) o) (option_and_then (entered_at P later f args) o)
  told_kept f args None = inl refl
  told_kept f args (Some n) = at_kept f args n

  pub entered_kept : (look next : Option Look) → IsKept look next → (f : FunId) (args : List ℤ) →
      IsKept (entered P codes look f args) (entered P later next f args)
  unfolding entered
  entered_kept look next kept f args =
      let told = λ (o : Option Look). option_and_then (entered_at P codes f args) (option_and_then (offset_told f) o) in
      ⊎_elim (λ none. inl (ap told none))
      (λ same. ⊎_elim (λ none. inl (ap told same ∙ none)) (λ k. inr (ap told same ∙ k)) (told_kept f args (option_and_then (offset_told f) next)))
      kept

  enters_kept : (s : State) (caller : Paused) (o o' : Option Active) → IsKept o o' → Kept (enters s caller o) (enters s caller o')
  unfolding enters
  enters_kept s caller o o' kept = ⊎_elim (λ none. inl (ap (enters s caller) none)) (λ same. inr (ap (enters s caller) same)) kept

  returns_kept : (s : State) (value : ℤ) (callers : List Paused) → Kept (returns_to codes s value callers) (returns_to later s value callers)
  unfolding returns_to resumed_at
  returns_kept s value [] = inr refl
  returns_kept s value (BaseWaits w ∷ others) = inr refl
  returns_kept s value (VersionWaits v ∷ others) = by_place v (resumed_at s others v value) refl

  module _ (look next : Option Look) (kept : IsKept look next) where
    by_kept : (s : State) (top : Active) (e : Effect) → Kept (turn_by P codes look s top e) (turn_by P later next s top e)
    unfolding turn_by
    by_kept s top (On label regs m printed) = inr refl
    by_kept s top (Calls dest f args label) =
        enters_kept s (paused top label dest) (entered P codes look f args) (entered P later next f args) (entered_kept look next kept f args)
    by_kept s top (Returns value) = returns_kept s value s.stack.waiting
    by_kept s top (Faults fault) = inr refl

    version_by_kept : (s : State) (v : VersionFrame) (e : VersionEffect) → Kept (version_turn_by P codes look s v e) (version_turn_by P later next s v e)
    unfolding version_turn_by
    version_by_kept s v (Plain e) = by_kept s (InVersion v) e
    version_by_kept s v (Guarded true back target label) = inr refl
    version_by_kept s v (Guarded false back target label) = inr refl

    version_kept : (s : State) (v : VersionFrame) (o : Option Place) → Kept (turn_in_version P codes look s v o) (turn_in_version P later next s v o)
    unfolding turn_in_version
    version_kept s v None = inr refl
    version_kept s v (Some place) = version_by_kept s v (version_effect place.instr v.regs s.memory)

    base_kept : (s : State) (fr : Frame) (o : Option Instr) → Kept (turn_in_base P codes look s fr o) (turn_in_base P later next s fr o)
    unfolding turn_in_base
    base_kept s fr None = inr refl
    base_kept s fr (Some i) = by_kept s (InBase fr) (effect i fr s.memory)

    top_kept : (s : State) (a : Active) → Kept (turn_of P codes look s a) (turn_of P later next s a)
    unfolding turn_of turn_in_version
    top_kept s (InBase fr) = base_kept s fr (instr_at P fr.function fr.label)
    top_kept s (InVersion v) =
        ⊎_elim (λ none. inl none)
        (λ same. ⊎_elim (λ none. inl (same ∙ none)) (λ k. inr (same ∙ k)) (by_place v (turn_in_version P later next s v) refl))
        (version_kept s v (place_in codes v))

    -- a turn that is defined is the same over more code, and over a look where there was none
    pub turn_kept : (s : State) → Kept (version_turn P codes look s) (version_turn P later next s)
    unfolding version_turn
    turn_kept s = top_kept s s.stack.top

  -- ---- marks

  marks_kept_in : (look : Option Look) (s : State) (a : Active) →
      (turn_of P codes look s a ≡ Undefined) ⊎ (marks_in P codes s.memory a ≡ marks_in P later s.memory a)
  unfolding turn_of turn_in_version marks_in
  marks_kept_in look s (InBase fr) = inr refl
  marks_kept_in look s (InVersion v) =
      ⊎_elim (λ none. inl (ap (turn_in_version P codes look s v) none)) (λ same. inr (ap (place_marks v s.memory) same)) (place_kept v)

  -- the marks of a turn that is defined are the same over more code
  pub marks_kept : (look : Option Look) (s : State) → (version_turn P codes look s ≡ Undefined) ⊎ (turn_marks P codes s ≡ turn_marks P later s)
  unfolding version_turn turn_marks
  marks_kept look s = marks_kept_in look s s.stack.top
