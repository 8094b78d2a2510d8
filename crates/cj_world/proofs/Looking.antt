-- Which turns use a look.
use Rattle.std.proofs.Common.{◌≡◌, refl, ℕ, ◌+◌, List, [], ◌∷◌, Option, Some, None, ℤ, true, false, inl, inr}
use Rattle.std.specs.Prelude.{◌⊎◌}
use Rattle.cj_ir.specs.declared.language.Program.{Program}
use Rattle.cj_ir.specs.declared.language.Instr.{Instr}
use Rattle.cj_ir.specs.declared.language.Instr.TheVariants.{Nop, Op, Cond, Call, Return, Print, Load, Store, Fail}
use Rattle.cj_base.specs.declared.machine.Frame.{Frame}
use Rattle.cj_base.specs.Machine.{Effect, On, Calls, Returns, Faults, effect}
use Rattle.cj_draft.specs.declared.instructions.VInstr.{VInstr}
use Rattle.cj_draft.specs.declared.instructions.VInstr.TheVariants as v
use Rattle.cj_draft.specs.declared.code.Place.{Place}
use Rattle.cj_draft.specs.Effects.{VersionEffect, Plain, Guarded, version_effect}
use Rattle.cj_calls.specs.declared.report.Look.{Look}
use Rattle.cj_activations.specs.Activations.{VersionFrame, Active, InBase, InVersion, Paused, BaseWaits, VersionWaits}
use Rattle.cj_machine.specs.Versions.{State, Codes, Progress, Continues, Finishes, Undefined, place_in, entered, counted, enters, resumed_by, resumed_at}
use Rattle.cj_machine.specs.Versions.{returns_to, turn_by, passed, rebuilt, version_turn_by, turn_in_base, turn_in_version, turn_of, version_turn}
use Rattle.cj_machine.specs.Marks.{Mark, effect_marks, base_marks, version_marks, place_marks, marks_in, turn_marks}
use Rattle.cj_world.specs.Worlds.{look_at, looks_of}

-- how many looks were used in all, where a state tells it
abbrev pub used_in : Progress → ℕ → ℕ
used_in (Continues s) otherwise = s.entries
used_in (Finishes end s) otherwise = s.entries
used_in Undefined otherwise = otherwise

-- The turn enters nothing: it is the same whatever the look, and uses none.
pub record Idle (current : List ℕ) (entries : ℕ) (turn : Option Look → Progress) (marks : List Mark) : Type 0 where
  pub none : looks_of current marks ≡ []
  pub same : (a b : Option Look) → turn a ≡ turn b
  pub used : (look : Option Look) → used_in (turn look) entries ≡ entries

-- The turn enters a function, and uses one look.
pub record Looking (current : List ℕ) (entries : ℕ) (turn : Option Look → Progress) (marks : List Mark) : Type 0 where
  pub look : Look
  pub one : looks_of current marks ≡ look ∷ []
  pub used : (given : Option Look) → used_in (turn given) (entries + 1) ≡ entries + 1

abbrev pub Uses : List ℕ → ℕ → (Option Look → Progress) → List Mark → Type 0
Uses current entries turn marks = Idle current entries turn marks ⊎ Looking current entries turn marks

-- a turn that is the same whatever the look
fixed : (current : List ℕ) (entries : ℕ) (p : Progress) (marks : List Mark) → looks_of current marks ≡ [] → used_in p entries ≡ entries
    → Uses current entries (λ (look : Option Look). p) marks
fixed current entries p marks none used = inl (record { none = none; same = λ a b. refl; used = λ look. used })

module _ (P : Program) (codes : Codes) (current : List ℕ) (s : State) where
  resumed_used : (others : List Paused) (f : VersionFrame) (value : ℤ) (instr : VInstr) → used_in (resumed_by s others f value instr) s.entries ≡ s.entries
  unfolding resumed_by counted
  resumed_used others f value (v.Nop next) = refl
  resumed_used others f value (v.Op dest expr next) = refl
  resumed_used others f value (v.Move pairs next) = refl
  resumed_used others f value (v.Cond test then_to else_to) = refl
  resumed_used others f value (v.Call dest function args next) = refl
  resumed_used others f value (v.Return operand) = refl
  resumed_used others f value (v.Print operand next) = refl
  resumed_used others f value (v.Load dest address next) = refl
  resumed_used others f value (v.Store address operand next) = refl
  resumed_used others f value (v.Fail function label) = refl
  resumed_used others f value (v.Assume guards back target next) = refl
  resumed_used others f value (v.Anchor back target next) = refl

  resumed_at_used : (others : List Paused) (f : VersionFrame) (value : ℤ) (place : Option Place)
      → used_in (resumed_at s others f value place) s.entries ≡ s.entries
  unfolding resumed_at
  resumed_at_used others f value None = refl
  resumed_at_used others f value (Some place) = resumed_used others f value place.instr

  returned_used : (value : ℤ) (waiting : List Paused) → used_in (returns_to codes s value waiting) s.entries ≡ s.entries
  unfolding returns_to counted
  returned_used value [] = refl
  returned_used value (BaseWaits w ∷ others) = refl
  returned_used value (VersionWaits f ∷ others) = resumed_at_used others f value (place_in codes f)

  entered_used : (caller : Paused) (top : Option Active) → used_in (enters s caller top) (s.entries + 1) ≡ s.entries + 1
  unfolding enters counted
  entered_used caller None = refl
  entered_used caller (Some top) = refl

  by_effect : (e : Effect) (top : Active) → Uses current s.entries (λ (look : Option Look). turn_by P codes look s top e) (effect_marks e)
  unfolding turn_by effect_marks looks_of counted
  by_effect (On next regs memory printed) top = fixed current s.entries _ [] refl refl
  by_effect (Calls dest f args next) top = inr (record {
    look = look_at current f;
    one = refl;
    used = λ given. entered_used _ (entered P codes given f args);
  })
  by_effect (Returns value) top = fixed current s.entries _ [] refl (returned_used value s.stack.waiting)
  by_effect (Faults fault) top = fixed current s.entries _ [] refl refl

  by_instr : (fr : Frame) (instr : Option Instr)
      → Uses current s.entries (λ (look : Option Look). turn_in_base P codes look s fr instr) (base_marks fr s.memory instr)
  unfolding turn_in_base turn_by effect counted base_marks looks_of
  by_instr fr None = fixed current s.entries Undefined [] refl refl
  by_instr fr (Some (Cond test then_to else_to)) = fixed current s.entries _ _ refl refl
  by_instr fr (Some (Nop next)) = by_effect (effect (Nop next) fr s.memory) (InBase fr)
  by_instr fr (Some (Op dest expr next)) = by_effect (effect (Op dest expr next) fr s.memory) (InBase fr)
  by_instr fr (Some (Call dest f args next)) = by_effect (effect (Call dest f args next) fr s.memory) (InBase fr)
  by_instr fr (Some (Return value)) = by_effect (effect (Return value) fr s.memory) (InBase fr)
  by_instr fr (Some (Print value next)) = by_effect (effect (Print value next) fr s.memory) (InBase fr)
  by_instr fr (Some (Load dest address next)) = by_effect (effect (Load dest address next) fr s.memory) (InBase fr)
  by_instr fr (Some (Store address value next)) = by_effect (effect (Store address value next) fr s.memory) (InBase fr)
  by_instr fr (Some (Fail text)) = by_effect (effect (Fail text) fr s.memory) (InBase fr)

  by_version : (f : VersionFrame) (e : VersionEffect)
      → Uses current s.entries (λ (look : Option Look). version_turn_by P codes look s f e) (version_marks f e)
  unfolding version_turn_by version_marks looks_of passed rebuilt
  by_version f (Plain e) = by_effect e (InVersion f)
  by_version f (Guarded true back target next) = fixed current s.entries _ [] refl refl
  by_version f (Guarded false back target next) = fixed current s.entries _ _ refl refl

  by_place : (f : VersionFrame) (place : Option Place)
      → Uses current s.entries (λ (look : Option Look). turn_in_version P codes look s f place) (place_marks f s.memory place)
  unfolding turn_in_version place_marks looks_of
  by_place f None = fixed current s.entries Undefined [] refl refl
  by_place f (Some place) = by_version f (version_effect place.instr f.regs s.memory)

  by_top : (top : Active) → Uses current s.entries (λ (look : Option Look). turn_of P codes look s top) (marks_in P codes s.memory top)
  unfolding turn_of marks_in
  by_top (InBase fr) = by_instr fr _
  by_top (InVersion f) = by_place f (place_in codes f)

  -- a turn enters a function, and uses the next look, or enters none, and uses no look
  pub turn_uses : Uses current s.entries (λ (look : Option Look). version_turn P codes look s) (turn_marks P codes s)
  unfolding version_turn turn_marks
  turn_uses = by_top s.stack.top
