-- What a step needs for what it leaves to do, where a turn can be made.
use Rattle.std.proofs.Common.{◌≡◌, ◌∙◌, refl, sym, ap, subst, ℕ, ◌<◌, ◌≤◌, List, length, Some, ℤ}
use Rattle.std.specs.Option.{option_map}
use Rattle.cj_calls.specs.declared.report.Look.{Look}
use Rattle.cj_engine.specs.Watching.{Gains}
use Rattle.std.proofs.lemmas.Option.{same_Some}
use Rattle.cj_ir.specs.WellFormed.{IsInstrFine, Takes}
use Rattle.cj_ir.specs.Program.{instr_at, line_at, label_count}
use Rattle.cj_ir.specs.declared.language.FunId.{FunId}
use Rattle.cj_ir.specs.declared.language.Label.{Label}
use Rattle.cj_ir.specs.declared.language.Line.{Line}
use Rattle.cj_ir.specs.declared.language.Program.{Program}
use Rattle.cj_ir.specs.declared.language.Instr.{Instr}
use Rattle.cj_ir.specs.declared.language.Instr.TheVariants as base
use Rattle.cj_base.specs.declared.machine.Frame.{Frame}
use Rattle.cj_draft.specs.declared.code.Place.{Place}
use Rattle.cj_draft.specs.declared.code.Code.{Code}
use Rattle.cj_draft.specs.declared.instructions.VInstr.{VInstr}
use Rattle.cj_draft.specs.declared.instructions.VInstr.TheVariants as version
use Rattle.cj_draft.specs.WellNamed.{IsVInstrFine}
use Rattle.cj_draft.specs.Arrives.{place_at}
use Rattle.cj_activations.specs.declared.windows.Position.TheVariants.{Base, Version}
use Rattle.cj_activations.specs.Activations.{VersionFrame, Active, InBase, InVersion}
use Rattle.cj_activations.specs.Changes.{active_regs, position_of}
use Rattle.cj_machine.specs.declared.steps.Step.{Step}
use Rattle.cj_machine.specs.declared.steps.Step.TheVariants as step
use Rattle.cj_machine.specs.Versions.{State, Codes}
use Rattle.cj_machine.specs.Machines.{IsEarly}
use Rattle.cj_machine.specs.Marks.{IsCond}
use Rattle.cj_machine.specs.Stepping.{Turn, IsStep, IsReady, CanTake, CanGoBack, BaseNeeds, VersionNeeds}
use Rattle.cj_engine.specs.Engines.{TopReady, CanTurn}

-- a base frame on top, at that label of the function
pub record IsBaseTop (P : Program) (a : Active) (f : FunId) (label : Label) : Type 0 where
  pub frame : Frame
  pub top : a ≡ InBase frame
  pub function : frame.function ≡ f
  pub at_label : frame.label ≡ label
  pub label_within : label.0 < label_count P f
  pub instr : Instr
  pub at : instr_at P f label ≡ Some instr
  pub fine : IsInstrFine P.functions (length (active_regs a)) (label_count P f) instr

pub base_top : (P : Program) (codes : Codes) (n : ℕ) (a : Active) (f : FunId) (label : Label) → position_of a ≡ Base f label → TopReady P codes n a →
    IsBaseTop P a f label
unfolding position_of active_regs
base_top P codes n (InBase fr) f label is h =
    let one : fr.function ≡ f = cc in
    let two : fr.label ≡ label = cc in
    record {
      frame = fr;
      top = refl;
      function = one;
      at_label = two;
      label_within = subst (λ (l : Label). l.0 < label_count P f) two (subst (λ (g : FunId). fr.label.0 < label_count P g) one h.label_within);
      instr = h.instr;
      at = subst (λ (l : Label). instr_at P f l ≡ Some h.instr) two (subst (λ (g : FunId). instr_at P g fr.label ≡ Some h.instr) one h.at);
      fine = subst (λ (g : FunId). IsInstrFine P.functions (length fr.regs) (label_count P g) h.instr) one h.fine;
    }
base_top P codes n (InVersion v) f label is h = let never : ⊥ = cc in absurd never

-- the instruction of a line that was found
pub line_instr : (P : Program) (f : FunId) (label : Label) (line : Line) (instr : Instr) → line_at P f label ≡ Some line → instr_at P f label ≡ Some instr →
    instr ≡ line.instr
line_instr P f label line instr found at = same_Some instr line.instr (sym at ∙ ap (option_map (λ (l : Line). l.instr)) found)

-- a version on top, at that label
pub record IsVersionTop (P : Program) (codes : Codes) (n : ℕ) (a : Active) (f : FunId) (offset : ℕ) (label : Label) : Type 0 where
  pub frame : VersionFrame
  pub top : a ≡ InVersion frame
  pub function : frame.function ≡ f
  pub at_label : frame.label ≡ label
  pub code : Code
  pub place : Place
  pub found : codes f offset ≡ Some code
  pub found_own : codes frame.function frame.offset ≡ Some code
  pub at : place_at code label ≡ Some place
  pub at_own : place_at code frame.label ≡ Some place
  pub inside : f.0 < length P.functions
  pub few_regs : length (active_regs a) ≤ 128
  pub fine : IsVInstrFine P (length (active_regs a)) (length code.places) place.instr
  pub back : CanGoBack n place.instr

pub version_top : (P : Program) (codes : Codes) (n : ℕ) (a : Active) (f : FunId) (offset : ℕ) (label : Label) → position_of a ≡ Version f offset label →
    TopReady P codes n a → IsVersionTop P codes n a f offset label
unfolding position_of active_regs
version_top P codes n (InBase fr) f offset label is h = let never : ⊥ = cc in absurd never
version_top P codes n (InVersion v) f offset label is h =
    let one : v.function ≡ f = cc in
    let two : v.label ≡ label = cc in
    let three : v.offset ≡ offset = cc in
    record {
      frame = v;
      top = refl;
      function = one;
      at_label = two;
      code = h.code;
      place = h.place;
      found = subst (λ (o : ℕ). codes f o ≡ Some h.code) three (subst (λ (g : FunId). codes g v.offset ≡ Some h.code) one h.found);
      found_own = h.found;
      at = subst (λ (l : Label). place_at h.code l ≡ Some h.place) two h.at;
      at_own = h.at;
      inside = subst (λ (g : FunId). g.0 < length P.functions) one h.inside;
      few_regs = h.few_regs;
      fine = h.fine;
      back = h.back;
    }

early_of : (before now : State) → now ≡ before → IsEarly before → IsEarly now
early_of before now e early = subst IsEarly (sym e) early

take_of : (codes : Codes) (before now : State) → now ≡ before → CanTake codes before.stack.waiting → CanTake codes now.stack.waiting
take_of codes before now e can = subst (λ (s : State). CanTake codes s.stack.waiting) (sym e) can

pub base_fits : (P : Program) (codes : Codes) (turn : Turn) (args : List ℤ) (f : FunId) (label : Label) (before now : State) (instr : Instr) (step : Step)
    → CanTurn P codes before → instr_at P f label ≡ Some instr → IsInstrFine P.functions (length (active_regs before.stack.top)) (label_count P f) instr
    → BaseNeeds instr args step → IsStep P turn args before now step → IsReady P codes args f label now step
base_fits P codes turn args f label before now instr step.Goes can at fine needs made = tt
base_fits P codes turn args f label before now instr (step.Branches edge) can at fine needs made = subst IsCond (sym at) needs
base_fits P codes turn args f label before now instr (step.Ends end) can at fine needs made = tt
base_fits P codes turn args f label before now instr (step.Enters dest g next) can at fine needs made =
    let call : IsInstrFine P.functions (length (active_regs before.stack.top)) (label_count P f) (base.Call dest g needs.0 next) =
    subst (IsInstrFine P.functions (length (active_regs before.stack.top)) (label_count P f)) needs.1 fine in
    (early_of before now made.0 can.early, subst (Takes P.functions g) (sym needs.2) call.1)
base_fits P codes turn args f label before now instr (step.Returns v) can at fine needs made =
    (early_of before now made.0 can.early, take_of codes before now made.0 can.waiting)
base_fits P codes turn args f label before now instr step.Fails can at fine needs made = absurd needs

pub version_fits : (P : Program) (codes : Codes) (turn : Turn) (args : List ℤ) (f : FunId) (label : Label) (labels : ℕ) (before now : State) (instr : VInstr)
    (step : Step)
    → CanTurn P codes before → f.0 < length P.functions → IsVInstrFine P (length (active_regs before.stack.top)) labels instr
    → VersionNeeds instr args step → IsStep P turn args before now step → IsReady P codes args f label now step
version_fits P codes turn args f label labels before now instr step.Goes can inside fine needs made = tt
version_fits P codes turn args f label labels before now instr (step.Branches edge) can inside fine needs made = absurd needs
version_fits P codes turn args f label labels before now instr (step.Ends end) can inside fine needs made = tt
version_fits P codes turn args f label labels before now instr (step.Enters dest g next) can inside fine needs made =
    let call : IsVInstrFine P (length (active_regs before.stack.top)) labels (version.Call dest g needs.0 next) =
    subst (IsVInstrFine P (length (active_regs before.stack.top)) labels) needs.1 fine in
    (early_of before now made.0 can.early, subst (Takes P.functions g) (sym needs.2) call.1)
version_fits P codes turn args f label labels before now instr (step.Returns v) can inside fine needs made =
    (early_of before now made.0 can.early, take_of codes before now made.0 can.waiting)
version_fits P codes turn args f label labels before now instr step.Fails can inside fine needs made = inside

pub gains_from : (looks first now trail now_trail : List Look) → first ≡ looks → Gains first now trail now_trail → Gains looks now trail now_trail
gains_from looks first now trail now_trail e h = subst (λ (xs : List Look). Gains xs now trail now_trail) e h
