-- What exists where a state stands for the base run: instructions, places, registers.
use Rattle.std.proofs.Common.{◌≡◌, ℕ, ◌<◌, List, [], ◌∷◌, ◌++◌, length, Some, sym, subst, ◌∙◌, ◌≤◌, ap}
use Rattle.std.proofs.lemmas.Option.{same_Some}
use Rattle.std.proofs.lemmas.List.Elements.{All-cons, All-head, All-tail, All-nil}
use Rattle.std.specs.Prelude.{All}
use Rattle.cj_ir.specs.WellFormed.{IsWellFormed, IsInstrFine, Takes}
use Rattle.cj_ir.specs.Program.{instr_at, label_count}
use Rattle.cj_ir.specs.declared.language.Label.{Label}
use Rattle.cj_ir.specs.declared.language.FunId.{FunId}
use Rattle.cj_ir.specs.declared.language.Operand.{Operand}
use Rattle.cj_ir.specs.declared.language.Reg.{Reg}
use Rattle.cj_ir.specs.declared.language.Program.{Program}
use Rattle.cj_ir.specs.declared.language.Instr.{Instr}
use Rattle.cj_base.specs.declared.machine.Frame.{Frame}
use Rattle.cj_base.specs.declared.machine.Waiting.{Waiting}
use Rattle.cj_base.specs.Machine.{Stack, over}
use Rattle.cj_base.specs.Run.{Begun}
use Rattle.cj_base.proofs.SameLaws.{same_fits}
use Rattle.cj_base.specs.Fits.{IsFrameOf, IsWaitingOf, StackFits}
use Rattle.cj_base.proofs.FitsLemmas.{fine_at, instr_found}
use Rattle.cj_base.proofs.RunLemmas.{run_fits, FitsRun}
use Rattle.cj_draft.specs.declared.instructions.VInstr.TheVariants.{Call, Assume}
use Rattle.cj_draft.specs.declared.code.Place.{Place}
use Rattle.cj_draft.specs.declared.code.Code.{Code}
use Rattle.cj_draft.specs.Arrives.{place_at}
use Rattle.cj_draft.specs.WellNamed.{IsVInstrFine, IsPlaceFine}
use Rattle.cj_draft.specs.declared.points.Point.{Point}
use Rattle.cj_ir.specs.declared.language.Guard.{Guard}
use Rattle.cj_draft.specs.Effects.{guards_hold, version_effect}
use Rattle.cj_draft.specs.Sound.{pair_of, StepsGuarded, SoundEffect, Sound}
use Rattle.cj_ir.proofs.ListReads.{all_at}
use Rattle.cj_activations.specs.Activations.{VersionFrame, Active, InBase, InVersion, Paused, BaseWaits, VersionWaits}
use Rattle.cj_machine.specs.Versions.{State, Codes}
use Rattle.cj_machine.specs.CodeMaps.{SoundCodes}
use Rattle.cj_machine.specs.Stands.{IsPlaced, IsPausedVersion, PausedIs, PausedAre, VersionTop, TopStands, Stands}
use Rattle.cj_machine.proofs.Arms.{place_is}
use Rattle.cj_machine.proofs.Turns.{place_found}

-- ---- what exists for an activation

-- A base frame: its function and label exist, it has all registers, and all that its instruction names exists.
pub record BaseExists (P : Program) (fr : Frame) : Type 0 where
  pub frame : IsFrameOf P fr.function fr.label fr.regs
  pub instr : Instr
  pub at : instr_at P fr.function fr.label ≡ Some instr
  pub fine : IsInstrFine P.functions (length fr.regs) (label_count P fr.function) instr

-- A version: its code and its place exist, it has all registers, and all that its instruction names exists.
pub record VersionExists (P : Program) (codes : Codes) (v : VersionFrame) : Type 0 where
  pub code : Code
  pub place : Place
  pub found : codes v.function v.offset ≡ Some code
  pub at : place_at code v.label ≡ Some place
  pub sound : Sound P [] v.function code
  pub all_regs : length v.regs ≡ code.regs
  pub fine : IsVInstrFine P (length v.regs) (length code.places) place.instr

abbrev pub TopExists : Program → Codes → Active → Type 0
TopExists P codes (InBase fr) = BaseExists P fr
TopExists P codes (InVersion v) = VersionExists P codes v

-- A version that waits is at a call, whose destination is one of its registers.
pub record CallerExists (P : Program) (codes : Codes) (v : VersionFrame) : Type 0 where
  pub version : VersionExists P codes v
  pub dest : Reg
  pub function : FunId
  pub args : List Operand
  pub next : Label
  pub instr : version.place.instr ≡ Call dest function args next
  pub dest_within : dest.0 < length v.regs

abbrev pub PausedExists : Program → Codes → Paused → Type 0
PausedExists P codes (BaseWaits w) = IsWaitingOf P w
PausedExists P codes (VersionWaits v) = CallerExists P codes v

module _ (P : Program) (codes : Codes) (formed : IsWellFormed P) (sound : SoundCodes P codes) where
  base_exists : (fr : Frame) → IsFrameOf P fr.function fr.label fr.regs → BaseExists P fr
  base_exists fr frame =
      let found = instr_found P fr.function fr.label frame.label_within in
      record {
        frame = frame;
        instr = found.0;
        at = found.1;
        fine = subst (λ n. IsInstrFine P.functions n (label_count P fr.function) found.0) (sym frame.all_regs)
            (fine_at P formed fr.function fr.label found.0 found.1);
      }

  pub version_exists : (v : VersionFrame) → IsPlaced codes v → VersionExists P codes v
  version_exists v p =
      let named = (sound v.function v.offset p.code p.found).named in
      let fine : IsPlaceFine P p.code.regs (length p.code.places) p.place =
      all_at (IsPlaceFine P p.code.regs (length p.code.places)) p.code.places v.label.0 p.place named.places p.at in
      record {
        code = p.code;
        place = p.place;
        found = p.found;
        at = p.at;
        sound = sound v.function v.offset p.code p.found;
        all_regs = p.admits.count;
        fine = subst (λ n. IsVInstrFine P n (length p.code.places) p.place.instr) (sym p.admits.count) fine.instr;
      }

  caller_exists : (v : VersionFrame) (frames : List Waiting) → IsPausedVersion P codes v frames → CallerExists P codes v
  unfolding version_exists
  caller_exists v frames w =
      let version = version_exists v w.placed in
      let fine : IsVInstrFine P (length v.regs) (length w.placed.code.places) (Call w.dest w.function w.args w.next) =
      subst (IsVInstrFine P (length v.regs) (length w.placed.code.places)) w.instr version.fine in
      record {
        version = version;
        dest = w.dest;
        function = w.function;
        args = w.args;
        next = w.next;
        instr = w.instr;
        dest_within = fine.0;
      }

  All-front : (xs ys : List Waiting) → All (IsWaitingOf P) (xs ++ ys) → All (IsWaitingOf P) xs × All (IsWaitingOf P) ys
  All-front [] ys all = (All-nil (IsWaitingOf P), all)
  All-front (x ∷ xs) ys all =
      let rest = All-front xs ys (All-tail (IsWaitingOf P) x (xs ++ ys) all) in
      (All-cons (IsWaitingOf P) x xs (All-head (IsWaitingOf P) x (xs ++ ys) all) rest.0, rest.1)

  one_exists : (a : Paused) (frames : List Waiting) → PausedIs P codes a frames → All (IsWaitingOf P) frames → PausedExists P codes a
  one_exists (BaseWaits w) frames is all = All-head (IsWaitingOf P) w [] (subst (All (IsWaitingOf P)) is all)
  one_exists (VersionWaits v) frames is all = caller_exists v frames is

  all_exist : (callers : List Paused) (frames : List Waiting) → PausedAre P codes callers frames → All (IsWaitingOf P) frames →
      All (PausedExists P codes) callers
  all_exist [] frames are all = All-nil (PausedExists P codes)
  all_exist (a ∷ others) frames are all =
      let parts = All-front are.0 are.1 (subst (All (IsWaitingOf P)) are.4 all) in
      All-cons (PausedExists P codes) a others (one_exists a are.0 are.2 parts.0) (all_exist others are.1 are.3 parts.1)

  module _ (call : Begun) (takes : Takes P.functions call.function (length call.args)) where
    -- the base frames of a state fit the program
    frames_fit : (s : State) (d : Stands P codes call s) → StackFits P (over d.stack d.below)
    frames_fit s d =
        same_fits P d.run.found (over d.stack d.below) d.run.same (subst (FitsRun P) d.run.run (run_fits P call formed takes s.base_turns))

    top_exists_by : (s : State) (below : List Waiting) (row : ℕ) (a : Active) (stack : Stack) → TopStands P codes call s below row a stack →
        IsFrameOf P stack.top.function stack.top.label stack.top.regs → TopExists P codes a
    top_exists_by s below row (InBase fr) stack stands frame =
        base_exists fr (subst (λ (x : Stack). IsFrameOf P x.top.function x.top.label x.top.regs) stands frame)
    top_exists_by s below row (InVersion v) stack stands frame = version_exists v stands.placed

    -- what the activation on top needs
    pub top_exists : (s : State) → Stands P codes call s → TopExists P codes s.stack.top
    unfolding over
    top_exists s d = top_exists_by s d.below d.row s.stack.top d.stack d.top (frames_fit s d).top

    -- what those that wait need
    pub waiting_exist : (s : State) → Stands P codes call s → All (PausedExists P codes) s.stack.waiting
    unfolding over
    waiting_exist s d =
        all_exist s.stack.waiting d.below d.waiting (All-front d.stack.waiting d.below (frames_fit s d).waiting).1

    -- ---- an Assume that fails

    placed_of : (v : VersionFrame) (p : IsPlaced codes v) (code : Code) (place : Place) → codes v.function v.offset ≡ Some code →
        place_at code v.label ≡ Some place → p.place ≡ place
    placed_of v p code place found at = same_Some p.place place (sym (place_found codes v p) ∙ place_is codes v code place found at)

    -- the frames that it leaves for are at most as many base turns ago as there were
    pub back_within : (s : State) (v : VersionFrame) (code : Code) (place : Place) (guards : List Guard) (back : ℕ) (target : Point) (next : Label) →
        Stands P codes call s → s.stack.top ≡ InVersion v → codes v.function v.offset ≡ Some code → place_at code v.label ≡ Some place →
        place.instr ≡ Assume guards back target next → back ≤ s.base_turns
    unfolding version_effect
    back_within s v code place guards back target next d top found at is =
        let t : VersionTop P codes call s d.below d.row v d.stack = subst (λ a. TopStands P codes call s d.below d.row a d.stack) top d.top in
        let p = t.placed in
        let instr : p.place.instr ≡ Assume guards back target next = ap (λ (x : Place). x.instr) (placed_of v p code place found at) ∙ is in
        let owes = (sound v.function v.offset p.code p.found).places v.label p.place p.at v.regs s.memory p.admits in
        let guarded : StepsGuarded P p.code p.place v.regs (guards_hold v.regs guards) back target next =
        subst (λ i. SoundEffect P p.code p.place v.regs s.memory (version_effect i v.regs s.memory)) instr owes in
        (t.backs (pair_of back target) guarded.target_in).within
