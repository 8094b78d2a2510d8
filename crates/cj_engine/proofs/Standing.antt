-- Where a state stands for the base run, a turn can be made.
use Rattle.std.proofs.Common.{◌≡◌, refl, subst, arith, ◌<◌, ◌≤◌, ℕ, List, [], ◌∷◌, length, Option, None, Some}
use Rattle.std.specs.Prelude.{All, slice_get, IsSomeAnd}
use Rattle.cj_ir.specs.declared.language.FunId.{FunId}
use Rattle.cj_ir.specs.declared.language.Function.{Function}
use Rattle.std.proofs.lemmas.List.Elements.{All-head}
use Rattle.std.proofs.lemmas.Option.{slice_get_within}
use Rattle.cj_ir.specs.WellFormed.{IsWellFormed, Takes}
use Rattle.cj_ir.specs.Program.{reg_count}
use Rattle.cj_ir.specs.declared.language.Program.{Program}
use Rattle.cj_ir.specs.declared.language.Label.{Label}
use Rattle.cj_ir.specs.declared.language.Guard.{Guard}
use Rattle.cj_base.specs.Run.{Begun}
use Rattle.cj_draft.specs.declared.points.Point.{Point}
use Rattle.cj_draft.specs.declared.instructions.VInstr.{VInstr}
use Rattle.cj_draft.specs.declared.instructions.VInstr.TheVariants.{Nop, Op, Move, Cond, Call, Return, Print, Load, Store, Fail, Assume, Anchor}
use Rattle.cj_activations.specs.Activations.{Active, InBase, InVersion, Paused, BaseWaits, VersionWaits}
use Rattle.cj_machine.specs.Versions.{State, Codes}
use Rattle.cj_machine.specs.CodeMaps.{SoundCodes}
use Rattle.cj_machine.specs.Stands.{Stands}
use Rattle.cj_machine.specs.Stepping.{CanTake, CanGoBack}
use Rattle.cj_engine.specs.Engines.{TopReady, CanTurn}
use Rattle.cj_machine.specs.CallRuns.{IsUnderWay}
use Rattle.cj_machine.proofs.Counting.{counts_within}
use Rattle.cj_engine.proofs.Existing.{TopExists, PausedExists, top_exists, waiting_exist, back_within}

can_take : (P : Program) (codes : Codes) (waiting : List Paused) → All (PausedExists P codes) waiting → CanTake codes waiting
can_take P codes [] all = tt
can_take P codes (BaseWaits w ∷ others) all =
    let h = All-head (PausedExists P codes) (BaseWaits w) others all in
    let same : length w.regs ≡ reg_count P w.function = h.frame.all_regs in
    let within = h.dest_within in
    rw same within
can_take P codes (VersionWaits v ∷ others) all =
    let h = All-head (PausedExists P codes) (VersionWaits v) others all in
    record {
      code = h.version.code;
      place = h.version.place;
      found = h.version.found;
      at = h.version.at;
      dest = h.dest;
      function = h.function;
      args = h.args;
      next = h.next;
      instr = h.instr;
      within = h.dest_within;
    }

back_of : (base_turns : ℕ) (i : VInstr) →
    ((guards : List Guard) (back : ℕ) (target : Point) (next : Label) → i ≡ Assume guards back target next → back ≤ base_turns) → CanGoBack base_turns i
back_of n (Nop next) h = tt
back_of n (Op dest expr next) h = tt
back_of n (Move pairs next) h = tt
back_of n (Cond test then_to else_to) h = tt
back_of n (Call dest f args next) h = tt
back_of n (Return value) h = tt
back_of n (Print value next) h = tt
back_of n (Load dest address next) h = tt
back_of n (Store address value next) h = tt
back_of n (Fail f label) h = tt
back_of n (Assume guards back target next) h = h guards back target next refl
back_of n (Anchor back target next) h = tt

inside_of : (P : Program) (f : FunId) (o : Option Function) → slice_get P.functions f.0 ≡ o → (Q : Function → Type 0) → IsSomeAnd o Q → f.0 < length P.functions
inside_of P f None is Q h = absurd h
inside_of P f (Some g) is Q h = slice_get_within P.functions f.0 g is

module _ (P : Program) (codes : Codes) (formed : IsWellFormed P) (sound : SoundCodes P codes) (call : Begun)
    (takes : Takes P.functions call.function (length call.args)) (s : State) (d : Stands P codes call s) where
  top_ready : (a : Active) → s.stack.top ≡ a → TopExists P codes a → TopReady P codes s.base_turns a
  top_ready (InBase fr) is h = record { label_within = h.frame.label_within; instr = h.instr; at = h.at; fine = h.fine }
  top_ready (InVersion v) is h =
      let named = h.sound.named in
      record {
        code = h.code;
        place = h.place;
        found = h.found;
        at = h.at;
        inside = inside_of P v.function (slice_get P.functions v.function.0) refl _
            (subst (λ (f : FunId). IsSomeAnd (slice_get P.functions f.0) (λ g. g.params ≤ h.code.regs)) h.sound.function named.params);
        few_regs = rw h.all_regs named.few_regs;
        fine = h.fine;
        back = back_of s.base_turns h.place.instr
            (λ guards back target next instr. back_within P codes formed sound call takes s v h.code h.place guards back target next d is h.found h.at instr);
      }

  pub can_turn : s.turns < 1000000 → CanTurn P codes s
  can_turn few =
      let counts = counts_within s d.since d.row d.counts in
      record {
        early = record { turns = few; base_turns = counts.0; fails = counts.1 };
        top = top_ready s.stack.top refl (top_exists P codes formed sound call takes s d);
        waiting = can_take P codes s.stack.waiting (waiting_exist P codes formed sound call takes s d);
      }

pub way_turns : (P : Program) (codes : Codes) (s : State) → IsWellFormed P → SoundCodes P codes → IsUnderWay P codes s → CanTurn P codes s
way_turns P codes s formed sound w =
    let before = w.before in
    let limit = w.limit in
    can_turn P codes formed sound w.call w.takes s w.stands (omega arith)
