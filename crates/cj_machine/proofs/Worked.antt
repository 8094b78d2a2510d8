-- Worked runs, computed by the definitions.
use Rattle.std.proofs.Common.{◌≡◌, ℕ, List, [], ◌∷◌, Option, Some, None, refl, replicate}
use Rattle.std.specs.Prelude.{ℤ, pos}
use Rattle.std.specs.Option.{option_map}
use Rattle.cj_ir.specs.Values.{wrap}
use Rattle.cj_ir.specs.declared.language.FunId.{FunId}
use Rattle.cj_ir.specs.declared.language.Label.{Label}
use Rattle.cj_ir.specs.declared.language.Reg.{Reg}
use Rattle.cj_ir.specs.declared.language.Operand.{Operand}
use Rattle.cj_ir.specs.declared.language.Operand.TheVariants as operand
use Rattle.cj_ir.specs.declared.language.Expr.TheVariants.{Add, Mul}
use Rattle.cj_ir.specs.declared.language.Guard.TheVariants.{Is, Never}
use Rattle.cj_ir.specs.declared.language.Line.{Line}
use Rattle.cj_ir.specs.declared.language.Function.{Function}
use Rattle.cj_ir.specs.declared.language.Program.{Program}
use Rattle.cj_ir.specs.declared.language.Instr.{Instr}
use Rattle.cj_ir.specs.declared.language.Instr.TheVariants as base
use Rattle.cj_base.specs.declared.machine.End.{End}
use Rattle.cj_base.specs.declared.machine.End.TheVariants.{Returned}
use Rattle.cj_base.specs.Machine.{with_value, branch, op_effect, effect, end_of, entry_regs, entry_frame, waits, resumed}
use Rattle.cj_base.specs.Run.{Begun}
use Rattle.cj_draft.specs.declared.points.PointFrame.{PointFrame}
use Rattle.cj_draft.specs.declared.points.Point.{Point}
use Rattle.cj_draft.specs.declared.facts.Facts.TheVariants.{Known}
use Rattle.cj_draft.specs.declared.instructions.VInstr.{VInstr}
use Rattle.cj_draft.specs.declared.instructions.VInstr.TheVariants.{Op, Move, Cond, Return, Print, Assume}
use Rattle.cj_draft.specs.declared.code.Place.{Place}
use Rattle.cj_draft.specs.declared.code.Code.{Code}
use Rattle.cj_draft.specs.Points.{frame_regs, top_of, waiting_of, stack_of, frames_of}
use Rattle.cj_draft.specs.Effects.{guard_holds, guards_hold, moved, version_effect}
use Rattle.cj_draft.specs.BaseBody.{as_version, identity, base_point, base_place, base_places, base_code}
use Rattle.cj_calls.specs.declared.report.Look.{Look}
use Rattle.cj_calls.specs.declared.report.Note.{Note}
use Rattle.cj_calls.specs.declared.report.Report.{Report}
use Rattle.cj_machine.specs.Versions.{Codes, place_in, moved_to, paused, version_entry, entered_at, offset_told, entered, counted, enters, resumed_by}
use Rattle.cj_machine.specs.Versions.{resumed_at, returns_to, turn_by, passed, keep_note, rebuilt, version_turn_by, turn_in_base, turn_in_version, turn_of}
use Rattle.cj_machine.specs.Versions.{version_turn}
use Rattle.cj_machine.specs.VersionRuns.{first_state, begins_in, version_start, one_turn_more, version_run, report_of, if_used, report_at, version_report}

-- ---- programs and codes, by their numbers

fun : ℕ → FunId
fun n = record { 0 = n }

label : ℕ → Label
label n = record { 0 = n }

reg : ℕ → Reg
reg n = record { 0 = n }

r : ℕ → Operand
r n = operand.Reg (record { 0 = n })

lines : List Instr → List Line
lines [] = []
lines (i ∷ is) = record { name = 0; instr = i } ∷ lines is

function : ℕ → ℕ → List Instr → Function
function params regs code = record { name = []; params = params; regs = replicate regs []; code = lines code }

place : Point → VInstr → Place
place point instr = record { instr = instr; point = point; facts = Known []; backs = record { turns = 0; point = point } ∷ [] }

frame : ℕ → ℕ → ℕ → List Operand → PointFrame
frame f l dest map = record { function = record { 0 = f }; label = record { 0 = l }; dest = record { 0 = dest }; map = map }

only : Code → Codes
only code f offset = Some code

call_of : List ℤ → Begun
call_of args = record { function = record { 0 = 0 }; args = args; memory = []; limit = 30 }

look : ℕ → ℕ → Look
look f offset = record { function = record { 0 = f }; offset = offset }

-- prints, end, turns, base turns and fails of a report
told : Option Report → Option (List ℤ × End × ℕ × ℕ × ℕ)
told o = option_map (λ x. (x.printed, x.end, x.turns, x.base_turns, x.fails)) o

noted : Option Report → Option (List Note)
noted o = option_map (λ x. x.notes) o

-- ---- an immediate Assume: r = n * 2, print r, return r, guessed at n = 5

doubles : Program
doubles = record {
  functions = function 1 2 (base.Op (reg 1) (Mul (r 0) (operand.Const (pos 2))) (label 1) ∷ base.Print (r 1) (label 2) ∷ base.Return (r 1)
      ∷ []) ∷ [];
}

at_doubles : ℕ → Point
at_doubles l = record { frames = frame 0 l 0 (r 0 ∷ r 1 ∷ []) ∷ [] }

guarded_double : Code
guarded_double = record {
  function = fun 0;
  regs = 2;
  entry = label 3;
  places = place (at_doubles 0) (Op (reg 1) (Mul (r 0) (operand.Const (pos 2))) (label 1))
      ∷ place (at_doubles 1) (Print (r 1) (label 2))
      ∷ place (at_doubles 2) (Return (r 1))
      ∷ place (at_doubles 0) (Assume (Is (reg 0) (pos 5) ∷ []) 0 (at_doubles 0) (label 0))
      ∷ [];
}

guard_holds_at_5 : told (version_report doubles (only guarded_double) (look 0 2 ∷ []) (call_of (pos 5 ∷ [])))
    ≡ Some (wrap (pos 10) ∷ [], Returned (wrap (pos 10)), 4, 3, 0)
unfolding version_report report_at if_used report_of version_run one_turn_more version_start begins_in first_state version_turn turn_of turn_in_version
    turn_in_base version_turn_by rebuilt keep_note passed turn_by returns_to resumed_at resumed_by enters counted entered offset_told entered_at version_entry
    paused moved_to place_in guard_holds guards_hold moved version_effect frame_regs top_of waiting_of stack_of frames_of with_value branch op_effect effect
    end_of entry_regs entry_frame waits resumed fun label reg r lines function place frame only call_of look told doubles at_doubles guarded_double
guard_holds_at_5 = refl

guard_fails_at_6 : told (version_report doubles (only guarded_double) (look 0 2 ∷ []) (call_of (pos 6 ∷ [])))
    ≡ Some (wrap (pos 12) ∷ [], Returned (wrap (pos 12)), 4, 3, 1)
unfolding version_report report_at if_used report_of version_run one_turn_more version_start begins_in first_state version_turn turn_of turn_in_version
    turn_in_base version_turn_by rebuilt keep_note passed turn_by returns_to resumed_at resumed_by enters counted entered offset_told entered_at version_entry
    paused moved_to place_in guard_holds guards_hold moved version_effect frame_regs top_of waiting_of stack_of frames_of with_value branch op_effect effect
    end_of entry_regs entry_frame waits resumed fun label reg r lines function place frame only call_of look told doubles at_doubles guarded_double
guard_fails_at_6 = refl

-- ---- a delayed Assume takes its turn back: cond n, print 1 or print 2, return n

branches : Program
branches = record {
  functions = function 1 1 (base.Cond (r 0) (label 1) (label 2) ∷ base.Print (operand.Const (pos 1)) (label 3)
      ∷ base.Print (operand.Const (pos 2)) (label 3) ∷ base.Return (r 0) ∷ []) ∷ [];
}

at_branches : ℕ → Point
at_branches l = record { frames = frame 0 l 0 (r 0 ∷ []) ∷ [] }

cold_branch : Code
cold_branch = record {
  function = fun 0;
  regs = 1;
  entry = label 0;
  places = place (at_branches 0) (Cond (r 0) (label 1) (label 4))
      ∷ place (at_branches 1) (Print (operand.Const (pos 1)) (label 3))
      ∷ place (at_branches 2) (Print (operand.Const (pos 2)) (label 3))
      ∷ place (at_branches 3) (Return (r 0))
      ∷ place (at_branches 2) (Assume (Never ∷ []) 1 (at_branches 0) (label 2))
      ∷ [];
}

delayed_assume_takes_its_turn_back : told (version_report branches (only cold_branch) (look 0 2 ∷ []) (call_of (pos 0 ∷ [])))
    ≡ Some (pos 2 ∷ [], Returned (pos 0), 5, 3, 1)
unfolding version_report report_at if_used report_of version_run one_turn_more version_start begins_in first_state version_turn turn_of turn_in_version
    turn_in_base version_turn_by rebuilt keep_note passed turn_by returns_to resumed_at resumed_by enters counted entered offset_told entered_at version_entry
    paused moved_to place_in guard_holds guards_hold moved version_effect frame_regs top_of waiting_of stack_of frames_of with_value branch op_effect effect
    end_of entry_regs entry_frame waits resumed fun label reg r lines function place frame only call_of look told branches at_branches cold_branch
delayed_assume_takes_its_turn_back = refl

-- ---- two inlined frames: main calls mid, which calls low, which prints; a guard fails in low

nested : Program
nested = record {
  functions = function 1 2 (base.Call (reg 1) (fun 1) (r 0 ∷ []) (label 1) ∷ base.Return (r 1) ∷ [])
      ∷ function 1 2 (base.Call (reg 1) (fun 2) (r 0 ∷ []) (label 1) ∷ base.Op (reg 1) (Add (r 1) (operand.Const (pos 1))) (label 2) ∷ base.Return (r 1) ∷ [])
      ∷ function 1 1 (base.Print (r 0) (label 1) ∷ base.Return (r 0) ∷ [])
      ∷ [];
}

two_inlined_frames : Code
two_inlined_frames =
    let main : PointFrame = frame 0 1 1 (r 0 ∷ r 1 ∷ []) in
    let mid : PointFrame = frame 1 1 1 (r 2 ∷ r 3 ∷ []) in
    record {
      function = fun 0;
      regs = 5;
      entry = label 0;
      places = place (record { frames = frame 0 0 0 (r 0 ∷ r 1 ∷ []) ∷ [] })
          (Move (record { dest = reg 2; value = r 0 } ∷ record { dest = reg 3; value = operand.Const (pos 0) } ∷ []) (label 1))
          ∷ place (record { frames = frame 1 0 0 (r 2 ∷ r 3 ∷ []) ∷ main ∷ [] }) (Move (record { dest = reg 4; value = r 2 } ∷ []) (label 2))
          ∷ place (record { frames = frame 2 0 0 (r 4 ∷ []) ∷ mid ∷ main ∷ [] }) (Print (r 4) (label 3))
          ∷ place (record { frames = frame 2 1 0 (r 4 ∷ []) ∷ mid ∷ main ∷ [] })
          (Assume (Never ∷ []) 0 (record { frames = frame 2 1 0 (r 4 ∷ []) ∷ mid ∷ main ∷ [] }) (label 3))
          ∷ [];
    }

two_frames_are_rebuilt : told (version_report nested (only two_inlined_frames) (look 0 2 ∷ []) (call_of (pos 5 ∷ [])))
    ≡ Some (pos 5 ∷ [], Returned (wrap (pos 6)), 8, 7, 1)
unfolding version_report report_at if_used report_of version_run one_turn_more version_start begins_in first_state version_turn turn_of turn_in_version
    turn_in_base version_turn_by rebuilt keep_note passed turn_by returns_to resumed_at resumed_by enters counted entered offset_told entered_at version_entry
    paused moved_to place_in guard_holds guards_hold moved version_effect frame_regs top_of waiting_of stack_of frames_of with_value branch op_effect effect
    end_of entry_regs entry_frame waits resumed fun label reg r lines function place frame only call_of look told nested two_inlined_frames
two_frames_are_rebuilt = refl

the_rebuilt_frames : noted (version_report nested (only two_inlined_frames) (look 0 2 ∷ []) (call_of (pos 5 ∷ []))) ≡ Some (record {
  turn = 3;
  top = record { function = record { 0 = 2 }; label = record { 0 = 1 }; regs = pos 5 ∷ [] };
  waiting = record { function = record { 0 = 1 }; label = record { 0 = 1 }; regs = pos 5 ∷ pos 0 ∷ []; dest = record { 0 = 1 } }
      ∷ record { function = record { 0 = 0 }; label = record { 0 = 1 }; regs = pos 5 ∷ pos 0 ∷ []; dest = record { 0 = 1 } }
      ∷ [];
} ∷ [])
unfolding version_report report_at if_used report_of version_run one_turn_more version_start begins_in first_state version_turn turn_of turn_in_version
    turn_in_base version_turn_by rebuilt keep_note passed turn_by returns_to resumed_at resumed_by enters counted entered offset_told entered_at version_entry
    paused moved_to place_in guard_holds guards_hold moved version_effect frame_regs top_of waiting_of stack_of frames_of with_value branch op_effect effect
    end_of entry_regs entry_frame waits resumed fun label reg r lines function place frame only call_of look noted nested two_inlined_frames
the_rebuilt_frames = refl

-- ---- versions that call versions: each body is its base body's copy

bodies : Codes
bodies f offset = Some (base_code nested f)

versions_call_versions : told (version_report nested bodies (look 0 2 ∷ look 1 3 ∷ look 2 0 ∷ []) (call_of (pos 5 ∷ [])))
    ≡ Some (pos 5 ∷ [], Returned (wrap (pos 6)), 7, 7, 0)
unfolding version_report report_at if_used report_of version_run one_turn_more version_start begins_in first_state version_turn turn_of turn_in_version
    turn_in_base version_turn_by rebuilt keep_note passed turn_by returns_to resumed_at resumed_by enters counted entered offset_told entered_at version_entry
    paused moved_to place_in guard_holds guards_hold moved version_effect frame_regs top_of waiting_of stack_of frames_of with_value branch op_effect effect
    end_of entry_regs entry_frame waits resumed as_version identity base_point base_place base_places base_code fun label reg r lines function place frame
    call_of look told nested bodies
versions_call_versions = refl

-- over a trail that is too long there is no report
unused_looks : told (version_report nested bodies (look 0 2 ∷ look 1 3 ∷ look 2 0 ∷ look 2 0 ∷ []) (call_of (pos 5 ∷ []))) ≡ None
unfolding version_report report_at if_used report_of version_run one_turn_more version_start begins_in first_state version_turn turn_of turn_in_version
    turn_in_base version_turn_by rebuilt keep_note passed turn_by returns_to resumed_at resumed_by enters counted entered offset_told entered_at version_entry
    paused moved_to place_in guard_holds guards_hold moved version_effect frame_regs top_of waiting_of stack_of frames_of with_value branch op_effect effect
    end_of entry_regs entry_frame waits resumed as_version identity base_point base_place base_places base_code fun label reg r lines function place frame
    call_of look told nested bodies
unused_looks = refl
