use Rattle.std.proofs.Common.{◌≡◌, ◌≤◌, ◌++◌, ℕ, List, Option, length, take, slice_get, sym, ap, ◌∙◌, subst}
use Rattle.cj_profile.specs.declared.snapshot.EdgeNote.{EdgeNote}
use Rattle.cj_plan.specs.declared.colds.Cold.{Cold}
use Rattle.cj_plan.specs.declared.colds.Targets.{Targets}
use Rattle.cj_plan.specs.Plan.{each_from, cold_by, cold_of}
use Rattle.cj_plan.proofs.Each.{take_few, each_at, room_more}
use Rattle.cj_plan.proofs.colds.colds_in.Goals as goal

pub add_cold-requires : goal.add_cold-requires
add_cold-requires c =
    let give = cold_of c.args.notes.now in
    subst (λ (xs : List Cold). length xs ≤ 64) (sym c.loop-label.invariant) (take_few 64 (each_from give 0 (take c.loop-label.label c.args.code.now)))

pub loop-label-preserved : goal.loop-label-preserved
loop-label-preserved c =
    let notes = c.args.notes.now in
    let code = c.args.code.now in
    let n : ℕ = c.loop-label.label in
    let line = c.index-code-label.result in
    let give = cold_of notes in
    let so_far = each_from give 0 (take n code) in
    let own : c.add_cold.new.colds ≡ take 64 (c.loop-label.colds ++ give n line) =
    c.in_ok-add_cold.ensures
    ∙ (ap (λ (o : Option EdgeNote). take 64 (c.loop-label.colds ++ cold_by n o c.targets_of.result)) c.note_at-note.ensures
    ∙ ap (λ (o : Option Targets). take 64 (c.loop-label.colds ++ cold_by n (slice_get notes n) o)) c.targets_of.ensures) in
    room_more 64 so_far (give n line) c.loop-label.colds c.add_cold.new.colds c.loop-label.invariant own
    ∙ ap (λ (xs : List Cold). take 64 xs) (sym (each_at give code n line c.loop-label-test.true c.index-code-label.is))
