use Rattle.std.proofs.Common.{◌≡◌, ◌∷◌, [], length, sym, ap, ◌∙◌, subst, length-append, arith}
use Rattle.cj_profile.specs.declared.snapshot.ParamNote.{ParamNote}
use Rattle.cj_profile.specs.Snapshots.{param_loads}
use Rattle.cj_profile.specs.Seats.{Adds}
use Rattle.cj_profile.proofs.Adding.{same_on}
use Rattle.cj_profile.proofs.Parts.{note_more, notes_keep, note_keeps, param_keeps}
use Rattle.cj_profile.proofs.profile.Profile.param_notes.Goals as goal

pub returns-in_err-push-clause-loads : goal.returns-in_err-push-clause-loads
returns-in_err-push-clause-loads c =
    note_keeps (param_loads c.args.f) (param_keeps c.args.f) c.args.seat.now c.loop-param.seat c.param_note-note.new.seat c.loop-param.notes c.loop-param.param
    c.param_note-note.result c.loop-param.invariant.reads c.param_note-note.ensures.reads

pub loop-param-preserved : goal.loop-param-preserved
loop-param-preserved c =
    let i = c.loop-param.invariant in
    let a = c.args.seat.now in
    let b = c.loop-param.seat in
    let new = c.param_note-note.new.seat in
    let notes = c.loop-param.notes in
    let note : ParamNote = c.param_note-note.result in
    let count : length notes ≡ c.loop-param.param = i.count in
    let pushed = c.in_ok-push.ensures.ok in
    let longer = ap length pushed ∙ length-append notes (note ∷ []) in
    let one = subst (λ n. Adds (param_loads c.args.f n note) b new) (sym count) c.param_note-note.ensures.reads in
    record {
      own = c.param_note-note.ensures.own;
      same = same_on a b new i.same c.param_note-note.ensures.same;
      count = omega arith;
      reads = note_more (param_loads c.args.f) a b new notes c.push.new.self note pushed i.reads one;
    }

pub returns-clause-loads : goal.returns-clause-loads
returns-clause-loads c =
    notes_keep (param_loads c.args.f) (param_keeps c.args.f) c.args.seat.now c.loop-param.seat c.loop-param.notes c.loop-param.invariant.reads
