use Rattle.std.proofs.Common.{◌≡◌, ◌∷◌, [], length, sym, ap, ◌∙◌, subst, length-append, arith}
use Rattle.cj_profile.specs.declared.snapshot.EdgeNote.{EdgeNote}
use Rattle.cj_profile.specs.Snapshots.{edge_loads}
use Rattle.cj_profile.specs.Seats.{Adds}
use Rattle.cj_profile.proofs.Adding.{same_on}
use Rattle.cj_profile.proofs.Parts.{note_more, notes_keep, note_keeps, edge_keeps}
use Rattle.cj_profile.proofs.profile.Profile.edge_notes.Goals as goal

pub returns-in_err-push-clause-loads : goal.returns-in_err-push-clause-loads
returns-in_err-push-clause-loads c =
    note_keeps (edge_loads c.args.f) (edge_keeps c.args.f) c.args.seat.now c.loop-label.seat c.edge_note-note.new.seat c.loop-label.notes c.loop-label.label
    c.edge_note-note.result c.loop-label.invariant.reads c.edge_note-note.ensures.reads

pub loop-label-preserved : goal.loop-label-preserved
loop-label-preserved c =
    let i = c.loop-label.invariant in
    let a = c.args.seat.now in
    let b = c.loop-label.seat in
    let new = c.edge_note-note.new.seat in
    let notes = c.loop-label.notes in
    let note : EdgeNote = c.edge_note-note.result in
    let count : length notes ≡ c.loop-label.label = i.count in
    let pushed = c.in_ok-push.ensures.ok in
    let longer = ap length pushed ∙ length-append notes (note ∷ []) in
    let one = subst (λ n. Adds (edge_loads c.args.f n note) b new) (sym count) c.edge_note-note.ensures.reads in
    record {
      own = c.edge_note-note.ensures.own;
      same = same_on a b new i.same c.edge_note-note.ensures.same;
      count = omega arith;
      reads = note_more (edge_loads c.args.f) a b new notes c.push.new.self note pushed i.reads one;
    }

pub returns-clause-loads : goal.returns-clause-loads
returns-clause-loads c =
    notes_keep (edge_loads c.args.f) (edge_keeps c.args.f) c.args.seat.now c.loop-label.seat c.loop-label.notes c.loop-label.invariant.reads
