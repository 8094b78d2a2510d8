use Rattle.std.proofs.Common.{◌∙◌, List, [], ◌∷◌, ◌++◌, reverse, sym, ap, append_assoc}
use Rattle.cj_rows.proofs.Reversing.{popped}
use Rattle.cj_notes.specs.declared.notes.WorkNote.{WorkNote}
use Rattle.cj_roles.proofs.joining.pour.Goals as goal

pub loop-note-preserved : goal.loop-note-preserved
loop-note-preserved c =
    let rest = reverse c.pop.new.self in
    let first = popped c.loop-note.more c.pop.new.self c.pop.result c.in-Some.note c.pop.ensures.item c.in-Some.is c.pop.ensures.rest in
    ap (λ (xs : List WorkNote). xs ++ rest) c.in_ok-push.ensures.ok
    ∙ append_assoc c.loop-note.work (c.in-Some.note ∷ []) rest
    ∙ ap (λ (xs : List WorkNote). c.loop-note.work ++ xs) (sym first)
    ∙ c.loop-note.invariant
