use Rattle.std.proofs.Common.{sym, subst, ℕ, List, Some}
use Rattle.cj_spelling.specs.Spells.{Spells}
use Rattle.cj_publish.specs.Seats.{view_of, program_of}
use Rattle.cj_notes.proofs.Working.{too_large}
use Rattle.cj_worker.specs.declared.tasks.Made.{Made}
use Rattle.cj_worker.specs.Tasks.{job_in, IsMade}
use Rattle.cj_worker.proofs.Doing.{noted}
use Rattle.cj_worker.proofs.putting.finish.Goals as goal

pub returns-in-Spelled-clause-worked : goal.returns-in-Spelled-clause-worked
returns-in-Spelled-clause-worked c =
    let P = program_of c.args.table.now in
    let h = subst (λ (m : Made). IsMade P (job_in c.args.task) m) c.in-Spelled.is c.requires.made in
    let spells = subst (λ (ws : List ℕ). Spells ws h.0) (sym c.items.ensures) h.2 in
    (Some h.0, c.put.ensures.worked P h.0 h.1 spells)

pub returns-in-TooLarge-clause-worked : goal.returns-in-TooLarge-clause-worked
returns-in-TooLarge-clause-worked c =
    let P = program_of c.args.table.now in
    let t = c.args.task in
    let v = view_of c.args.seat.now in
    let h = subst (λ (m : Made). IsMade P (job_in t) m) c.in-TooLarge.is c.requires.made in (
      Some h.0,
      noted P _ c.too_large.result h.0 v v c.too_large.ensures (too_large P t.f t.level t.snapshot h.0 h.1.0 h.1.1 v c.in-TooLarge.len
          c.requires.free h.2),
    )
