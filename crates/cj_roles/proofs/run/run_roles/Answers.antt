use Rattle.std.proofs.Common.{◌≡◌, ◌∙◌, sym, rules, arith}
use Rattle.cj_roles.proofs.Standing.{gathers_here, ends_here}
use Rattle.cj_roles.proofs.run.run_roles.Goals as goal

pub gather-requires : goal.gather-requires
gather-requires g c =
    let q = gathers_here c.args.input.now c.args.callers c.args.workers _ c.in_ok-answers.answers _ c.requires.callers.0 c.in_ok-answers.ensures
    c.truncate.new.self.items c.truncate.ensures.items in
    (q.0, q.1, q.2 ∙ search rules)

pub returns-clause-headline : goal.returns-clause-headline
returns-clause-headline g c =
    (ends_here c.args.input.now c.args.callers c.args.workers _ c.in_ok-answers.answers _ c.requires.callers.0 c.in_ok-answers.ensures
    c.truncate.new.self.items c.truncate.ensures.items
    c.in_ok-reports.reports c.in_ok-reports.ensures.0 (c.in_ok-reports.ensures.1 ∙ search rules)).0

pub returns-clause-versions : goal.returns-clause-versions
returns-clause-versions g c =
    (ends_here c.args.input.now c.args.callers c.args.workers _ c.in_ok-answers.answers _ c.requires.callers.0 c.in_ok-answers.ensures
    c.truncate.new.self.items c.truncate.ensures.items
    c.in_ok-reports.reports c.in_ok-reports.ensures.0 (c.in_ok-reports.ensures.1 ∙ search rules)).1
