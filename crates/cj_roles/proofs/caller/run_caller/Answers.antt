use Rattle.std.proofs.Common.{refl}
use Rattle.cj_publish.specs.Seats.{view_of}
use Rattle.cj_roles.proofs.Ending.{caller_done}
use Rattle.cj_roles.proofs.caller.run_caller.Goals as goal

pub new-session-requires-clause-known : goal.new-session-requires-clause-known
new-session-requires-clause-known g c = c.new-versions.ensures.known c.args.shared.now.checked.now (view_of c.args.code_seat)

pub returns : goal.returns
returns g c =
    let h = c.run_and_finish-done.ensures.finished in
    caller_done c.args.shared.now c.requires.run c.args.code_seat c.args.profile_seat c.requires.seats _ c.new-session.result h.last
    c.new-session.ensures.tables c.new-session.ensures.seats h.ready h.stays
    c.run_and_finish-done.result.profile_seat c.run_and_finish-done.ensures.own h.same h.counted.0 h.counted.1
    c.args.first c.args.callers h.code refl c.new-work.ensures (rw c.in_ok-reports.was at h.ran)
