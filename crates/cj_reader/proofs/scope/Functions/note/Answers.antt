use Rattle.std.proofs.Common.{◌≡◌, ◌+◌, sym}
use Rattle.cj_reader.specs.Scopes.{Head}
use Rattle.cj_reader.proofs.Turns.{ok_same}
use Rattle.cj_reader.proofs.Listings.{lists_functions}
use Rattle.cj_reader.proofs.scope.Functions.note.Goals as goal

pub returns-clause-listed : goal.returns-clause-listed
returns-clause-listed c = λ heads h.
    let head : Head = record { name = c.args.name.now; params = c.args.params } in
    let count : c.in_ok-next.next ≡ c.args.self.now.count + 1 = sym (ok_same c.in_ok-next.ensures) in
    lists_functions heads head c.args.self.now (record { callees = c.keep_first.new.self.callees; count = c.in_ok-next.next }) h count
    c.in_ok-keep_first.ensures.kept
