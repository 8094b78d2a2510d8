use Rattle.std.proofs.Common.{◌≡◌, ◌+◌, sym, w64}
use Rattle.std.proofs.lemmas.Int.{to_z-of_z}
use Rattle.cj_reader.proofs.Turns.{ok_same}
use Rattle.cj_reader.proofs.Listings.{lists_lines}
use Rattle.cj_reader.proofs.scope.Labels.note.Goals as goal

pub returns-clause-listed : goal.returns-clause-listed
returns-clause-listed c = λ numbers h.
    let count : c.in_ok-next.next ≡ c.args.self.now.count + 1 = sym (ok_same c.in_ok-next.ensures) in
    lists_lines numbers c.args.number c.args.self.now (record { places = c.keep_first.new.self.places; count = c.in_ok-next.next }) h count
    (rw (to_z-of_z w64 c.args.number c.ranges.number) at c.in_ok-keep_first.ensures.kept)
