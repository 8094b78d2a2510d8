use Rattle.std.proofs.Common.{◌+◌, ◌*◌, sym, arith}
use Rattle.cj_publish.specs.Seats.{key_of}
use Rattle.cj_publish.specs.Cells.{number}
use Rattle.cj_publish.proofs.Numbers.{cell_below}
use Rattle.cj_publish.proofs.seats.CodeTable.word_of.Goals as goal

pub returns-clause-word : goal.returns-clause-word
unfolding number
returns-clause-word c =
    let slots = c.args.self.now.about.0 in
    λ i. sym slots i * c.from.ensures i + c.from-2.ensures i + 1

pub returns-clause-inside : goal.returns-clause-inside
returns-clause-inside c =
    let h = cell_below (key_of c.args.self.now) c.args.cell c.requires in
    let about = c.args.self.now.about in
    let word = returns-clause-word c in
    let size = about.2 in
    omega arith
