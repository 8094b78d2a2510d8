use Rattle.std.proofs.Common.{◌<◌, arith}
use Rattle.cj_test_runs.proofs.Walking.{walk_under_way, walk_goes}
use Rattle.cj_test_runs.proofs.engine.turns.turned.Goals as goal

pub turn-requires-clause-way : goal.turn-requires-clause-way
turn-requires-clause-way g c =
    let before : c.args.engine.now.state.turns < c.args.limit = omega arith in
    walk_under_way c.args.engine.now.program c.args.engine.now.looks c.args.limit c.args.engine.now.state c.requires.walks before

pub returns-in-Running-clause-walks : goal.returns-in-Running-clause-walks
returns-in-Running-clause-walks g c = λ none.
    let before : c.args.engine.now.state.turns < c.args.limit = omega arith in
    let made = c.in_ok-turn.ensures in
    walk_goes c.args.engine.now.program c.turn.new.self.program _ _ c.args.limit c.args.engine.now.state c.turn.new.self.state c.in_ok-turn.field-0
    made.program c.requires.walks before made.goes c.in-Running.is

pub returns-in-Ended-clause-walks : goal.returns-in-Ended-clause-walks
returns-in-Ended-clause-walks g c = λ none. let never : ⊥ = cc in absurd never
