use Rattle.cj_base.specs.Machine.{config_of, turn_of}
use Rattle.cj_base.proofs.FitsLemmas.{turn_is, turn_fits, turn_freely, kept_fits, made_freely}
use Rattle.cj_base.proofs.machine.Config.turn.Goals as goal

pub returns-clause-made : goal.returns-clause-made
unfolding config_of
returns-clause-made c =
    let old = config_of c.args.self.now in
    let made = rw c.program.ensures.same at c.make.ensures.made in
    let is = turn_is c.args.checked.now old.stack old.memory c.instr-instr.result.now c.instr-instr.ensures.instr in
    rw is made

pub returns-clause-fits : goal.returns-clause-fits
returns-clause-fits c =
    let P = c.args.checked.now in
    let old = config_of c.args.self.now in
    let after = turn_fits P old.stack old.memory c.program.ensures.well_formed c.requires in
    kept_fits P (turn_of P old) c.args.self.now c.make.new.self c.args.printed.now c.make.new.printed c.make.result
    (returns-clause-made c) c.make.ensures.no_memory after c.requires

pub returns-clause-no_limit : goal.returns-clause-no_limit
returns-clause-no_limit c =
    let P = c.args.checked.now in
    let old = config_of c.args.self.now in
    made_freely (turn_of P old) old (config_of c.make.new.self) c.args.printed.now c.make.new.printed c.make.result (returns-clause-made c)
    (turn_freely P old.stack old.memory)
