use Rattle.std.proofs.Common.{rules, sym, subst}
use Rattle.cj_base.specs.Machine.{Config, config_of}
use Rattle.cj_base.specs.Fits.{Fits}
use Rattle.cj_base.specs.Run.{begun, start_of}
use Rattle.cj_base.proofs.FitsLemmas.{start_fits}
use Rattle.cj_base.proofs.machine.Config.start.Goals as goal

pub returns-clause-start : goal.returns-clause-start
unfolding config_of begun start_of
returns-clause-start c = search rules

pub returns-clause-fits : goal.returns-clause-fits
unfolding begun
returns-clause-fits c =
    let P = c.args.checked.now in
    let fits = start_fits P (begun c.args.call.now) c.program.ensures.well_formed c.requires in
    subst (λ (x : Config). Fits P x) (sym (returns-clause-start c)) fits
