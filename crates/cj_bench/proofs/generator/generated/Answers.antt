use Rattle.std.proofs.Common.{◌≡◌, sym, subst}
use Rattle.cj_ir.specs.WellFormed.{IsWellFormed}
use Rattle.cj_ir.specs.declared.language.Program.{Program}
use Rattle.cj_bench.specs.Generated.{functions_drawn, generated_program}
use Rattle.cj_bench.proofs.Fine.{well_formed, made_fits}
use Rattle.cj_bench.proofs.generator.generated.Goals as goal

pub checked-requires : goal.checked-requires
unfolding generated_program
checked-requires c =
    let made : functions_drawn 32 c.args.number ≡ c.in_ok-functions.functions = sym c.in_ok-functions.ensures.made in
    subst (λ fs. let p : Program = record { functions = fs } in IsWellFormed p) made (well_formed c.args.number)

pub returns-clause-fits : goal.returns-clause-fits
returns-clause-fits c =
    made_fits c.args.number c.drawn_functions.new.draws.state c.checked.result c.in_ok-functions.functions c.new-setups.result c.in_ok-calls.calls
    c.checked.ensures c.in_ok-functions.ensures.made c.new-setups.ensures c.in_ok-functions.ensures.next c.in_ok-calls.ensures
