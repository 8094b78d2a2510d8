use Rattle.std.proofs.Common.{sym, arith}
use Rattle.std.specs.Prelude.{pos}
use Rattle.std.proofs.lemmas.Int.{to_z-of_z}
use Rattle.cj_draft.specs.declared.facts.Fact.{Fact}
use Rattle.cj_const.proofs.Rows.{told-here, told-past, told-none}
use Rattle.cj_const.proofs.knowledge.told_by.Goals as goal

abbrev none : Fact
none = record { reg = record { 0 = 0 }; value = pos 0 }

pub returns-then-fact-reg : goal.returns-then-fact-reg
returns-then-fact-reg c =
    let h = told-here c.args.facts.now c.loop-fact.fact-index none c.args.reg.0 c.loop-fact-test.true c.if-fact-reg.true c.loop-fact.invariant in
    grind (arith, to_z-of_z)

pub loop-fact-preserved : goal.loop-fact-preserved
loop-fact-preserved c = told-past c.args.facts.now c.loop-fact.fact-index none c.args.reg.0 c.loop-fact-test.true c.if-fact-reg.false c.loop-fact.invariant

pub returns : goal.returns
returns c = sym (told-none c.args.facts.now c.loop-fact.fact-index c.args.reg.0 (omega arith) c.loop-fact.invariant)
