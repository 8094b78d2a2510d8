use Rattle.std.proofs.Common.{sym, ap, ◌∙◌, subst}
use Rattle.std.specs.Prelude.{All}
use Rattle.cj_links.specs.EdgeTable.{IsInto, given}
use Rattle.cj_links.specs.UseTable.{seen_uses}
use Rattle.cj_links.proofs.UseLemmas.{edges_lead, given_seen}
use Rattle.cj_links.proofs.uses.UseLists.of.Goals as goal

pub of-requires-clause-into : goal.of-requires-clause-into
of-requires-clause-into c =
    subst (All (IsInto c.args.registers)) (sym (c.items.ensures ∙ c.in_ok-edges.ensures)) (edges_lead c.args.registers c.args.uses.now c.requires.within)

pub returns : goal.returns
returns c =
    ap seen_uses (c.in_ok-edges-2.ensures.lists ∙ ap (given c.args.registers) (c.items.ensures ∙ c.in_ok-edges.ensures))
    ∙ given_seen c.args.registers c.args.uses.now
