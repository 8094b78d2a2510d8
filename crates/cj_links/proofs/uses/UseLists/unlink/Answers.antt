use Rattle.std.proofs.Common.{sym, ap, ◌∙◌, subst}
use Rattle.cj_links.specs.UseTable.{UseTable, IsListed, unlisted, seen_uses}
use Rattle.cj_links.proofs.UseLemmas.{listed_linked, unlisted_seen}
use Rattle.cj_links.proofs.uses.UseLists.unlink.Goals as goal

pub unlink-requires : goal.unlink-requires
unlink-requires c =
    listed_linked c.self.inside.edges c.args.used (subst (λ (v : UseTable). IsListed v c.args.used) (sym c.self.view_is) c.requires)

pub returns : goal.returns
returns c =
    ap seen_uses c.unlink.ensures.lists ∙ unlisted_seen c.self.inside.edges c.args.used
    ∙ ap (λ (v : UseTable). unlisted v c.args.used) c.self.view_is
