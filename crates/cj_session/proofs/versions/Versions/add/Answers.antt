use Rattle.std.proofs.Common.{◌∙◌}
use Rattle.indexmap.proofs.CallerLemmas.{insert_entry-new}
use Rattle.cj_session.proofs.Map.{missing}
use Rattle.cj_session.proofs.versions.Versions.add.Goals as goal

pub returns-clause-ok : goal.returns-clause-ok
returns-clause-ok c =
    let none = missing c.args.self.now.map.entries c.args.f c.args.offset c.requires.missing in
    c.in_ok-insert.ensures.entries ∙ insert_entry-new _ c.args.self.now.map _ _ none
