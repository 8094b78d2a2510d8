use Rattle.std.proofs.Common.{rules, sym, subst, arith}
use Rattle.cj_publish.specs.declared.view.Key.{Key}
use Rattle.cj_publish.specs.Plays.{IsAt}
use Rattle.cj_publish.proofs.Looks.{looks}
use Rattle.cj_publish.proofs.Learning.{sees_learns, sees_seen, sees_no_more}
use Rattle.cj_publish.proofs.seats.CodeTable.look.Goals as goal

pub load-requires : goal.load-requires
load-requires c =
    let inside = c.word_of-at.ensures.inside in
    let own = c.requires.own in
    let sized = c.args.self.now.sized.0 in
    let about = c.args.self.now.about.1 in
    (search rules, omega arith, looks _ _ _ c.args.cell _ _ record { cell = c.requires.cell; word = c.word_of-at.ensures.word } own.live)

pub returns-clause-looked : goal.returns-clause-looked
returns-clause-looked c =
    let own = c.requires.own in
    (c.load.ensures.2.1 c.args.cell (subst (λ (k : Key). IsAt k c.word_of-at.result c.args.cell)
    (sym own.key) record { cell = c.requires.cell; word = c.word_of-at.ensures.word })).1

pub returns-clause-not_older : goal.returns-clause-not_older
returns-clause-not_older c =
    let own = c.requires.own in
    (c.load.ensures.2.1 c.args.cell (subst (λ (k : Key). IsAt k c.word_of-at.result c.args.cell)
    (sym own.key) record { cell = c.requires.cell; word = c.word_of-at.ensures.word })).0

pub returns-clause-learns : goal.returns-clause-learns
returns-clause-learns c =
    let own = c.requires.own in
    let h = (c.load.ensures.2.1 c.args.cell
    (subst (λ (k : Key). IsAt k c.word_of-at.result c.args.cell) (sym own.key) record { cell = c.requires.cell; word = c.word_of-at.ensures.word })).1 in
    sees_learns _ h.0 _ c.args.cell c.load.result (c.args.cell, c.load.result) h.1 h.2

pub returns-clause-seen : goal.returns-clause-seen
returns-clause-seen c =
    let own = c.requires.own in
    let h = (c.load.ensures.2.1 c.args.cell
    (subst (λ (k : Key). IsAt k c.word_of-at.result c.args.cell) (sym own.key) record { cell = c.requires.cell; word = c.word_of-at.ensures.word })).1 in
    λ some. sees_seen _ h.0 _ c.args.cell c.load.result (c.args.cell, c.load.result) h.1 h.2 some

pub returns-clause-known : goal.returns-clause-known
returns-clause-known c =
    let own = c.requires.own in
    c.load.ensures.2.3 c.args.cell (subst (λ (k : Key). IsAt k c.word_of-at.result c.args.cell)
    (sym own.key) record { cell = c.requires.cell; word = c.word_of-at.ensures.word })

pub returns-clause-no_more : goal.returns-clause-no_more
returns-clause-no_more c =
    let own = c.requires.own in
    let here = subst (λ (k : Key). IsAt k c.word_of-at.result c.args.cell) (sym own.key) record { cell = c.requires.cell; word = c.word_of-at.ensures.word } in
    let h = (c.load.ensures.2.1 c.args.cell here).1 in
    λ sole. sees_no_more _ h.0 _ c.args.cell c.load.result (c.args.cell, c.load.result) h.1 h.2 (c.load.ensures.2.3 c.args.cell here sole)
