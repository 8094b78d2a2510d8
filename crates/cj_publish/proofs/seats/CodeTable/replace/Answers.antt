use Rattle.std.proofs.Common.{◌≡◌, ℕ, ◌<◌, rules, refl, sym, ◌∙◌, subst, arith}
use Rattle.cj_publish.specs.declared.view.Key.{Key}
use Rattle.cj_publish.specs.declared.view.Claim.{Claim}
use Rattle.cj_publish.specs.declared.view.View.{View}
use Rattle.cj_publish.specs.Rule.{IsVersion}
use Rattle.cj_publish.specs.Cells.{program_in}
use Rattle.cj_publish.specs.Seats.{key_of}
use Rattle.cj_publish.specs.Plays.{IsAt}
use Rattle.cj_publish.specs.declared.publishing.Published.TheVariants as how
use Rattle.cj_publish.specs.Calls.{Publishes}
use Rattle.cj_publish.proofs.Spelt.{first_word_is}
use Rattle.cj_publish.proofs.Writes.{neared_ok, publishes}
use Rattle.cj_publish.proofs.Several.{gains_same, sees_itself, found_gives, published_gives}
use Rattle.cj_publish.proofs.seats.CodeTable.replace.Goals as goal

pub load-seen-requires : goal.load-seen-requires
load-seen-requires c =
    let r = c.requires in
    let inside = c.word_of-at.ensures.inside in
    let sized = c.args.self.now.sized.0 in
    let about = c.args.self.now.about.1 in
    (search rules, omega arith, neared_ok _ _ _ c.args.cell _ _ r.ready.0 record { cell = r.cell; word = c.word_of-at.ensures.word } r.own.1 r.ready.1)

pub loop-seen-init : goal.loop-seen-init
loop-seen-init c =
    let r = c.requires in
    let v : View = c.args.seat.now.me.0 in
    let w = c.load-seen.new.seat.me.0 in
    let o = c.load-seen.result in
    let here : IsAt (key_of c.args.self.now) c.word_of-at.result c.args.cell = record { cell = r.cell; word = c.word_of-at.ensures.word } in record {
      table = search rules;
      at_cell = here;
      reliable = c.load-seen.ensures.2.2;
      slots = c.load-seen.ensures.2.0;
      searching = λ d e. found_gives v v w d c.args.cell o (gains_same v) e (λ _. sees_itself v) refl
          (c.load-seen.ensures.2.1 d c.args.cell e (subst (λ (k : Key). IsAt k c.word_of-at.result c.args.cell) (sym r.own.2) here));
    }

pub compare_exchange-found-requires : goal.compare_exchange-found-requires
compare_exchange-found-requires c =
    let r = c.requires in
    let d : Claim = r.ready.0 in
    let mine : c.args.mine ≡ d.offset = r.mine d r.ready.1 in
    let test = c.loop-seen-test.true in
    let below : c.loop-seen.seen < d.offset = omega arith in
    let h = (c.loop-seen.invariant.searching d r.ready.1).0 below in
    let inside = c.word_of-at.ensures.inside in
    let sized = c.args.self.now.sized.0 in
    let about = c.args.self.now.about.1 in (
      search rules,
      omega arith,
      publishes _ _ _ c.args.cell _ _ _ _ d c.loop-seen.invariant.at_cell (h.0.live ∙ r.own.1) h.1 mine below h.2
          (subst (λ (k : Key). IsVersion k c.args.cell d.written) r.own.2 r.ready.3) r.ready.2,
    )

pub returns-then-found-seen-clause-publishes : goal.returns-then-found-seen-clause-publishes
returns-then-found-seen-clause-publishes c =
    let r = c.requires in
    let d : Claim = r.ready.0 in
    let mine : c.args.mine ≡ d.offset = r.mine d r.ready.1 in
    let test = c.loop-seen-test.true in
    let below : c.loop-seen.seen < d.offset = omega arith in
    let h = (c.loop-seen.invariant.searching d r.ready.1).0 below in
    let v : View = c.args.seat.now.me.0 in
    let u : View = c.loop-seen.seat.me.0 in
    let w : View = c.compare_exchange-found.new.seat.me.0 in
    let here = subst (λ (k : Key). IsAt k c.word_of-at.result c.args.cell) (sym (h.0.key ∙ r.own.2)) c.loop-seen.invariant.at_cell in
    let made = (c.compare_exchange-found.ensures.2.1 d c.args.cell h.1 here).0 c.if-found-seen.true in
    let room = r.within.claim d r.ready.1 in
    let whole = r.ready.2 in
    let long = (first_word_is (program_in v.key) c.args.cell.function c.args.cell.slot d.written r.ready.3).0 in
    let inside : d.offset < v.key.size = omega arith in
    let p = published_gives v u w d c.args.cell r.ready.1 (subst (λ (k : Key). d.offset < k.size) (sym h.0.key) inside) h.0 h.3 h.4 made in
    subst (λ (o : ℕ). Publishes v c.args.cell (how.Published o) w) (sym mine) p

pub returns-clause-publishes : goal.returns-clause-publishes
returns-clause-publishes c =
    let r = c.requires in
    let d : Claim = r.ready.0 in
    let mine : c.args.mine ≡ d.offset = r.mine d r.ready.1 in
    let test = c.loop-seen-test.false in
    let z = (c.loop-seen.invariant.searching d r.ready.1).1 (omega arith) in
    let v : View = c.args.seat.now.me.0 in
    let u : View = c.loop-seen.seat.me.0 in
    subst (λ (o : ℕ). Publishes v c.args.cell (how.Older o c.loop-seen.seen) u) (sym mine) (d, r.ready.1, refl, z.0, z.1, z.2, z.3, z.5, z.4)

pub loop-seen-preserved : goal.loop-seen-preserved
loop-seen-preserved c =
    let r = c.requires in
    let test = c.loop-seen-test.true in
    let v : View = c.args.seat.now.me.0 in
    let u : View = c.loop-seen.seat.me.0 in
    let w : View = c.compare_exchange-found.new.seat.me.0 in
    let o = c.compare_exchange-found.result in record {
      table = search rules;
      at_cell = c.loop-seen.invariant.at_cell;
      reliable = c.compare_exchange-found.ensures.2.2;
      slots = c.compare_exchange-found.ensures.2.0 ∙ c.loop-seen.invariant.slots;
      searching = λ d e.
          let mine : c.args.mine ≡ d.offset = r.mine d e in
          let h = (c.loop-seen.invariant.searching d e).0 (omega arith) in
          let here = subst (λ (k : Key). IsAt k c.word_of-at.result c.args.cell) (sym (h.0.key ∙ r.own.2)) c.loop-seen.invariant.at_cell in
          let f = ((c.compare_exchange-found.ensures.2.1 d c.args.cell h.1 here).1 c.if-found-seen.false).1 in
          found_gives v u w d c.args.cell o h.0 h.1 h.3 h.4 f;
    }

pub loop-seen-smaller : goal.loop-seen-smaller
loop-seen-smaller c =
    let r = c.requires in
    let d : Claim = r.ready.0 in
    let mine : c.args.mine ≡ d.offset = r.mine d r.ready.1 in
    let test = c.loop-seen-test.true in
    let h = (c.loop-seen.invariant.searching d r.ready.1).0 (omega arith) in
    let here = subst (λ (k : Key). IsAt k c.word_of-at.result c.args.cell) (sym (h.0.key ∙ r.own.2)) c.loop-seen.invariant.at_cell in
    let more = ((c.compare_exchange-found.ensures.2.1 d c.args.cell h.1 here).1 c.if-found-seen.false).0 in
    omega arith
