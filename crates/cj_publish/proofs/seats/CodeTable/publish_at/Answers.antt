use Rattle.std.proofs.Common.{rules, sym, ◌∙◌, subst}
use Rattle.std.proofs.Common.{Option}
use Rattle.cj_publish.specs.declared.view.Claim.{Claim}
use Rattle.cj_publish.specs.declared.seats.Held.{Held}
use Rattle.cj_publish.specs.Seated.{IsHeld}
use Rattle.cj_publish.proofs.Keeps.{none_some}
use Rattle.cj_publish.proofs.Several.{held_is, publishes_leaves}
use Rattle.cj_publish.proofs.Learning.{gains_learns}
use Rattle.cj_publish.proofs.seats.CodeTable.publish_at.Goals as goal

pub replace-requires : goal.replace-requires
replace-requires c = let s = c.args.seat.now in record {
  own = search rules;
  cell = c.requires.cell;
  ready = c.requires.ready;
  mine = λ d e. (held_is s.seat.me.0.claim s.held d c.in-Some.held e (sym c.take.ensures.value ∙ c.in-Some.is) s.tied).0;
  within = s.within;
}

pub invariant_of-seat : goal.invariant_of-seat
invariant_of-seat c =
    let s = c.args.seat.now in
    let h = publishes_leaves _ _ _ _ c.replace.ensures.publishes in record {
      bare = c.replace.ensures.same.1 ∙ s.bare;
      tied = subst (λ (x : Option Claim × Option Held). IsHeld x.0 x.1) (λ i. (sym h.0 i, sym c.take.ensures.after i)) tt;
      within = record { claim = λ d e. absurd (none_some d (sym h.0 ∙ e)); within = h.1.within s.within.within };
      counted = record { count = h.1.splits ∙ s.counted.count; later = s.counted.later };
    }

pub returns-clause-learns : goal.returns-clause-learns
returns-clause-learns c = gains_learns _ _ (publishes_leaves _ _ _ _ c.replace.ensures.publishes).1
