use Rattle.std.proofs.Common.{◌≡◌, ◌+◌, ◌<◌, rules, ap, ◌∙◌, sym, subst, arith}
use Rattle.atomic_table.specs.Table.{Me}
use Rattle.cj_publish.specs.declared.view.Key.{Key}
use Rattle.cj_publish.specs.declared.view.View.{View}
use Rattle.cj_publish.specs.declared.view.Region.{Region}
use Rattle.cj_publish.specs.Words.{Each}
use Rattle.cj_publish.specs.Seated.{IsHeld, IsWithin}
use Rattle.cj_publish.proofs.Lists.{each_append}
use Rattle.cj_publish.proofs.Shares.{joins}
use Rattle.cj_publish.proofs.seats.CodeTable.join.Goals as goal

pub join_seat-requires : goal.join_seat-requires
join_seat-requires c = (search rules, search rules, search rules, search rules, joins _ _ _ _ _)

pub invariant_of-seat : goal.invariant_of-seat
invariant_of-seat c =
    let v = c.args.seat.now.seat.me.0 in
    let w = c.args.other.seat.me.0 in
    let e = ap (λ (m : Me (Unit {0}) View). m.0) c.join_seat.ensures.2 in record {
      bare = ap (λ (m : Me (Unit {0}) View). m.1) c.join_seat.ensures.2 ∙ c.args.seat.now.bare;
      tied = subst (λ (x : View). IsHeld x.claim c.args.seat.now.held) (sym e) c.args.seat.now.tied;
      within = subst IsWithin (sym e) record {
        claim = c.args.seat.now.within.claim;
        within = each_append (λ (r : Region). r.offset < v.key.size) v.regions w.regions c.args.seat.now.within.within
            (subst (λ (k : Key). Each (λ (r : Region). r.offset < k.size) w.regions)
            (c.requires.own.1.key ∙ sym c.requires.own.0.key) c.args.other.within.within);
      };
      counted = record {
        count =
            let both : c.join_seat.new.seat.me.0.splits ≡ v.splits + w.splits = ap (λ (x : View). x.splits) e in
            let ours = c.args.seat.now.counted.count in
            let theirs = c.args.other.counted.count in
            let none = c.args.other.counted.later c.requires.other in
            omega arith;
        later = c.args.seat.now.counted.later;
      };
    }
