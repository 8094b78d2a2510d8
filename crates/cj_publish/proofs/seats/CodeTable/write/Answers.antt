use Rattle.std.proofs.Common.{◌≡◌, ℕ, ◌+◌, ◌≤◌, [], ◌∷◌, ◌++◌, length, Some, rules, refl, sym, ap, ◌∙◌, subst, arith, length-append}
use Rattle.cj_publish.specs.declared.view.Key.{Key}
use Rattle.cj_publish.specs.declared.view.Claim.{Claim}
use Rattle.cj_publish.specs.declared.view.View.{View}
use Rattle.cj_publish.specs.Seated.{IsHeld, IsWithin}
use Rattle.cj_publish.proofs.Writes.{writes}
use Rattle.cj_publish.proofs.Several.{held_is}
use Rattle.cj_publish.proofs.seats.CodeTable.write.Goals as goal

pub store-requires : goal.store-requires
store-requires c =
    let r = c.requires in
    let s = c.args.seat.now in
    let d : Claim = r.room.0 in
    let h = held_is s.seat.me.0.claim s.held d c.in-Some.held r.room.1 c.in-Some.is s.tied in
    let offset = h.0 in
    let written = h.2 in
    let room = r.room.2 in
    let within = s.within.claim d r.room.1 in
    let size : s.seat.me.0.key.size ≡ c.args.self.now.size = ap (λ (k : Key). k.size) r.own.key ∙ c.args.self.now.about.1 in
    let sized = c.args.self.now.sized.0 in
    (search rules, omega arith, writes _ _ _ _ _ _ d r.own.live r.room.1 (omega arith) room)

pub returns-clause-own : goal.returns-clause-own
returns-clause-own c =
    let r = c.requires in
    let d : Claim = r.room.0 in
    let e = c.store.ensures.2.1 d r.room.1 in record {
      table = search rules;
      live = ap (λ (v : View). v.live) e ∙ r.own.live;
      key = ap (λ (v : View). v.key) e ∙ r.own.key;
      reliable = c.store.ensures.2.2;
    }

pub invariant_of-seat : goal.invariant_of-seat
invariant_of-seat c =
    let r = c.requires in
    let s = c.args.seat.now in
    let d : Claim = r.room.0 in
    let h = held_is s.seat.me.0.claim s.held d c.in-Some.held r.room.1 c.in-Some.is s.tied in
    let e = c.store.ensures.2.1 d r.room.1 in
    let more : length (d.written ++ c.args.word ∷ []) ≡ length d.written + 1 = omega (arith, length-append d.written (c.args.word ∷ [])) in
    let d' : Claim = record { offset = d.offset; len = d.len; written = d.written ++ c.args.word ∷ [] } in record {
      bare = c.store.ensures.2.0 ∙ s.bare;
      tied = subst (λ (x : View). IsHeld x.claim
          (Some record { offset = c.in-Some.held.offset; len = c.in-Some.held.len; written = c.in-Some.held.written + 1 })) (sym e)
          (h.0, h.1, ap (λ (n : ℕ). n + 1) h.2 ∙ sym more);
      within = subst IsWithin (sym e) record {
        claim = λ x is. let same : d' ≡ x = cc in subst (λ (y : Claim). y.offset + y.len ≤ s.seat.me.0.key.size) same (s.within.claim d r.room.1);
        within = s.within.within;
      };
      counted = record { count = ap (λ (v : View). v.splits) e ∙ s.counted.count; later = s.counted.later };
    }

pub returns-clause-same : goal.returns-clause-same
returns-clause-same c = let r = c.requires in record {
  table = search rules;
  first = refl;
  splits = refl;
  sole = ap (λ (v : View). v.sole) (c.store.ensures.2.1 r.room.0 r.room.1);
}
