use Rattle.cj_draft.specs.Sound.{pair_of}
use Rattle.std.proofs.Common.{cond, ◌≡◌, ◌+◌, ◌-◌, ◌<◌, ◌≤◌, ◌∙◌, length, refl, sym, ap, subst, arith}
use Rattle.cj_ir.specs.declared.language.Label.{Label}
use Rattle.cj_rows.specs.Places.{with_places}
use Rattle.cj_delay.specs.DelayedAssume.{turn_at, turns_before, turns_back, AreMarked}
use Rattle.cj_delay.specs.DelaySteps.{IsMarkedAt}
use Rattle.cj_delay.proofs.PathSteps.{turns_first}
use Rattle.cj_delay.proofs.DelayedSound.{turns_most}
use Rattle.cj_delay.proofs.Marking.{mark_begins, still_within, turns_more_now, same_more, marked_more}
use Rattle.cj_delay.proofs.delays.marked.Goals as goal

pub mark-requires : goal.mark-requires
mark-requires c =
    let l = c.loop-at in
    let within = still_within c.args.code l.code c.args.path.now c.args.target.now c.args.number l.at c.requires.path l.auto.at
    (omega arith) l.invariant.same l.invariant.marked in
    subst (λ (x : Label). x.0 < length l.code.places) (sym c.on_path-label.ensures) within

pub loop-at-init : goal.loop-at-init
unfolding with_places
loop-at-init c = record {
  same = refl;
  marked = mark_begins c.args.code c.args.path.now c.args.target.now c.args.number;
  turns = omega (arith, turns_first c.args.code c.args.path.now);
}

more_turns : (c : goal.In_ok-code) → c.loop-at.turns + c.turns_at-more.result ≡ c.args.number + turns_before c.args.code c.args.path.now (c.loop-at.at + 1)
more_turns c =
    let l = c.loop-at in
    turns_more_now c.args.code l.code c.args.path.now c.args.target.now c.args.number l.at c.requires.path l.auto.at
    (omega arith) l.invariant.same l.invariant.marked
    l.turns c.turns_at-more.result l.invariant.turns (c.turns_at-more.ensures ∙ ap (λ (x : Label). cond (turn_at l.code x) 1 0) c.on_path-label.ensures)

pub loop-at-preserved : goal.loop-at-preserved
loop-at-preserved c =
    let l = c.loop-at in
    let is = subst (λ (x : Label). IsMarkedAt l.code x (pair_of l.turns c.args.target.now) c.in_ok-code.code) c.on_path-label.ensures c.in_ok-code.ensures in
    record {
      same = same_more c.args.code l.code c.args.path.now c.args.target.now c.args.number l.at c.requires.path l.auto.at
          (omega arith) l.invariant.same l.invariant.marked c.in_ok-code.code l.turns l.invariant.turns is;
      marked = marked_more c.args.code l.code c.args.path.now c.args.target.now c.args.number l.at c.requires.path l.auto.at
          (omega arith) l.invariant.same l.invariant.marked c.in_ok-code.code l.turns l.invariant.turns is;
      turns = more_turns c;
    }

pub overflow_add-turns : goal.overflow_add-turns
unfolding turns_back
overflow_add-turns c =
    let path = c.args.path.now in
    let short : c.args.number + turns_before c.args.code path (length path - 1) ≤ 4 = c.requires.short in
    let most = turns_most c.args.code path (c.loop-at.at + 1) (length path - 1) (omega arith) (omega arith) (omega arith) in
    omega (arith, more_turns c, most, short)

pub returns-clause-same : goal.returns-clause-same
returns-clause-same c = c.loop-at.invariant.same

pub returns-clause-marked : goal.returns-clause-marked
returns-clause-marked c =
    let path = c.args.path.now in
    let end : c.loop-at.at ≡ length path - 1 = omega (arith, c.loop-at.auto.at-end (omega arith), c.requires.path.long) in
    subst (λ k. AreMarked c.args.code path c.args.target.now c.args.number k c.loop-at.code.places) end c.loop-at.invariant.marked
