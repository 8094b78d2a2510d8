use Rattle.std.proofs.Common.{◌≡◌, ◌+◌, ◌∙◌, Bool, cond, sym, ap, arith}
use Rattle.cj_delay.specs.DelayedAssume.{on_path, turn_at, turns_before}
use Rattle.cj_delay.proofs.PathSteps.{turns_more, turns_first}
use Rattle.cj_delay.proofs.paths.turns_before.Goals as goal
use Rattle.cj_delay.proofs.paths.turns_before.Goals.{then-is_turn_at, else-is_turn_at}

pub loop-index-init : goal.loop-index-init
loop-index-init c = record { turns = sym (turns_first c.args.code.now c.args.path.now); few = omega arith }

pub loop-index-preserved : goal.loop-index-preserved
loop-index-preserved c =
    let code = c.args.code.now in
    let path = c.args.path.now in
    let i = c.loop-index.index in
    let more = turns_more code path i c.loop-index.auto.index (omega (arith, c.requires.within, c.loop-index-test.true)) in
    let is : turn_at code (on_path path i) ≡ c.is_turn_at.result = ap (turn_at code) (sym c.on_path.ensures) ∙ sym c.is_turn_at.ensures in
    let turns = more ∙ ap (λ (b : Bool). turns_before code path i + cond b 1 0) is in
    elim c.if-is_turn_at.branch [
      | then-is_turn_at w ↦
          let t : turns_before code path (i + 1) ≡ turns_before code path i + 1 = turns
          ∙ ap (λ (b : Bool). turns_before code path i + cond b 1 0) w.if-is_turn_at.true in
          record { turns = omega (arith, t, c.loop-index.invariant.turns, w.count-is); few = omega (arith, c.loop-index.invariant.few, w.count-is) }
      | else-is_turn_at w ↦
          let t : turns_before code path (i + 1) ≡ turns_before code path i + 0 = turns
          ∙ ap (λ (b : Bool). turns_before code path i + cond b 1 0) w.if-is_turn_at.false in
          record { turns = omega (arith, t, c.loop-index.invariant.turns, w.count-is); few = omega (arith, c.loop-index.invariant.few, w.count-is) }
    ]

pub returns-clause-count : goal.returns-clause-count
returns-clause-count c =
    let end : c.loop-index.index ≡ c.args.at = omega (arith, c.loop-index.auto.index-end c.requires.after, c.loop-index-test.false) in
    c.loop-index.invariant.turns ∙ ap (turns_before c.args.code.now c.args.path.now) end

pub returns-clause-few : goal.returns-clause-few
returns-clause-few c = omega (arith, c.loop-index.auto.index-end c.requires.after, c.loop-index.invariant.few, c.requires.within)
