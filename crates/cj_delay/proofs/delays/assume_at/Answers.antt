use Rattle.std.proofs.Common.{◌≡◌, ◌+◌, ◌-◌, ◌<◌, ◌≤◌, ◌∙◌, ℕ, Some, length, sym, ap, subst, arith}
use Rattle.cj_ir.specs.declared.language.Label.{Label}
use Rattle.cj_draft.specs.declared.instructions.VInstr.{VInstr}
use Rattle.cj_draft.specs.declared.instructions.VInstr.TheVariants.{Assume}
use Rattle.cj_draft.specs.declared.code.Back.{Back}
use Rattle.cj_draft.specs.Arrives.{place_at}
use Rattle.cj_draft.specs.Sound.{pair_of}
use Rattle.cj_rows.proofs.ListReads.{get-read}
use Rattle.cj_delay.specs.DelayedAssume.{on_path, turns_before, turns_back, path_pair}
use Rattle.cj_delay.specs.DelaySteps.{IsFreshPlace}
use Rattle.cj_delay.proofs.delays.assume_at.Goals as goal

short : (code_turns number : ℕ) → number + code_turns ≤ 4 → code_turns ≤ 4
short t n h = omega arith

pub overflow_cast-back : goal.overflow_cast-back
unfolding turns_back
overflow_cast-back c =
    let few : c.args.number + turns_before c.args.code.now c.args.path.now (length c.args.path.now - 1) ≤ 4 = c.requires.short in
    omega (arith, few, c.turns_before.ensures.count)

pub overflow_add-back : goal.overflow_add-back
unfolding turns_back
overflow_add-back c =
    let few : c.args.number + turns_before c.args.code.now c.args.path.now (length c.args.path.now - 1) ≤ 4 = c.requires.short in
    omega (arith, few, c.turns_before.ensures.count)

pub returns : goal.returns
unfolding turns_back path_pair
returns c =
    let code = c.args.code.now in
    let path = c.args.path.now in
    let end = length path - 1 in
    let next = c.on_path-next.result in
    let place = c.index-items-next.result in
    let is_next : next ≡ on_path path end = c.on_path-next.ensures in
    let inside : next.0 < length code.places = subst (λ (x : Label). x.0 < length code.places) (sym is_next)
    (c.requires.path.within end (let long = c.requires.path.long in omega arith)) in
    let at : place_at code next ≡ Some place = get-read code.places c.items.result.now next.0 place c.items.ensures inside c.index-items-next.is in
    let back : c.args.number + c.turns_before.result ≡ c.args.number + turns_before code path end = ap (λ n. c.args.number + n) c.turns_before.ensures.count in
    let instr = c.in_ok-instr.ensures ∙ ap (λ n. Assume c.args.guards.now n c.args.target.now next) back
    ∙ ap (λ (x : Label). Assume c.args.guards.now (c.args.number + turns_before code path end) c.args.target.now x) is_next in (
      place,
      ap (place_at code) (sym is_next) ∙ at,
      subst (λ (q : Back). IsFreshPlace (Assume c.args.guards.now (c.args.number + turns_before code path end) c.args.target.now (on_path path end)) place q
          c.in_ok-made.made) (ap (λ n. pair_of n c.args.target.now) back)
          (subst (λ (i : VInstr). IsFreshPlace i place (pair_of (c.args.number + c.turns_before.result) c.args.target.now) c.in_ok-made.made) instr
          c.in_ok-made.ensures),
    )
