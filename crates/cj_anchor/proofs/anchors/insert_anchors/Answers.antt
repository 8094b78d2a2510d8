use Rattle.std.proofs.Common.{◌≡◌, ◌<◌, ◌+◌, ◌∙◌, ℕ, List, [], ◌∷◌, ◌++◌, length, get_or, drop, sym, ap, subst, arith}
use Rattle.std.proofs.lemmas.List.{append-nil, drop_more}
use Rattle.std.proofs.Math.ListN.{drop_of_length-le}
use Rattle.cj_ir.specs.declared.language.Label.{Label}
use Rattle.cj_draft.specs.declared.code.Code.{Code}
use Rattle.cj_draft.specs.declared.passes.Skipped.{Skipped}
use Rattle.cj_draft.specs.Bodies.{Body}
use Rattle.cj_draft.specs.Sound.{Sound}
use Rattle.cj_anchor.specs.AnchorInsertion.{AreAnchored, Finished}
use Rattle.cj_rows.proofs.Closed.{named_closed}
use Rattle.cj_anchor.proofs.AnchorSteps.{step_sound, step_function, step_rest}
use Rattle.cj_anchor.proofs.anchors.insert_anchors.Goals as goal

pub loop-index-init : goal.loop-index-init
loop-index-init c =
    let draft = c.args.draft in
    let parts = c.into_parts-context.ensures in
    record {
      function = ap (λ (k : Code). k.function) parts.code;
      sound = subst (Sound draft.program draft.context draft.code.function) (sym parts.code) parts.sound;
      rest = λ made skips are.
          let old = subst (λ (k : Code). AreAnchored 0 k c.args.places.now made skips) parts.code are in
          subst (λ (ss : List (ℕ × Skipped)). AreAnchored 0 draft.code c.args.places.now made (ss ++ skips)) (sym c.new-skips.ensures) old;
    }

pub insert_anchor-requires-clause-closed : goal.insert_anchor-requires-clause-closed
insert_anchor-requires-clause-closed c = named_closed c.args.draft.program c.loop-index.code c.loop-index.invariant.sound.named

pub loop-index-preserved : goal.loop-index-preserved
loop-index-preserved c =
    let draft = c.args.draft in
    let places = c.args.places.now in
    let code = c.loop-index.code in
    let n = c.loop-index.index in
    let made = c.in_ok-code.code in
    let skips = c.loop-index.skips in
    let more = c.insert_anchor.new.skips in
    let zero_label : Label = record { 0 = 0 } in
    let x : Label = get_or c.items-label-items.result.now n zero_label in
    let inside : n < length places = omega (arith, ap length c.items-label-items.ensures) in
    let e : drop n places ≡ x ∷ drop (n + 1) places = drop_more places n zero_label inside
    ∙ ap (λ (xs : List Label). get_or xs n zero_label ∷ drop (n + 1) places) (sym c.items-label-items.ensures) in
    let step = c.in_ok-code.ensures in
    record {
      function = step_function code n x made skips more step ∙ c.loop-index.invariant.function;
      sound = step_sound draft.program draft.context draft.code.function code n x made skips more c.loop-index.invariant.sound step;
      rest = step_rest draft.code places code n x (drop (n + 1) places) made skips more step
          (λ end later are. c.loop-index.invariant.rest end later (subst (λ (xs : List Label). AreAnchored n code xs end later) (sym e) are));
    }

pub returns-clause-code : goal.returns-clause-code
returns-clause-code c =
    let places = c.args.places.now in
    let code = c.loop-index.code in
    let n = c.loop-index.index in
    let none_left : drop n places ≡ [] = drop_of_length-le places (omega (arith, ap length c.items-label-items.ensures)) in
    let all = c.loop-index.invariant.rest code [] (subst (λ (xs : List Label). AreAnchored n code xs code []) (sym none_left) (Finished n code)) in
    subst (λ (k : Code). AreAnchored 0 c.args.draft.code places k c.loop-index.skips) (sym (ap (λ (b : Body). b.code) c.adopt_in.ensures))
    (subst (AreAnchored 0 c.args.draft.code places code) (append-nil c.loop-index.skips) all)
