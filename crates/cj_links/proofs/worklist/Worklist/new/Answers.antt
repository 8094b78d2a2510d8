use Rattle.std.proofs.Common.{◌≡◌, [], false, length, ap, ◌∙◌, replicate}
use Rattle.std.proofs.lemmas.List.{length-replicate}
use Rattle.cj_ir.specs.declared.language.Label.{Label}
use Rattle.cj_links.specs.Waiting.{waiting}
use Rattle.cj_links.proofs.Rings.{ring_begins}
use Rattle.cj_links.proofs.worklist.Worklist.new.Goals as goal

pub invariant_of-result : goal.invariant_of-result
invariant_of-result c =
    let zero_label : Label = record { 0 = 0 } in
    let slots : c.in_ok-slots.slots ≡ replicate c.args.labels zero_label = c.in_ok-slots.ensures in
    let marks : c.in_ok-marks.marks ≡ replicate c.args.labels false = c.in_ok-marks.ensures in
    rw (slots, marks) (ring_begins c.args.labels zero_label)

pub returns-clause-list : goal.returns-clause-list
returns-clause-list c =
    let zero_label : Label = record { 0 = 0 } in
    let slots : c.in_ok-slots.slots ≡ replicate c.args.labels zero_label = c.in_ok-slots.ensures in
    ap (λ n. waiting n []) (ap length slots ∙ length-replicate c.args.labels zero_label)

pub returns-clause-orderly : goal.returns-clause-orderly
returns-clause-orderly c = (invariant_of-result c).orderly
