use Rattle.std.proofs.Common.{◌∙◌, List, [], ◌∷◌, ◌++◌, length, ap}
use Rattle.std.specs.Prelude.{slice_set}
use Rattle.cj_draft.specs.declared.instructions.VInstr.{VInstr}
use Rattle.cj_draft.specs.declared.code.Place.{Place}
use Rattle.cj_draft.specs.Edges.{fresh_label}
use Rattle.cj_rows.specs.Places.{with_instr, with_places}
use Rattle.cj_delay.specs.DelayedAssume.{led_edge}
use Rattle.cj_delay.proofs.delays.led.Goals as goal

pub returns : goal.returns
unfolding with_instr with_places fresh_label
returns c =
    let code = c.args.code in
    let from = c.item_mut-from.result.now in
    let instr = c.lead_edge.ensures ∙ ap (λ (ps : List Place). led_edge c.args.last (record { 0 = length ps }) from.instr) c.items.ensures in
    let led = ap (λ (i : VInstr). slice_set code.places c.args.before.0 (with_instr i from)) instr in
    record {
      from = from;
      at = c.item_mut-from.ensures.value;
      same = ap (with_places code) (c.in_ok-push.ensures.ok ∙ ap (λ (ps : List Place). ps ++ c.args.fresh ∷ []) led);
    }
