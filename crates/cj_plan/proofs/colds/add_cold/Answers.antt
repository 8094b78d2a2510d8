use Rattle.std.proofs.Common.{◌≡◌, List, Option, Some, ◌++◌, take, ap, ◌∙◌, sym}
use Rattle.cj_profile.specs.declared.snapshot.EdgeNote.{EdgeNote}
use Rattle.cj_plan.specs.declared.colds.Cold.{Cold}
use Rattle.cj_plan.specs.declared.colds.Targets.{Targets}
use Rattle.cj_plan.specs.Plan.{cold_edge, cold_by}
use Rattle.cj_plan.proofs.Each.{room_none, room_again}
use Rattle.cj_plan.proofs.Edges.{no_targets}
use Rattle.cj_plan.proofs.colds.add_cold.Goals as goal

pub returns-in_default : goal.returns-in_default
returns-in_default c =
    room_none 64 c.args.colds.now (cold_by c.args.label.0 c.args.note c.args.targets)
    (ap (λ (o : Option EdgeNote). cold_by c.args.label.0 o c.args.targets) c.in_default.is) c.requires

pub returns-in_default-targets : goal.returns-in_default-targets
returns-in_default-targets c =
    room_none 64 c.args.colds.now (cold_by c.args.label.0 c.args.note c.args.targets)
    (ap (λ (o : Option Targets). cold_by c.args.label.0 c.args.note o) c.in_default-targets.is ∙ no_targets c.args.label.0 c.args.note) c.requires

pub returns : goal.returns
returns c =
    let l = c.args.label.0 in
    let note = c.in-Some.note in
    let t = c.in-Some-targets.targets in
    let one = cold_edge l t.then_to note.then_count note.else_count in
    let other = cold_edge l t.else_to note.else_count note.then_count in
    let same : cold_by l c.args.note c.args.targets ≡ one ++ other =
    ap (λ (o : Option EdgeNote). cold_by l o c.args.targets) c.in-Some.is ∙ ap (λ (o : Option Targets). cold_by l (Some note) o) c.in-Some-targets.is in
    room_again 64 c.args.colds.now one other c.add_edge.new.colds c.add_edge-2.new.colds c.in_ok-add_edge.ensures.edge c.in_ok-add_edge-2.ensures.edge
    ∙ ap (λ (ys : List Cold). take 64 (c.args.colds.now ++ ys)) (sym same)
