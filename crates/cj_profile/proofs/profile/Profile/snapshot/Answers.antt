use Rattle.std.proofs.Common.{List, get_or, ap, ◌∙◌}
use Rattle.cj_profile.specs.declared.layout.Word.TheVariants.{Calls, Failures}
use Rattle.cj_profile.specs.declared.profile.Shape.{Shape}
use Rattle.cj_profile.proofs.Adding.{load_keeps, keeps_on}
use Rattle.cj_profile.proofs.Shaping.{shape_at}
use Rattle.cj_profile.proofs.profile.Profile.snapshot.Goals as goal

pub returns-clause-fits : goal.returns-clause-fits
returns-clause-fits c =
    let fs = c.args.self.now.table.shared.key.functions in
    let n = c.args.f.0 in
    let none : Shape = record { params = 0; labels = 0 } in
    let shapes = c.items.ensures ∙ c.args.self.now.shaped in
    let counts = shape_at fs n none c.requires.function in (
      c.in_ok-params.ensures.count ∙ (ap (λ (xs : List Shape). (get_or xs n none).params) shapes ∙ counts.0),
      c.in_ok-edges.ensures.count ∙ (ap (λ (xs : List Shape). (get_or xs n none).labels) shapes ∙ counts.1),
    )

pub returns-in_err-edges-clause-loads : goal.returns-in_err-edges-clause-loads
returns-in_err-edges-clause-loads c =
    let f = c.args.f in
    let s0 = c.args.seat.now in
    let s1 = c.load-calls.new.seat in
    let s2 = c.load-fails.new.seat in
    let s3 = c.param_notes.new.seat in
    let s4 = c.edge_notes.new.seat in
    keeps_on s0 s3 s4
    (keeps_on s0 s2 s3
    (keeps_on s0 s1 s2 (load_keeps s0 s1 (Calls f) c.load-calls.result c.load-calls.ensures.reads)
    (load_keeps s1 s2 (Failures f) c.load-fails.result c.load-fails.ensures.reads))
    c.param_notes.ensures.loads)
    c.edge_notes.ensures.loads

pub returns-clause-loads : goal.returns-clause-loads
returns-clause-loads c =
    let f = c.args.f in
    let s0 = c.args.seat.now in
    let s1 = c.load-calls.new.seat in
    let s2 = c.load-fails.new.seat in
    let s3 = c.param_notes.new.seat in
    let s4 = c.edge_notes.new.seat in
    keeps_on s0 s3 s4
    (keeps_on s0 s2 s3
    (keeps_on s0 s1 s2 (load_keeps s0 s1 (Calls f) c.load-calls.result c.load-calls.ensures.reads)
    (load_keeps s1 s2 (Failures f) c.load-fails.result c.load-fails.ensures.reads))
    c.param_notes.ensures.loads)
    c.edge_notes.ensures.loads
