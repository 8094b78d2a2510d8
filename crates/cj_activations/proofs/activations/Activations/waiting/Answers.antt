use Rattle.std.proofs.Common.{◌∙◌, sym, ap, Some}
use Rattle.cj_activations.proofs.Cuts.{some_waits}
use Rattle.cj_activations.proofs.activations.Activations.waiting.Goals as goal

pub returns-in-Some : goal.returns-in-Some
returns-in-Some c =
    let last = rw c.deref.ensures.value at c.in-Some.ensures.value in
    let inside = c.self.inside in
    let seen = some_waits inside.values.items inside.top c.in-Some.window.now inside.waiting.items c.args.self.now (sym last) c.self.view_is in
    ap Some (c.waits.ensures seen.0) ∙ sym seen.1
