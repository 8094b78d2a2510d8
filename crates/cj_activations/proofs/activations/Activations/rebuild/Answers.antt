use Rattle.std.proofs.Common.{◌≡◌, ◌++◌, ◌∙◌, sym, take, drop, true, refl, arith}
use Rattle.std.proofs.lemmas.Grind.{common_steps}
use Rattle.std.specs.Result.{is_ok}
use Rattle.cj_activations.proofs.Cuts.{rebuilt_seen, put_back, cut_back}
use Rattle.cj_activations.proofs.activations.Activations.rebuild.Goals as goal

pub returns-in-Ok-clause-ok : goal.returns-in-Ok-clause-ok
returns-in-Ok-clause-ok c =
    let written = rw c.truncate.ensures.items at c.in-Ok.ensures.written in
    rebuilt_seen _ _ _ _ _ _ _ _ _ c.self.view_is written

pub returns-clause-no_memory : goal.returns-clause-no_memory
returns-clause-no_memory c =
    let old = c.self.inside in
    let size = sym (c.len-depth.ensures ∙ old.waiting.ok.0) in
    let windows = c.truncate-in-Err.ensures.items ∙ cut_back old.waiting.items _ _ c.in-Err.ensures.windows size in
    let written = rw c.truncate.ensures.items at c.in-Err.ensures.values in
    let fine : is_ok c.extend_from_slice-put_back.result ≡ true = sym c.is_ok.ensures.value ∙ c.if-prove.false in
    let appended = rw fine at c.extend_from_slice-put_back.ensures.items in
    let saved : c.as_slice.result.now ≡ drop old.top.start old.values.items = grind (arith, common_steps) in
    let kept : c.extend_from_slice-put_back.new.self.items ≡ take old.top.start c.write_frames.new.values.items
    ++ drop old.top.start old.values.items = rw (appended, c.truncate-in-Err-2.ensures.items, saved) refl in
    rw (windows, kept, put_back old.values.items c.write_frames.new.values.items old.top.start c.self.invariant.0 written) c.self.view_is
