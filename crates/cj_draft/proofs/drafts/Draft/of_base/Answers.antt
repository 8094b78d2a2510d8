use Rattle.std.proofs.Common.{◌≡◌, [], sym, ap, subst, ◌∙◌}
use Rattle.cj_draft.specs.Sound.{Sound}
use Rattle.cj_draft.specs.BaseBody.{base_code}
use Rattle.cj_draft.proofs.BaseSound.{base_body_sound}
use Rattle.cj_draft.proofs.drafts.Draft.of_base.Goals as goal

pub adopt-requires : goal.adopt-requires
adopt-requires c =
    let P = c.args.checked.now in
    let same : c.program.result.now ≡ P = c.program.ensures.same in
    let code : c.in_ok-code.code ≡ base_code P c.args.f = c.in_ok-code.ensures ∙ ap (λ p. base_code p c.args.f) same in
    subst (λ code. Sound P [] code.function code) (sym code) (base_body_sound P c.program.ensures.well_formed c.args.f c.requires [])
