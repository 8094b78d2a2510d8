use Rattle.std.proofs.Common.{rules, ◌≡◌, ℕ, List, [], subst}
use Rattle.cj_ir.specs.declared.language.FunId.{FunId}
use Rattle.cj_ir.specs.declared.language.Program.{Program}
use Rattle.cj_draft.specs.declared.code.Code.{Code}
use Rattle.cj_draft.specs.declared.facts.Fact.{Fact}
use Rattle.cj_draft.specs.BaseBody.{base_code}
use Rattle.cj_draft.specs.Sound.{Sound}
use Rattle.cj_draft.specs.Bodies.{Body, HasNoAnchors}
use Rattle.cj_spelling.specs.Spells.{Spells}
use Rattle.cj_publish.specs.Spelled.{SpellsVersion}
use Rattle.cj_test_threads.proofs.publish.base_words.Goals as goal

base_version : (P : Program) (f : FunId) (draft : Body) (code : Code) (words : List ℕ)
    → draft ≡ record { program = P; context = []; code = base_code P f } → code ≡ draft.code → Spells words code
    → Sound draft.program draft.context draft.code.function draft.code → HasNoAnchors code → SpellsVersion P f 0 words
unfolding base_code
base_version P f draft code words is same spells sound none = record {
  code = draft.code;
  spells = subst (Spells words) same spells;
  sound = subst (λ (x : Program × List Fact × FunId). Sound x.0 x.1 x.2 draft.code) (λ i. ((is i).program, (is i).context, (is i).code.function)) sound;
  no_anchors = subst HasNoAnchors same none;
}

pub returns : goal.returns
returns g c =
    base_version c.args.checked.now c.args.f c.in_ok-draft.draft c.code-code.result.now c.in_ok-encode.field-0 c.in_ok-draft.ensures
    c.code-code.ensures.same c.in_ok-encode.ensures.words c.code-code.ensures.sound (c.has_no_anchors.ensures (search rules))
