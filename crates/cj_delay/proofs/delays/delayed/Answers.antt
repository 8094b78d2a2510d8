use Rattle.std.proofs.Common.{◌≡◌, ◌∙◌, inl, inr, List, Option, sym, ap, subst}
use Rattle.cj_ir.specs.declared.language.FunId.{FunId}
use Rattle.cj_ir.specs.declared.language.Label.{Label}
use Rattle.cj_ir.specs.declared.language.Guard.{Guard}
use Rattle.cj_ir.specs.declared.language.Program.{Program}
use Rattle.cj_draft.specs.declared.facts.Fact.{Fact}
use Rattle.cj_draft.specs.declared.code.Code.{Code}
use Rattle.cj_draft.specs.declared.passes.Skipped.{Skipped}
use Rattle.cj_draft.specs.Bodies.{Body}
use Rattle.cj_draft.specs.WellNamed.{IsContextOf}
use Rattle.cj_draft.specs.Sound.{Sound}
use Rattle.cj_delay.specs.DelayedAssume.{delay_offence, delayed, IsDelayed}
use Rattle.cj_delay.proofs.OneEdge.{named_within}
use Rattle.cj_delay.proofs.DelayConditions.{CanDelay, can_delay, path_in}
use Rattle.cj_delay.proofs.DelayedSound.{Delay, delayed_sound}
use Rattle.cj_delay.proofs.delays.delayed.Goals as goal

sound_of : (P P1 : Program) (context context1 : List Fact) (f : FunId) (code code1 : Code) → P1 ≡ P → context1 ≡ context → code1 ≡ code →
    Sound P context f code → Sound P1 context1 f code1
sound_of P P1 context context1 f code code1 p x k sound =
    subst (λ q. Sound q context1 f code1) (sym p) (subst (λ y. Sound P y f code1) (sym x) (subst (Sound P context f) (sym k) sound))

offence_of : (r : Option Skipped) (P P1 : Program) (code code1 : Code) (path path1 : List Label) (gs gs1 : List Guard) → r ≡ delay_offence P code path gs →
    P ≡ P1 → code ≡ code1 → path ≡ path1 → gs ≡ gs1 → r ≡ delay_offence P1 code1 path1 gs1
offence_of r P P1 code code1 path path1 gs gs1 e p k l g =
    e ∙ ap (λ q. delay_offence q code path gs) p ∙ ap (λ x. delay_offence P1 x path gs) k ∙ ap (λ x. delay_offence P1 code1 x gs) l
    ∙ ap (delay_offence P1 code1 path1) g

delayed_function : (code : Code) (path : List Label) (gs : List Guard) (made : Code) → IsDelayed code path gs made → made.function ≡ code.function
unfolding delayed
delayed_function code path gs made d = ap (λ (k : Code). k.function) d.same

pub edge_lists-requires-clause-closed : goal.edge_lists-requires-clause-closed
edge_lists-requires-clause-closed c =
    let draft = c.args.draft in
    let parts = c.into_parts-context.ensures in
    let into = c.into_parts-context.result in
    let sound = sound_of draft.program into.0.now draft.context into.1 draft.code.function draft.code into.2 parts.program parts.context parts.code parts.sound
    in
    named_within into.0.now into.2 sound.named

pub delay_offence-skipped-requires-clause-closed : goal.delay_offence-skipped-requires-clause-closed
delay_offence-skipped-requires-clause-closed c =
    let draft = c.args.draft in
    let parts = c.into_parts-context.ensures in
    let into = c.into_parts-context.result in
    let sound = sound_of draft.program into.0.now draft.context into.1 draft.code.function draft.code into.2 parts.program parts.context parts.code parts.sound
    in
    named_within into.0.now into.2 sound.named

can : (c : goal.After-items-3) → CanDelay c.into_parts-context.result.0.now c.into_parts-context.result.2 c.items-3.result.now c.args.guards.now
can c =
    let into = c.into_parts-context.result in
    let none = sym (offence_of c.delay_offence-skipped.result c.program.result.now into.0.now into.2 into.2 c.items.result.now c.items-3.result.now
    c.items-2.result.now c.args.guards.now
    c.delay_offence-skipped.ensures c.program.ensures.same (λ i. into.2) (c.items.ensures ∙ sym c.items-3.ensures) c.items-2.ensures) ∙ c.in_default.is in
    can_delay into.0.now into.2 c.items-3.result.now c.args.guards.now none

pub delayed_code-requires-clause-path : goal.delayed_code-requires-clause-path
delayed_code-requires-clause-path c =
    let draft = c.args.draft in
    let parts = c.into_parts-context.ensures in
    let into = c.into_parts-context.result in
    let sound = sound_of draft.program into.0.now draft.context into.1 draft.code.function draft.code into.2 parts.program parts.context parts.code parts.sound
    in
    path_in into.0.now into.2 c.items-3.result.now c.args.guards.now (named_within into.0.now into.2 sound.named) (can c)

pub delayed_code-requires-clause-begins : goal.delayed_code-requires-clause-begins
delayed_code-requires-clause-begins c = (can c).begins

pub adopt_in-requires-2-clause-context : goal.adopt_in-requires-2-clause-context
adopt_in-requires-2-clause-context c =
    let draft = c.args.draft in
    let parts = c.into_parts-context.ensures in
    let into = c.into_parts-context.result in
    let function = delayed_function into.2 c.items-3.result.now c.args.guards.now c.in_ok-code.code c.in_ok-code.ensures
    ∙ ap (λ (k : Code). k.function) parts.code in
    subst (λ (f : FunId). IsContextOf into.0.now f into.1) (sym function)
    (subst (λ p. IsContextOf p draft.code.function into.1) (sym parts.program)
    (subst (IsContextOf draft.program draft.code.function) (sym parts.context) parts.fits))

pub adopt_in-requires-2-clause-sound : goal.adopt_in-requires-2-clause-sound
adopt_in-requires-2-clause-sound c =
    let draft = c.args.draft in
    let parts = c.into_parts-context.ensures in
    let into = c.into_parts-context.result in
    let path = c.items-3.result.now in
    let gs = c.args.guards.now in
    let sound = sound_of draft.program into.0.now draft.context into.1 draft.code.function draft.code into.2 parts.program parts.context parts.code parts.sound
    in
    let none = sym (offence_of c.delay_offence-skipped.result c.program.result.now into.0.now into.2 into.2 c.items.result.now path c.items-2.result.now gs
    c.delay_offence-skipped.ensures c.program.ensures.same (λ i. into.2) (c.items.ensures ∙ sym c.items-3.ensures) c.items-2.ensures) ∙ c.in_default.is in
    let function = delayed_function into.2 path gs c.in_ok-code.code c.in_ok-code.ensures ∙ ap (λ (k : Code). k.function) parts.code in
    let made : Delay into.0.now into.2 path gs c.in_ok-code.code = record { can = can_delay into.0.now into.2 path gs none; is = c.in_ok-code.ensures } in
    subst (λ (f : FunId). Sound into.0.now into.1 f c.in_ok-code.code) (sym function)
    (delayed_sound into.0.now into.1 draft.code.function into.2 path gs c.in_ok-code.code made sound)

pub returns-in-Some-clause-code : goal.returns-in-Some-clause-code
returns-in-Some-clause-code c =
    let draft = c.args.draft in
    let parts = c.into_parts-context.ensures in
    let into = c.into_parts-context.result in
    let some = sym (offence_of c.delay_offence-skipped.result c.program.result.now draft.program into.2 draft.code c.items.result.now c.args.path.now
    c.items-2.result.now c.args.guards.now
    c.delay_offence-skipped.ensures (c.program.ensures.same ∙ parts.program) parts.code c.items.ensures c.items-2.ensures) ∙ c.in-Some.is in
    inr (c.in-Some.skipped, some, ap (λ (b : Body). b.code) c.adopt_in.ensures ∙ parts.code)

pub returns-clause-code : goal.returns-clause-code
returns-clause-code c =
    let draft = c.args.draft in
    let parts = c.into_parts-context.ensures in
    let into = c.into_parts-context.result in
    let gs = c.args.guards.now in
    let none = sym (offence_of c.delay_offence-skipped.result c.program.result.now draft.program into.2 draft.code c.items.result.now c.args.path.now
    c.items-2.result.now gs
    c.delay_offence-skipped.ensures (c.program.ensures.same ∙ parts.program) parts.code c.items.ensures c.items-2.ensures) ∙ c.in_default.is in
    let made = ap (λ (b : Body). b.code) c.adopt_in-2.ensures in
    let is = subst (λ (k : Code). IsDelayed k c.args.path.now gs c.in_ok-code.code) parts.code
    (subst (λ (p : List Label). IsDelayed into.2 p gs c.in_ok-code.code) c.items-3.ensures c.in_ok-code.ensures) in
    inl (none, subst (IsDelayed draft.code c.args.path.now gs) (sym made) is)
