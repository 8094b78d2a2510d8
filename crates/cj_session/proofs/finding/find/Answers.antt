use Rattle.std.proofs.Common.{◌∙◌, [], List, Option, sym, ap, subst, refl}
use Rattle.std.specs.Prelude.{IsSome}
use Rattle.cj_ir.specs.declared.language.FunId.{FunId}
use Rattle.cj_ir.specs.declared.language.Program.{Program}
use Rattle.cj_draft.specs.Bodies.{Body}
use Rattle.cj_draft.specs.Sound.{Sound}
use Rattle.cj_draft.specs.declared.code.Code.{Code}
use Rattle.cj_machine.specs.CodeMaps.{Grows}
use Rattle.cj_publish.specs.Seats.{view_of}
use Rattle.cj_publish.specs.Learns.{learns_twice}
use Rattle.cj_session.specs.Versions.{Entry, codes_in, EntriesKnown}
use Rattle.cj_session.proofs.Going.{known_later, looks_by_lookup, looks_by_fetch}
use Rattle.cj_session.proofs.Map.{more_grow, more_found, more_known, missing}
use Rattle.cj_session.proofs.finding.find.Goals as goal

pub returns-in_err-add-clause-looks : goal.returns-in_err-add-clause-looks
returns-in_err-add-clause-looks c =
    let l = c.lookup-offset.ensures in
    looks_by_fetch _ _ _
    (looks_by_lookup _ l.looked.0 _ _ _ _ l.looked.1 l.looked.2 l.learns l.same.sole l.no_more)
    c.fetch.ensures.grows c.fetch.ensures.learns

pub returns-in_ok-add-clause-looks : goal.returns-in_ok-add-clause-looks
returns-in_ok-add-clause-looks c =
    let l = c.lookup-offset.ensures in
    looks_by_fetch _ _ _
    (looks_by_lookup _ l.looked.0 _ _ _ _ l.looked.1 l.looked.2 l.learns l.same.sole l.no_more)
    c.fetch.ensures.grows c.fetch.ensures.learns

pub returns-in_err-version-clause-known : goal.returns-in_err-version-clause-known
returns-in_err-version-clause-known c =
    let learns =
    learns_twice (view_of c.args.seat.now) (view_of c.lookup-offset.new.seat) (view_of c.fetch.new.seat)
    c.lookup-offset.ensures.learns c.fetch.ensures.learns in
    known_later _ _ _ c.args.versions.now.map.entries learns c.requires.known

pub returns-else-offset-ne0-clause-known : goal.returns-else-offset-ne0-clause-known
returns-else-offset-ne0-clause-known c = known_later _ _ _ c.args.versions.now.map.entries c.lookup-offset.ensures.learns c.requires.known

pub returns-in_err-add-clause-known : goal.returns-in_err-add-clause-known
returns-in_err-add-clause-known c =
    let learns =
    learns_twice (view_of c.args.seat.now) (view_of c.lookup-offset.new.seat) (view_of c.fetch.new.seat)
    c.lookup-offset.ensures.learns c.fetch.ensures.learns in
    subst (λ (es : List Entry). EntriesKnown c.args.checked.now (view_of c.fetch.new.seat) es) (sym c.in_err-add.ensures.err)
    (known_later _ _ _ c.args.versions.now.map.entries learns c.requires.known)

pub returns-in_ok-add-clause-grows : goal.returns-in_ok-add-clause-grows
returns-in_ok-add-clause-grows c =
    subst (λ (es : List Entry). Grows (codes_in c.args.versions.now.map.entries) (codes_in es)) (sym c.in_ok-add.ensures.ok)
    (more_grow c.args.versions.now.map.entries _)

pub returns-in_ok-add-clause-found : goal.returns-in_ok-add-clause-found
returns-in_ok-add-clause-found c = λ some.
    let es = c.args.versions.now.map.entries in
    let none = missing es c.args.f c.lookup-offset.result (c.has.ensures.missing c.if-not-has.true) in
    let at = more_found es c.args.f c.lookup-offset.result c.in_ok-version.version none in
    subst (λ (o : Option Code). IsSome o) (sym (ap (λ (now : List Entry). codes_in now c.args.f c.lookup-offset.result) c.in_ok-add.ensures.ok ∙ at)) refl

pub returns-in_ok-add-clause-known : goal.returns-in_ok-add-clause-known
returns-in_ok-add-clause-known c =
    let es = c.args.versions.now.map.entries in
    let P = c.args.checked.now in
    let version : Body = c.in_ok-version.version in
    let told = c.in_ok-version.ensures.program in
    let learns =
    learns_twice (view_of c.args.seat.now) (view_of c.lookup-offset.new.seat) (view_of c.fetch.new.seat)
    c.lookup-offset.ensures.learns c.fetch.ensures.learns in
    let known = known_later P _ _ es learns c.requires.known in
    let sound : Sound P [] c.args.f version.code =
    subst (λ (f : FunId). Sound P [] f version.code) told.2
    (subst (λ facts. Sound P facts version.code.function version.code) told.1
    (subst (λ (Q : Program). Sound Q version.context version.code.function version.code) told.0
    c.code-code.ensures.sound)) in
    subst (λ (now : List Entry). EntriesKnown P (view_of c.fetch.new.seat) now) (sym c.in_ok-add.ensures.ok)
    (more_known P _ es c.args.f c.lookup-offset.result version known told.0 c.in_ok-version.ensures.version sound)
