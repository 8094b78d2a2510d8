use Rattle.std.proofs.Common.{◌≡◌, ◌∙◌, ◌++◌, ◌∷◌, [], ap, sym, subst, map, set, List, ℕ}
use Rattle.std.proofs.lemmas.List.{map-append}
use Rattle.cj_ir.specs.declared.language.Program.{Program}
use Rattle.cj_draft.specs.declared.code.Code.{Code}
use Rattle.cj_draft.specs.declared.facts.Fact.{Fact}
use Rattle.cj_draft.specs.Bodies.{Body}
use Rattle.cj_draft.specs.Sound.{Sound}
use Rattle.cj_world.specs.Caches.{made_in, made_of, AreVersions}
use Rattle.cj_world.proofs.Finding.{more_versions, entries_more, nothing_there}
use Rattle.cj_world.proofs.cache.Cache.publish.Goals as goal

pub returns-clause-made : goal.returns-clause-made
unfolding made_in made_of
returns-clause-made c =
    let old = c.args.self.now.versions.entries in
    let new : c.insert.new.self.entries ≡ old ++ (c.args.offset, c.args.version) ∷ [] =
    c.in_ok-insert.ensures.entries ∙ entries_more old c.args.offset c.args.version (nothing_there old c.args.offset c.requires.fresh) in
    ap (λ entries. map made_of entries) new ∙ map-append made_of old ((c.args.offset, c.args.version) ∷ [])

pub returns-clause-ready : goal.returns-clause-ready
unfolding made_in
returns-clause-ready c =
    let old = c.args.self.now.versions.entries in
    let P = c.args.self.now.checked.now in
    let version : Body = c.args.version in
    let new : c.insert.new.self.entries ≡ old ++ (c.args.offset, version) ∷ [] =
    c.in_ok-insert.ensures.entries ∙ entries_more old c.args.offset version (nothing_there old c.args.offset c.requires.fresh) in
    let sound : Sound P [] version.code.function version.code =
    subst (λ (facts : List Fact). Sound P facts version.code.function version.code) c.requires.context
    (subst (λ (Q : Program). Sound Q version.context version.code.function version.code) c.requires.program c.code.ensures.sound) in
    let current : c.set.new.self ≡ set c.args.self.now.current version.code.function.0 c.args.offset =
    c.set.ensures ∙ ap (λ (code : Code). set c.args.self.now.current code.function.0 c.args.offset) c.code.ensures.same in
    subst (λ (es : List (ℕ × Body)). AreVersions P es c.set.new.self) (sym new)
    (subst (λ (now : List ℕ). AreVersions P (old ++ (c.args.offset, version) ∷ []) now) (sym current)
    (more_versions P old c.args.self.now.current c.args.offset version c.requires.ready c.requires.fresh c.requires.program sound))
