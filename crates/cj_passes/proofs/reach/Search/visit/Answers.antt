use Rattle.std.proofs.Common.{◌≡◌, ◌<◌, ◌∙◌, Bool, Some, true, false, List, [], ◌∷◌, ◌++◌, length, get_or, sym, ap, subst, refl, arith}
use Rattle.std.specs.Prelude.{Contains, slice_get, slice_set}
use Rattle.std.proofs.lemmas.Option.{slice_get-get_or}
use Rattle.std.proofs.lemmas.List.Elements.{Contains-append_right}
use Rattle.cj_ir.specs.declared.language.Label.{Label}
use Rattle.cj_passes.specs.Lowering.{Reached}
use Rattle.cj_passes.specs.Search.{IsSearch, Grows}
use Rattle.cj_passes.proofs.Passing.{passed_within}
use Rattle.cj_passes.proofs.Searching.{found_marked, search_more, grows_more}
use Rattle.cj_passes.proofs.reach.Search.visit.Goals as goal

pub bounds-items-to : goal.bounds-items-to
bounds-items-to c =
    omega (
      arith,
      passed_within c.args.code.now c.args.label c.requires.closed c.requires.within,
      ap (λ (x : Label). x.0) c.passed-to.ensures,
      ap length
          c.items.ensures,
      c.requires.search.count,
    )

pub returns-then-items-to-clause-found : goal.returns-then-items-to-clause-found
returns-then-items-to-clause-found c =
    let kept = c.args.self.now.kept in
    let to = c.passed-to.result in
    let inside : to.0 < length kept = omega (
      arith,
      passed_within c.args.code.now c.args.label c.requires.closed c.requires.within,
      ap
          (λ (x : Label). x.0) c.passed-to.ensures,
      c.requires.search.count,
    ) in
    subst (Contains c.args.self.now.found) c.passed-to.ensures
    (found_marked c.args.code.now kept c.args.self.now.found to false c.requires.search inside
    (subst (λ (ks : List Bool). get_or ks to.0 false ≡ true) c.items.ensures c.if-items-to.true))

pub set-requires : goal.set-requires
set-requires c =
    omega (
      arith,
      passed_within c.args.code.now c.args.label c.requires.closed c.requires.within,
      ap
          (λ (x : Label). x.0) c.passed-to.ensures,
      c.requires.search.count,
    )

pub returns-clause-search : goal.returns-clause-search
returns-clause-search c =
    let code = c.args.code.now in
    let kept = c.args.self.now.kept in
    let found = c.args.self.now.found in
    let to = c.passed-to.result in
    let inside : to.0 < length kept = omega
    (arith, passed_within code c.args.label c.requires.closed c.requires.within, ap (λ (x : Label). x.0) c.passed-to.ensures, c.requires.search.count) in
    let unmarked : slice_get kept to.0 ≡ Some false = slice_get-get_or kept to.0 false inside
    ∙ ap Some (subst (λ (ks : List Bool). get_or ks to.0 false ≡ false) c.items.ensures c.if-items-to.false) in
    let more = search_more code kept found to c.requires.search unmarked inside (subst (Reached code) (sym c.passed-to.ensures) c.requires.reached) in
    subst (λ ks. IsSearch code ks c.push.new.self) (sym c.set.ensures)
    (subst (IsSearch code (slice_set kept to.0 true)) (sym c.in_ok-push.ensures.ok) more)

pub returns-clause-grows : goal.returns-clause-grows
returns-clause-grows c = subst (Grows c.args.self.now.found) (sym c.in_ok-push.ensures.ok) (grows_more c.args.self.now.found c.passed-to.result)

pub returns-clause-found : goal.returns-clause-found
returns-clause-found c =
    let found = c.args.self.now.found in
    let to = c.passed-to.result in
    let here : Contains (found ++ to ∷ []) to = Contains-append_right found (to ∷ []) to (0, omega arith, refl) in
    subst (Contains c.push.new.self) c.passed-to.ensures (subst (λ fs. Contains fs to) (sym c.in_ok-push.ensures.ok) here)
