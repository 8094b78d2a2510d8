use Rattle.std.proofs.Common.{get_or, ◌≡◌, ◌-◌, ◌<◌, ◌≤◌, ◌∙◌, ℕ, List, Some, length, sym, ap, subst, arith}
use Rattle.std.proofs.lemmas.Option.{same_Some}
use Rattle.cj_ir.specs.declared.language.Label.{Label}
use Rattle.cj_draft.specs.declared.points.Point.{Point}
use Rattle.cj_draft.specs.declared.instructions.VInstr.TheVariants.{Anchor}
use Rattle.cj_draft.specs.declared.code.Place.{Place}
use Rattle.cj_draft.specs.declared.code.Code.{Code}
use Rattle.cj_draft.specs.Arrives.{place_at}
use Rattle.cj_rows.proofs.ListReads.{get-read}
use Rattle.cj_delay.specs.DelayedAssume.{on_path, turns_back, AreMarked}
use Rattle.cj_delay.specs.DelaySteps.{IsPathIn, BeginsPath, IsLed}
use Rattle.cj_delay.proofs.Delaying.{IsAssumeAt, delayed_by}
use Rattle.cj_delay.proofs.delays.delayed_code.Goals as goal

-- the place that is read is the path's first
first_place : (code : Code) (path : List Label) (read : List Place) (first : Label) (place : Place) → IsPathIn code path → first ≡ on_path path 0 →
    read ≡ code.places → place ≡ get_or read first.0 place → place_at code (on_path path 0) ≡ Some place
first_place code path read first place is_in is same at =
    let long = is_in.long in
    let inside = subst (λ (x : Label). x.0 < length code.places) (sym is) (is_in.within 0 (omega arith)) in
    ap (place_at code) (sym is) ∙ get-read code.places read first.0 place same inside at

begin_instr : (code : Code) (path : List Label) (place : Place) (b : BeginsPath code path) → place_at code (on_path path 0) ≡ Some place →
    place.instr ≡ Anchor b.number b.target b.next
begin_instr code path place b at = ap (λ (p : Place). p.instr) (same_Some place b.place (sym at ∙ b.at)) ∙ b.instr

begin_short : (code : Code) (path : List Label) (place : Place) (number : ℕ) (target : Point) (next : Label) (b : BeginsPath code path) →
    place_at code (on_path path 0) ≡ Some place → place.instr ≡ Anchor number target next → turns_back code path number ≤ 4
begin_short code path place number target next b at is =
    let same : Anchor b.number b.target b.next ≡ Anchor number target next = sym (begin_instr code path place b at) ∙ is in
    let n : b.number ≡ number = cc in
    subst (λ k. turns_back code path k ≤ 4) n b.few

pub assume_at-requires : goal.assume_at-requires
assume_at-requires c =
    let at = first_place c.args.code c.args.path.now c.items.result.now c.on_path-first.result c.index-items-first.result c.requires.path
    c.on_path-first.ensures c.items.ensures c.index-items-first.is in
    let is_anchor = ap (λ (p : Place). p.instr) c.index-items-first.is ∙ c.in-Anchor.is in
    record {
      path = c.requires.path;
      short = begin_short c.args.code c.args.path.now c.index-items-first.result c.in-Anchor.back c.in-Anchor.target c.in-Anchor.next c.requires.begins at
          is_anchor;
    }

pub marked-requires-clause-short : goal.marked-requires-clause-short
marked-requires-clause-short c =
    let at = first_place c.args.code c.args.path.now c.items.result.now c.on_path-first.result c.index-items-first.result c.requires.path
    c.on_path-first.ensures c.items.ensures c.index-items-first.is in
    let is_anchor = ap (λ (p : Place). p.instr) c.index-items-first.is ∙ c.in-Anchor.is in
    begin_short c.args.code c.args.path.now c.index-items-first.result c.in-Anchor.back c.in-Anchor.target c.in-Anchor.next c.requires.begins at is_anchor

pub returns-in_default : goal.returns-in_default
returns-in_default c =
    let at = first_place c.args.code c.args.path.now c.items.result.now c.on_path-first.result c.index-items-first.result c.requires.path
    c.on_path-first.ensures c.items.ensures c.index-items-first.is in
    let b = c.requires.begins in
    absurd (c.in_default.not-Anchor b.number b.target b.next (sym (ap (λ (p : Place). p.instr) c.index-items-first.is)
    ∙ begin_instr c.args.code c.args.path.now c.index-items-first.result b at))

pub returns-in_ok-code-in-Anchor-2 : goal.returns-in_ok-code-in-Anchor-2
returns-in_ok-code-in-Anchor-2 c =
    let code = c.args.code in
    let path = c.args.path.now in
    let gs = c.args.guards.now in
    let at = first_place code path c.items.result.now c.on_path-first.result c.index-items-first.result c.requires.path c.on_path-first.ensures c.items.ensures
    c.index-items-first.is in
    let is_anchor = ap (λ (p : Place). p.instr) c.index-items-first.is ∙ c.in-Anchor.is in
    let number = c.in-Anchor.back in
    let copied : c.in_ok-target-in-Anchor.target ≡ c.in-Anchor.target = c.in_ok-target-in-Anchor.ensures in
    let fresh = c.in_ok-fresh-in-Anchor.fresh in
    let f = c.in_ok-fresh-in-Anchor.ensures in
    let assume : IsAssumeAt code path gs number c.in_ok-target-in-Anchor.target fresh = record { last = f.0; at = f.1; is_fresh = f.2 } in
    let now = c.in_ok-code-in-Anchor.code in
    let made = c.in_ok-code-in-Anchor-2.code in
    let led = subst (λ (x : Label). IsLed now (on_path path (length path - 2)) x fresh made) c.on_path-last.ensures
    (subst (λ (x : Label). IsLed now x c.on_path-last.result fresh made) c.on_path-before.ensures c.in_ok-code-in-Anchor-2.ensures) in
    delayed_by code path gs c.index-items-first.result number c.in-Anchor.target c.in-Anchor.next at is_anchor
    fresh (subst (λ (t : Point). IsAssumeAt code path gs number t fresh) copied assume)
    now c.in_ok-code-in-Anchor.ensures.same
    (subst (λ (t : Point). AreMarked code path t number (length path - 1) now.places) copied c.in_ok-code-in-Anchor.ensures.marked)
    made led
