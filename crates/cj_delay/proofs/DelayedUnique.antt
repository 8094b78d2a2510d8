-- A code has one code with an Assume at the end of a path.
use Rattle.std.proofs.Common.{◌≡◌, ℕ, ◌-◌, ◌<◌, List, length, get_or, Some, sym, ap, ◌∙◌, subst, ⊎_elim, arith}
use Rattle.std.specs.Prelude.{slice_get}
use Rattle.std.proofs.lemmas.Option.{same_Some, none-some, slice_get-get_or, slice_get_within, get_or_from_slice_get}
use Rattle.std.proofs.lemmas.List.{same_lists}
use Rattle.cj_ir.specs.declared.language.Label.{Label}
use Rattle.cj_ir.specs.declared.language.Guard.{Guard}
use Rattle.cj_ir.specs.declared.language.Program.{Program}
use Rattle.cj_draft.specs.declared.points.Point.{Point}
use Rattle.cj_draft.specs.declared.instructions.VInstr.{VInstr}
use Rattle.cj_draft.specs.declared.instructions.VInstr.TheVariants.{Assume, Anchor}
use Rattle.cj_draft.specs.declared.code.Back.{Back}
use Rattle.cj_draft.specs.declared.code.Place.{Place}
use Rattle.cj_draft.specs.declared.code.Code.{Code}
use Rattle.cj_draft.specs.Arrives.{place_at}
use Rattle.cj_ir.proofs.ListReads.{at_index}
use Rattle.cj_rows.specs.Pairs.{AreWith}
use Rattle.cj_delay.specs.DelayedAssume.{on_path, turns_back, path_pair, with_backs, AreMarked, fresh_place, delayed, IsDelayed, IsAfterDelay}
use Rattle.cj_rows.proofs.WithPairs.{with_alike}
use Rattle.cj_delay.proofs.DelayedSound.{find}

-- what stands at a label of marked places
marked_alike : (code : Code) (path : List Label) (target : Point) (number upto : ℕ) (one other : List Place) → AreMarked code path target number upto one →
    AreMarked code path target number upto other → (i : ℕ) (p : Place) → slice_get one i ≡ Some p → slice_get other i ≡ Some p
marked_alike code path target number upto one other a b i p at = ⊎_elim
    (λ found.
    let k = found.0 in
    let here : on_path path k ≡ x = found.3 in
    let inside : i < length code.places = omega (arith, slice_get_within one i p at, a.count) in
    let old = at_index code.places i inside in
    let was : place_at code (on_path path k) ≡ Some old.0 = ap (place_at code) here ∙ old.1 in
    let m = a.marked k old.0 found.1 found.2 was in
    let n = b.marked k old.0 found.1 found.2 was in
    let same : m.0 ≡ n.0 = with_alike old.0.backs (path_pair code path target number k) m.0 n.0 m.1 n.1 in
    let first : with_backs m.0 old.0 ≡ p = same_Some (with_backs m.0 old.0) p (sym m.2 ∙ ap (λ (y : Label). slice_get one y.0) here ∙ at) in
    ap (λ (y : Label). slice_get other y.0) (sym here) ∙ n.2 ∙ ap (λ bs. Some (with_backs bs old.0)) (sym same) ∙ ap Some first)
    (λ none. b.others x none ∙ sym (a.others x none) ∙ at)
    (find path x upto)
  where
    x : Label
    x = record { 0 = i }

lists_alike : (one other : List Place) → length one ≡ length other → ((i : ℕ) (p : Place) → slice_get one i ≡ Some p → slice_get other i ≡ Some p) → one ≡ other
lists_alike one other size same = same_lists one other size (λ k d h.
    sym (get_or_from_slice_get other k (get_or one k d) d (same k (get_or one k d) (slice_get-get_or one k d h))))

delayed_alike : (code : Code) (path : List Label) (gs : List Guard) (one other : Code) → IsDelayed code path gs one → IsDelayed code path gs other → one ≡ other
delayed_alike code path gs one other a b =
    let before = on_path path (length path - 2) in
    let last = on_path path (length path - 1) in
    let anchors : a.anchor ≡ b.anchor = same_Some a.anchor b.anchor (sym a.at_first ∙ b.at_first) in
    let instr : Anchor a.number a.target a.next ≡ Anchor b.number b.target b.next = sym a.is_anchor ∙ ap (λ (p : Place). p.instr) anchors ∙ b.is_anchor in
    let number : a.number ≡ b.number = cc in
    let target : a.target ≡ b.target = cc in
    let marked = subst (λ (t : Point). AreMarked code path t b.number (length path - 1) a.places) target
    (subst (λ k. AreMarked code path a.target k (length path - 1) a.places) number a.are_marked) in
    let places : a.places
    ≡ b.places = lists_alike a.places b.places (a.are_marked.count ∙ sym b.are_marked.count)
    (marked_alike code path b.target b.number (length path - 1) a.places b.places marked b.are_marked) in
    let from : a.from ≡ b.from = same_Some a.from b.from (sym a.at_from ∙ ap (λ (ps : List Place). slice_get ps before.0) places ∙ b.at_from) in
    let lasts : a.last ≡ b.last = same_Some a.last b.last (sym a.at_last ∙ b.at_last) in
    let pair : path_pair code path a.target a.number (length path - 1) ≡ path_pair code path b.target b.number (length path - 1) =
    ap (λ (t : Point). path_pair code path t a.number (length path - 1)) target ∙ ap (λ k. path_pair code path b.target k (length path - 1)) number in
    let with_b = subst (λ (q : Back). AreWith b.last.backs q a.backs) pair
    (subst (λ (p : Place). AreWith p.backs (path_pair code path a.target a.number (length path - 1)) a.backs) lasts a.with_pair) in
    let backs : a.backs ≡ b.backs = with_alike b.last.backs (path_pair code path b.target b.number (length path - 1)) a.backs b.backs with_b b.with_pair in
    let assume : ℕ → Point → VInstr = λ k t. Assume gs (turns_back code path k) t last in
    a.same
    ∙ ap (λ (ps : List Place). delayed code ps before last a.from (fresh_place (Assume gs (turns_back code path a.number) a.target last) a.last a.backs)) places
    ∙ ap (λ (p : Place). delayed code b.places before last p (fresh_place (Assume gs (turns_back code path a.number) a.target last) a.last a.backs)) from
    ∙ ap (λ k. delayed code b.places before last b.from (fresh_place (Assume gs (turns_back code path k) a.target last) a.last a.backs)) number
    ∙ ap (λ (t : Point). delayed code b.places before last b.from (fresh_place (Assume gs (turns_back code path b.number) t last) a.last a.backs)) target
    ∙ ap (λ (p : Place). delayed code b.places before last b.from (fresh_place (Assume gs (turns_back code path b.number) b.target last) p a.backs)) lasts
    ∙ ap (λ (bs : List Back). delayed code b.places before last b.from (fresh_place (Assume gs (turns_back code path b.number) b.target last) b.last bs)) backs
    ∙ sym b.same

pub delayed_unique : (P : Program) (code : Code) (path : List Label) (gs : List Guard) (one other : Code) → IsAfterDelay P code path gs one →
    IsAfterDelay P code path gs other → one ≡ other
delayed_unique P code path gs one other a b = ⊎_elim
    (λ x. ⊎_elim (λ y. delayed_alike code path gs one other x.1 y.1) (λ y. absurd (none-some y.0 (sym x.0 ∙ y.1))) b)
    (λ x. ⊎_elim (λ y. absurd (none-some x.0 (sym y.0 ∙ x.1))) (λ y. x.2 ∙ sym y.2) b)
    a
