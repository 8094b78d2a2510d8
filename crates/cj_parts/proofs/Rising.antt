-- Lookups that rise in a seat never fall in reports.
use Rattle.std.proofs.Common.{◌≡◌, ◌∙◌, refl, sym, ap, subst, arith, inl, inr, ℕ, ◌≤◌, List, [], ◌∷◌, ◌++◌, map, append-nil, append_assoc}
use Rattle.std.specs.Prelude.{All}
use Rattle.std.proofs.lemmas.List.Elements.{All-nil, All-cons, All-weaker}
use Rattle.std.proofs.lemmas.List.Kept.{AllPairs-cons}
use Rattle.cj_calls.specs.declared.report.Look.{Look}
use Rattle.cj_calls.specs.declared.report.Report.{Report}
use Rattle.cj_publish.specs.declared.view.Cell.{Cell}
use Rattle.cj_publish.specs.declared.view.View.{View}
use Rattle.cj_publish.specs.Words.{Has, Each, Rises}
use Rattle.cj_publish.specs.Rule.{Grounded}
use Rattle.cj_publish.specs.Plays.{IsReliable}
use Rattle.cj_publish.specs.Fetched.{main_of}
use Rattle.std.proofs.lemmas.List.{map-append}
use Rattle.cj_parts.specs.Looks.{looked, looks_of, NeverFall, IsAbove, IsNotOlder, IsSeen, FoundIn}

above_first : (x : Look) (looks : List Look) → Each (λ (y : Cell × ℕ). y.0 ≡ main_of x.function → x.offset ≤ y.1) (map looked looks)
    → All (λ (y : Look). x.function ≡ y.function → x.offset ≤ y.offset) looks
above_first x [] h = All-nil (λ (y : Look). x.function ≡ y.function → x.offset ≤ y.offset)
above_first x (y ∷ looks) h =
    All-cons (λ (y : Look). x.function ≡ y.function → x.offset ≤ y.offset) y looks
    (λ (e : x.function ≡ y.function). h (looked y) (inl refl) (ap main_of (sym e)))
    (above_first x looks (λ (z : Cell × ℕ) (m : Has (map looked looks) z). h z (inr m)))

pub rises_fall : (looks : List Look) → Rises (map looked looks) → NeverFall looks
rises_fall [] h = λ i j d lt within. absurd (omega (arith, within))
rises_fall (x ∷ looks) h =
    AllPairs-cons (λ (x y : Look). x.function ≡ y.function → x.offset ≤ y.offset) x looks (above_first x looks h.0) (rises_fall looks h.1)

-- a reliable seat's lookups never fall
pub looks_never_fall : (v : View) (looks : List Look) → IsReliable v → v.lookups ≡ map looked looks → NeverFall looks
looks_never_fall v looks ok e = rises_fall looks (subst Rises e ok.sound.lookups.0)

pub looks_push : (rs : List Report) (r : Report) → looks_of (rs ++ r ∷ []) ≡ looks_of rs ++ r.looks
unfolding looks_of
looks_push [] r = append-nil r.looks
looks_push (x ∷ xs) r = ap (λ (y : List Look). x.looks ++ y) (looks_push xs r) ∙ sym (append_assoc x.looks (looks_of xs) r.looks)

-- the lookups of a seat that made a call more
pub trail_push : (v w : View) (rs : List Report) (r : Report) → v.lookups ≡ map looked (looks_of rs) → w.lookups ≡ v.lookups ++ map looked r.looks
    → w.lookups ≡ map looked (looks_of (rs ++ r ∷ []))
trail_push v w rs r h e =
    e ∙ ap (λ (l : List (Cell × ℕ)). l ++ map looked r.looks) h ∙ sym (map-append looked (looks_of rs) r.looks) ∙ ap (map looked) (sym (looks_push rs r))

-- and each of them found nothing, or what the seat has seen
all_found : (v : View) (looks : List Look) → Each (Grounded v.regions) (map looked looks) → All (FoundIn v) looks
all_found v [] h = All-nil (FoundIn v)
all_found v (x ∷ looks) h =
    All-cons (FoundIn v) x looks (h (looked x) (inl refl)) (all_found v looks (λ (z : Cell × ℕ) (m : Has (map looked looks) z). h z (inr m)))

pub looks_are_found : (v : View) (looks : List Look) → IsReliable v → v.lookups ≡ map looked looks → All (FoundIn v) looks × NeverFall looks
looks_are_found v looks ok e =
    (all_found v looks (subst (Each (Grounded v.regions)) e ok.sound.lookups.1), looks_never_fall v looks ok e)

-- what is no older than all that was seen is above what looks tell of it
pub not_older_is_above : (v : View) (floor : List Look) (look : Look) → All (IsSeen v) floor → IsNotOlder v look → IsAbove floor look
not_older_is_above v floor look seen old =
    All-weaker (IsSeen v) (λ (x : Look). x.function ≡ look.function → x.offset ≤ look.offset)
    (λ (x : Look) (at : IsSeen v x) (e : x.function ≡ look.function).
    subst (λ (n : ℕ). n ≤ look.offset) at.3 (old at.0 at.1 (at.2 ∙ ap main_of e))) floor seen
