-- What each call keeps of what a seat has seen.
use Rattle.std.proofs.Common.{◌≡◌, ℕ, ◌≤◌, List, [], ◌∷◌, ◌++◌, length, length-append, append-nil, refl, sym, ap, ◌∙◌, subst, inl, inr, arith, le_refl}
use Rattle.cj_publish.specs.declared.view.Cell.{Cell}
use Rattle.cj_publish.specs.declared.view.View.{View}
use Rattle.cj_publish.specs.Views.{with_next, claiming, with_region, with_look}
use Rattle.cj_publish.specs.Seen.{SeenAt, SeesNoMore}
use Rattle.cj_publish.specs.Reliable.{IsReliable}
use Rattle.cj_publish.specs.Plays.{region, Sees}
use Rattle.cj_publish.specs.Calls.{Claims, Gains, Grows}
use Rattle.cj_publish.specs.declared.publishing.Claim.{Claim as ClaimAnswer}
use Rattle.cj_publish.specs.declared.publishing.Claim.TheVariants.{Claimed, Full}
use Rattle.cj_publish.specs.Learns.{Learns, learns_more}
use Rattle.cj_publish.proofs.Several.{sees_itself, sees_again}

pub sees_learns : (v u w : View) (f : Cell) (r : ℕ) (x : Cell × ℕ) → Sees v f r u → w ≡ with_look u x → Learns v w
sees_learns v u w f r x (inl z) e =
    subst (Learns v) (sym (e ∙ ap (λ (y : View). with_look y x) z.1)) (learns_more v (with_look v x) refl refl (le_refl v.next) (λ y h. h))
sees_learns v u w f r x (inr z) e =
    let seen : View = with_region v (region f r z.0 []) in
    subst (Learns v) (sym (e ∙ ap (λ (y : View). with_look y x) z.3)) (learns_more v (with_look seen x) refl refl (le_refl v.next) (λ y h. inr h))

pub gains_learns : (v w : View) → Gains v w → Learns v w
gains_learns v w g = let next = g.next in learns_more v w g.live g.key (omega arith) g.regions

no_more : (xs more : List ℕ) → length (xs ++ more) ≤ length xs → more ≡ []
no_more xs [] h = refl
no_more xs (y ∷ more) h = let z = length-append xs (y ∷ more) in absurd (omega arith)

pub grows_learns : (v w : View) → Grows v w → IsReliable w → Learns v w
grows_learns v w g ok = record {
  live = g.live;
  key = g.key;
  next = let next = g.next in omega arith;
  seen = λ c o x. let y = g.regions x.0 x.1 in (y.0, y.1, y.2 ∙ x.2, y.3 ∙ x.3);
  whole = λ c o ws x.
      let y = g.regions x.0 x.1 in
      let room = (ok.spelled y.0 y.1).0 in
      let len = y.4 in
      let all = x.4 in
      let is = x.5 in
      let count : length x.0.read ≡ length ws = ap length is in
      let now : length (x.0.read ++ y.5.0) ≡ length y.0.read = ap length y.5.1 in
      let none : y.5.0 ≡ [] = no_more x.0.read y.5.0 (omega arith) in
      (y.0, y.1, y.2 ∙ x.2, y.3 ∙ x.3, len ∙ all, sym y.5.1 ∙ (ap (λ (l : List ℕ). x.0.read ++ l) none ∙ (append-nil x.0.read ∙ is)));
}

pub claims_learns : (v w : View) (len : ℕ) (answer : ClaimAnswer) → Claims v len answer w → Learns v w
claims_learns v w len (Claimed o) h = let next = h.1 in subst (Learns v) (sym h.0) (learns_more v (claiming v o len) refl refl (omega arith) (λ x z. z))
claims_learns v w len (Full next need) h = subst (Learns v) (sym h.0) (learns_more v (with_next v next) refl refl h.1 (λ x z. z))

pub sees_seen : (v u w : View) (f : Cell) (r : ℕ) (x : Cell × ℕ) → Sees v f r u → w ≡ with_look u x → (r ≡ 0 → ⊥) → SeenAt w f r
sees_seen v u w f r x (inl z) e some = absurd (some z.0)
sees_seen v u w f r x (inr z) e some =
    let seen : View = with_region v (region f r z.0 []) in
    subst (λ (y : View). SeenAt y f r) (sym (e ∙ ap (λ (y : View). with_look y x) z.3)) (region f r z.0 [], inl refl, refl, refl)

pub sees_sole : (v u w : View) (f : Cell) (r : ℕ) (x : Cell × ℕ) → Sees v f r u → w ≡ with_look u x → w.sole ≡ v.sole
sees_sole v u w f r x (inl z) e = ap (λ (y : View). y.sole) e ∙ ap (λ (y : View). y.sole) z.1
sees_sole v u w f r x (inr z) e = ap (λ (y : View). y.sole) e ∙ ap (λ (y : View). y.sole) z.3

pub claims_sole : (v w : View) (len : ℕ) (answer : ClaimAnswer) → Claims v len answer w → w.sole ≡ v.sole
claims_sole v w len (Claimed o) h = ap (λ (y : View). y.sole) h.0
claims_sole v w len (Full next need) h = ap (λ (y : View). y.sole) h.0

-- a lookup that found nothing, or what was seen already
pub sees_no_more : (v u w : View) (f : Cell) (r : ℕ) (x : Cell × ℕ) → Sees v f r u → w ≡ with_look u x → (¬ (r ≡ 0) → SeenAt v f r) → SeesNoMore v w
sees_no_more v u w f r x (inl z) e known = subst (SeesNoMore v) (sym (e ∙ ap (λ (y : View). with_look y x) z.1)) (sees_itself v)
sees_no_more v u w f r x (inr z) e known =
    let some = z.1 in
    subst (SeesNoMore v) (sym (e ∙ ap (λ (y : View). with_look y x) z.3)) (sees_again v (region f r z.0 []) (known (λ nothing. omega arith)))
