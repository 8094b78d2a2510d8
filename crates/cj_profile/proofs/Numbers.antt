-- Each word of a program is inside its profile, and none but the asked levels has the number of an asked level.
use Rattle.std.proofs.Common.{◌≡◌, ℕ, zero, suc, ◌<◌, ◌≤◌, List, [], ◌∷◌, length, slice_get, refl, arith}
use Rattle.cj_ir.specs.Program.{params_of, labels_of, param_count, label_count}
use Rattle.cj_ir.specs.declared.language.FunId.{FunId}
use Rattle.cj_ir.specs.declared.language.Function.{Function}
use Rattle.cj_ir.specs.declared.language.Program.{Program}
use Rattle.cj_ir.specs.declared.language.Edge.TheVariants.{Then, Else}
use Rattle.cj_profile.specs.Words.{number, word_count, IsWordOf}
use Rattle.cj_profile.specs.Steps.{IsFree, IsLow}
use Rattle.cj_profile.specs.Limits.{IsLimited}
use Rattle.cj_profile.specs.declared.layout.Word.{Word}
use Rattle.cj_profile.specs.declared.layout.Word.TheVariants.{Finished, Calls, Failures, Asked, Taken, Last, Agreed, Way}

with_param : (fs : List Function) (n k : ℕ) → k < params_of (slice_get fs n) → n < length fs
with_param [] n k h = absurd (omega arith)
with_param (f ∷ fs) zero k h = omega arith
with_param (f ∷ fs) (suc n) k h = let l = with_param fs n k h in omega arith

with_label : (fs : List Function) (n k : ℕ) → k < labels_of (slice_get fs n) → n < length fs
with_label [] n k h = absurd (omega arith)
with_label (f ∷ fs) zero k h = omega arith
with_label (f ∷ fs) (suc n) k h = let l = with_label fs n k h in omega arith

pub has_param : (p : Program) (f : FunId) (k : ℕ) → k < param_count p f → f.0 < length p.functions
has_param p f k h = with_param p.functions f.0 k h

pub has_label : (p : Program) (f : FunId) (k : ℕ) → k < label_count p f → f.0 < length p.functions
has_label p f k h = with_label p.functions f.0 k h

pub inside : (p : Program) (w : Word) → IsLimited p → IsWordOf p w → number w < word_count p
inside p Finished few h = omega arith
inside p (Calls f) few h = omega arith
inside p (Failures f) few h = omega arith
inside p (Asked f) few h = omega arith
inside p (Taken f) few h = omega arith
inside p (Last f param) few h = let a = has_param p f param h in let b = (few f).0 in omega arith
inside p (Agreed f param) few h = let a = has_param p f param h in let b = (few f).0 in omega arith
inside p (Way f label Then) few h = let a = has_label p f label.0 h in let b = (few f).1 in omega arith
inside p (Way f label Else) few h = let a = has_label p f label.0 h in let b = (few f).1 in omega arith

pub apart : (p : Program) (w : Word) → IsLimited p → IsWordOf p w → IsFree w → (g : FunId) → number w ≡ number (Asked g) → ⊥
apart p Finished few h free g e = omega arith
apart p (Calls f) few h free g e = omega arith
apart p (Failures f) few h free g e = omega arith
apart p (Asked f) few h free g e = elim free [ ]
apart p (Taken f) few h free g e = omega arith
apart p (Last f param) few h free g e = let b = (few f).0 in omega arith
apart p (Agreed f param) few h free g e = let b = (few f).0 in omega arith
apart p (Way f label Then) few h free g e = let b = (few f).1 in omega arith
apart p (Way f label Else) few h free g e = let b = (few f).1 in omega arith

pub low : (p : Program) (w : Word) (n : ℕ) → IsWordOf p w → ((f : FunId) → f.0 < length p.functions → number w ≡ number (Asked f) → n ≤ 3) → IsLow w n
low p Finished n h few = tt
low p (Calls f) n h few = tt
low p (Failures f) n h few = tt
low p (Asked f) n h few = few f h refl
low p (Taken f) n h few = tt
low p (Last f param) n h few = tt
low p (Agreed f param) n h few = tt
low p (Way f label edge) n h few = tt
