-- The assignments of a Move, one after the other over values that were read before.
use Rattle.std.proofs.Common.{◌≡◌, ◌∙◌, refl, sym, ap, ℕ, zero, suc, ◌+◌, ◌<◌, List, [], ◌∷◌, length, map, drop, get_or, arith, ℤ}
use Rattle.std.specs.Prelude.{slice_set}
use Rattle.std.proofs.lemmas.List.{drop_more, drop_all, length-set, get_or_default}
use Rattle.cj_ir.specs.Values.{operand_value}
use Rattle.cj_ir.specs.declared.language.Label.{Label}
use Rattle.cj_draft.specs.declared.instructions.Pair.{Pair}
use Rattle.cj_draft.specs.Effects.{moved}
use Rattle.cj_activations.specs.Activations.{Active, InBase, InVersion, Paused, Stacked}
use Rattle.cj_activations.specs.Changes.{active_regs, with_regs}
use Rattle.cj_machine.specs.Versions.{moved_to}

pub regs_set : (a : Active) (regs : List ℤ) → active_regs (with_regs a regs) ≡ regs
unfolding active_regs with_regs
regs_set (InBase fr) regs = refl
regs_set (InVersion v) regs = refl

pub set_again : (a : Active) (regs other : List ℤ) → with_regs (with_regs a regs) other ≡ with_regs a other
unfolding with_regs
set_again (InBase fr) regs other = refl
set_again (InVersion v) regs other = refl

pub own_regs : (a : Active) → with_regs a (active_regs a) ≡ a
unfolding active_regs with_regs
own_regs (InBase fr) = refl
own_regs (InVersion v) = refl

pub moved_set : (a : Active) (regs other : List ℤ) (next : Label) → moved_to (with_regs a regs) next other ≡ moved_to a next other
unfolding moved_to with_regs
moved_set (InBase fr) regs other next = refl
moved_set (InVersion v) regs other next = refl

value_at : (regs : List ℤ) (pairs : List Pair) (place : ℕ) (pair : Pair) (d : ℤ) → place < length pairs
    → get_or (map (λ (p : Pair). operand_value regs p.value) pairs) place d ≡ operand_value regs (get_or pairs place pair).value
value_at regs [] place pair d h = absurd (omega arith)
value_at regs (p ∷ pairs) zero pair d h = refl
value_at regs (p ∷ pairs) (suc place) pair d h = value_at regs pairs place pair d (omega arith)

pub assigns_more : (regs now : List ℤ) (pairs : List Pair) (values : List ℤ) (place : ℕ) (pair : Pair) (v : ℤ) → place < length pairs
    → pair ≡ get_or pairs place pair → v ≡ get_or values place v → values ≡ map (λ (p : Pair). operand_value regs p.value) pairs
    → moved regs (drop place pairs) now ≡ moved regs (drop (place + 1) pairs) (slice_set now pair.dest.0 v)
unfolding moved
assigns_more regs now pairs values place pair v within is read all =
    let value : v ≡ operand_value regs pair.value =
    read ∙ ap (λ (xs : List ℤ). get_or xs place v) all ∙ value_at regs pairs place pair v within
    ∙ ap (λ (p : Pair). operand_value regs p.value) (sym is) in
    rw (drop_more pairs place pair within, ← is, value) refl

pub assigns_none : (regs now : List ℤ) (pairs : List Pair) (n : ℕ) → length pairs ≡ n → moved regs (drop n pairs) now ≡ now
unfolding moved
assigns_none regs now pairs n e = rw (drop_all n pairs (omega arith)) refl

-- what was written so far
pub record IsWritten (pairs : List Pair) (values : List ℤ) (place : ℕ) (old new : Active) : Type 0 where
  pub count : length (active_regs new) ≡ length (active_regs old)
  pub top : new ≡ with_regs old (active_regs new)
  pub left : (regs : List ℤ) → values ≡ map (λ (p : Pair). operand_value regs p.value) pairs
      → moved regs (drop place pairs) (active_regs new) ≡ moved regs pairs (active_regs old)

pub written_none : (pairs : List Pair) (values : List ℤ) (a : Active) → IsWritten pairs values 0 a a
written_none pairs values a = record { count = refl; top = sym (own_regs a); left = λ regs all. refl }

pub written_more : (pairs : List Pair) (values : List ℤ) (place : ℕ) (old now new : Active) (d : Pair) (e : ℤ)
    → place < length pairs → length values ≡ length pairs
    → new ≡ with_regs now (slice_set (active_regs now) (get_or pairs place d).dest.0 (get_or values place e))
    → IsWritten pairs values place old now → IsWritten pairs values (place + 1) old new
written_more pairs values place old now new d e within count is w =
    let pair : Pair = get_or pairs place d in
    let v : ℤ = get_or values place e in
    let within' : place < length values = omega arith in
    let regs : List ℤ = slice_set (active_regs now) pair.dest.0 v in
    let set : active_regs new ≡ regs = ap active_regs is ∙ regs_set now regs in
    record {
      count = ap length set ∙ length-set (active_regs now) pair.dest.0 v ∙ w.count;
      top = rw set (is ∙ ap (λ a. with_regs a regs) w.top ∙ set_again old (active_regs now) regs);
      left = λ from all. rw set
          (sym (assigns_more from (active_regs now) pairs values place pair v within (get_or_default pairs place d pair within)
          (get_or_default values place e v within') all) ∙ w.left from all);
    }

pub written_all : (pairs : List Pair) (values : List ℤ) (n : ℕ) (old new : Active) → length pairs ≡ n → IsWritten pairs values n old new
    → (regs : List ℤ) → values ≡ map (λ (p : Pair). operand_value regs p.value) pairs → new ≡ with_regs old (moved regs pairs (active_regs old))
written_all pairs values n old new e w regs all =
    w.top ∙ ap (with_regs old) (sym (assigns_none regs (active_regs new) pairs n e) ∙ w.left regs all)

pub stacked_is : (s : Stacked) (top : Active) (waiting : List Paused) → s.top ≡ top → s.waiting ≡ waiting → s ≡ record { top = top; waiting = waiting }
stacked_is s top waiting e f = rw (← e, ← f) refl
