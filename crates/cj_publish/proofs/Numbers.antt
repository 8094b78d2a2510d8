-- The words of slots lie below the regions, and each slot has its own.
use Rattle.std.proofs.Common.{◌≡◌, ℕ, ◌+◌, ◌*◌, ◌<◌, ◌≤◌, length, sym, ap, subst, arith}
use mathlib.Core.Logic.{dite}
use native.Mathlib.Decide.{dec_lt}
use Rattle.std.proofs.Math.Nat.{mul-le-mul_left}
use Rattle.cj_publish.specs.declared.view.Cell.{Cell}
use Rattle.cj_publish.specs.declared.view.Key.{Key}
use Rattle.cj_publish.specs.Cells.{program_in, cells, number, IsCell}
use Rattle.cj_publish.specs.Plays.{IsAt}

-- a whole row is passed
row : (n a b s : ℕ) → a < b → s < n → n * a + s < n * b
row n a b s lt low =
    let m : n * (a + 1) ≤ n * b = mul-le-mul_left n (omega arith) in
    let d : n * (a + 1) ≡ n * a + n = omega arith in
    omega arith

pub cell_below : (k : Key) (c : Cell) → IsCell k c → number k c < cells k
unfolding number cells
cell_below k c h = row k.slots c.function.0 (length (program_in k).functions) c.slot h.function h.slot

apart : (n a b s t : ℕ) → s < n → t < n → a < b → n * a + s ≡ n * b + t → ⊥
apart n a b s t low low' lt e = let h = row n a b s lt low in omega arith

pub one_cell : (k : Key) (a b : Cell) → IsCell k a → IsCell k b → number k a ≡ number k b → a ≡ b
unfolding number
one_cell k a b g h e =
    dite (dec_lt a.function.0 b.function.0)
    (λ lt. absurd (apart k.slots a.function.0 b.function.0 a.slot b.slot g.slot h.slot lt e))
    (λ ge. dite (dec_lt b.function.0 a.function.0)
    (λ lt. absurd (apart k.slots b.function.0 a.function.0 b.slot a.slot h.slot g.slot lt (sym e)))
    (λ le.
    let f : a.function.0 ≡ b.function.0 = omega arith in
    let z : k.slots * a.function.0 ≡ k.slots * b.function.0 = ap (λ (y : ℕ). k.slots * y) f in
    let s : a.slot ≡ b.slot = omega arith in
    (λ i. record { function = record { 0 = f i }; slot = s i })))

pub this_cell : (k l : Key) (i : ℕ) (f g : Cell) → l ≡ k → IsAt k i f → IsAt l i g → f ≡ g
this_cell k l i f g e h h' =
    let q : IsAt k i g = subst (λ (x : Key). IsAt x i g) e h' in
    let a = h.word in
    let b = q.word in
    one_cell k f g h.cell q.cell (omega arith)
