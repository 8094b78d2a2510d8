-- The assignments of a move are at most as many as the registers.
use Rattle.std.proofs.Common.{◌≡◌, ◌≢◌, ℕ, ◌<◌, ◌≤◌, List, length, map, sym, ap, ◌∙◌, arith, eqb}
use Rattle.std.specs.Prelude.{slice_index_or, pos}
use Rattle.cj_ir.specs.declared.language.Operand.TheVariants.{Const}
use Rattle.std.specs.List.{AllPairs}
use Rattle.std.proofs.lemmas.List.{length-map, get_or-map}
use Rattle.std.proofs.lemmas.Bool.{eqb-true, eq-eqb}
use Rattle.std.proofs.lemmas.List.Elements.{All-contains, All-map}
use Rattle.std.proofs.lemmas.Map.Made.{IsDistinct-from_AllPairs}
use Rattle.std.proofs.lemmas.Map.Steps.{length-le_from_distinct_below}
use Rattle.std.proofs.lemmas.Map.Views.{Contains-from_any}
use Rattle.cj_ir.specs.WellFormed.{AllDifferBy}
use Rattle.cj_ir.specs.declared.language.Reg.{Reg}
use Rattle.cj_draft.specs.declared.instructions.Pair.{Pair}
use Rattle.cj_draft.specs.WellNamed.{ArePairsFine}

numbered : ℕ → Reg
numbered n = record { 0 = n }

pub same_reg : (r s : Reg) → r.0 ≡ s.0 → r ≡ s
unfolding numbered
same_reg r s e = ap numbered e

dest_number : Pair → ℕ
dest_number pair = pair.dest.0

dest_at : (pairs : List Pair) (i d : ℕ) (x : Pair) → i < length pairs → slice_index_or (map dest_number pairs) i d ≡ (slice_index_or pairs i x).dest.0
unfolding dest_number
dest_at pairs i d x h = get_or-map (λ (pair : Pair). pair.dest.0) pairs i x d h

numbers_differ : (pairs : List Pair) (x : Pair) → AllDifferBy (λ pair. pair.dest) pairs → AllPairs (λ m n. m ≢ n) (map dest_number pairs)
numbers_differ pairs x differ i j d lt within = λ e.
    let last : j < length pairs = omega (arith, length-map pairs dest_number) in
    let first : i < length pairs = omega arith in
    let one = slice_index_or pairs i x in
    let other = slice_index_or pairs j x in
    differ i j x lt last (same_reg one.dest other.dest (sym (dest_at pairs i d x first) ∙ e ∙ dest_at pairs j d x last))

pub few_pairs : (n : ℕ) (pairs : List Pair) → ArePairsFine n pairs → length pairs ≤ n
unfolding dest_number
few_pairs n pairs fine =
    let some : Pair = record { dest = record { 0 = 0 }; value = Const (pos 0) } in
    let numbers = map dest_number pairs in
    let distinct = IsDistinct-from_AllPairs {eq = eqb} (λ a b. (eqb-true a b, eq-eqb a b)) numbers (numbers_differ pairs some fine.differ) in
    let below = All-map (λ r. r < n) dest_number pairs fine.dests in
    let bound = length-le_from_distinct_below numbers n distinct
    (λ q h. All-contains (λ r. r < n) numbers q below (Contains-from_any (λ x y e. eqb-true x y e) q numbers h)) in
    omega (arith, length-map pairs dest_number)
