-- The places of a base body, and its maps.
use Rattle.std.proofs.Common.{◌≡◌, ℕ, zero, suc, ◌+◌, ◌<◌, List, [], ◌∷◌, ◌++◌, length, map, take, Option, Some, None, refl, sym, ap, ◌∙◌, subst, arith}
use Rattle.std.specs.Prelude.{ℤ, pos, All, slice_get, slice_index_or}
use Rattle.std.specs.List.{enumerate_from, range_with_len}
use Rattle.std.specs.Option.{option_map, option_and_then}
use Rattle.std.proofs.lemmas.List.{map-append, take_more, length-take-le, same_lists, length-map, get_or_default, get_or-map}
use Rattle.std.proofs.lemmas.List.FromFn.{length-range_with_len, get_or-map-range_with_len, length-enumerate_from}
use Rattle.std.proofs.lemmas.Option.{slice_get-map}
use Rattle.cj_ir.specs.Values.{operand_value, IsOperandWithin}
use Rattle.cj_ir.specs.Program.{function_at, instr_at, reg_count, regs_of, label_count, labels_of}
use Rattle.cj_ir.specs.declared.language.FunId.{FunId}
use Rattle.cj_ir.specs.declared.language.Label.{Label}
use Rattle.cj_ir.specs.declared.language.Operand.{Operand}
use Rattle.cj_ir.specs.declared.language.Operand.TheVariants.{Reg, Const}
use Rattle.cj_ir.specs.declared.language.Line.{Line}
use Rattle.cj_ir.specs.declared.language.Function.{Function}
use Rattle.cj_ir.specs.declared.language.Program.{Program}
use Rattle.cj_draft.specs.declared.code.Place.{Place}
use Rattle.cj_draft.specs.Arrives.{place_at}
use Rattle.cj_draft.specs.BaseBody.{identity, base_place, base_places, base_code, lines_of}

-- ---- maps

pub length-identity : (n : ℕ) → length (identity n) ≡ n
unfolding identity
length-identity n = length-map (range_with_len 0 n) (λ r. Reg (record { 0 = r })) ∙ length-range_with_len 0 n

identity_at : (n k : ℕ) (d : Operand) → k < n → slice_index_or (identity n) k d ≡ Reg (record { 0 = k })
unfolding identity
identity_at n k d h = let e : 0 + k ≡ k = omega arith in get_or-map-range_with_len (λ r. Reg (record { 0 = r })) 0 n k k d h e

pub identity_within : (n : ℕ) → All (IsOperandWithin n) (identity n)
identity_within n k d h =
    let lt : k < n = omega (arith, length-identity n) in
    subst (IsOperandWithin n) (sym (identity_at n k d lt)) lt

-- every register mapped to itself reads the registers as they are
pub identity_reads : (regs : List ℤ) (n : ℕ) → length regs ≡ n → map (operand_value regs) (identity n) ≡ regs
identity_reads regs n e =
    same_lists (map (operand_value regs) (identity n)) regs (length-map (identity n) (operand_value regs) ∙ length-identity n ∙ sym e)
    (λ k d h.
    let lt : k < n = omega (arith, length-map (identity n) (operand_value regs), length-identity n) in
    let within : k < length (identity n) = omega (arith, length-identity n) in
    let here : k < length regs = omega arith in
    get_or-map (operand_value regs) (identity n) k (Const d) d within
    ∙ ap (operand_value regs) (identity_at n k (Const d) lt)
    ∙ get_or_default regs k (pos 0) d here)

-- ---- places

abbrev numbered_place : FunId → ℕ → ℕ × Line → Place
numbered_place f n numbered = base_place f n (record { 0 = numbered.0 }) numbered.1.instr

enumerate_at : (n k : ℕ) (xs : List Line) → slice_get (enumerate_from n xs) k ≡ option_map (λ x. (n + k, x)) (slice_get xs k)
enumerate_at n k [] = refl
enumerate_at n zero (x ∷ xs) = let e : n ≡ n + 0 = omega arith in ap (λ i. Some (i, x)) e
enumerate_at n (suc k) (x ∷ xs) = let e : n + 1 + k ≡ n + suc k = omega arith in enumerate_at (n + 1) k xs
    ∙ ap (λ i. option_map (λ y. (i, y)) (slice_get xs k)) e

places_at : (f : FunId) (n : ℕ) (label : Label) (lines : List Line) →
    slice_get (base_places f n lines) label.0 ≡ option_map (base_place f n label) (option_map (λ line. line.instr) (slice_get lines label.0))
unfolding base_places
places_at f n label lines =
    slice_get-map (numbered_place f n) (enumerate_from 0 lines) label.0
    ∙ ap (option_map (numbered_place f n)) (enumerate_at 0 label.0 lines)
    ∙ by_line (slice_get lines label.0)
  where
    by_line : (o : Option Line) → option_map (numbered_place f n) (option_map (λ x. (0 + label.0, x)) o)
        ≡ option_map (base_place f n label) (option_map (λ line. line.instr) o)
    by_line None = refl
    by_line (Some line) = let e : 0 + label.0 ≡ label.0 = omega arith in ap (λ i. Some (base_place f n (record { 0 = i }) line.instr)) e

-- at each label stands the place of its base instruction
pub base_place_at : (P : Program) (f : FunId) (label : Label) →
    place_at (base_code P f) label ≡ option_map (base_place f (reg_count P f) label) (instr_at P f label)
unfolding base_code base_places
base_place_at P f label = by_function (function_at P f)
  where
    by_function : (o : Option Function) → slice_get (base_places f (reg_count P f) (lines_of o)) label.0
        ≡ option_map (base_place f (reg_count P f) label) (option_map (λ line. line.instr) (option_and_then (λ g. slice_get g.code label.0) o))
    by_function None = refl
    by_function (Some g) = places_at f (reg_count P f) label g.code

pub length-base_places : (f : FunId) (n : ℕ) (lines : List Line) → length (base_places f n lines) ≡ length lines
unfolding base_places
length-base_places f n lines =
    length-map (enumerate_from 0 lines) (numbered_place f n) ∙ length-enumerate_from 0 lines

pub length-base_code : (P : Program) (f : FunId) → length (base_code P f).places ≡ label_count P f
unfolding base_code
length-base_code P f = length-base_places f (reg_count P f) (lines_of (function_at P f)) ∙ by_function (function_at P f)
  where
    by_function : (o : Option Function) → length (lines_of o) ≡ labels_of o
    by_function None = refl
    by_function (Some g) = refl

-- ---- one register, and one line, more

range-more : (a n : ℕ) → range_with_len a (suc n) ≡ range_with_len a n ++ (a + n) ∷ []
range-more a zero = let e : a ≡ a + 0 = omega arith in ap (λ k. k ∷ []) e
range-more a (suc n) =
    let e : a + 1 + n ≡ a + suc n = omega arith in
    ap (λ ks. a ∷ ks) (range-more (a + 1) n ∙ ap (λ k. range_with_len (a + 1) n ++ k ∷ []) e)

pub identity_none : identity 0 ≡ []
unfolding identity
identity_none = refl

pub identity_more : (n : ℕ) → identity (n + 1) ≡ identity n ++ Reg (record { 0 = n }) ∷ []
unfolding identity
identity_more n =
    let e : n + 1 ≡ suc n = omega arith in
    let z : 0 + n ≡ n = omega arith in
    ap (λ k. map (λ r. Reg (record { 0 = r })) (range_with_len 0 k)) e
    ∙ ap (map (λ r. Reg (record { 0 = r }))) (range-more 0 n ∙ ap (λ k. range_with_len 0 n ++ k ∷ []) z)
    ∙ map-append (λ r. Reg (record { 0 = r })) (range_with_len 0 n) (n ∷ [])

enumerate-push : (n : ℕ) (xs : List Line) (x : Line) → enumerate_from n (xs ++ x ∷ []) ≡ enumerate_from n xs ++ (n + length xs, x) ∷ []
enumerate-push n [] x = let e : n ≡ n + 0 = omega arith in ap (λ k. (k, x) ∷ []) e
enumerate-push n (y ∷ xs) x =
    let e : n + 1 + length xs ≡ n + suc (length xs) = omega arith in
    ap (λ ys. (n, y) ∷ ys) (enumerate-push (n + 1) xs x ∙ ap (λ k. enumerate_from (n + 1) xs ++ (k, x) ∷ []) e)

pub base_places_none : (f : FunId) (n : ℕ) → base_places f n [] ≡ []
unfolding base_places
base_places_none f n = refl

pub base_places_more : (f : FunId) (n : ℕ) (lines : List Line) (i : ℕ) (d : Line) → i < length lines →
    base_places f n (take (i + 1) lines) ≡ base_places f n (take i lines) ++ base_place f n (record { 0 = i }) (slice_index_or lines i d).instr ∷ []
unfolding base_places
base_places_more f n lines i d h =
    let before = take i lines in
    let line = slice_index_or lines i d in
    let e : 0 + length before ≡ i = omega (arith, length-take-le i lines) in
    ap (λ ys. map (numbered_place f n) (enumerate_from 0 ys)) (take_more lines i d h)
    ∙ ap (map (numbered_place f n)) (enumerate-push 0 before line)
    ∙ map-append (numbered_place f n) (enumerate_from 0 before) ((0 + length before, line) ∷ [])
    ∙ ap (λ k. map (numbered_place f n) (enumerate_from 0 before) ++ base_place f n (record { 0 = k }) line.instr ∷ []) e

pub base_code_of : (P : Program) (f : FunId) (g : Function) → function_at P f ≡ Some g →
    base_code P f ≡ record { function = f; regs = length g.regs; entry = record { 0 = 0 }; places = base_places f (length g.regs) g.code }
unfolding base_code
base_code_of P f g e = ap (λ o. record { function = f; regs = regs_of o; entry = record { 0 = 0 }; places = base_places f (regs_of o) (lines_of o) }) e
