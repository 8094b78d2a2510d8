-- Texts of pieces, one item after another.
use Rattle.std.proofs.Common.{◌≡◌, ◌∙◌, sym, ap, refl, ℕ, ◌+◌, ◌<◌, ◌≤◌, List, [], ◌∷◌, ◌++◌, length, drop, get_or, map, append_assoc, append-nil}
use Rattle.std.specs.Prelude.{flat_map}
use Rattle.std.proofs.lemmas.List.{drop_more}
use Rattle.std.proofs.Math.ListN.{drop_of_length-le}
use Rattle.cj_printer.specs.Pieces.{Piece, piece_text, pieces_text}

pub pieces-append : (a b : List Piece) → pieces_text (a ++ b) ≡ pieces_text a ++ pieces_text b
pieces-append [] b = refl
pieces-append (p ∷ ps) b = ap (λ t. piece_text p ++ t) (pieces-append ps b) ∙ sym (append_assoc (piece_text p) (pieces_text ps) (pieces_text b))

-- a turn of a loop that appends the pieces of each item
pub turn : {X : Type 0} (g : X → List Piece) (before now all : List ℕ) (xs : List X) (i : ℕ) (x : X) → i < length xs → x ≡ get_or xs i x →
    before ++ pieces_text (flat_map g (drop i xs)) ≡ all → now ≡ before ++ pieces_text (g x) → now ++ pieces_text (flat_map g (drop (i + 1) xs)) ≡ all
turn g before now all xs i x h is left step =
    let rest = flat_map g (drop (i + 1) xs) in
    let next : drop i xs ≡ x ∷ drop (i + 1) xs = rw (← is) at (drop_more xs i x h) in
    let text : pieces_text (flat_map g (drop i xs)) ≡ pieces_text (g x) ++ pieces_text rest = ap (λ ys. pieces_text (flat_map g ys)) next
    ∙ pieces-append (g x) rest in
    ap (λ t. t ++ pieces_text rest) step ∙ append_assoc before (pieces_text (g x)) (pieces_text rest) ∙ ap (λ t. before ++ t) (sym text) ∙ left

pub done : {X : Type 0} (g : X → List Piece) (now all : List ℕ) (xs : List X) (i : ℕ) → length xs ≤ i → now ++ pieces_text (flat_map g (drop i xs)) ≡ all →
    now ≡ all
done g now all xs i past left =
    let none : pieces_text (flat_map g (drop i xs)) ≡ [] = ap (λ ys. pieces_text (flat_map g ys)) (drop_of_length-le xs past) in
    sym (append-nil now) ∙ ap (λ t. now ++ t) (sym none) ∙ left

-- the same where the items are mapped first
pub turn_mapped : {X Y : Type 0} (g : Y → List Piece) (h : X → Y) (before now all : List ℕ) (xs : List X) (i : ℕ) (x : X) → i < length xs → x ≡ get_or xs i x →
    before ++ pieces_text (flat_map g (map h (drop i xs))) ≡ all → now ≡ before ++ pieces_text (g (h x)) →
    now ++ pieces_text (flat_map g (map h (drop (i + 1) xs))) ≡ all
turn_mapped g h before now all xs i x below is left step =
    let rest = flat_map g (map h (drop (i + 1) xs)) in
    let next : drop i xs ≡ x ∷ drop (i + 1) xs = rw (← is) at (drop_more xs i x below) in
    let text : pieces_text (flat_map g (map h (drop i xs))) ≡ pieces_text (g (h x)) ++ pieces_text rest = ap (λ ys. pieces_text (flat_map g (map h ys))) next
    ∙ pieces-append (g (h x)) rest in
    ap (λ t. t ++ pieces_text rest) step ∙ append_assoc before (pieces_text (g (h x))) (pieces_text rest) ∙ ap (λ t. before ++ t) (sym text) ∙ left

pub done_mapped : {X Y : Type 0} (g : Y → List Piece) (h : X → Y) (now all : List ℕ) (xs : List X) (i : ℕ) → length xs ≤ i →
    now ++ pieces_text (flat_map g (map h (drop i xs))) ≡ all → now ≡ all
done_mapped g h now all xs i past left =
    let none : pieces_text (flat_map g (map h (drop i xs))) ≡ [] = ap (λ ys. pieces_text (flat_map g (map h ys))) (drop_of_length-le xs past) in
    sym (append-nil now) ∙ ap (λ t. now ++ t) (sym none) ∙ left

-- a turn of a loop that appends one piece for each item
pub turn_each : {X : Type 0} (k : X → Piece) (before now all : List ℕ) (xs : List X) (i : ℕ) (d : X) → i < length xs →
    before ++ pieces_text (map k (drop i xs)) ≡ all → now ≡ before ++ piece_text (k (get_or xs i d)) → now ++ pieces_text (map k (drop (i + 1) xs)) ≡ all
turn_each k before now all xs i d below left step =
    let rest = map k (drop (i + 1) xs) in
    let text : pieces_text (map k (drop i xs)) ≡ piece_text (k (get_or xs i d))
    ++ pieces_text rest = ap (λ ys. pieces_text (map k ys)) (drop_more xs i d below) in
    ap (λ t. t ++ pieces_text rest) step ∙ append_assoc before (piece_text (k (get_or xs i d))) (pieces_text rest) ∙ ap (λ t. before ++ t) (sym text) ∙ left

pub done_each : {X : Type 0} (k : X → Piece) (now all : List ℕ) (xs : List X) (i : ℕ) → length xs ≤ i → now ++ pieces_text (map k (drop i xs)) ≡ all → now ≡ all
done_each k now all xs i past left =
    let none : pieces_text (map k (drop i xs)) ≡ [] = ap (λ ys. pieces_text (map k ys)) (drop_of_length-le xs past) in
    sym (append-nil now) ∙ ap (λ t. now ++ t) (sym none) ∙ left
