-- A sentence is eaten, wherever what may follow it stands behind it.
use Rattle.std.proofs.Common.{◌≡◌, ℕ, zero, suc, ◌+◌, ◌≤◌, true, false, cond, List, [], ◌∷◌, ◌++◌, length, None, Some, Ok, refl, ap, append_assoc, inl, inr}
use Rattle.std.proofs.Common.{arith, length-append}
use Rattle.std.specs.Prelude.{flat_map, not, ◌&&◌}
use Rattle.cj_tokens.specs.Lexemes.{Lexeme, Sign}
use Rattle.cj_grammar.specs.Grammar.{Rule, tok, seq, alt, opt, many, Tree, leaves}
use Rattle.cj_grammar.specs.OneAhead.{is_empty, firsts, are_apart, is_plain, starts, eat, eat_many}
use Rattle.cj_grammar.proofs.Signs.{fits_one, one_left, one_right, apart, and_true, not_true}
use Rattle.cj_grammar.proofs.Begins.{begins, full, started}

-- What follows a sentence: nothing, or a token that may follow.
abbrev pub MayFollow : List Sign → List Lexeme → Type 0
MayFollow next [] = Unit {0}
MayFollow next (t ∷ ts) = fits_one next t ≡ true

not_started : (a : Rule) (next : List Sign) (ts : List Lexeme) → are_apart (firsts a) next ≡ true → MayFollow next ts → starts a ts ≡ false
not_started a next [] h f = refl
not_started a next (t ∷ ts) h f = apart (firsts a) next t h f

may_right : (xs ys : List Sign) (ts : List Lexeme) → MayFollow ys ts → MayFollow (xs ++ ys) ts
may_right xs ys [] h = tt
may_right xs ys (t ∷ ts) h = one_right xs ys t h

-- what follows a part is the next part, or what follows that
follows : (r : Rule) (t : Tree r) (next : List Sign) (more : List Lexeme) → MayFollow next more →
    MayFollow (firsts r ++ cond (is_empty r) next []) (leaves r t ++ more)
follows r t next more m = elim (begins r t) [
  | inl p ↦ rw (p.0, p.1) (may_right (firsts r) next more m)
  | inr p ↦ rw p.2 (one_left (firsts r) (cond (is_empty r) next []) p.0 p.3)
]

follows_many : (a : Rule) (ts : List (Tree a)) (next : List Sign) (more : List Lexeme) → is_empty a ≡ false → MayFollow next more →
    MayFollow (firsts a ++ next) (flat_map (leaves a) ts ++ more)
follows_many a [] next more n m = may_right (firsts a) next more m
follows_many a (t ∷ ts) next more n m =
    let f : (x : Lexeme) × (xs : List Lexeme) × (leaves a t ≡ x ∷ xs) × (fits_one (firsts a) x ≡ true) = full a t n in
    rw f.2 (one_left (firsts a) next f.0 f.3)

-- Each sentence in front of what may follow it is eaten, and no more.
abbrev pub Complete : Rule → Type 0
Complete r = (next : List Sign) (t : Tree r) (more : List Lexeme) → is_plain r next ≡ true → MayFollow next more → eat r (leaves r t ++ more) ≡ Ok more

complete_many : (a : Rule) → Complete a → (n : ℕ) (next : List Sign) (ts : List (Tree a)) (more : List Lexeme) → is_plain a (firsts a ++ next) ≡ true →
    is_empty a ≡ false → are_apart (firsts a) next ≡ true → MayFollow next more → length (flat_map (leaves a) ts ++ more) ≤ n →
    eat_many (eat a) (starts a) n (flat_map (leaves a) ts ++ more) ≡ Ok more
complete_many a c zero next [] more p e d m h = refl
complete_many a c zero next (t ∷ ts) more p e d m h =
    let f : (x : Lexeme) × (xs : List Lexeme) × (leaves a t ≡ x ∷ xs) × (fits_one (firsts a) x ≡ true) = full a t e in
    let g : length ((f.0 ∷ f.1 ++ flat_map (leaves a) ts) ++ more) ≤ 0 = rw f.2 at h in
    absurd (omega arith)
complete_many a c (suc n) next [] more p e d m h = let s : starts a more ≡ false = not_started a next more d m in rw s refl
complete_many a c (suc n) next (t ∷ ts) more p e d m h =
    let f : (x : Lexeme) × (xs : List Lexeme) × (leaves a t ≡ x ∷ xs) × (fits_one (firsts a) x ≡ true) = full a t e in
    let regroup : (leaves a t ++ flat_map (leaves a) ts) ++ more ≡ leaves a t
    ++ (flat_map (leaves a) ts ++ more) = append_assoc (leaves a t) (flat_map (leaves a) ts) more in
    let s : starts a (leaves a t ++ (flat_map (leaves a) ts ++ more)) ≡ true = started a t (flat_map (leaves a) ts ++ more) e in
    let one : eat a (leaves a t ++ (flat_map (leaves a) ts ++ more))
    ≡ Ok (flat_map (leaves a) ts ++ more) = c (firsts a ++ next) t (flat_map (leaves a) ts ++ more) p (follows_many a ts next more e m) in
    let k : length (leaves a t) ≡ suc (length f.1) = ap length f.2 in
    let l : length (leaves a t ++ (flat_map (leaves a) ts ++ more))
    ≡ length (leaves a t) + length (flat_map (leaves a) ts ++ more) = length-append (leaves a t) (flat_map (leaves a) ts ++ more) in
    let g : length (leaves a t ++ (flat_map (leaves a) ts ++ more)) ≤ suc n = rw regroup at h in
    let small : length (flat_map (leaves a) ts ++ more) ≤ n = omega arith in
    rw (regroup, s, one) (complete_many a c n next ts more p e d m small)

pub complete : (r : Rule) → Complete r
complete (tok k) next t more p m = rw t.is refl
complete (seq a b) next t more p m =
    let q : (is_plain a (firsts b ++ cond (is_empty b) next []) ≡ true)
    × (is_plain b next ≡ true) = and_true (is_plain a (firsts b ++ cond (is_empty b) next [])) (is_plain b next) p in
    let regroup : (leaves a t.0 ++ leaves b t.1) ++ more ≡ leaves a t.0 ++ (leaves b t.1 ++ more) = append_assoc (leaves a t.0) (leaves b t.1) more in
    let one : eat a (leaves a t.0 ++ (leaves b t.1 ++ more))
    ≡ Ok (leaves b t.1 ++ more) = complete a (firsts b ++ cond (is_empty b) next []) t.0 (leaves b t.1 ++ more) q.0 (follows b t.1 next more m) in
    rw (regroup, one) (complete b next t.1 more q.1 m)
complete (alt a b) next (inl t) more p m =
    let q : (is_plain a next ≡ true) × ((is_plain b next && (not (is_empty a) && (not (is_empty b) && are_apart (firsts a) (firsts b)))) ≡ true) = and_true
    (is_plain a next) (is_plain b next && (not (is_empty a) && (not (is_empty b) && are_apart (firsts a) (firsts b)))) p in
    let q2 : (is_plain b next ≡ true) × ((not (is_empty a) && (not (is_empty b) && are_apart (firsts a) (firsts b))) ≡ true) = and_true (is_plain b next)
    (not (is_empty a) && (not (is_empty b) && are_apart (firsts a) (firsts b))) q.1 in
    let q3 : (not (is_empty a) ≡ true)
    × ((not (is_empty b) && are_apart (firsts a) (firsts b)) ≡ true) = and_true (not (is_empty a)) (not (is_empty b) && are_apart (firsts a) (firsts b))
    q2.1 in
    let s : starts a (leaves a t ++ more) ≡ true = started a t more (not_true (is_empty a) q3.0) in
    rw s (complete a next t more q.0 m)
complete (alt a b) next (inr t) more p m =
    let q : (is_plain a next ≡ true) × ((is_plain b next && (not (is_empty a) && (not (is_empty b) && are_apart (firsts a) (firsts b)))) ≡ true) = and_true
    (is_plain a next) (is_plain b next && (not (is_empty a) && (not (is_empty b) && are_apart (firsts a) (firsts b)))) p in
    let q2 : (is_plain b next ≡ true) × ((not (is_empty a) && (not (is_empty b) && are_apart (firsts a) (firsts b))) ≡ true) = and_true (is_plain b next)
    (not (is_empty a) && (not (is_empty b) && are_apart (firsts a) (firsts b))) q.1 in
    let q3 : (not (is_empty a) ≡ true)
    × ((not (is_empty b) && are_apart (firsts a) (firsts b)) ≡ true) = and_true (not (is_empty a)) (not (is_empty b) && are_apart (firsts a) (firsts b))
    q2.1 in
    let q4 : (not (is_empty b) ≡ true) × (are_apart (firsts a) (firsts b) ≡ true) = and_true (not (is_empty b)) (are_apart (firsts a) (firsts b)) q3.1 in
    let f : (x : Lexeme) × (xs : List Lexeme) × (leaves b t ≡ x ∷ xs) × (fits_one (firsts b) x ≡ true) = full b t (not_true (is_empty b) q4.0) in
    let n : fits_one (firsts a) f.0 ≡ false = apart (firsts a) (firsts b) f.0 q4.1 f.3 in
    let s : starts a (leaves b t ++ more) ≡ false = rw f.2 n in
    rw s (complete b next t more q2.0 m)
complete (opt a) next None more p m =
    let q : (is_plain a next ≡ true)
    × ((not (is_empty a) && are_apart (firsts a) next) ≡ true) = and_true (is_plain a next) (not (is_empty a) && are_apart (firsts a) next) p in
    let q2 : (not (is_empty a) ≡ true) × (are_apart (firsts a) next ≡ true) = and_true (not (is_empty a)) (are_apart (firsts a) next) q.1 in
    let s : starts a more ≡ false = not_started a next more q2.1 m in rw s refl
complete (opt a) next (Some t) more p m =
    let q : (is_plain a next ≡ true)
    × ((not (is_empty a) && are_apart (firsts a) next) ≡ true) = and_true (is_plain a next) (not (is_empty a) && are_apart (firsts a) next) p in
    let q2 : (not (is_empty a) ≡ true) × (are_apart (firsts a) next ≡ true) = and_true (not (is_empty a)) (are_apart (firsts a) next) q.1 in
    let s : starts a (leaves a t ++ more) ≡ true = started a t more (not_true (is_empty a) q2.0) in
    rw s (complete a next t more q.0 m)
complete (many a) next ts more p m =
    let q : (is_plain a (firsts a ++ next) ≡ true) × ((not (is_empty a) && are_apart (firsts a) next) ≡ true) = and_true (is_plain a (firsts a ++ next))
    (not (is_empty a) && are_apart (firsts a) next) p in
    let q2 : (not (is_empty a) ≡ true) × (are_apart (firsts a) next ≡ true) = and_true (not (is_empty a)) (are_apart (firsts a) next) q.1 in
    complete_many a (complete a) (length (flat_map (leaves a) ts ++ more)) next ts more q.0 (not_true (is_empty a) q2.0) q2.1 m (omega arith)
