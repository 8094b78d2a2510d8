-- What `eat` answers depends on no token behind the first one that it leaves.
use Rattle.std.proofs.Common.{◌≡◌, ℕ, zero, suc, ◌+◌, ◌<◌, ◌≤◌, true, false, cond, List, [], ◌∷◌, ◌++◌, length, Result, Ok, Err, refl, ap, sym, ◌∙◌}
use Rattle.std.proofs.Common.{append_assoc, inl, inr, arith, length-append}
use Rattle.std.specs.Prelude.{flat_map, not, ◌&&◌}
use Rattle.cj_tokens.specs.Lexemes.{Lexeme, Sign, fits}
use Rattle.cj_grammar.specs.Grammar.{Rule, tok, seq, alt, opt, many, Tree, leaves, IsFront}
use Rattle.cj_grammar.specs.OneAhead.{is_empty, firsts, are_apart, is_plain, starts, ◌>>=◌, eat, eat_many}
use Rattle.std.proofs.lemmas.List.{append_cancel_right}
use Rattle.cj_grammar.proofs.Signs.{known_bool, and_true, not_true}
use Rattle.cj_grammar.proofs.Eats.{known, sound, sound_many, stuck, stuck_many}
use Rattle.cj_grammar.proofs.Begins.{shorter}

-- What was answered depends on the tokens up to the first one that is left, and on none behind it.
abbrev pub with_tail : List Lexeme → Result (List Lexeme) (List Lexeme) → Result (List Lexeme) (List Lexeme)
with_tail s (Ok x) = Ok (x ++ s)
with_tail s (Err x) = Err (x ++ s)

suffix : (r : Rule) (ts w : List Lexeme) (x : Result (List Lexeme) (List Lexeme)) → eat r ts ≡ with_tail w x → (v : List Lexeme) × (ts ≡ v ++ w)
suffix r ts w (Ok y) h = let i : (t : Tree r) × (leaves r t ++ (y ++ w) ≡ ts) = sound r ts (y ++ w) h in
    (leaves r i.0 ++ y, sym i.1 ∙ sym (append_assoc (leaves r i.0) y w))
suffix r ts w (Err y) h = let i : (u : List Lexeme) × (u ++ (y ++ w) ≡ ts) × IsFront r u = stuck r ts (y ++ w) h in
    (i.0 ++ y, sym i.1 ∙ sym (append_assoc i.0 y w))

suffix_many : (a : Rule) (n : ℕ) (ts w : List Lexeme) (x : Result (List Lexeme) (List Lexeme)) → eat_many (eat a) (starts a) n ts ≡ with_tail w x →
    (v : List Lexeme) × (ts ≡ v ++ w)
suffix_many a n ts w (Ok y) h = let i : (t : List (Tree a)) × (flat_map (leaves a) t ++ (y ++ w) ≡ ts) = sound_many a (sound a) n ts (y ++ w) h in
    (flat_map (leaves a) i.0 ++ y, sym i.1 ∙ sym (append_assoc (flat_map (leaves a) i.0) y w))
suffix_many a n ts w (Err y) h = let i : (u : List Lexeme) × (u ++ (y ++ w) ≡ ts) × IsFront (many a) u = stuck_many a (stuck a) n ts (y ++ w) h in
    (i.0 ++ y, sym i.1 ∙ sym (append_assoc i.0 y w))

same_start : (r : Rule) (u : List Lexeme) (t : Lexeme) (s s' : List Lexeme) → starts r (u ++ t ∷ s) ≡ starts r (u ++ t ∷ s')
same_start r [] t s s' = refl
same_start r (c ∷ u) t s s' = refl

-- nothing was taken
kept : (u : List Lexeme) (t : Lexeme) (s s' : List Lexeme) (x : Result (List Lexeme) (List Lexeme)) → Ok (u ++ t ∷ s) ≡ with_tail (t ∷ s) x →
    Ok (u ++ t ∷ s') ≡ with_tail (t ∷ s') x
kept u t s s' (Ok y) h =
    let e : u ++ t ∷ s ≡ y ++ t ∷ s = cc in
    let f : u ≡ y = append_cancel_right u y (t ∷ s) e in rw f refl
kept u t s s' (Err y) h = cc

refused : (u : List Lexeme) (t : Lexeme) (s s' : List Lexeme) (x : Result (List Lexeme) (List Lexeme)) → Err (u ++ t ∷ s) ≡ with_tail (t ∷ s) x →
    Err (u ++ t ∷ s') ≡ with_tail (t ∷ s') x
refused u t s s' (Err y) h =
    let e : u ++ t ∷ s ≡ y ++ t ∷ s = cc in
    let f : u ≡ y = append_cancel_right u y (t ∷ s) e in rw f refl
refused u t s s' (Ok y) h = cc

too_long : (y : List Lexeme) (t : Lexeme) (s : List Lexeme) → s ≡ y ++ t ∷ s → ⊥
too_long y t s h =
    let l : length s ≡ length (y ++ t ∷ s) = ap length h in
    let m : length (y ++ t ∷ s) ≡ length y + length (t ∷ s) = length-append y (t ∷ s) in
    omega arith

taken : (t : Lexeme) (s s' : List Lexeme) (x : Result (List Lexeme) (List Lexeme)) → Ok s ≡ with_tail (t ∷ s) x → Ok s' ≡ with_tail (t ∷ s') x
taken t s s' (Ok y) h = let e : s ≡ y ++ t ∷ s = cc in absurd (too_long y t s e)
taken t s s' (Err y) h = cc

abbrev pub Local : Rule → Type 0
Local r = (next : List Sign) (u : List Lexeme) (t : Lexeme) (s s' : List Lexeme) (x : Result (List Lexeme) (List Lexeme)) → is_plain r next ≡ true →
    eat r (u ++ t ∷ s) ≡ with_tail (t ∷ s) x → eat r (u ++ t ∷ s') ≡ with_tail (t ∷ s') x

local_tok : (k : Sign) → Local (tok k)
local_tok k next [] t s s' x p h =
    elim (known_bool (fits k t)) [
      | inl e ↦ let g : Ok s ≡ with_tail (t ∷ s) x = rw e at h in rw e (taken t s s' x g)
      | inr e ↦ let g : Err (t ∷ s) ≡ with_tail (t ∷ s) x = rw e at h in rw e (refused [] t s s' x g)
    ]
local_tok k next (c ∷ u) t s s' x p h =
    elim (known_bool (fits k c)) [
      | inl e ↦ let g : Ok (u ++ t ∷ s) ≡ with_tail (t ∷ s) x = rw e at h in rw e (kept u t s s' x g)
      | inr e ↦ let g : Err (c ∷ u ++ t ∷ s) ≡ with_tail (t ∷ s) x = rw e at h in rw e (refused (c ∷ u) t s s' x g)
    ]

-- a part that failed, and one that went by
err_tail : (f : List Lexeme → Result (List Lexeme) (List Lexeme)) (t : Lexeme) (e s : List Lexeme) (x : Result (List Lexeme) (List Lexeme)) →
    (Err e >>= f) ≡ with_tail (t ∷ s) x → (y : List Lexeme) × (x ≡ Err y) × (e ≡ y ++ t ∷ s)
err_tail f t e s (Ok y) h = cc
err_tail f t e s (Err y) h = (y, refl, let g : e ≡ y ++ t ∷ s = cc in g)

local_seq : (a : Rule) (f : List Lexeme → Result (List Lexeme) (List Lexeme)) → Local a → (next : List Sign) → is_plain a next ≡ true →
    (u : List Lexeme) (t : Lexeme) (s s' : List Lexeme) (x : Result (List Lexeme) (List Lexeme)) →
    ((m : List Lexeme) → f m ≡ with_tail (t ∷ s) x → (v : List Lexeme) × (m ≡ v ++ t ∷ s)) →
    ((v : List Lexeme) → eat a (u ++ t ∷ s) ≡ Ok (v ++ t ∷ s) → f (v ++ t ∷ s) ≡ with_tail (t ∷ s) x → f (v ++ t ∷ s') ≡ with_tail (t ∷ s') x) →
    (eat a (u ++ t ∷ s) >>= f) ≡ with_tail (t ∷ s) x → (eat a (u ++ t ∷ s') >>= f) ≡ with_tail (t ∷ s') x
local_seq a f l next p u t s s' x suf again h =
    elim (known (eat a (u ++ t ∷ s))) [
      | inl m ↦
          let g : f m.0 ≡ with_tail (t ∷ s) x = rw m.1 at h in
          let v : (v : List Lexeme) × (m.0 ≡ v ++ t ∷ s) = suf m.0 g in
          let e : eat a (u ++ t ∷ s) ≡ Ok (v.0 ++ t ∷ s) = m.1 ∙ ap Ok v.1 in
          let g2 : f (v.0 ++ t ∷ s) ≡ with_tail (t ∷ s) x = rw v.1 at g in
          let e2 : eat a (u ++ t ∷ s') ≡ Ok (v.0 ++ t ∷ s') = l next u t s s' (Ok v.0) p e in
          rw e2 (again v.0 e g2)
      | inr m ↦
          let g : (Err m.0 >>= f) ≡ with_tail (t ∷ s) x = rw m.1 at h in
          let y : (y : List Lexeme) × (x ≡ Err y) × (m.0 ≡ y ++ t ∷ s) = err_tail f t m.0 s x g in
          let e : eat a (u ++ t ∷ s) ≡ Err (y.0 ++ t ∷ s) = m.1 ∙ ap Err y.2 in
          let e2 : eat a (u ++ t ∷ s') ≡ Err (y.0 ++ t ∷ s') = l next u t s s' (Err y.0) p e in
          rw e2 (ap (λ z. with_tail (t ∷ s') z) (sym y.1))
    ]

local_many : (a : Rule) → Local a → (next : List Sign) → is_plain a next ≡ true → is_empty a ≡ false →
    (n n' : ℕ) (u : List Lexeme) (t : Lexeme) (s s' : List Lexeme) (x : Result (List Lexeme) (List Lexeme)) → length (u ++ t ∷ s) ≤ n →
    length (u ++ t ∷ s') ≤ n' → eat_many (eat a) (starts a) n (u ++ t ∷ s) ≡ with_tail (t ∷ s) x →
    eat_many (eat a) (starts a) n' (u ++ t ∷ s') ≡ with_tail (t ∷ s') x
local_many a l next p e zero n' u t s s' x h h' g =
    let k : length (u ++ t ∷ s) ≡ length u + length (t ∷ s) = length-append u (t ∷ s) in absurd (omega arith)
local_many a l next p e (suc n) zero u t s s' x h h' g =
    let k : length (u ++ t ∷ s') ≡ length u + length (t ∷ s') = length-append u (t ∷ s') in absurd (omega arith)
local_many a l next p e (suc n) (suc n') u t s s' x h h' g =
    elim (known_bool (starts a (u ++ t ∷ s))) [
      | inr b ↦
          let g2 : Ok (u ++ t ∷ s) ≡ with_tail (t ∷ s) x = rw b at g in
          let b2 : starts a (u ++ t ∷ s') ≡ false = same_start a u t s' s ∙ b in
          rw b2 (kept u t s s' x g2)
      | inl b ↦
          let g2 : (eat a (u ++ t ∷ s) >>= eat_many (eat a) (starts a) n) ≡ with_tail (t ∷ s) x = rw b at g in
          let b2 : starts a (u ++ t ∷ s') ≡ true = same_start a u t s' s ∙ b in
          rw b2 (elim (known (eat a (u ++ t ∷ s))) [
            | inl m ↦
                let g3 : eat_many (eat a) (starts a) n m.0 ≡ with_tail (t ∷ s) x = rw m.1 at g2 in
                let v : (v : List Lexeme) × (m.0 ≡ v ++ t ∷ s) = suffix_many a n m.0 (t ∷ s) x g3 in
                let c : eat a (u ++ t ∷ s) ≡ Ok (v.0 ++ t ∷ s) = m.1 ∙ ap Ok v.1 in
                let g4 : eat_many (eat a) (starts a) n (v.0 ++ t ∷ s) ≡ with_tail (t ∷ s) x = rw v.1 at g3 in
                let c2 : eat a (u ++ t ∷ s') ≡ Ok (v.0 ++ t ∷ s') = l next u t s s' (Ok v.0) p c in
                let d : length (v.0 ++ t ∷ s) < length (u ++ t ∷ s) = shorter a (u ++ t ∷ s) (v.0 ++ t ∷ s) e c in
                let d2 : length (v.0 ++ t ∷ s') < length (u ++ t ∷ s') = shorter a (u ++ t ∷ s') (v.0 ++ t ∷ s') e c2 in
                rw c2 (local_many a l next p e n n' v.0 t s s' x (omega arith) (omega arith) g4)
            | inr m ↦
                let g3 : (Err m.0 >>= eat_many (eat a) (starts a) n) ≡ with_tail (t ∷ s) x = rw m.1 at g2 in
                let y : (y : List Lexeme) × (x ≡ Err y) × (m.0 ≡ y ++ t ∷ s) = err_tail (eat_many (eat a) (starts a) n) t m.0 s x g3 in
                let c : eat a (u ++ t ∷ s) ≡ Err (y.0 ++ t ∷ s) = m.1 ∙ ap Err y.2 in
                let c2 : eat a (u ++ t ∷ s') ≡ Err (y.0 ++ t ∷ s') = l next u t s s' (Err y.0) p c in
                rw c2 (ap (λ z. with_tail (t ∷ s') z) (sym y.1))
          ])
    ]

pub local : (r : Rule) → Local r
local (tok k) next u t s s' x p h = local_tok k next u t s s' x p h
local (seq a b) next u t s s' x p h =
    let q : (is_plain a (firsts b ++ cond (is_empty b) next []) ≡ true)
    × (is_plain b next ≡ true) = and_true (is_plain a (firsts b ++ cond (is_empty b) next [])) (is_plain b next) p in
    local_seq a (eat b) (local a) (firsts b ++ cond (is_empty b) next []) q.0 u t s s' x (λ m g. suffix b m (t ∷ s) x g)
    (λ v c g. local b next v t s s' x q.1 g) h
local (alt a b) next u t s s' x p h =
    let q : (is_plain a next ≡ true) × ((is_plain b next && (not (is_empty a) && (not (is_empty b) && are_apart (firsts a) (firsts b)))) ≡ true) = and_true
    (is_plain a next) (is_plain b next && (not (is_empty a) && (not (is_empty b) && are_apart (firsts a) (firsts b)))) p in
    let q2 : (is_plain b next ≡ true) × ((not (is_empty a) && (not (is_empty b) && are_apart (firsts a) (firsts b))) ≡ true) = and_true (is_plain b next)
    (not (is_empty a) && (not (is_empty b) && are_apart (firsts a) (firsts b))) q.1 in
    elim (known_bool (starts a (u ++ t ∷ s))) [
      | inl b1 ↦
          let g : eat a (u ++ t ∷ s) ≡ with_tail (t ∷ s) x = rw b1 at h in
          let b2 : starts a (u ++ t ∷ s') ≡ true = same_start a u t s' s ∙ b1 in
          rw b2 (local a next u t s s' x q.0 g)
      | inr b1 ↦
          let g : eat b (u ++ t ∷ s) ≡ with_tail (t ∷ s) x = rw b1 at h in
          let b2 : starts a (u ++ t ∷ s') ≡ false = same_start a u t s' s ∙ b1 in
          rw b2 (local b next u t s s' x q2.0 g)
    ]
local (opt a) next u t s s' x p h =
    let q : (is_plain a next ≡ true)
    × ((not (is_empty a) && are_apart (firsts a) next) ≡ true) = and_true (is_plain a next) (not (is_empty a) && are_apart (firsts a) next) p in
    elim (known_bool (starts a (u ++ t ∷ s))) [
      | inl b1 ↦
          let g : eat a (u ++ t ∷ s) ≡ with_tail (t ∷ s) x = rw b1 at h in
          let b2 : starts a (u ++ t ∷ s') ≡ true = same_start a u t s' s ∙ b1 in
          rw b2 (local a next u t s s' x q.0 g)
      | inr b1 ↦
          let g : Ok (u ++ t ∷ s) ≡ with_tail (t ∷ s) x = rw b1 at h in
          let b2 : starts a (u ++ t ∷ s') ≡ false = same_start a u t s' s ∙ b1 in
          rw b2 (kept u t s s' x g)
    ]
local (many a) next u t s s' x p h =
    let q : (is_plain a (firsts a ++ next) ≡ true) × ((not (is_empty a) && are_apart (firsts a) next) ≡ true) = and_true (is_plain a (firsts a ++ next))
    (not (is_empty a) && are_apart (firsts a) next) p in
    let q2 : (not (is_empty a) ≡ true) × (are_apart (firsts a) next ≡ true) = and_true (not (is_empty a)) (are_apart (firsts a) next) q.1 in
    local_many a (local a) (firsts a ++ next) q.0 (not_true (is_empty a) q2.0) (length (u ++ t ∷ s)) (length (u ++ t ∷ s')) u t s s' x (omega arith)
    (omega arith) h
