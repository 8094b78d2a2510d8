-- Which token of its text the next one is.
use Rattle.std.proofs.Common.{◌≡◌, ℕ, suc, ◌+◌, ◌-◌, ◌<◌, ◌≤◌, true, false, Bool, List, ◌∷◌, length, drop, refl, ap, sym, ◌∙◌, arith, length-drop, drop-drop}
use Rattle.std.proofs.lemmas.List.{length-map}
use Rattle.std.specs.Prelude.{max}
use Rattle.cj_tokens.specs.Lexemes.{is_terminal}
use Rattle.cj_tokens.specs.Scan.{Item, items, items_of, items_from, last_items, IsToken}
use Rattle.cj_tokens.specs.Passing.{front}
use Rattle.cj_tokens.specs.Pieces.{is_passed}
use Rattle.cj_tokens.specs.declared.terminal.Terminal.TheVariants.{End}
use Rattle.cj_tokens.proofs.Steps.{view, passed_no_end}

-- a list that ends another one is no longer than it
ends_short : {X : Type 0} (all ts : List X) → ts ≡ drop (length all - length ts) all → length ts ≤ length all
ends_short all ts e =
    let n : length ts ≡ length all - (length all - length ts) = ap length e ∙ length-drop (length all - length ts) all in
    omega arith

ends_behind : {X : Type 0} (all ts : List X) (t : X) → t ∷ ts ≡ drop (length all - suc (length ts)) all → ts ≡ drop (length all - length ts) all
ends_behind all ts t e =
    let n : suc (length ts) ≤ length all = ends_short all (t ∷ ts) e in
    let m : length all - length ts ≡ (length all - suc (length ts)) + 1 = omega arith in
    let f : ts ≡ drop 1 (drop (length all - suc (length ts)) all) = ap (drop 1) e in
    f ∙ (drop-drop 1 (length all - suc (length ts)) all ∙ ap (λ k. drop k all) (sym m))

ends_further : {X : Type 0} (all : List X) (count passed : ℕ) → count ≤ length all → passed ≤ count →
    drop passed (drop (length all - count) all) ≡ drop (length all - (count - passed)) all
ends_further all count passed h g =
    let m : (length all - count) + passed ≡ length all - (count - passed) = omega arith in
    drop-drop passed (length all - count) all ∙ ap (λ k. drop k all) m

-- the first token of a text, and the one behind a token of it
pub first_token : (bytes : List ℕ) (t : Item) → items 0 1 0 bytes ≡ items_from bytes t → IsToken bytes t
first_token bytes t e =
    let m : length (items_of bytes) ≡ length (items_from bytes t) = ap length e in
    let n : length (items_of bytes) - length (items_from bytes t) ≡ 0 = omega arith in
    rw n (sym e)

pub next_token : (bytes : List ℕ) (t u : Item) → is_terminal End t.lexeme ≡ false →
    items 0 t.lexeme.line t.stop (drop t.stop bytes) ≡ items_from bytes u → IsToken bytes t → IsToken bytes u
unfolding items_from
next_token bytes t u n e h = ends_behind (items_of bytes) (items_from bytes u) t (rw (n, e) at h)

-- what the next token is, where the end may be taken
pub ahead_is_end : (taken : Bool) (bytes : List ℕ) (t : Item) → (taken ≡ true → is_terminal End t.lexeme ≡ true) →
    is_terminal End (front (view taken bytes t)) ≡ true → is_terminal End t.lexeme ≡ true
unfolding items_from front
ahead_is_end true bytes t h e = h refl
ahead_is_end false bytes t h e = e

pub ahead_no_end : (taken : Bool) (bytes : List ℕ) (t : Item) →
    is_terminal End (front (view taken bytes t)) ≡ false → (taken ≡ false) × (is_terminal End t.lexeme ≡ false)
unfolding items_from front
ahead_no_end true bytes t e = cc
ahead_no_end false bytes t e = (refl, e)

pub passed_not_taken : (taken : Bool) (t : Item) → (taken ≡ true → is_terminal End t.lexeme ≡ true) → is_passed t.lexeme.terminal ≡ true → taken ≡ false
passed_not_taken true t h p = sym (h refl) ∙ passed_no_end t.lexeme.terminal p
passed_not_taken false t h p = refl

pub not_taken : {X : Type 0} (taken : Bool) → taken ≡ false → taken ≡ true → X
not_taken true f t = cc
not_taken false f t = cc

-- how many tokens are left, and which
as_many : (taken : Bool) (bytes : List ℕ) (t : Item) → (taken ≡ true → is_terminal End t.lexeme ≡ true) →
    length (items_from bytes t) ≡ max 1 (length (view taken bytes t))
unfolding items_from
as_many true bytes t e = rw (e refl) refl
as_many false bytes t e = rw length-map (omega arith)

pub last_ones : (taken : Bool) (bytes : List ℕ) (t : Item) → IsToken bytes t → (taken ≡ true → is_terminal End t.lexeme ≡ true) →
    items_from bytes t ≡ last_items (max 1 (length (view taken bytes t))) bytes
last_ones taken bytes t h e = h ∙ ap (λ k. last_items k bytes) (as_many taken bytes t e)

pub ones_behind : (taken : Bool) (bytes : List ℕ) (t : Item) → IsToken bytes t → (taken ≡ true → is_terminal End t.lexeme ≡ true) →
    (over : Bool) (text : List ℕ) (u : Item) → IsToken text u → (over ≡ true → is_terminal End u.lexeme ≡ true) →
    (passed : ℕ) → text ≡ bytes → view over text u ≡ drop passed (view taken bytes t) → passed < length (view taken bytes t) →
    items_from text u ≡ drop passed (items_from bytes t)
ones_behind taken bytes t h e over text u i f passed same behind more =
    let ts : List Item = items_from bytes t in
    let count : ℕ = max 1 (length (view taken bytes t)) in
    let n : length ts ≡ count = as_many taken bytes t e in
    let short : length ts ≤ length (items_of bytes) = ends_short (items_of bytes) ts h in
    let l : length (view over text u) ≡ length (view taken bytes t) - passed = ap length behind ∙ length-drop passed (view taken bytes t) in
    let m : max 1 (length (view over text u)) ≡ count - passed = omega arith in
    last_ones over text u i f ∙ (ap (λ k. last_items k text) m ∙ (ap (λ x. last_items (count - passed) x) same
    ∙ (sym (ends_further (items_of bytes) count passed (omega arith) (omega arith)) ∙ ap (drop passed) (sym (last_ones taken bytes t h e)))))
