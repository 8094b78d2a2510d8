-- Blanks, line feeds and comments.
use Rattle.std.proofs.Common.{◌≡◌, ℕ, zero, suc, ◌+◌, ◌<◌, ◌≤◌, ◌-◌, Bool, true, false, List, [], ◌∷◌, length, drop, take, get_or, refl, ◌∙◌, arith, add-one}
use Rattle.std.proofs.Common.{add-zero, drop-cons, drop-drop, length-drop}
use Rattle.std.proofs.lemmas.Bool.{eqb-true}
use Rattle.std.proofs.lemmas.List.{take_rest}
use Rattle.std.proofs.lemmas.List.Sums.{prefix_len-le-length}
use Rattle.std.specs.Prelude.{nat_eq}
use Rattle.std.specs.List.{prefix_len}
use Rattle.cj_tokens.specs.Bytes.{is_blank, is_in_line}
use Rattle.cj_tokens.specs.Scan.{items, next_line}

-- what stands behind so many bytes
pub passed : (k line at : ℕ) (bs : List ℕ) → k ≤ length bs → items k line at bs ≡ items 0 line (at + k) (drop k bs)
unfolding items
passed zero line at bs h = rw add-zero refl
passed (suc k) line at [] h = absurd (omega arith)
passed (suc k) line at (b ∷ bs) h =
    let e : at + 1 + k ≡ at + suc k = omega arith in
    passed k line (at + 1) bs (omega arith) ∙ rw e refl

differs : (a b : ℕ) → (a ≡ b → ⊥) → nat_eq a b ≡ false
differs a b h = go (nat_eq a b) refl
  where
    go : (v : Bool) → nat_eq a b ≡ v → v ≡ false
    go true e = absurd (h (eqb-true a b e))
    go false e = refl

pub next_at : (bytes : List ℕ) (i : ℕ) → i < length bytes → drop i bytes ≡ get_or bytes i 0 ∷ drop (i + 1) bytes
next_at bytes i h = rw add-one (drop-cons bytes i 0 h)

pub at_break : (line i : ℕ) (bytes : List ℕ) → i < length bytes → get_or bytes i 0 ≡ 10 →
    items 0 line i (drop i bytes) ≡ items 0 (next_line line) (i + 1) (drop (i + 1) bytes)
unfolding items
at_break line i bytes h b = let s : drop i bytes ≡ get_or bytes i 0 ∷ drop (i + 1) bytes = next_at bytes i h in rw (s, b) refl

pub at_blank : (line i : ℕ) (bytes : List ℕ) → i < length bytes → (get_or bytes i 0 ≡ 10 → ⊥) → is_blank (get_or bytes i 0) ≡ true →
    items 0 line i (drop i bytes) ≡ items 0 line (i + 1) (drop (i + 1) bytes)
unfolding items
at_blank line i bytes h n b = let s : drop i bytes ≡ get_or bytes i 0
    ∷ drop (i + 1) bytes = next_at bytes i h in rw (s, differs (get_or bytes i 0) 10 n, b) refl

pub at_comment : (line i : ℕ) (bytes : List ℕ) → i < length bytes → get_or bytes i 0 ≡ 35 →
    items 0 line i (drop i bytes)
    ≡ items 0 line (i + (1 + prefix_len is_in_line (drop (i + 1) bytes))) (drop (i + (1 + prefix_len is_in_line (drop (i + 1) bytes))) bytes)
unfolding items
at_comment line i bytes h b =
    let rest : List ℕ = drop (i + 1) bytes in
    let n : ℕ = prefix_len is_in_line rest in
    let w : n ≤ length rest = prefix_len-le-length is_in_line rest in
    let p : items n line (i + 1) rest ≡ items 0 line (i + 1 + n) (drop n rest) = passed n line (i + 1) rest w in
    let d : drop n rest ≡ drop (i + 1 + n) bytes = drop-drop n (i + 1) bytes in
    let t : i + 1 + n ≡ i + (1 + n) = omega arith in
    let q : items n line (i + 1) rest ≡ items 0 line (i + (1 + n)) (drop (i + (1 + n)) bytes) = p ∙ rw (d, t) refl in
    let s : drop i bytes ≡ get_or bytes i 0 ∷ drop (i + 1) bytes = next_at bytes i h in
    rw (s, b) q

-- the same where the comment is measured in what stands behind its `#`
pub comment_passed : (line i n : ℕ) (bytes : List ℕ) → i < length bytes → get_or bytes i 0 ≡ 35 →
    n ≡ prefix_len is_in_line (take (length bytes - (i + 1)) (drop (i + 1) bytes)) →
    (i + (1 + n) ≤ length bytes) × (items 0 line i (drop i bytes) ≡ items 0 line (i + (1 + n)) (drop (i + (1 + n)) bytes))
comment_passed line i n bytes h b e =
    let r : take (length bytes - (i + 1)) (drop (i + 1) bytes) ≡ drop (i + 1) bytes = take_rest bytes (i + 1) in
    let m : n ≡ prefix_len is_in_line (drop (i + 1) bytes) = rw r at e in
    let w : prefix_len is_in_line (drop (i + 1) bytes) ≤ length (drop (i + 1) bytes) = prefix_len-le-length is_in_line (drop (i + 1) bytes) in
    (omega (arith, length-drop (i + 1) bytes), rw m (at_comment line i bytes h b))
