-- The token that stands next.
use Rattle.std.proofs.Common.{◌≡◌, ℕ, zero, suc, ◌+◌, ◌-◌, ◌<◌, ◌≤◌, Bool, true, false, cond, List, [], ◌∷◌, length, take, drop, get_or, refl, ap, sym, ◌∙◌}
use Rattle.std.proofs.Common.{arith, length-drop, drop-drop}
use Rattle.std.proofs.lemmas.Bool.Decides.{nat_tests}
use Rattle.std.proofs.lemmas.Bool.{eqb-true, and_parts}
use Rattle.std.proofs.lemmas.List.{take_rest, length-take}
use Rattle.std.proofs.lemmas.List.Sums.{prefix_len-le-length}
use Rattle.std.specs.Prelude.{nat_eq, ◌||◌, ◌&&◌, not, ◌==◌}
use Rattle.std.specs.Char.{is_ascii_digit}
use Rattle.std.specs.List.{prefix_len, list_all}
use Rattle.cj_ir.specs.Texts.{is_letter, is_letter_or_digit, is_text_byte, is_keyword}
use Rattle.cj_tokens.specs.Bytes.{is_blank, is_line_feed, is_hash, is_minus, is_greater, is_quote, begins, is_closed}
use Rattle.cj_tokens.specs.Lexemes.{Lexeme, number_of, is_terminal}
use Rattle.cj_tokens.specs.Spellings.{keyword_table, mark_table, word_terminal, mark_terminal, begins_number, fits_i64, terminal_of, text_of, lexeme_of}
use Rattle.cj_tokens.specs.Scan.{items, items_from, item_of, size_of, is_start}
use Rattle.cj_tokens.specs.Words.{is_free_word, is_well}
use Rattle.cj_tokens.specs.declared.terminal.Terminal.TheVariants.{End, Text, Number, BadNumber, BadCharacter}
use Rattle.cj_tokens.proofs.Skips.{passed, next_at}
use Rattle.cj_tokens.proofs.Tables.{is_other, word_other, mark_other, name_is_free}
use Rattle.cj_ir.proofs.Truths.{not_or}

-- ---- what is no end, no name and no text

marks_or_numbers : (k : ℕ) (b : ℕ) (bs : List ℕ) → is_letter b ≡ false → is_quote b ≡ false → is_other k Number ≡ true → is_other k BadNumber ≡ true →
    is_other k (mark_terminal (b ∷ bs)) ≡ true → is_other k (terminal_of (b ∷ bs)) ≡ true
unfolding terminal_of
marks_or_numbers k b bs l q n o m = rw (l, q) (go (begins_number b bs) (fits_i64 (b ∷ bs)) m)
  where
    go : (c f : Bool) → is_other k (mark_terminal (b ∷ bs)) ≡ true → is_other k (cond c (cond f Number BadNumber) (mark_terminal (b ∷ bs))) ≡ true
    go true true m = n
    go true false m = o
    go false f m = m

pub not_end : (b : ℕ) (bs : List ℕ) → nat_eq (number_of (terminal_of (b ∷ bs))) 0 ≡ false
unfolding terminal_of keyword_table mark_table
not_end b bs = go (is_letter b) (begins_number b bs) (fits_i64 (b ∷ bs)) (is_quote b) (length bs == 0) (word_other 0 (b ∷ bs) refl refl)
    (mark_other 0 (b ∷ bs) refl refl)
  where
    flip : (a : Bool) → not a ≡ true → a ≡ false
    flip true h = cc
    flip false h = refl

    go : (c n f q e : Bool) → is_other 0 (word_terminal (b ∷ bs)) ≡ true → is_other 0 (mark_terminal (b ∷ bs)) ≡ true →
        nat_eq (number_of (cond c (word_terminal (b ∷ bs)) (cond n (cond f Number BadNumber) (cond q (cond e BadCharacter Text) (mark_terminal (b ∷ bs)))))) 0
        ≡ false
    go true n f q e w m = flip _ w
    go false true true q e w m = refl
    go false true false q e w m = refl
    go false false f true true w m = refl
    go false false f true false w m = refl
    go false false f false e w m = flip _ m

-- ---- the bytes of names and texts

pub letter_no_quote : (b : ℕ) → is_letter b ≡ true → is_quote b ≡ false
letter_no_quote b h = grind (arith, nat_tests)

run_passes : (p : ℕ → Bool) (bs : List ℕ) → list_all p (take (prefix_len p bs) bs) ≡ true
run_passes p [] = refl
run_passes p (b ∷ bs) = go (p b) refl (run_passes p bs)
  where
    go : (v : Bool) → p b ≡ v → list_all p (take (prefix_len p bs) bs) ≡ true → list_all p (take (cond v (1 + prefix_len p bs) 0) (b ∷ bs)) ≡ true
    go true e i = let s : 1 + prefix_len p bs ≡ suc (prefix_len p bs) = omega arith in rw (s, e) i
    go false e i = refl

-- a word is well, by which terminal it has
well_word : (line : ℕ) (b : ℕ) (bs : List ℕ) → is_letter b ≡ true → list_all is_letter_or_digit bs ≡ true → is_well (lexeme_of line (b ∷ bs)) ≡ true
unfolding lexeme_of terminal_of text_of keyword_table
well_word line b bs l a =
    let q : is_quote b ≡ false = letter_no_quote b l in
    let t : terminal_of (b ∷ bs) ≡ word_terminal (b ∷ bs) = rw l refl in
    let x : text_of (b ∷ bs) ≡ b ∷ bs = rw q refl in
    let o : is_other 5 (word_terminal (b ∷ bs)) ≡ true = word_other 5 (b ∷ bs) refl refl in
    rw (t, x) (go (is_other 3 (word_terminal (b ∷ bs))) refl o)
  where
    go : (v : Bool) → is_other 3 (word_terminal (b ∷ bs)) ≡ v → is_other 5 (word_terminal (b ∷ bs)) ≡ true →
        ((is_other 3 (word_terminal (b ∷ bs)) || is_free_word (b ∷ bs)) && (is_other 5 (word_terminal (b ∷ bs)) || list_all is_text_byte (b ∷ bs))) ≡ true
    go true e o = rw (e, o) refl
    go false e o = let k : is_keyword (b ∷ bs) ≡ false = name_is_free (b ∷ bs) e in rw (e, o, l, a, k) refl

-- what is neither a word nor a text has nothing to be well in
well_other : (line : ℕ) (b : ℕ) (bs : List ℕ) → is_letter b ≡ false → is_quote b ≡ false → is_well (lexeme_of line (b ∷ bs)) ≡ true
unfolding lexeme_of mark_table
well_other line b bs l q =
    let n : is_other 3 (terminal_of (b ∷ bs)) ≡ true = marks_or_numbers 3 b bs l q refl refl (mark_other 3 (b ∷ bs) refl refl) in
    let t : is_other 5 (terminal_of (b ∷ bs)) ≡ true = marks_or_numbers 5 b bs l q refl refl (mark_other 5 (b ∷ bs) refl refl) in
    rw (n, t) refl

begins_some : (p : ℕ → Bool) (bs : List ℕ) → begins p bs ≡ true → 1 ≤ length bs
begins_some p [] h = cc
begins_some p (b ∷ bs) h = omega arith

begins_behind : (p : ℕ → Bool) (n : ℕ) (bs : List ℕ) → begins p (drop n bs) ≡ true → suc n ≤ length bs
begins_behind p n bs h = let l : length (drop n bs) ≡ length bs - n = length-drop n bs in let s : 1
    ≤ length (drop n bs) = begins_some p (drop n bs) h in omega arith

-- the bytes between the quotes of a text
between : (n : ℕ) (bs : List ℕ) → suc n ≤ length bs → text_of (34 ∷ take (suc n) bs) ≡ take n bs
unfolding text_of
between n bs h =
    let l : length (take (suc n) bs) ≡ suc n = omega (arith, length-take (suc n) bs) in
    let m : suc (suc n) - 2 ≡ n = omega arith in
    rw (l, m) (take_take n bs)
  where
    take_take : (n : ℕ) (bs : List ℕ) → take n (take (suc n) bs) ≡ take n bs
    take_take zero bs = refl
    take_take (suc n) [] = refl
    take_take (suc n) (b ∷ bs) = ap (λ x. b ∷ x) (take_take n bs)

well_text : (line n : ℕ) (bs : List ℕ) → suc n ≤ length bs → list_all is_text_byte (take n bs) ≡ true → is_well (lexeme_of line (34 ∷ take (suc n) bs)) ≡ true
unfolding lexeme_of terminal_of
well_text line n [] h a = absurd (omega arith)
well_text line n (b ∷ bs) h a =
    let z : (length (take (suc n) (b ∷ bs)) == 0) ≡ false = grind (arith, nat_tests) in
    rw (between n (b ∷ bs) h, z) a

-- ---- how far a token goes

Sized : List ℕ → ℕ → Type 0
Sized bs n = (k : ℕ) × (n ≡ suc k) × (k ≤ length bs)

pick : (bs : List ℕ) (c : Bool) (x y : ℕ) → (c ≡ true → Sized bs x) → (c ≡ false → Sized bs y) → Sized bs (cond c x y)
pick bs true x y f g = f refl
pick bs false x y f g = g refl

sized_run : (p : ℕ → Bool) (bs : List ℕ) → Sized bs (suc (prefix_len p bs))
unfolding Sized
sized_run p bs = (prefix_len p bs, refl, prefix_len-le-length p bs)

sized_some : (bs : List ℕ) (k : ℕ) → k ≤ length bs → Sized bs (suc k)
unfolding Sized
sized_some bs k h = (k, refl, h)

closed_within : (bs : List ℕ) → is_closed bs ≡ true → suc (prefix_len is_text_byte bs) ≤ length bs
closed_within bs h = begins_behind is_quote (prefix_len is_text_byte bs) bs h

size_sized : (b : ℕ) (bs : List ℕ) → Sized bs (size_of (b ∷ bs))
unfolding size_of
size_sized b bs =
    pick bs (is_letter b) _ _ (λ _. sized_run is_letter_or_digit bs) (λ _.
    pick bs (begins_number b bs) _ _ (λ _. sized_run is_ascii_digit bs) (λ _.
    pick bs (is_minus b && begins is_greater bs) _ _ (λ t. sized_some bs 1 (begins_some is_greater bs (and_parts (is_minus b) (begins is_greater bs) t).1))
    (λ _.
    pick bs (is_quote b && is_closed bs) _ _
    (λ t. sized_some bs (suc (prefix_len is_text_byte bs)) (closed_within bs (and_parts (is_quote b) (is_closed bs) t).1)) (λ _.
    sized_some bs 0 (omega arith)))))

pub sized : (b : ℕ) (bs : List ℕ) → (k : ℕ) × (size_of (b ∷ bs) ≡ suc k) × (k ≤ length bs)
unfolding Sized
sized b bs = size_sized b bs

pub size_word : (b : ℕ) (bs : List ℕ) → is_letter b ≡ true → size_of (b ∷ bs) ≡ suc (prefix_len is_letter_or_digit bs)
unfolding size_of
size_word b bs l = rw l refl

pub size_text : (bs : List ℕ) → is_closed bs ≡ true → size_of (34 ∷ bs) ≡ suc (suc (prefix_len is_text_byte bs))
unfolding size_of
size_text bs h = rw h refl

pub size_quote : (bs : List ℕ) → is_closed bs ≡ false → size_of (34 ∷ bs) ≡ 1
unfolding size_of
size_quote bs h = rw h refl

-- ---- the token at the front of any bytes is well

well_alone : (line : ℕ) → is_well (lexeme_of line (34 ∷ [])) ≡ true
unfolding lexeme_of terminal_of
well_alone line = refl

well_nothing : (line : ℕ) → is_well (lexeme_of line (take (size_of []) [])) ≡ true
unfolding lexeme_of terminal_of size_of
well_nothing line = refl

well_quoted : (line : ℕ) (bs : List ℕ) (v : Bool) → is_closed bs ≡ v → is_well (lexeme_of line (take (size_of (34 ∷ bs)) (34 ∷ bs))) ≡ true
well_quoted line bs true h = rw (size_text bs h) (well_text line (prefix_len is_text_byte bs) bs (closed_within bs h) (run_passes is_text_byte bs))
well_quoted line bs false h = rw (size_quote bs h) (well_alone line)

pub well_scanned : (line : ℕ) (bytes : List ℕ) → is_well (lexeme_of line (take (size_of bytes) bytes)) ≡ true
well_scanned line [] = well_nothing line
well_scanned line (b ∷ bs) = go (is_letter b) (is_quote b) refl refl
  where
    go : (l q : Bool) → is_letter b ≡ l → is_quote b ≡ q → is_well (lexeme_of line (take (size_of (b ∷ bs)) (b ∷ bs))) ≡ true
    go true q e f = rw (size_word b bs e) (well_word line b (take (prefix_len is_letter_or_digit bs) bs) e (run_passes is_letter_or_digit bs))
    go false true e f = let i : b ≡ 34 = eqb-true b 34 f in rw i (well_quoted line bs (is_closed bs) refl)
    go false false e f =
        let k : (k : ℕ) × (size_of (b ∷ bs) ≡ suc k) × (k ≤ length bs) = sized b bs in
        rw k.1 (well_other line b (take k.0 bs) e f)

-- ---- what stands next is that token, and what is behind it

pub token_next : (line i b : ℕ) (bs : List ℕ) → is_start b ≡ true → items 0 line i (b ∷ bs) ≡ item_of line i (b ∷ bs) (size_of (b ∷ bs))
    ∷ items 0 line (i + size_of (b ∷ bs)) (drop (size_of (b ∷ bs)) (b ∷ bs))
unfolding items
token_next line i b bs t =
    let p : (is_line_feed b ≡ false) × ((is_blank b || is_hash b) ≡ false) = not_or (is_line_feed b) (is_blank b || is_hash b) t in
    let q : (is_blank b ≡ false) × (is_hash b ≡ false) = not_or (is_blank b) (is_hash b) (ap not p.1) in
    let k : (k : ℕ) × (size_of (b ∷ bs) ≡ suc k) × (k ≤ length bs) = sized b bs in
    let m : size_of (b ∷ bs) - 1 ≡ k.0 = rw k.1 (omega arith) in
    let f : items k.0 line (i + 1) bs ≡ items 0 line (i + 1 + k.0) (drop k.0 bs) = passed k.0 line (i + 1) bs k.2 in
    let e : i + 1 + k.0 ≡ i + suc k.0 = omega arith in
    let d : drop (size_of (b ∷ bs)) (b ∷ bs) ≡ drop k.0 bs = rw k.1 refl in
    let g : items (size_of (b ∷ bs) - 1) line (i + 1) bs
    ≡ items 0 line (i + size_of (b ∷ bs)) (drop (size_of (b ∷ bs)) (b ∷ bs)) = rw (m, d, k.1) (f ∙ rw e refl) in
    rw (p.0, q.0, q.1) (ap (λ x. item_of line i (b ∷ bs) (size_of (b ∷ bs)) ∷ x) g)

pub token_not_end : (line b : ℕ) (bs : List ℕ) → is_terminal End (lexeme_of line (take (size_of (b ∷ bs)) (b ∷ bs))) ≡ false
unfolding lexeme_of
token_not_end line b bs =
    let k : (k : ℕ) × (size_of (b ∷ bs) ≡ suc k) × (k ≤ length bs) = sized b bs in
    rw k.1 (not_end b (take k.0 bs))

end_next : (line i : ℕ) (bytes : List ℕ) → items 0 line i [] ≡ items_from bytes (item_of line i [] (size_of []))
unfolding items items_from size_of lexeme_of terminal_of
end_next line i bytes = refl

from_token : (line i b : ℕ) (bs bytes : List ℕ) → drop i bytes ≡ b ∷ bs → items_from bytes (item_of line i (b ∷ bs) (size_of (b ∷ bs)))
    ≡ item_of line i (b ∷ bs) (size_of (b ∷ bs)) ∷ items 0 line (i + size_of (b ∷ bs)) (drop (size_of (b ∷ bs)) (b ∷ bs))
unfolding items_from lexeme_of
from_token line i b bs bytes e =
    let n : is_terminal End (lexeme_of line (take (size_of (b ∷ bs)) (b ∷ bs))) ≡ false = token_not_end line b bs in
    let d : drop (size_of (b ∷ bs)) (drop i bytes) ≡ drop (i + size_of (b ∷ bs)) bytes = drop-drop (size_of (b ∷ bs)) i bytes in
    let f : drop (i + size_of (b ∷ bs)) bytes ≡ drop (size_of (b ∷ bs)) (b ∷ bs) = sym d ∙ ap (λ x. drop (size_of (b ∷ bs)) x) e in
    rw (n, f) refl

goes_on : (line i : ℕ) (bytes xs : List ℕ) → ((b : ℕ) (bs : List ℕ) → drop i bytes ≡ b ∷ bs → is_start b ≡ true) → drop i bytes ≡ xs →
    items 0 line i xs ≡ items_from bytes (item_of line i xs (size_of xs))
goes_on line i bytes [] s e = end_next line i bytes
goes_on line i bytes (b ∷ bs) s e = token_next line i b bs (s b bs e) ∙ sym (from_token line i b bs bytes e)

first_start : (i : ℕ) (bytes : List ℕ) → (i < length bytes → is_start (get_or bytes i 0) ≡ true) → (b : ℕ) (bs : List ℕ) → drop i bytes ≡ b ∷ bs →
    is_start b ≡ true
first_start i bytes s b bs e =
    let l : length (drop i bytes) ≡ length bytes - i = length-drop i bytes in
    let m : length (drop i bytes) ≡ suc (length bs) = ap length e in
    let h : i < length bytes = omega arith in
    let n : drop i bytes ≡ get_or bytes i 0 ∷ drop (i + 1) bytes = next_at bytes i h in
    let j : get_or bytes i 0 ∷ drop (i + 1) bytes ≡ b ∷ bs = sym n ∙ e in
    let g : get_or bytes i 0 ≡ b = cc in
    rw g at (s h)

-- the token at a place where neither a blank nor a comment stands, and those behind it
pub found : (line i : ℕ) (bytes : List ℕ) → (i < length bytes → is_start (get_or bytes i 0) ≡ true) →
    items 0 line i (drop i bytes) ≡ items_from bytes (item_of line i (drop i bytes) (size_of (drop i bytes)))
found line i bytes s = goes_on line i bytes (drop i bytes) (first_start i bytes s) refl

-- the same, where the token was measured and told in a slice
pub found_in_slice : (line i n : ℕ) (bytes : List ℕ) (t : Lexeme) → (i < length bytes → is_start (get_or bytes i 0) ≡ true) →
    n ≡ size_of (take (length bytes - i) (drop i bytes)) → t ≡ lexeme_of line (take n (take (length bytes - i) (drop i bytes))) →
    (items 0 line i (drop i bytes) ≡ items_from bytes (record { lexeme = t; start = i; stop = i + n })) × (is_well t ≡ true)
found_in_slice line i n bytes t s e f =
    let r : take (length bytes - i) (drop i bytes) ≡ drop i bytes = take_rest bytes i in
    let m : n ≡ size_of (drop i bytes) = rw r at e in
    let g : t ≡ lexeme_of line (take (size_of (drop i bytes)) (drop i bytes)) = rw (r, m) at f in
    (rw (g, m) (found line i bytes s), rw g (well_scanned line (drop i bytes)))
