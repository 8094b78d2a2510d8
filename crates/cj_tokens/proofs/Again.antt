-- What is printed is read again: a token and what may follow it is that token, and then the rest.
use Rattle.std.proofs.Common.{◌≡◌, ℕ, ℤ, pos, negsuc, zero, suc, ◌+◌, ◌-◌, ◌^◌, ◌<◌, Bool, true, false, cond, List, [], ◌∷◌, ◌++◌, length, take, drop, map}
use Rattle.std.proofs.Common.{refl, ap, ◌∙◌, arith, rules}
use Rattle.std.proofs.Math.Seq.{take-append_seam, drop-append_seam}
use Rattle.std.proofs.lemmas.Bool.Decides.{nat_tests}
use Rattle.std.proofs.lemmas.Fmt.{digits_decimal, digits_value-decimal, decimal_nonempty}
use Rattle.std.proofs.lemmas.Str.Parse.{IsNumeralModel, numerals_by_fold}
use Rattle.std.proofs.lemmas.Bool.{and_parts}
use Rattle.std.specs.Prelude.{◌&&◌, ◌==◌, not, nat_le}
use Rattle.std.specs.Char.{is_ascii_digit}
use Rattle.std.specs.Fmt.{decimal, signed_decimal}
use Rattle.std.specs.List.{list_all, prefix_len}
use Rattle.std.specs.Str.{all_ascii_digits}
use lib.Signed.{mag}
use Rattle.cj_ir.specs.Texts.{is_letter, is_letter_or_digit, is_text_byte, starts_with_letter, is_keyword, is_name}
use Rattle.cj_tokens.specs.Bytes.{is_blank, is_line_feed, is_hash, is_in_line, is_minus, is_greater, is_quote, begins, is_closed}
use Rattle.cj_tokens.specs.Printed.{spelling, is_keyword_terminal, is_mark_terminal, fixed, ends_mark, lexed}
use Rattle.cj_tokens.specs.Scan.{Item, items, item_of, size_of, is_start, next_line, lexeme_in}
use Rattle.cj_tokens.specs.Spellings.{keyword_table, mark_table, word_terminal, begins_number, value, terminal_of, text_of, worth, lexeme_of}
use Rattle.cj_tokens.specs.declared.terminal.Terminal.{Terminal}
use Rattle.cj_tokens.specs.declared.terminal.Terminal.TheVariants.{Name, Number, Text, Fun, Nop, Op, Cond, Call, Return, Print, Load, Store, Fail, Neg, Eqz}
use Rattle.cj_tokens.specs.declared.terminal.Terminal.TheVariants.{Calls, Guess, Cold, Then, Else, Warm, Memory, Limit, Events, Begin, Step, Compile, Anchors}
use Rattle.cj_tokens.specs.declared.terminal.Terminal.TheVariants.{Assume, Delay, Const, Inline, When, Never, Keep, OpenParen, CloseParen, OpenBrace}
use Rattle.cj_tokens.specs.declared.terminal.Terminal.TheVariants.{CloseBrace, OpenBracket, CloseBracket, Comma, Semicolon, Colon, Equals, Plus, Minus, Star}
use Rattle.cj_tokens.specs.declared.terminal.Terminal.TheVariants.{Slash, Percent, Less, Arrow}
use Rattle.cj_tokens.proofs.Found.{letter_no_quote, token_next, size_word, size_text}
use Rattle.cj_tokens.proofs.Tables.{free_is_name}
use Rattle.cj_ir.proofs.Truths.{not_or}

-- ---- the places of tokens do not change what they are

choose : (c : Bool) (xs us ys vs : List Item) → map lexeme_in xs ≡ map lexeme_in us → map lexeme_in ys ≡ map lexeme_in vs →
    map lexeme_in (cond c xs ys) ≡ map lexeme_in (cond c us vs)
choose true xs us ys vs f g = f
choose false xs us ys vs f g = g

pub at_any : (skip line at to : ℕ) (bytes : List ℕ) → map lexeme_in (items skip line at bytes) ≡ map lexeme_in (items skip line to bytes)
unfolding items
at_any zero line at to [] = refl
at_any (suc skip) line at to [] = refl
at_any (suc skip) line at to (b ∷ bs) = at_any skip line (at + 1) (to + 1) bs
at_any zero line at to (b ∷ bs) =
    choose (is_line_feed b) _ _ _ _ (at_any 0 (next_line line) (at + 1) (to + 1) bs)
    (choose (is_blank b) _ _ _ _ (at_any 0 line (at + 1) (to + 1) bs)
    (choose (is_hash b) _ _ _ _ (at_any (prefix_len is_in_line bs) line (at + 1) (to + 1) bs)
    (ap (λ ts. lexeme_of line (take (size_of (b ∷ bs)) (b ∷ bs)) ∷ ts) (at_any (size_of (b ∷ bs) - 1) line (at + 1) (to + 1) bs))))

-- ---- any token

pub again : (line : ℕ) (t rest : List ℕ) → begins is_start t ≡ true → size_of (t ++ rest) ≡ length t →
    lexed line (t ++ rest) ≡ lexeme_of line t ∷ lexed line rest
again line [] rest s e = cc
again line (b ∷ bs) rest s e =
    let n : items 0 line 0 (b ∷ (bs ++ rest)) ≡ item_of line 0 (b ∷ (bs ++ rest)) (size_of (b ∷ (bs ++ rest)))
    ∷ items 0 line (0 + size_of (b ∷ (bs ++ rest))) (drop (size_of (b ∷ (bs ++ rest))) (b ∷ (bs ++ rest))) = token_next line 0 b (bs ++ rest) s in
    let p : take (length bs) (bs ++ rest) ≡ bs = take-append_seam bs rest in
    let q : drop (length bs) (bs ++ rest) ≡ rest = drop-append_seam bs rest in
    ap (map lexeme_in) n ∙ rw (e, p, q) (ap (λ ts. lexeme_of line (b ∷ bs) ∷ ts) (at_any 0 line (0 + suc (length bs)) 0 rest))

pub blank_again : (line : ℕ) (rest : List ℕ) → lexed line (32 ∷ rest) ≡ lexed line rest
unfolding items
blank_again line rest = at_any 0 line (0 + 1) 0 rest

pub line_feed_again : (line : ℕ) (rest : List ℕ) → lexed line (10 ∷ rest) ≡ lexed (next_line line) rest
unfolding items
line_feed_again line rest = at_any 0 (next_line line) (0 + 1) 0 rest

-- ---- words

run_all : (p : ℕ → Bool) (bs rest : List ℕ) → list_all p bs ≡ true → begins p rest ≡ false → prefix_len p (bs ++ rest) ≡ length bs
run_all p [] [] a s = refl
run_all p [] (r ∷ rest) a s = rw s refl
run_all p (b ∷ bs) rest a s =
    let h : (p b ≡ true) × (list_all p bs ≡ true) = and_parts (p b) (list_all p bs) a in
    let i : prefix_len p (bs ++ rest) ≡ length bs = run_all p bs rest h.1 s in
    let e : 1 + length bs ≡ suc (length bs) = omega arith in
    rw (h.0, i) e

letter_starts : (b : ℕ) → is_letter b ≡ true → is_start b ≡ true
letter_starts b h = grind (arith, nat_tests)

pub letter_no_number : (b : ℕ) (bs : List ℕ) → is_letter b ≡ true → begins_number b bs ≡ false
letter_no_number b bs h =
    let d : is_ascii_digit b ≡ false = grind (arith, nat_tests) in
    let m : is_minus b ≡ false = grind (arith, nat_tests) in
    rw (d, m) refl

word_lexeme : (line b : ℕ) (bs : List ℕ) → is_letter b ≡ true →
    lexeme_of line (b ∷ bs) ≡ record { terminal = word_terminal (b ∷ bs); line = line; text = b ∷ bs; number = pos 0 }
unfolding lexeme_of terminal_of text_of worth
word_lexeme line b bs l = rw (l, letter_no_quote b l, letter_no_number b bs l) refl

pub word_again : (line : ℕ) (w rest : List ℕ) → starts_with_letter w ≡ true → list_all is_letter_or_digit w ≡ true → begins is_letter_or_digit rest ≡ false →
    lexed line (w ++ rest) ≡ record { terminal = word_terminal w; line = line; text = w; number = pos 0 } ∷ lexed line rest
word_again line [] rest l a s = cc
word_again line (b ∷ bs) rest l a s =
    let h : (is_letter_or_digit b ≡ true) × (list_all is_letter_or_digit bs ≡ true) = and_parts (is_letter_or_digit b) (list_all is_letter_or_digit bs) a in
    let n : size_of (b ∷ (bs ++ rest)) ≡ suc (length bs) = size_word b (bs ++ rest) l ∙ ap (λ n. suc n) (run_all is_letter_or_digit bs rest h.1 s) in
    again line (b ∷ bs) rest (letter_starts b l) n ∙ ap (λ t. t ∷ lexed line rest) (word_lexeme line b bs l)

-- a name
pub name_again : (line : ℕ) (w rest : List ℕ) → is_name w ≡ true → begins is_letter_or_digit rest ≡ false →
    lexed line (w ++ rest) ≡ record { terminal = Name; line = line; text = w; number = pos 0 } ∷ lexed line rest
name_again line w rest h s =
    let f : ((starts_with_letter w && list_all is_letter_or_digit w && nat_le (length w) 32) ≡ true) × (not (is_keyword w) ≡ true) = and_parts _ _ h in
    let g : ((starts_with_letter w && list_all is_letter_or_digit w) ≡ true) × (nat_le (length w) 32 ≡ true) = and_parts _ _ f.0 in
    let k : (starts_with_letter w ≡ true) × (list_all is_letter_or_digit w ≡ true) = and_parts _ _ g.0 in
    let t : word_terminal w ≡ Name = free_is_name w f.1 in
    word_again line w rest k.0 k.1 s ∙ rw t refl

word_facts : (k : Terminal) → is_keyword_terminal k ≡ true → (starts_with_letter (spelling k) ≡ true) × (list_all is_letter_or_digit (spelling k) ≡ true)
    × (word_terminal (spelling k) ≡ k)
unfolding keyword_table
word_facts Fun h = (refl, refl, refl)
word_facts Nop h = (refl, refl, refl)
word_facts Op h = (refl, refl, refl)
word_facts Cond h = (refl, refl, refl)
word_facts Call h = (refl, refl, refl)
word_facts Return h = (refl, refl, refl)
word_facts Print h = (refl, refl, refl)
word_facts Load h = (refl, refl, refl)
word_facts Store h = (refl, refl, refl)
word_facts Fail h = (refl, refl, refl)
word_facts Neg h = (refl, refl, refl)
word_facts Eqz h = (refl, refl, refl)
word_facts Calls h = (refl, refl, refl)
word_facts Guess h = (refl, refl, refl)
word_facts Cold h = (refl, refl, refl)
word_facts Then h = (refl, refl, refl)
word_facts Else h = (refl, refl, refl)
word_facts Warm h = (refl, refl, refl)
word_facts Memory h = (refl, refl, refl)
word_facts Limit h = (refl, refl, refl)
word_facts Events h = (refl, refl, refl)
word_facts Begin h = (refl, refl, refl)
word_facts Step h = (refl, refl, refl)
word_facts Compile h = (refl, refl, refl)
word_facts Anchors h = (refl, refl, refl)
word_facts Assume h = (refl, refl, refl)
word_facts Delay h = (refl, refl, refl)
word_facts Const h = (refl, refl, refl)
word_facts Inline h = (refl, refl, refl)
word_facts When h = (refl, refl, refl)
word_facts Never h = (refl, refl, refl)
word_facts Keep h = (refl, refl, refl)
word_facts _ h = cc

-- a keyword
pub keyword_again : (k : Terminal) (line : ℕ) (rest : List ℕ) → is_keyword_terminal k ≡ true → begins is_letter_or_digit rest ≡ false →
    lexed line (spelling k ++ rest) ≡ fixed k line ∷ lexed line rest
keyword_again k line rest h s =
    let f : (starts_with_letter (spelling k) ≡ true) × (list_all is_letter_or_digit (spelling k) ≡ true) × (word_terminal (spelling k) ≡ k) = word_facts k h in
    word_again line (spelling k) rest f.0 f.1 s ∙ ap (λ t. record { terminal = t; line = line; text = spelling k; number = pos 0 } ∷ lexed line rest) f.2

-- ---- marks

minus_size : (rest : List ℕ) → begins is_ascii_digit rest ≡ false → begins is_greater rest ≡ false → size_of (45 ∷ rest) ≡ 1
unfolding size_of
minus_size rest d g = rw (d, g) refl

mark_size : (k : Terminal) (rest : List ℕ) → is_mark_terminal k ≡ true → ends_mark k rest ≡ true → size_of (spelling k ++ rest) ≡ length (spelling k)
unfolding size_of
mark_size Minus rest h e = let p : (begins is_ascii_digit rest ≡ false)
    × (begins is_greater rest ≡ false) = not_or (begins is_ascii_digit rest) (begins is_greater rest) e in minus_size rest p.0 p.1
mark_size OpenParen rest h e = refl
mark_size CloseParen rest h e = refl
mark_size OpenBrace rest h e = refl
mark_size CloseBrace rest h e = refl
mark_size OpenBracket rest h e = refl
mark_size CloseBracket rest h e = refl
mark_size Comma rest h e = refl
mark_size Semicolon rest h e = refl
mark_size Colon rest h e = refl
mark_size Equals rest h e = refl
mark_size Plus rest h e = refl
mark_size Star rest h e = refl
mark_size Slash rest h e = refl
mark_size Percent rest h e = refl
mark_size Less rest h e = refl
mark_size Arrow rest h e = refl
mark_size _ rest h e = cc

mark_facts : (k : Terminal) (line : ℕ) → is_mark_terminal k ≡ true → (begins is_start (spelling k) ≡ true) × (lexeme_of line (spelling k) ≡ fixed k line)
unfolding mark_table lexeme_of terminal_of text_of worth
mark_facts OpenParen line h = (refl, refl)
mark_facts CloseParen line h = (refl, refl)
mark_facts OpenBrace line h = (refl, refl)
mark_facts CloseBrace line h = (refl, refl)
mark_facts OpenBracket line h = (refl, refl)
mark_facts CloseBracket line h = (refl, refl)
mark_facts Comma line h = (refl, refl)
mark_facts Semicolon line h = (refl, refl)
mark_facts Colon line h = (refl, refl)
mark_facts Equals line h = (refl, refl)
mark_facts Plus line h = (refl, refl)
mark_facts Minus line h = (refl, refl)
mark_facts Star line h = (refl, refl)
mark_facts Slash line h = (refl, refl)
mark_facts Percent line h = (refl, refl)
mark_facts Less line h = (refl, refl)
mark_facts Arrow line h = (refl, refl)
mark_facts _ line h = cc

-- a mark
pub mark_again : (k : Terminal) (line : ℕ) (rest : List ℕ) → is_mark_terminal k ≡ true → ends_mark k rest ≡ true →
    lexed line (spelling k ++ rest) ≡ fixed k line ∷ lexed line rest
mark_again k line rest h e =
    let f : (begins is_start (spelling k) ≡ true) × (lexeme_of line (spelling k) ≡ fixed k line) = mark_facts k line h in
    again line (spelling k) rest f.0 (mark_size k rest h e) ∙ ap (λ t. t ∷ lexed line rest) f.1

-- ---- texts

text_closed : (t rest : List ℕ) → list_all is_text_byte t ≡ true → is_closed (t ++ 34 ∷ rest) ≡ true
text_closed t rest a =
    let n : prefix_len is_text_byte (t ++ 34 ∷ rest) ≡ length t = run_all is_text_byte t (34 ∷ rest) a refl in
    let d : drop (length t) (t ++ 34 ∷ rest) ≡ 34 ∷ rest = drop-append_seam t (34 ∷ rest) in
    rw (n, d) refl

closing : (t rest : List ℕ) → (t ++ 34 ∷ []) ++ rest ≡ t ++ 34 ∷ rest
closing [] rest = refl
closing (b ∷ bs) rest = ap (λ x. b ∷ x) (closing bs rest)

one_more : (t : List ℕ) → length (t ++ 34 ∷ []) ≡ suc (length t)
one_more [] = refl
one_more (b ∷ bs) = ap (λ n. suc n) (one_more bs)

text_between : (t : List ℕ) → text_of (34 ∷ (t ++ 34 ∷ [])) ≡ t
unfolding text_of
text_between t =
    let l : length (t ++ 34 ∷ []) ≡ suc (length t) = one_more t in
    let m : suc (suc (length t)) - 2 ≡ length t = omega arith in
    rw (l, m) (take-append_seam t (34 ∷ []))

quoted_lexeme : (line : ℕ) (t : List ℕ) → lexeme_of line (34 ∷ (t ++ 34 ∷ [])) ≡ record { terminal = Text; line = line; text = t; number = pos 0 }
unfolding lexeme_of terminal_of worth
quoted_lexeme line t =
    let x : text_of (34 ∷ (t ++ 34 ∷ [])) ≡ t = text_between t in
    let l : length (t ++ 34 ∷ []) ≡ suc (length t) = one_more t in
    let z : (suc (length t) == 0) ≡ false = grind (arith, nat_tests) in
    rw (x, l, z) refl

-- a text between its quotes
pub text_again : (line : ℕ) (t rest : List ℕ) → list_all is_text_byte t ≡ true →
    lexed line (34 ∷ (t ++ 34 ∷ rest)) ≡ record { terminal = Text; line = line; text = t; number = pos 0 } ∷ lexed line rest
text_again line t rest a =
    let c : (t ++ 34 ∷ []) ++ rest ≡ t ++ 34 ∷ rest = closing t rest in
    let n : prefix_len is_text_byte (t ++ 34 ∷ rest) ≡ length t = run_all is_text_byte t (34 ∷ rest) a refl in
    let s : size_of (34 ∷ (t ++ 34 ∷ rest)) ≡ suc (suc (length t)) = size_text (t ++ 34 ∷ rest) (text_closed t rest a) ∙ ap (λ k. suc (suc k)) n in
    let l : length (t ++ 34 ∷ []) ≡ suc (length t) = one_more t in
    let e : size_of (34 ∷ ((t ++ 34 ∷ []) ++ rest)) ≡ suc (length (t ++ 34 ∷ [])) = rw (c, l) s in
    let g : lexed line (34 ∷ ((t ++ 34 ∷ []) ++ rest)) ≡ lexeme_of line (34 ∷ (t ++ 34 ∷ []))
    ∷ lexed line rest = again line (34 ∷ (t ++ 34 ∷ [])) rest refl e in
    (rw c at g) ∙ ap (λ x. x ∷ lexed line rest) (quoted_lexeme line t)

-- ---- numbers

-- digits, and what they are worth
pub value_is_numeral : IsNumeralModel (λ ds. all_ascii_digits ds ≡ true) (value 0)
unfolding value
value_is_numeral = numerals_by_fold _ (search rules) value (search rules)

all_digits : (ds : List ℕ) → all_ascii_digits ds ≡ true → list_all is_ascii_digit ds ≡ true
all_digits [] h = refl
all_digits (d ∷ ds) h =
    let p : (is_ascii_digit d ≡ true) × (all_ascii_digits ds ≡ true) = and_parts (is_ascii_digit d) (all_ascii_digits ds) h in
    rw p.0 (all_digits ds p.1)

digit_starts : (b : ℕ) → is_ascii_digit b ≡ true → is_start b ≡ true
digit_starts b h = grind (arith, nat_tests)

digit_no_letter : (b : ℕ) → is_ascii_digit b ≡ true → is_letter b ≡ false
digit_no_letter b h = grind (arith, nat_tests)

digit_no_quote : (b : ℕ) → is_ascii_digit b ≡ true → is_quote b ≡ false
digit_no_quote b h = grind (arith, nat_tests)

digit_no_minus : (b : ℕ) → is_ascii_digit b ≡ true → is_minus b ≡ false
digit_no_minus b h = grind (arith, nat_tests)

digits_size : (d : ℕ) (ds rest : List ℕ) → is_ascii_digit d ≡ true → list_all is_ascii_digit ds ≡ true → begins is_ascii_digit rest ≡ false →
    size_of (d ∷ (ds ++ rest)) ≡ suc (length ds)
unfolding size_of
digits_size d ds rest h a s = rw (digit_no_letter d h, h, run_all is_ascii_digit ds rest a s) refl

minus_digits_size : (d : ℕ) (ds rest : List ℕ) → is_ascii_digit d ≡ true → list_all is_ascii_digit ds ≡ true → begins is_ascii_digit rest ≡ false →
    size_of (45 ∷ d ∷ (ds ++ rest)) ≡ suc (suc (length ds))
unfolding size_of
minus_digits_size d ds rest h a s =
    let e : 1 + length ds ≡ suc (length ds) = omega arith in
    rw (h, run_all is_ascii_digit ds rest a s, e) refl

digits_lexeme : (line n d : ℕ) (ds : List ℕ) → is_ascii_digit d ≡ true → value 0 (d ∷ ds) ≡ n → nat_le n 9223372036854775807 ≡ true →
    lexeme_of line (d ∷ ds) ≡ record { terminal = Number; line = line; text = d ∷ ds; number = pos n }
unfolding lexeme_of terminal_of text_of worth
digits_lexeme line n d ds h v f = rw (digit_no_letter d h, digit_no_quote d h, digit_no_minus d h, h, v, f) refl

minus_lexeme : (line n d : ℕ) (ds : List ℕ) → is_ascii_digit d ≡ true → value 0 (d ∷ ds) ≡ suc n → nat_le (suc n) 9223372036854775808 ≡ true →
    lexeme_of line (45 ∷ d ∷ ds) ≡ record { terminal = Number; line = line; text = 45 ∷ d ∷ ds; number = negsuc n }
unfolding lexeme_of terminal_of text_of worth
minus_lexeme line n d ds h v f = rw (h, v, f) refl

-- the digits of a number that is written without a sign
plain_again : (line n : ℕ) (t rest : List ℕ) → list_all is_ascii_digit t ≡ true → 0 < length t → value 0 t ≡ n → nat_le n 9223372036854775807 ≡ true →
    begins is_ascii_digit rest ≡ false → lexed line (t ++ rest) ≡ record { terminal = Number; line = line; text = t; number = pos n } ∷ lexed line rest
plain_again line n [] rest a l v f s = absurd (omega arith)
plain_again line n (d ∷ ds) rest a l v f s =
    let p : (is_ascii_digit d ≡ true) × (list_all is_ascii_digit ds ≡ true) = and_parts (is_ascii_digit d) (list_all is_ascii_digit ds) a in
    again line (d ∷ ds) rest (digit_starts d p.0) (digits_size d ds rest p.0 p.1 s) ∙ ap (λ x. x ∷ lexed line rest) (digits_lexeme line n d ds p.0 v f)

below_again : (line n : ℕ) (t rest : List ℕ) → list_all is_ascii_digit t ≡ true → 0 < length t → value 0 t ≡ suc n →
    nat_le (suc n) 9223372036854775808 ≡ true → begins is_ascii_digit rest ≡ false →
    lexed line (45 ∷ (t ++ rest)) ≡ record { terminal = Number; line = line; text = 45 ∷ t; number = negsuc n } ∷ lexed line rest
below_again line n [] rest a l v f s = absurd (omega arith)
below_again line n (d ∷ ds) rest a l v f s =
    let p : (is_ascii_digit d ≡ true) × (list_all is_ascii_digit ds ≡ true) = and_parts (is_ascii_digit d) (list_all is_ascii_digit ds) a in
    again line (45 ∷ d ∷ ds) rest refl (minus_digits_size d ds rest p.0 p.1 s) ∙ ap (λ x. x ∷ lexed line rest) (minus_lexeme line n d ds p.0 v f)

-- A number as std prints it.
pub number_again : (z : ℤ) (line : ℕ) (rest : List ℕ) → mag z < 2 ^ 63 → begins is_ascii_digit rest ≡ false →
    lexed line (signed_decimal z ++ rest) ≡ record { terminal = Number; line = line; text = signed_decimal z; number = z } ∷ lexed line rest
number_again (pos n) line rest h s =
    let b : n < 2 ^ 64 = omega arith in
    let f : nat_le n 9223372036854775807 ≡ true = grind (arith, nat_tests) in
    plain_again line n (decimal n) rest (all_digits (decimal n) (digits_decimal value_is_numeral n b)) (decimal_nonempty n b)
    (digits_value-decimal value_is_numeral n b) f s
number_again (negsuc n) line rest h s =
    let b : suc n < 2 ^ 64 = omega arith in
    let f : nat_le (suc n) 9223372036854775808 ≡ true = grind (arith, nat_tests) in
    below_again line n (decimal (suc n)) rest (all_digits (decimal (suc n)) (digits_decimal value_is_numeral (suc n) b)) (decimal_nonempty (suc n) b)
    (digits_value-decimal value_is_numeral (suc n) b) f s
