-- Printed pieces, and the tokens that they are read as.
use Rattle.std.proofs.Common.{◌≡◌, ◌∙◌, sym, ap, refl, ℕ, ℤ, pos, ◌^◌, ◌<◌, Bool, true, false, List, [], ◌∷◌, ◌++◌, append_assoc, arith}
use Rattle.std.proofs.lemmas.Bool.Decides.{nat_tests}
use Rattle.std.proofs.lemmas.Bool.{or_parts}
use Rattle.std.specs.Prelude.{◌||◌, codes}
use Rattle.std.specs.Char.{is_ascii_digit}
use Rattle.std.specs.Fmt.{signed_decimal}
use Rattle.std.specs.List.{list_all}
use lib.Signed.{mag}
use Rattle.cj_ir.specs.Texts.{is_letter_or_digit, is_text_byte, is_name}
use Rattle.cj_tokens.specs.Bytes.{is_greater, begins}
use Rattle.cj_tokens.specs.Lexemes.{Lexeme}
use Rattle.cj_tokens.specs.Printed.{spelling, is_keyword_terminal, is_mark_terminal, fixed, ends_mark, lexed}
use Rattle.cj_tokens.specs.Scan.{next_line}
use Rattle.cj_tokens.specs.declared.terminal.Terminal.{Terminal}
use Rattle.cj_tokens.specs.declared.terminal.Terminal.TheVariants.{Name, Number, Text, Minus}
use Rattle.cj_tokens.proofs.Again.{blank_again, line_feed_again, name_again, keyword_again, mark_again, text_again, number_again}
use Rattle.cj_printer.specs.Pieces.{Piece, gap_text, pieces_text, glued, blank, feed}

-- the bytes of pieces in front of others
abbrev pub before : List Piece → List ℕ → List ℕ
before [] rest = rest
before (p ∷ ps) rest = gap_text p.gap ++ (p.text ++ before ps rest)

pub before_is : (ps : List Piece) (rest : List ℕ) → pieces_text ps ++ rest ≡ before ps rest
before_is [] rest = refl
before_is (p ∷ ps) rest =
    append_assoc (gap_text p.gap ++ p.text) (pieces_text ps) rest ∙ append_assoc (gap_text p.gap) p.text (pieces_text ps ++ rest)
    ∙ ap (λ bytes. gap_text p.gap ++ (p.text ++ bytes)) (before_is ps rest)

pub before_append : (ps qs : List Piece) (rest : List ℕ) → before (ps ++ qs) rest ≡ before ps (before qs rest)
before_append [] qs rest = refl
before_append (p ∷ ps) qs rest = ap (λ bytes. gap_text p.gap ++ (p.text ++ bytes)) (before_append ps qs rest)

-- a byte that would go on a name, a keyword, a number, or a `-`
abbrev pub is_joined : ℕ → Bool
is_joined b = is_letter_or_digit b || is_greater b

abbrev pub Apart : List ℕ → Type 0
Apart rest = begins is_joined rest ≡ false

-- Pieces that begin in a line and end in another are read as these tokens, in front of what stands apart.
pub record Inside (line end : ℕ) (ps : List Piece) (ts : List Lexeme) : Type 0 where
  pub reads : (rest : List ℕ) → Apart rest → lexed line (before ps rest) ≡ ts ++ lexed end rest

-- and they stand apart themselves
pub record Chunk (line end : ℕ) (ps : List Piece) (ts : List Lexeme) : Type 0 where
  pub front : (rest : List ℕ) → Apart rest → Apart (before ps rest)
  pub reads : (rest : List ℕ) → Apart rest → lexed line (before ps rest) ≡ ts ++ lexed end rest

infixr 10 ◌▸◌
pub ◌▸◌ : {l m n : ℕ} {ps qs : List Piece} {ts us : List Lexeme} → Chunk l m ps ts → Chunk m n qs us → Chunk l n (ps ++ qs) (ts ++ us)
◌▸◌ {l} {m} {n} {ps} {qs} {ts} {us} c d = record {
  front = λ rest apart. rw (before_append ps qs rest) (c.front (before qs rest) (d.front rest apart));
  reads = λ rest apart. ap (lexed l) (before_append ps qs rest)
      ∙ (c.reads (before qs rest) (d.front rest apart) ∙ (ap (λ vs. ts ++ vs) (d.reads rest apart) ∙ sym (append_assoc ts us (lexed n rest))));
}

infixr 10 ◌▹◌
pub ◌▹◌ : {l m n : ℕ} {ps qs : List Piece} {ts us : List Lexeme} → Inside l m ps ts → Chunk m n qs us → Inside l n (ps ++ qs) (ts ++ us)
◌▹◌ {l} {m} {n} {ps} {qs} {ts} {us} c d = record {
  reads = λ rest apart. ap (lexed l) (before_append ps qs rest)
      ∙ (c.reads (before qs rest) (d.front rest apart) ∙ (ap (λ vs. ts ++ vs) (d.reads rest apart) ∙ sym (append_assoc ts us (lexed n rest))));
}

pub nothing : (line : ℕ) → Chunk line line [] []
nothing line = record { front = λ rest apart. apart; reads = λ rest apart. refl }

pub nothing_inside : (line : ℕ) → Inside line line [] []
nothing_inside line = record { reads = λ rest apart. refl }

-- ---- what stands apart

no_letter : (rest : List ℕ) → Apart rest → begins is_letter_or_digit rest ≡ false
no_letter [] h = refl
no_letter (b ∷ bs) h = (or_parts (is_letter_or_digit b) (is_greater b) h).0

no_greater : (rest : List ℕ) → Apart rest → begins is_greater rest ≡ false
no_greater [] h = refl
no_greater (b ∷ bs) h = (or_parts (is_letter_or_digit b) (is_greater b) h).1

no_digit : (rest : List ℕ) → Apart rest → begins is_ascii_digit rest ≡ false
no_digit [] h = refl
no_digit (b ∷ bs) h = let p : is_letter_or_digit b ≡ false = no_letter (b ∷ bs) h in grind (arith, nat_tests)

-- ---- tokens

abbrev pub name_token : ℕ → List ℕ → Lexeme
name_token line name = record { terminal = Name; line = line; text = name; number = pos 0 }

abbrev pub number_token : ℕ → ℤ → Lexeme
number_token line z = record { terminal = Number; line = line; text = signed_decimal z; number = z }

abbrev pub text_token : ℕ → List ℕ → Lexeme
text_token line text = record { terminal = Text; line = line; text = text; number = pos 0 }

-- ---- behind a blank

pub name_blank : (line : ℕ) (w : List ℕ) → is_name w ≡ true → Chunk line line (blank w ∷ []) (name_token line w ∷ [])
name_blank line w h = record {
  front = λ rest apart. refl;
  reads = λ rest apart. blank_again line (w ++ rest) ∙ name_again line w rest h (no_letter rest apart);
}

pub number_blank : (line : ℕ) (z : ℤ) → mag z < 2 ^ 63 → Chunk line line (blank (signed_decimal z) ∷ []) (number_token line z ∷ [])
number_blank line z h = record {
  front = λ rest apart. refl;
  reads = λ rest apart. blank_again line (signed_decimal z ++ rest) ∙ number_again z line rest h (no_digit rest apart);
}

pub key_blank : (line : ℕ) (k : Terminal) → is_keyword_terminal k ≡ true → Chunk line line (blank (spelling k) ∷ []) (fixed k line ∷ [])
key_blank line k h = record {
  front = λ rest apart. refl;
  reads = λ rest apart. blank_again line (spelling k ++ rest) ∙ keyword_again k line rest h (no_letter rest apart);
}

-- the bytes behind a mark, where they stand apart
behind_mark : (k : Terminal) (rest : List ℕ) → Apart rest → ends_mark k rest ≡ true
behind_mark Minus rest h = let d : begins is_ascii_digit rest ≡ false = no_digit rest h in let g : begins is_greater rest
    ≡ false = no_greater rest h in rw (d, g) refl
behind_mark _ rest h = refl

pub mark_blank : (line : ℕ) (k : Terminal) → is_mark_terminal k ≡ true → Chunk line line (blank (spelling k) ∷ []) (fixed k line ∷ [])
mark_blank line k h = record {
  front = λ rest apart. refl;
  reads = λ rest apart. blank_again line (spelling k ++ rest) ∙ mark_again k line rest h (behind_mark k rest apart);
}

pub text_blank : (line : ℕ) (t : List ℕ) → list_all is_text_byte t ≡ true →
    Chunk line line (blank (codes "\"" ++ t ++ codes "\"") ∷ []) (text_token line t ∷ [])
text_blank line t h = record {
  front = λ rest apart. refl;
  reads = λ rest apart. blank_again line ((34 ∷ (t ++ 34 ∷ [])) ++ rest)
      ∙ (ap (λ bytes. lexed line (34 ∷ bytes)) (append_assoc t (34 ∷ []) rest) ∙ text_again line t rest h);
}

-- ---- glued

-- a mark that may stand behind any token
abbrev pub IsApart : Terminal → Type 0
IsApart k = (rest : List ℕ) → Apart (spelling k ++ rest)

pub mark_glued : (line : ℕ) (k : Terminal) → is_mark_terminal k ≡ true → IsApart k → Chunk line line (glued (spelling k) ∷ []) (fixed k line ∷ [])
mark_glued line k h a = record {
  front = λ rest apart. a rest;
  reads = λ rest apart. mark_again k line rest h (behind_mark k rest apart);
}

pub name_glued : (line : ℕ) (w : List ℕ) → is_name w ≡ true → Inside line line (glued w ∷ []) (name_token line w ∷ [])
name_glued line w h = record { reads = λ rest apart. name_again line w rest h (no_letter rest apart) }

pub number_glued : (line : ℕ) (z : ℤ) → mag z < 2 ^ 63 → Inside line line (glued (signed_decimal z) ∷ []) (number_token line z ∷ [])
number_glued line z h = record { reads = λ rest apart. number_again z line rest h (no_digit rest apart) }

pub key_glued : (line : ℕ) (k : Terminal) → is_keyword_terminal k ≡ true → Inside line line (glued (spelling k) ∷ []) (fixed k line ∷ [])
key_glued line k h = record { reads = λ rest apart. keyword_again k line rest h (no_letter rest apart) }

-- ---- opening brackets: anything may follow

-- a mark behind which anything may stand
abbrev pub IsOpening : Terminal → Type 0
IsOpening k = (rest : List ℕ) → ends_mark k rest ≡ true

pub opened_glued : {l m : ℕ} {ps : List Piece} {ts : List Lexeme} (k : Terminal) → is_mark_terminal k ≡ true → IsOpening k → IsApart k → Inside l m ps ts →
    Chunk l m (glued (spelling k) ∷ ps) (fixed k l ∷ ts)
opened_glued {l} {m} {ps} {ts} k h o a c = record {
  front = λ rest apart. a (before ps rest);
  reads = λ rest apart. mark_again k l (before ps rest) h (o (before ps rest)) ∙ ap (λ us. fixed k l ∷ us) (c.reads rest apart);
}

pub opened_blank : {l m : ℕ} {ps : List Piece} {ts : List Lexeme} (k : Terminal) → is_mark_terminal k ≡ true → IsOpening k → Inside l m ps ts →
    Chunk l m (blank (spelling k) ∷ ps) (fixed k l ∷ ts)
opened_blank {l} {m} {ps} {ts} k h o c = record {
  front = λ rest apart. refl;
  reads = λ rest apart. blank_again l (spelling k ++ before ps rest)
      ∙ (mark_again k l (before ps rest) h (o (before ps rest)) ∙ ap (λ us. fixed k l ∷ us) (c.reads rest apart));
}

-- ---- behind a line feed

pub key_feed : (line : ℕ) (k : Terminal) → is_keyword_terminal k ≡ true → Chunk line (next_line line) (feed (spelling k) ∷ []) (fixed k (next_line line) ∷ [])
key_feed line k h = record {
  front = λ rest apart. refl;
  reads = λ rest apart. line_feed_again line (spelling k ++ rest) ∙ keyword_again k (next_line line) rest h (no_letter rest apart);
}

pub mark_feed : (line : ℕ) (k : Terminal) → is_mark_terminal k ≡ true → Chunk line (next_line line) (feed (spelling k) ∷ []) (fixed k (next_line line) ∷ [])
mark_feed line k h = record {
  front = λ rest apart. refl;
  reads = λ rest apart. line_feed_again line (spelling k ++ rest) ∙ mark_again k (next_line line) rest h (behind_mark k rest apart);
}

pub number_feed : (line : ℕ) (z : ℤ) → mag z < 2 ^ 63 → Chunk line (next_line line) (feed (signed_decimal z) ∷ []) (number_token (next_line line) z ∷ [])
number_feed line z h = record {
  front = λ rest apart. refl;
  reads = λ rest apart. line_feed_again line (signed_decimal z ++ rest) ∙ number_again z (next_line line) rest h (no_digit rest apart);
}
