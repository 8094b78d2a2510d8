-- The theorem on the first class, for every grammar that one token ahead decides.
use Rattle.std.proofs.Common.{◌≡◌, true, List, [], ◌∷◌, ◌++◌, Ok, Err, refl, ap, sym, ◌∙◌, append_assoc, inl, inr}
use Rattle.std.proofs.lemmas.Bool.{eqb-true, eq-eqb}
use Rattle.std.proofs.lemmas.List.{append-nil}
use Rattle.cj_tokens.specs.Ends.{HasOneEnd}
use Rattle.cj_tokens.specs.Lexemes.{Lexeme, Is, Spelled, number_of, is_terminal}
use Rattle.cj_tokens.specs.Passing.{front}
use Rattle.cj_tokens.specs.declared.terminal.Terminal.TheVariants.{End}
use Rattle.cj_grammar.specs.Grammar.{Rule, tok, seq, alt, opt, many, Tree, leaves, IsSentence, IsFirstBad}
use Rattle.cj_grammar.specs.OneAhead.{is_plain, eat}
use Rattle.cj_grammar.specs.Contents.{is_ended, ends_with_end, lacks}
use Rattle.cj_grammar.specs.Reading.{offence}
use Rattle.cj_grammar.specs.Offences.{class_one, IsFirstOffence}
use Rattle.cj_grammar.proofs.Signs.{and_true}
use Rattle.cj_grammar.proofs.Eats.{sound}
use Rattle.cj_grammar.proofs.ContentsLaws.{in_second}
use Rattle.cj_grammar.proofs.FirstBad.{bad_before_end}

-- What is refused is the line and the kind of the token at which the reader failed.
pub first_offence : (r : Rule) (ts rest : List Lexeme) → is_plain r [] ≡ true → is_ended r ≡ true → HasOneEnd ts → eat r ts ≡ Err rest →
    IsFirstOffence r ts (offence (front rest) (class_one (front rest)))
unfolding front
first_offence r ts rest p w h e =
    let i : (t : Lexeme) × (after : List Lexeme) × (rest ≡ t ∷ after) × IsFirstBad r ts t = bad_before_end r ts rest p w h e in
    record { token = i.0; first = i.3; is = ap (λ x. offence (front x) (class_one (front x))) i.2 }

abbrev HasLast : List Lexeme → Type 0
HasLast ts = (us : List Lexeme) × (e : Lexeme) × (ts ≡ us ++ e ∷ []) × (is_terminal End e ≡ true)

last_is_end : (r : Rule) (t : Tree r) → ends_with_end r ≡ true → HasLast (leaves r t)
last_is_end (tok (Is k)) t h =
    let same : number_of k ≡ number_of End = eqb-true (number_of k) (number_of End) h in
    let here : number_of t.token.terminal ≡ number_of k = eqb-true (number_of t.token.terminal) (number_of k) t.is in
    ([], t.token, refl, eq-eqb (number_of t.token.terminal) (number_of End) (here ∙ same))
last_is_end (tok (Spelled word)) t h = cc
last_is_end (seq a b) t h =
    let i : (us : List Lexeme) × (e : Lexeme) × (leaves b t.1 ≡ us ++ e ∷ []) × (is_terminal End e ≡ true) = last_is_end b t.1 h in
    (leaves a t.0 ++ i.0, i.1, ap (λ x. leaves a t.0 ++ x) i.2 ∙ sym (append_assoc (leaves a t.0) i.0 (i.1 ∷ [])), i.3)
last_is_end (alt a b) (inl t) h = last_is_end a t (and_true (ends_with_end a) (ends_with_end b) h).0
last_is_end (alt a b) (inr t) h = last_is_end b t (and_true (ends_with_end a) (ends_with_end b) h).1
last_is_end (opt a) t h = cc
last_is_end (many a) t h = cc

none_behind : (us xs : List Lexeme) (e l : Lexeme) → lacks (Is End) xs ≡ true → is_terminal End e ≡ true → (rest : List Lexeme) →
    us ++ e ∷ rest ≡ xs ++ l ∷ [] → rest ≡ []
none_behind us xs e l k h rest q =
    let i : (vs : List Lexeme) × (l ∷ [] ≡ vs ++ e ∷ rest) × (us ≡ xs ++ vs) = in_second (Is End) xs (l ∷ []) us rest e k h (sym q) in
    only_one i.0 i.1
  where
    only_one : (vs : List Lexeme) → l ∷ [] ≡ vs ++ e ∷ rest → rest ≡ []
    only_one [] s = let r : [] ≡ rest = cc in sym r
    only_one (v ∷ []) s = cc
    only_one (v ∷ w ∷ vs) s = cc

-- A rule whose sentences end with the end takes all tokens.
pub takes_all : (r : Rule) (ts rest : List Lexeme) → ends_with_end r ≡ true → HasOneEnd ts → eat r ts ≡ Ok rest → rest ≡ []
takes_all r ts rest c h e =
    let i : (t : Tree r) × (leaves r t ++ rest ≡ ts) = sound r ts rest e in
    let l : (us : List Lexeme) × (x : Lexeme) × (leaves r i.0 ≡ us ++ x ∷ []) × (is_terminal End x ≡ true) = last_is_end r i.0 c in
    let q : l.0 ++ l.1 ∷ rest ≡ h.body ++ h.last ∷ [] = sym (append_assoc l.0 (l.1 ∷ []) rest) ∙ (ap (λ x. x ++ rest) (sym l.2) ∙ (i.1 ∙ h.all)) in
    none_behind l.0 h.body l.1 h.last h.once l.3 rest q

pub whole_sentence : (r : Rule) (ts rest : List Lexeme) → ends_with_end r ≡ true → HasOneEnd ts → eat r ts ≡ Ok rest → IsSentence r ts
whole_sentence r ts rest c h e =
    let i : (t : Tree r) × (leaves r t ++ rest ≡ ts) = sound r ts rest e in
    let none : rest ≡ [] = takes_all r ts rest c h e in
    (i.0, sym (append-nil (leaves r i.0)) ∙ (ap (λ x. leaves r i.0 ++ x) (sym none) ∙ i.1))
