-- What the readers of declared names give on the tokens of a tree.
use Rattle.std.proofs.Common.{◌≡◌, ℕ, List, [], ◌∷◌, ◌++◌, length, true, false, Ok, refl, ap, sym, ◌∙◌, append_assoc, subst}
use Rattle.std.specs.Prelude.{Some, None, ◌||◌, nat_le, map, flat_map}
use Rattle.std.specs.List.{list_any}
use Rattle.std.specs.Str.{bytes_eq}
use Rattle.std.proofs.lemmas.List.{length-map, append-nil}
use Rattle.cj_tokens.specs.Lexemes.{Lexeme, Is, is_terminal}
use Rattle.cj_tokens.specs.Passing.{front, behind}
use Rattle.cj_tokens.specs.declared.terminal.Terminal.TheVariants as terminal
use Rattle.cj_tokens.specs.declared.refusal.Kind.TheVariants.{TooMany, NameTwice}
use Rattle.cj_tokens.specs.declared.refusal.Refused.{Refused}
use Rattle.cj_grammar.specs.Grammar.{Leaf, Tree, leaves, opt}
use Rattle.cj_grammar.specs.OneAhead.{◌>>=◌}
use Rattle.cj_grammar.specs.Rules.{names, more_names}
use Rattle.cj_grammar.specs.Reading.{offends_if, each_offends}
use Rattle.cj_grammar.specs.Readers.{each_at, reads}
use Rattle.cj_grammar.proofs.ReadsLaws.{reads_then, reads_last, each_reads}
use Rattle.cj_reader.specs.Operands.{is_long}
use Rattle.cj_reader.specs.Functions.{name_offences, name_tokens, names_offences, texts_of, other_names}
use Rattle.cj_reader.specs.Prescans.{count_at}
use Rattle.cj_reader.specs.Reading.{word_at, name_at, next_name_at, names_at, others_at, declared_at}
use Rattle.cj_reader.proofs.Decided.{decides, refused_decides, refused_last}
use Rattle.cj_reader.proofs.OperandLaws.{leaf_number}
use Rattle.cj_reader.proofs.PrescanLaws.{Next, spelled, Others, count_names, close_counts, others_count}

decides_reads : {X : Type 0} (es : List Refused) (x : X) (ts : List Lexeme) → decides es (x, ts) ≡ reads es x ts
decides_reads [] x ts = refl
decides_reads (e ∷ es) x ts = refl

name_reads : (limit : ℕ) (earlier : List (List ℕ)) (name : Leaf (Is terminal.Name)) (ts : List Lexeme) →
    name_at limit earlier (name.token ∷ ts) ≡ reads (name_offences limit earlier name.token) name.token.text ts
unfolding name_at word_at front behind
name_reads limit earlier name ts =
    let t : Lexeme = name.token in
    rw name.is (refused_decides (is_long t || nat_le limit (length earlier)) t TooMany
    (offends_if (list_any (λ other. bytes_eq other t.text) earlier) t NameTwice) (t.text, ts) _
    (refused_last (list_any (λ other. bytes_eq other t.text) earlier) t NameTwice (t.text, ts))
    ∙ decides_reads (name_offences limit earlier t) t.text ts)

each_mapped : {S T X : Type 0} (f : S → T) (offends : List X → T → List Refused) (means : T → X) (earlier : List X) (items : List S) →
    each_offends offends means earlier (map f items) ≡ each_offends (λ earlier s. offends earlier (f s)) (λ s. means (f s)) earlier items
each_mapped f offends means earlier [] = refl
each_mapped f offends means earlier (s ∷ items) = ap (λ es. offends earlier (f s) ++ es) (each_mapped f offends means (earlier ++ means (f s) ∷ []) items)

texts_mapped : (items : List Next) → texts_of (map (λ (t : Next). t.1.token) items) ≡ map (λ (t : Next). t.1.token.text) items
texts_mapped [] = refl
texts_mapped (t ∷ items) = ap (λ (ns : List (List ℕ)). t.1.token.text ∷ ns) (texts_mapped items)

next_reads : (limit : ℕ) (earlier : List (List ℕ)) (items : List Next) (ts : List Lexeme) →
    each_at (next_name_at limit) (length items) earlier (flat_map spelled items ++ ts)
    ≡ reads (names_offences limit earlier (map (λ (t : Next). t.1.token) items)) (earlier ++ texts_of (map (λ (t : Next). t.1.token) items)) ts
unfolding behind
next_reads limit earlier items ts =
    rw (each_mapped (λ (t : Next). t.1.token) (name_offences limit) (λ t. t.text) earlier items, texts_mapped items)
    (each_reads (next_name_at limit) spelled (λ earlier t. name_offences limit earlier t.1.token) (λ t. t.1.token.text) earlier items ts
    (λ earlier t us. name_reads limit earlier t.1 us))

pub names_reads : (limit : ℕ) (earlier : List (List ℕ)) (t : Tree (opt names)) (ts : List Lexeme) →
    names_at limit (length (name_tokens t)) earlier (leaves (opt names) t ++ ts)
    ≡ reads (names_offences limit earlier (name_tokens t)) (earlier ++ texts_of (name_tokens t)) ts
unfolding names more_names name_tokens
names_reads limit earlier None ts = rw (append-nil earlier) refl
names_reads limit earlier (Some (first, more)) ts =
    let us : List Lexeme = flat_map spelled more ++ ts in
    let toks : List Lexeme = map (λ (t : Next). t.1.token) more in
    let n : length toks ≡ length more = length-map more (λ (t : Next). t.1.token) in
    let all : (earlier ++ first.token.text ∷ []) ++ texts_of toks ≡ earlier
    ++ (first.token.text ∷ texts_of toks) = append_assoc earlier (first.token.text ∷ []) (texts_of toks) in
    rw (n, name_reads limit earlier first us)
    (reads_then (name_offences limit earlier first.token) (names_offences limit (earlier ++ first.token.text ∷ []) toks) first.token.text _ us ts _
    (next_reads limit (earlier ++ first.token.text ∷ []) more ts ∙ ap (λ v. reads (names_offences limit (earlier ++ first.token.text ∷ []) toks) v ts) all))

others_reads : (params : List (List ℕ)) (t : Tree Others) (close : Leaf (Is terminal.CloseParen)) (ts : List Lexeme) →
    others_at params (leaves Others t ++ close.token ∷ ts)
    ≡ reads (names_offences 32 params (other_names t)) (params ++ texts_of (other_names t)) (close.token ∷ ts)
unfolding others_at other_names front behind
others_reads params None close ts = rw (leaf_number close, append-nil params) refl
others_reads params (Some (semicolon, t)) close ts =
    rw (leaf_number semicolon, count_names (Some t) (close.token ∷ ts) (close_counts close ts)) (names_reads 32 params (Some t) (close.token ∷ ts))

pub declared_reads : (open_paren : Leaf (Is terminal.OpenParen)) (params : Tree (opt names)) (others : Tree Others) (close : Leaf (Is terminal.CloseParen))
    (ts : List Lexeme) → declared_at (open_paren.token ∷ (leaves (opt names) params ++ (leaves Others others ++ close.token ∷ ts)))
    ≡ reads (names_offences 8 [] (name_tokens params) ++ names_offences 32 (texts_of (name_tokens params)) (other_names others))
    (record { params = length (name_tokens params); registers = texts_of (name_tokens params) ++ texts_of (other_names others) }) ts
unfolding declared_at behind
declared_reads open_paren params others close ts =
    let us : List Lexeme = leaves Others others ++ close.token ∷ ts in
    let ps : List (List ℕ) = texts_of (name_tokens params) in
    let n : length ps ≡ length (name_tokens params) = length-map (name_tokens params) (λ t. t.text) in
    rw (count_names params us (others_count others close ts), names_reads 8 [] params us)
    (reads_then (names_offences 8 [] (name_tokens params)) (names_offences 32 ps (other_names others)) ps _ us ts _
    (rw (others_reads ps others close ts, n)
    (reads_last (names_offences 32 ps (other_names others)) (ps ++ texts_of (other_names others)) _ (close.token ∷ ts) ts _ refl)))

-- behind a `;` stand the other registers
pub others_there : (params : List (List ℕ)) (ts : List Lexeme) → is_terminal terminal.Semicolon (front ts) ≡ true →
    others_at params ts ≡ names_at 32 (count_at (behind ts)) params (behind ts)
unfolding others_at
others_there params ts h = rw h refl

-- where nothing refuses a name, it is read as its bytes are
pub name_there : (limit : ℕ) (earlier : List (List ℕ)) (ts : List Lexeme) (t : Lexeme) → t ≡ front ts → (is_long t || nat_le limit (length earlier)) ≡ false →
    list_any (λ other. bytes_eq other t.text) earlier ≡ false → name_at limit earlier ts ≡ (word_at t >>= λ name. Ok (name, behind ts))
unfolding name_at
name_there limit earlier ts t e h g =
    let P : Lexeme → Type 0 = λ x. (is_long x || nat_le limit (length earlier)) ≡ false → list_any (λ other. bytes_eq other x.text) earlier ≡ false →
    name_at limit earlier ts ≡ (word_at x >>= λ name. Ok (name, behind ts)) in
    let here : P (front ts) = λ h g. rw (h, g) refl in
    subst P (sym e) here h g
