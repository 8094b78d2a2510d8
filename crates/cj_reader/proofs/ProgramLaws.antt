-- What the readers of functions give on the tokens of a tree.
use Rattle.std.proofs.Common.{◌≡◌, ℕ, List, [], ◌∷◌, ◌++◌, length, true, false, refl, ap, sym, ◌∙◌, append_assoc}
use Rattle.std.specs.Prelude.{◌||◌, nat_le, ◌==◌, map, flat_map}
use Rattle.std.specs.List.{list_any}
use Rattle.std.specs.Str.{bytes_eq}
use Rattle.std.proofs.lemmas.List.{length-map, map-append}
use Rattle.cj_ir.specs.declared.language.Function.{Function}
use Rattle.cj_tokens.specs.Lexemes.{Lexeme, Is, is_terminal}
use Rattle.cj_tokens.specs.Passing.{front, behind}
use Rattle.cj_tokens.specs.declared.terminal.Terminal.TheVariants as terminal
use Rattle.cj_tokens.specs.declared.refusal.Kind.TheVariants.{TooMany, NameTwice, NoEntry}
use Rattle.cj_tokens.specs.declared.refusal.Refused.{Refused}
use Rattle.cj_grammar.specs.Grammar.{Leaf, Tree, leaves, opt}
use Rattle.cj_grammar.specs.Rules.{names, lines, head, fun, more_funs, funs}
use Rattle.cj_grammar.specs.Reading.{offends_if, each_offends}
use Rattle.cj_grammar.specs.Readers.{each_at, Read, reads}
use Rattle.cj_grammar.proofs.ReadsLaws.{reads_then, reads_last}
use Rattle.cj_reader.specs.Scopes.{Head, first_named}
use Rattle.cj_reader.specs.declared.declarations.Declared.{Declared}
use Rattle.cj_reader.specs.Operands.{is_long}
use Rattle.cj_reader.specs.Functions.{name_offences, name_tokens, names_offences, texts_of, other_names, function_name, param_tokens, other_tokens, head_of}
use Rattle.cj_reader.specs.Functions.{registers_of, numbers_of, lines_offences, lines_of, function_head, function_scope, function_offences, function_of}
use Rattle.cj_reader.specs.Meaning.{all_functions, heads_of, program_offences, program_of}
use Rattle.cj_reader.specs.Reading.{Known, is_earlier, word_at, function_name_at, code_at, function_at, functions_at, program_at}
use Rattle.cj_reader.proofs.Decided.{decides, decided_then, refused_decides, refused_last}
use Rattle.cj_reader.proofs.Places.{earlier_named}
use Rattle.cj_reader.proofs.EachAmong.{each_among}
use Rattle.cj_reader.proofs.PrescanLaws.{Others, numbers_are}
use Rattle.cj_reader.proofs.HeadLaws.{heads_are}
use Rattle.cj_reader.proofs.LineLaws.{body_reads}
use Rattle.cj_reader.proofs.NameLaws.{declared_reads}

function_name_decides : (known : Known) (earlier : List (List ℕ)) (t : Lexeme) → is_terminal terminal.Name t ≡ true →
    is_earlier (length earlier) (known t.text) ≡ list_any (λ other. bytes_eq other t.text) earlier →
    function_name_at known (length earlier) t ≡ decides (name_offences 64 earlier t) t.text
unfolding function_name_at word_at
function_name_decides known earlier t is h =
    rw (h, is)
    (refused_decides (is_long t || nat_le 64 (length earlier)) t TooMany (offends_if (list_any (λ other. bytes_eq other t.text) earlier) t NameTwice) t.text _
    (refused_last (list_any (λ other. bytes_eq other t.text) earlier) t NameTwice t.text))

code_reads : (heads : List Head) (front : Tree head) (t : Tree lines) (close : Leaf (Is terminal.CloseBrace)) (us : List Lexeme) →
    code_at (first_named 0 heads) (registers_of front) (leaves lines t ++ close.token ∷ us)
    ≡ reads (lines_offences (function_scope heads front t) t ++ offends_if (length (numbers_of t) == 0) close.token NoEntry)
    (lines_of (function_scope heads front t) t) us
code_reads heads front t close us = rw (numbers_are t close us) (body_reads (function_scope heads front t) t close us refl)

spelled_out : (ps os ls us : List Lexeme) (r o c : Lexeme) → ((ps ++ (os ++ r ∷ [])) ++ (o ∷ (ls ++ c ∷ []))) ++ us ≡ ps ++ (os ++ r ∷ o ∷ (ls ++ c ∷ us))
spelled_out ps os ls us r o c =
    let body : (ls ++ c ∷ []) ++ us ≡ ls ++ c ∷ us = append_assoc ls (c ∷ []) us in
    append_assoc (ps ++ (os ++ r ∷ [])) (o ∷ (ls ++ c ∷ [])) us
    ∙ (append_assoc ps (os ++ r ∷ []) (o ∷ ((ls ++ c ∷ []) ++ us))
    ∙ (ap (λ z. ps ++ z) (append_assoc os (r ∷ []) (o ∷ ((ls ++ c ∷ []) ++ us)))
    ∙ ap (λ z. ps ++ (os ++ r ∷ o ∷ z)) body))

abbrev declared : Tree (opt names) → Tree Others → Declared
declared params others = record { params = length (name_tokens params); registers = texts_of (name_tokens params) ++ texts_of (other_names others) }

regrouped : (es fs gs : List Refused) (f : Function) (us : List Lexeme) (r : Read Function) → r ≡ reads (es ++ (fs ++ gs)) f us →
    r ≡ reads ((es ++ fs) ++ gs) f us
regrouped es fs gs f us r h = rw (append_assoc es fs gs) h

-- the function's name, known by its key
abbrev pub key : Tree fun → List ℕ
key t = (function_name (function_head t)).text

function_reads : (heads : List Head) (earlier : List Function) (keys : List (List ℕ)) (t : Tree fun) (us : List Lexeme) → length earlier ≡ length keys →
    is_earlier (length keys) (first_named 0 heads (key t)) ≡ list_any (λ other. bytes_eq other (key t)) keys →
    function_at (first_named 0 heads) earlier (leaves fun t ++ us) ≡ reads (function_offences heads keys t) (function_of heads t) us
unfolding fun head function_head function_name param_tokens other_tokens function_at function_offences function_of front behind
function_reads heads earlier keys ((word, (name, (left, (params, (others, right))))), (open_brace, (body, close))) us l h =
    let front : Tree head = (word, (name, (left, (params, (others, right))))) in
    let regroup : ((leaves (opt names) params ++ (leaves Others others ++ right.token ∷ [])) ++ (open_brace.token ∷ (leaves lines body ++ close.token ∷ [])))
    ++ us ≡ leaves (opt names) params ++ (leaves Others others ++ right.token ∷ open_brace.token ∷ (leaves lines body ++ close.token ∷ us)) =
    spelled_out (leaves (opt names) params) (leaves Others others) (leaves lines body) us right.token open_brace.token close.token in
    let vs : List Lexeme = open_brace.token ∷ (leaves lines body ++ close.token ∷ us) in
    let ns : List Refused = names_offences 8 [] (name_tokens params) ++ names_offences 32 (texts_of (name_tokens params)) (other_names others) in
    let bs : List Refused = lines_offences (function_scope heads front body) body ++ offends_if (length (numbers_of body) == 0) close.token NoEntry in
    rw (regroup, l, function_name_decides (first_named 0 heads) keys name.token name.is h)
    (regrouped (name_offences 64 keys name.token) ns bs _ us _
    (decided_then (name_offences 64 keys name.token) (ns ++ bs) name.token.text _ us _
    (rw (declared_reads left params others right vs) (reads_then ns bs (declared params others) _ vs us _
    (rw (code_reads heads front body close us) (reads_last bs (lines_of (function_scope heads front body) body) _ us us _ refl)))))
    )

function_among : (all done : List (Tree fun)) (t : Tree fun) (more : List (Tree fun)) (us : List Lexeme) → all ≡ done ++ t ∷ more → (heads : List Head) →
    heads ≡ map (λ f. head_of (function_head f)) all → function_at (first_named 0 heads) (map (function_of heads) done) (leaves fun t ++ us)
    ≡ reads (function_offences heads (map key done) t) (function_of heads t) us
function_among all done t more us h heads e =
    let head : Tree fun → Head = λ f. head_of (function_head f) in
    let split : heads ≡ map head done ++ (head t ∷ map head more) = e ∙ (ap (map head) h ∙ map-append head done (t ∷ more)) in
    let l : length (map (function_of heads) done) ≡ length (map key done) = length-map done (function_of heads) ∙ sym (length-map done key) in
    let n : length (map key done) ≡ length (map head done) = length-map done key ∙ sym (length-map done head) in
    let place : is_earlier (length (map key done)) (first_named 0 heads (key t)) ≡ list_any (λ other. bytes_eq other (key t)) (map key done) =
    ap (λ m. is_earlier m (first_named 0 heads (key t))) n
    ∙ (ap (λ hs. is_earlier (length (map head done)) (first_named 0 hs (key t))) split
    ∙ (earlier_named (key t) (map head done) (head t ∷ map head more) ∙ ap (list_any (λ other. bytes_eq other (key t))) (names_of done))) in
    function_reads heads (map (function_of heads) done) (map key done) t us l place
  where
    names_of : (ts : List (Tree fun)) → map (λ (h : Head). h.name) (map (λ f. head_of (function_head f)) ts) ≡ map key ts
    names_of [] = refl
    names_of (t ∷ ts) = ap (λ (ns : List (List ℕ)). key t ∷ ns) (names_of ts)

spelled_all : (t : Tree funs) (rest : List Lexeme) → leaves funs t ++ rest ≡ flat_map (leaves fun) (all_functions t) ++ rest
unfolding funs more_funs all_functions
spelled_all (first, more) rest = refl

-- What is read of the functions of a text is what they mean, or the first offence of their tokens.
pub program_reads : (t : Tree funs) (rest : List Lexeme) → is_terminal terminal.Fun (front rest) ≡ false →
    program_at (leaves funs t ++ rest) ≡ reads (program_offences t) (program_of t) rest
unfolding program_at functions_at program_offences program_of heads_of
program_reads t rest h =
    let all : List (Tree fun) = all_functions t in
    let n : length (heads_of t) ≡ length all = length-map all (λ f. head_of (function_head f)) in
    let each : each_at (function_at (first_named 0 (heads_of t))) (length all) [] (flat_map (leaves fun) all ++ rest)
    ≡ reads (each_offends (function_offences (heads_of t)) key [] all) (map (function_of (heads_of t)) all) rest =
    each_among (function_at (first_named 0 (heads_of t))) (leaves fun) (function_offences (heads_of t)) key (function_of (heads_of t)) all
    (λ done x more us g. function_among all done x more us g (heads_of t) refl) rest in
    rw (heads_are t rest h, n, spelled_all t rest, each)
    (reads_last (each_offends (function_offences (heads_of t)) key [] all) (map (function_of (heads_of t)) all) _ rest rest _ refl)
