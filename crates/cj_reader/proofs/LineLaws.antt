-- What the reader of a function's lines gives on the tokens of a tree.
use Rattle.std.proofs.Common.{◌≡◌, ℕ, ℤ, List, [], ◌∷◌, ◌++◌, length, Bool, true, false, Ok, refl, ap, sym, ◌∙◌}
use Rattle.std.specs.Prelude.{Option, not, nat_le, ◌==◌, map, flat_map}
use Rattle.std.specs.List.{list_any, position_from}
use Rattle.std.specs.Ordering.{int_eq}
use Rattle.std.proofs.lemmas.List.{length-map, map-append}
use Rattle.cj_ir.specs.declared.language.Line.{Line}
use Rattle.cj_tokens.specs.Lexemes.{Lexeme, Is}
use Rattle.cj_tokens.specs.Passing.{front, behind}
use Rattle.cj_tokens.specs.declared.terminal.Terminal.TheVariants as terminal
use Rattle.cj_tokens.specs.declared.refusal.Kind.TheVariants.{TooMany, Range, LabelTwice, NoEntry}
use Rattle.cj_grammar.specs.Grammar.{Leaf, Tree, leaves}
use Rattle.cj_grammar.specs.OneAhead.{◌>>=◌}
use Rattle.cj_grammar.specs.Rules.{line, lines}
use Rattle.cj_grammar.specs.Reading.{offends_if, each_offends}
use Rattle.cj_grammar.specs.Readers.{each_at, reads}
use Rattle.cj_grammar.proofs.ReadsLaws.{reads_then, reads_last}
use Rattle.cj_reader.specs.Scopes.{Scope, number_place}
use Rattle.cj_reader.specs.Operands.{is_line_number}
use Rattle.cj_reader.specs.Instructions.{instr_offences, instr_of}
use Rattle.cj_reader.specs.Functions.{number_offences, line_number, line_offences, natural, line_of, numbers_of, lines_offences, lines_of}
use Rattle.cj_reader.specs.Reading.{refuse_if, is_before, line_number_at, line_at, body_at}
use Rattle.cj_reader.proofs.Decided.{decides, decided_then, refused_decides, refused_last}
use Rattle.cj_reader.proofs.Places.{earlier_place}
use Rattle.cj_reader.proofs.EachAmong.{each_among}
use Rattle.cj_reader.proofs.InstructionLaws.{instr_reads}

abbrev pub number : Tree line → ℤ
number t = (line_number t).number

number_decides : (s : Scope) (earlier : List ℤ) (t : Lexeme) →
    is_before (length earlier) (s.line_at t.number) ≡ list_any (λ other. int_eq other t.number) earlier →
    line_number_at s (length earlier) t ≡ decides (number_offences earlier t) (natural t.number)
unfolding line_number_at
number_decides s earlier t h =
    rw h
    (refused_decides (nat_le 256 (length earlier)) t TooMany (offends_if (not (is_line_number t.number)) t Range
    ++ offends_if (list_any (λ other. int_eq other t.number) earlier) t LabelTwice) (natural t.number) _
    (refused_decides (not (is_line_number t.number)) t Range (offends_if (list_any (λ other. int_eq other t.number) earlier) t LabelTwice) (natural t.number) _
    (refused_last (list_any (λ other. int_eq other t.number) earlier) t LabelTwice (natural t.number))))

line_reads : (s : Scope) (earlier : List Line) (numbers : List ℤ) (t : Tree line) (us : List Lexeme) → length earlier ≡ length numbers →
    is_before (length numbers) (s.line_at (number t)) ≡ list_any (λ other. int_eq other (number t)) numbers →
    line_at s earlier (leaves line t ++ us) ≡ reads (line_offences s numbers t) (line_of s t) us
unfolding line line_number line_at line_offences line_of front behind
line_reads s earlier numbers (n, (colon, i)) us l h =
    rw (l, number_decides s numbers n.token h)
    (decided_then (number_offences numbers n.token) (instr_offences s i) (natural n.token.number) _ us _
    (rw (instr_reads s i us) (reads_last (instr_offences s i) (instr_of s i) _ us us _ refl)))

-- the line among all lines of its function
line_among : (s : Scope) (all done : List (Tree line)) (t : Tree line) (more : List (Tree line)) (us : List Lexeme) →
    s.line_at ≡ number_place (map number all) → all ≡ done ++ t ∷ more → line_at s (map (line_of s) done) (leaves line t ++ us)
    ≡ reads (line_offences s (map number done) t) (line_of s t) us
line_among s all done t more us e h =
    let numbers : map number all ≡ map number done ++ (number t ∷ map number more) = ap (map number) h ∙ map-append number done (t ∷ more) in
    let l : length (map (line_of s) done) ≡ length (map number done) = length-map done (line_of s) ∙ sym (length-map done number) in
    let place : s.line_at (number t) ≡ position_from (λ other. int_eq other (number t)) 0 (map number done ++ (number t ∷ map number more)) =
    ap (λ (f : ℤ → Option ℕ). f (number t)) e ∙ ap (λ (ns : List ℤ). number_place ns (number t)) numbers in
    line_reads s (map (line_of s) done) (map number done) t us l
    (ap (is_before (length (map number done))) place ∙ earlier_place (λ other. int_eq other (number t)) (map number done) (number t ∷ map number more))

pub body_reads : (s : Scope) (t : Tree lines) (close : Leaf (Is terminal.CloseBrace)) (us : List Lexeme) → s.line_at ≡ number_place (numbers_of t) →
    body_at s (length (numbers_of t)) (leaves lines t ++ close.token ∷ us)
    ≡ reads (lines_offences s t ++ offends_if (length (numbers_of t) == 0) close.token NoEntry) (lines_of s t) us
unfolding lines numbers_of lines_offences lines_of body_at front behind
body_reads s t close us e =
    let n : length (map number t) ≡ length t = length-map t number in
    let m : length (map (line_of s) t) ≡ length t = length-map t (line_of s) in
    let each : each_at (line_at s) (length t) [] (flat_map (leaves line) t ++ close.token ∷ us)
    ≡ reads (each_offends (line_offences s) number [] t) (map (line_of s) t) (close.token ∷ us) =
    each_among (line_at s) (leaves line) (line_offences s) number (line_of s) t (λ done x more us h. line_among s t done x more us e h) (close.token ∷ us) in
    rw (n, each) (reads_then (each_offends (line_offences s) number [] t) (offends_if (length t == 0) close.token NoEntry) (map (line_of s) t)
    (map (line_of s) t) (close.token ∷ us) us _ (rw m (ended (length t == 0))))
  where
    ended : (b : Bool) → (refuse_if b close.token NoEntry >>= λ u. Ok (map (line_of s) t, us)) ≡ reads (offends_if b close.token NoEntry) (map (line_of s) t) us
    ended true = refl
    ended false = refl
