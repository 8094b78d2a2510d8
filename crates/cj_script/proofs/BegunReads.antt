-- What is read of the tokens of a begun run is its meaning, or the first offence of its tokens.
use Rattle.std.proofs.Common.{◌≡◌, ℕ, pos, true, false, List, [], ◌∷◌, ◌++◌, length, Ok, refl, append_assoc}
use Rattle.std.specs.Prelude.{Some, None, map, flat_map, unsigned_abs, nat_eq}
use Rattle.std.proofs.lemmas.Bool.{eqb-true}
use Rattle.std.proofs.lemmas.List.{length-map}
use Rattle.cj_ir.specs.declared.language.Function.{Function}
use Rattle.cj_tokens.specs.Lexemes.{Lexeme, is_terminal, Is, number_of}
use Rattle.cj_tokens.specs.Passing.{front, behind}
use Rattle.cj_tokens.specs.declared.refusal.Refused.{Refused}
use Rattle.cj_tokens.specs.declared.terminal.Terminal.{Terminal}
use Rattle.cj_tokens.specs.declared.terminal.Terminal.TheVariants as terminal
use Rattle.cj_grammar.specs.Grammar.{Tree, leaves, Leaf, tok}
use Rattle.cj_grammar.specs.OneAhead.{◌>>=◌}
use Rattle.cj_grammar.specs.Readers.{Read, reads}
use Rattle.cj_grammar.specs.Rules.{numbers, begun}
use Rattle.cj_grammar.proofs.ReadsLaws.{reads_then, reads_last}
use Rattle.cj_script.proofs.Turns.{numbers_stop, behind_stop}
use Rattle.cj_script.specs.Meaning.{out_of_range, limit_offences, callee_offences, id_named, begun_offences, begun_of, cells_of, limit_of}
use Rattle.cj_script.specs.Reading.{judged, numbers_at, behind_numbers, cells_at, limit_at, begun_at}

-- an offence, and what follows it
pub judged_then : {X Y : Type 0} (es fs : List Refused) (x : X) (y : Y) (us : List Lexeme) (f : X → Read Y) → f x ≡ reads fs y us →
    (judged es x >>= f) ≡ reads (es ++ fs) y us
judged_then [] fs x y us f h = h
judged_then (e ∷ es) fs x y us f h = refl

pub judged_last : {X Y : Type 0} (es : List Refused) (x : X) (y : Y) (us : List Lexeme) (f : X → Read Y) → f x ≡ reads [] y us →
    (judged es x >>= f) ≡ reads es y us
judged_last [] x y us f h = h
judged_last (e ∷ es) x y us f h = refl

-- a token is no other terminal
pub other_terminal : (j k : Terminal) (t : Lexeme) → is_terminal j t ≡ true → nat_eq (number_of j) (number_of k) ≡ false → is_terminal k t ≡ false
other_terminal j k t h d = let e : number_of t.terminal ≡ number_of j = eqb-true (number_of t.terminal) (number_of j) h in rw e d

numbers_read : (t : List (Leaf (Is terminal.Number))) (ts : List Lexeme) → is_terminal terminal.Number (front ts) ≡ false →
    numbers_at (flat_map (leaves (tok (Is terminal.Number))) t ++ ts) ≡ map (λ arg. arg.token.number) t
unfolding numbers_at
numbers_read [] ts h = numbers_stop ts h
numbers_read (n ∷ more) ts h = rw (n.is, numbers_read more ts h) refl

numbers_passed : (t : List (Leaf (Is terminal.Number))) (ts : List Lexeme) → is_terminal terminal.Number (front ts) ≡ false →
    behind_numbers (flat_map (leaves (tok (Is terminal.Number))) t ++ ts) ≡ ts
unfolding behind_numbers
numbers_passed [] ts h = behind_stop ts h
numbers_passed (n ∷ more) ts h = rw n.is (numbers_passed more ts h)

cells_read : (memory : Leaf (Is terminal.Memory)) (cells : Lexeme) (ts : List Lexeme) →
    cells_at (memory.token ∷ cells ∷ ts) ≡ reads (out_of_range (pos 0) (pos 65536) cells) (unsigned_abs cells.number) ts
unfolding cells_at front behind
cells_read memory cells ts =
    rw memory.is (judged_last (out_of_range (pos 0) (pos 65536) cells) (unsigned_abs cells.number) (unsigned_abs cells.number) ts _ refl)

no_cells_read : (word : Leaf (Is terminal.Limit)) (ts : List Lexeme) → cells_at (word.token ∷ ts) ≡ Ok (64, word.token ∷ ts)
unfolding cells_at front
no_cells_read word ts =
    let other : is_terminal terminal.Memory word.token ≡ false = other_terminal terminal.Limit terminal.Memory word.token word.is refl in
    rw other refl

limit_read : (spent : ℕ) (word limit : Lexeme) (ts : List Lexeme) →
    limit_at spent (word ∷ limit ∷ ts) ≡ reads (limit_offences (pos spent) limit) (unsigned_abs limit.number) ts
unfolding limit_at front behind
limit_read spent word limit ts =
    judged_last (limit_offences (pos spent) limit) (unsigned_abs limit.number) (unsigned_abs limit.number) ts _ refl

pub begun_reads : (functions : List Function) (spent : ℕ) (t : Tree begun) (ts : List Lexeme) →
    begun_at functions spent (leaves begun t ++ ts) ≡ reads (begun_offences functions (pos spent) t) (begun_of functions t) ts
unfolding begun numbers begun_at begun_offences begun_of cells_of limit_of front behind
begun_reads functions spent (name, (args, (None, (word, limit)))) ts =
    let us : List Lexeme = word.token ∷ limit.token ∷ ts in
    let regroup : (leaves numbers args ++ (word.token ∷ limit.token ∷ [])) ++ ts ≡ leaves numbers args
    ++ us = append_assoc (leaves numbers args) (word.token ∷ limit.token ∷ []) ts in
    let stop : is_terminal terminal.Number (front us) ≡ false = other_terminal terminal.Limit terminal.Number word.token word.is refl in
    rw (
      regroup,
      numbers_read args us stop,
      numbers_passed args us stop,
      length-map,
      no_cells_read word
          (limit.token ∷ ts),
      limit_read spent word.token limit.token ts,
    )
    (judged_then (callee_offences functions (length args) name.token) (limit_offences (pos spent) limit.token) (id_named functions name.token) _ ts _
    (reads_last (limit_offences (pos spent) limit.token) (unsigned_abs limit.token.number) _ ts ts _ refl))
begun_reads functions spent (name, (args, (Some (memory, cells), (word, limit)))) ts =
    let us : List Lexeme = memory.token ∷ cells.token ∷ word.token ∷ limit.token ∷ ts in
    let regroup : (leaves numbers args ++ (memory.token ∷ cells.token ∷ word.token ∷ limit.token ∷ [])) ++ ts ≡ leaves numbers args
    ++ us = append_assoc (leaves numbers args) (memory.token ∷ cells.token ∷ word.token ∷ limit.token ∷ []) ts in
    let stop : is_terminal terminal.Number (front us) ≡ false = other_terminal terminal.Memory terminal.Number memory.token memory.is refl in
    rw (regroup, numbers_read args us stop, numbers_passed args us stop, length-map, cells_read memory cells.token (word.token ∷ limit.token ∷ ts))
    (judged_then (callee_offences functions (length args) name.token) (out_of_range (pos 0) (pos 65536) cells.token ++ limit_offences (pos spent) limit.token)
    (id_named functions name.token) _ ts _
    (reads_then (out_of_range (pos 0) (pos 65536) cells.token) (limit_offences (pos spent) limit.token) (unsigned_abs cells.token.number) _
    (word.token ∷ limit.token ∷ ts) ts _
    (rw (limit_read spent word.token limit.token ts) (reads_last (limit_offences (pos spent) limit.token) (unsigned_abs limit.token.number) _ ts ts _ refl))))

pub begun_known : (functions : List Function) (spent : ℕ) (old : List Lexeme) (t : Tree begun) (ts : List Lexeme) → old ≡ leaves begun t ++ ts →
    begun_at functions spent old ≡ reads (begun_offences functions (pos spent) t) (begun_of functions t) ts
begun_known functions spent old t ts h = rw h (begun_reads functions spent t ts)
