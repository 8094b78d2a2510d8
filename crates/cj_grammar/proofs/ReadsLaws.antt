-- What readers of lists give on the tokens of a tree, part by part.
use Rattle.std.proofs.Common.{◌≡◌, List, [], ◌∷◌, ◌++◌, length, Ok, refl, append_assoc}
use Rattle.std.specs.Prelude.{map, flat_map}
use Rattle.std.proofs.lemmas.List.{append-nil}
use Rattle.cj_tokens.specs.Lexemes.{Lexeme}
use Rattle.cj_tokens.specs.declared.refusal.Refused.{Refused}
use Rattle.cj_grammar.specs.OneAhead.{◌>>=◌}
use Rattle.cj_grammar.specs.Reading.{each_offends}
use Rattle.cj_grammar.specs.Readers.{Read, reads, each_at}

-- a part, and what follows it
pub reads_then : {X Y : Type 0} (es fs : List Refused) (x : X) (y : Y) (ts us : List Lexeme) (f : X × List Lexeme → Read Y) → f (x, ts) ≡ reads fs y us →
    (reads es x ts >>= f) ≡ reads (es ++ fs) y us
reads_then [] fs x y ts us f h = h
reads_then (e ∷ es) fs x y ts us f h = refl

-- the last part that may offend
pub reads_last : {X Y : Type 0} (es : List Refused) (x : X) (y : Y) (ts us : List Lexeme) (f : X × List Lexeme → Read Y) → f (x, ts) ≡ Ok (y, us) →
    (reads es x ts >>= f) ≡ reads es y us
reads_last [] x y ts us f h = h
reads_last (e ∷ es) x y ts us f h = refl

-- Items that are read one after another, where each reads alike whatever stands behind it.
pub each_reads : {T X : Type 0} (one : List X → List Lexeme → Read X) (spelled : T → List Lexeme) (offends : List X → T → List Refused) (means : T →
    X) (earlier : List X) (items : List T) (ts : List Lexeme)
    → ((earlier : List X) (t : T) (us : List Lexeme) → one earlier (spelled t ++ us) ≡ reads (offends earlier t) (means t) us)
    → each_at one (length items) earlier (flat_map spelled items ++ ts) ≡ reads (each_offends offends means earlier items) (earlier ++ map means items) ts
each_reads one spelled offends means earlier [] ts r = rw append-nil refl
each_reads one spelled offends means earlier (t ∷ items) ts r =
    let us : List Lexeme = flat_map spelled items ++ ts in
    let regroup : (spelled t ++ flat_map spelled items) ++ ts ≡ spelled t ++ us = append_assoc (spelled t) (flat_map spelled items) ts in
    let rest : each_at one (length items) (earlier ++ means t ∷ []) us
    ≡ reads (each_offends offends means (earlier ++ means t ∷ []) items) ((earlier ++ means t ∷ []) ++ map means items) ts = each_reads one spelled offends
    means (earlier ++ means t ∷ []) items ts r in
    let all : (earlier ++ means t ∷ []) ++ map means items ≡ earlier ++ (means t ∷ map means items) = append_assoc earlier (means t ∷ []) (map means items) in
    rw (regroup, r earlier t us)
    (reads_then (offends earlier t) (each_offends offends means (earlier ++ means t ∷ []) items) (means t) _ us ts _ (rw (← all) rest))
