-- Offences of one token, and what is read with it.
use Rattle.std.proofs.Common.{◌≡◌, List, [], ◌∷◌, ◌++◌, Result, Ok, Err, Bool, true, false, refl}
use Rattle.std.specs.Prelude.{Option, Some, None, unwrap_or}
use Rattle.cj_tokens.specs.Lexemes.{Lexeme}
use Rattle.cj_tokens.specs.declared.refusal.Kind.{Kind}
use Rattle.cj_tokens.specs.declared.refusal.Refused.{Refused}
use Rattle.cj_tokens.specs.declared.refusal.ParseError.{ParseError}
use Rattle.cj_tokens.specs.declared.refusal.ParseError.TheVariants as parse
use Rattle.cj_grammar.specs.OneAhead.{◌>>=◌}
use Rattle.cj_grammar.specs.Reading.{offence, offends_if, missing}
use Rattle.cj_grammar.specs.Readers.{Read, reads, found, Found, Gives}
use Rattle.cj_reader.specs.Reading.{refuse_if}

-- the first offence, or the value
abbrev pub decides : {X : Type 0} → List Refused → X → Result X Refused
decides [] x = Ok x
decides (e ∷ es) x = Err e

pub decided_then : {X Y : Type 0} (es fs : List Refused) (x : X) (y : Y) (us : List Lexeme) (f : X → Read Y) → f x ≡ reads fs y us →
    (decides es x >>= f) ≡ reads (es ++ fs) y us
decided_then [] fs x y us f h = h
decided_then (e ∷ es) fs x y us f h = refl

pub decided_last : {X Y : Type 0} (es : List Refused) (x : X) (y : Y) (us : List Lexeme) (f : X → Read Y) → f x ≡ Ok (y, us) →
    (decides es x >>= f) ≡ reads es y us
decided_last [] x y us f h = h
decided_last (e ∷ es) x y us f h = refl

pub refused_decides : {X : Type 0} (test : Bool) (t : Lexeme) (kind : Kind) (es : List Refused) (x : X) (r : Result X Refused) → r ≡ decides es x →
    (refuse_if test t kind >>= λ u. r) ≡ decides (offends_if test t kind ++ es) x
refused_decides true t kind es x r h = refl
refused_decides false t kind es x r h = h

pub refused_last : {X : Type 0} (test : Bool) (t : Lexeme) (kind : Kind) (x : X) → (refuse_if test t kind >>= λ u. Ok x) ≡ decides (offends_if test t kind) x
refused_last true t kind x = refl
refused_last false t kind x = refl

pub found_decides : {X Y : Type 0} (o : Option X) (other : X) (t : Lexeme) (kind : Kind) (f : X → Y) →
    (found o (offence t kind) >>= λ x. Ok (f x)) ≡ decides (missing o t kind) (f (unwrap_or o other))
found_decides None other t kind f = refl
found_decides (Some x) other t kind f = refl

-- what was not refused passed the test
pub passed : (test : Bool) (t : Lexeme) (kind : Kind) (u : Unit {0}) → refuse_if test t kind ≡ Ok u → test ≡ false
passed true t kind u h = cc
passed false t kind u h = refl

-- what is read with one token
pub found_gives : {X : Type 0} (r : Result X ParseError) (w : Result X Refused) (us : List Lexeme) → Found r w → Gives r us (w >>= λ x. Ok (x, us))
found_gives (Ok x) w us h = let e : w ≡ Ok x = h in rw e refl
found_gives (Err parse.NoMemory) w us h = tt
found_gives (Err (parse.Refused e)) w us h = let g : w ≡ Err e = h in rw g refl
