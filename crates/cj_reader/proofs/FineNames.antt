-- Where declared names have no offences, they are few and differ.
use Rattle.std.proofs.Common.{◌≡◌, ℕ, ◌+◌, ◌<◌, ◌≤◌, List, [], ◌∷◌, ◌++◌, length, false, sym, arith, ◌||◌, append_assoc, subst, length-append}
use Rattle.std.specs.Prelude.{nat_le}
use Rattle.std.specs.List.{list_any}
use Rattle.std.specs.Str.{bytes_eq}
use Rattle.std.proofs.lemmas.Slice.Eq.{bytes_eq-Decides}
use Rattle.std.proofs.lemmas.List.{append-nil}
use Rattle.std.proofs.lemmas.Bool.{or_parts}
use Rattle.cj_reader.proofs.Differing.{AreNewBy}
use Rattle.cj_tokens.specs.Lexemes.{Lexeme}
use Rattle.cj_tokens.specs.declared.refusal.Kind.TheVariants.{TooMany, NameTwice}
use Rattle.cj_grammar.specs.Reading.{offends_if}
use Rattle.cj_reader.specs.Operands.{is_long}
use Rattle.cj_reader.specs.Functions.{name_offences, names_offences, texts_of}
use Rattle.cj_ir.proofs.Truths.{none_passing}
use Rattle.cj_grammar.proofs.Unoffended.{none_of, none_if}
use Rattle.cj_reader.proofs.Fine.{below}

pub name_few : (limit : ℕ) (earlier : List (List ℕ)) (t : Lexeme) → name_offences limit earlier t ≡ [] → length earlier < limit
name_few limit earlier t h =
    let q : (offends_if (is_long t || nat_le limit (length earlier)) t TooMany ≡ [])
    × (offends_if (list_any (λ other. bytes_eq other t.text) earlier) t NameTwice ≡ []) = none_of
    (offends_if (is_long t || nat_le limit (length earlier)) t TooMany) (offends_if (list_any (λ other. bytes_eq other t.text) earlier) t NameTwice) h in
    below limit (length earlier) (or_parts (is_long t) (nat_le limit (length earlier)) (none_if (is_long t || nat_le limit (length earlier)) t TooMany q.0)).1

pub name_new : (limit : ℕ) (earlier : List (List ℕ)) (t : Lexeme) → name_offences limit earlier t ≡ [] → list_any (λ other. bytes_eq other t.text) earlier
    ≡ false
name_new limit earlier t h =
    let q : (offends_if (is_long t || nat_le limit (length earlier)) t TooMany ≡ [])
    × (offends_if (list_any (λ other. bytes_eq other t.text) earlier) t NameTwice ≡ []) = none_of
    (offends_if (is_long t || nat_le limit (length earlier)) t TooMany) (offends_if (list_any (λ other. bytes_eq other t.text) earlier) t NameTwice) h in
    none_if (list_any (λ other. bytes_eq other t.text) earlier) t NameTwice q.1

pub names_few : (limit : ℕ) (earlier : List (List ℕ)) (toks : List Lexeme) → names_offences limit earlier toks ≡ [] → length earlier ≤ limit →
    length earlier + length toks ≤ limit
names_few limit earlier [] h l = let n : length earlier ≤ limit = l in omega arith
names_few limit earlier (t ∷ toks) h l =
    let p : (name_offences limit earlier t ≡ []) × (names_offences limit (earlier ++ t.text ∷ []) toks ≡ []) = none_of (name_offences limit earlier t)
    (names_offences limit (earlier ++ t.text ∷ []) toks) h in
    let f : length earlier < limit = name_few limit earlier t p.0 in
    let n : length (earlier ++ t.text ∷ []) ≡ length earlier + 1 = length-append earlier (t.text ∷ []) in
    let m : length (earlier ++ t.text ∷ []) ≤ limit = omega arith in
    let rest : length (earlier ++ t.text ∷ []) + length toks ≤ limit = names_few limit (earlier ++ t.text ∷ []) toks p.1 m in
    omega arith

pub names_new : (limit : ℕ) (earlier : List (List ℕ)) (toks : List Lexeme) → names_offences limit earlier toks ≡ [] →
    AreNewBy (λ name. name) earlier (texts_of toks)
names_new limit earlier [] h = tt
names_new limit earlier (t ∷ toks) h =
    let p : (name_offences limit earlier t ≡ []) × (names_offences limit (earlier ++ t.text ∷ []) toks ≡ []) = none_of (name_offences limit earlier t)
    (names_offences limit (earlier ++ t.text ∷ []) toks) h in (
      none_passing (λ other. bytes_eq other t.text) (λ other. other ≡ t.text) (λ other. bytes_eq-Decides other t.text) earlier
          (name_new limit earlier t p.0),
      names_new limit (earlier ++ t.text ∷ []) toks p.1,
    )

pub new_and_new : {A B : Type 0} (key : A → B) (earlier xs ys : List A) → AreNewBy key earlier xs → AreNewBy key (earlier ++ xs) ys →
    AreNewBy key earlier (xs ++ ys)
new_and_new {A} {B} key earlier [] ys h g = subst (λ (zs : List A). AreNewBy key zs ys) (append-nil earlier) g
new_and_new {A} {B} key earlier (x ∷ xs) ys h g =
    (h.0, new_and_new key (earlier ++ x ∷ []) xs ys h.1 (subst (λ (zs : List A). AreNewBy key zs ys) (sym (append_assoc earlier (x ∷ []) xs)) g))
