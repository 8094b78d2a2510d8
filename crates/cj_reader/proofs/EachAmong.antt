-- Items that are read one after another, where an item may be read by what is known of all of them.
use Rattle.std.proofs.Common.{◌≡◌, List, [], ◌∷◌, ◌++◌, length, refl, sym, ◌∙◌, append_assoc}
use Rattle.std.specs.Prelude.{map, flat_map}
use Rattle.std.proofs.lemmas.List.{append-nil, map-append}
use Rattle.cj_tokens.specs.Lexemes.{Lexeme}
use Rattle.cj_tokens.specs.declared.refusal.Refused.{Refused}
use Rattle.cj_grammar.specs.Reading.{each_offends}
use Rattle.cj_grammar.specs.Readers.{each_at, Read, reads}
use Rattle.cj_grammar.proofs.ReadsLaws.{reads_then}

module _ {T X Y : Type 0} (one : List X → List Lexeme → Read X) (spelled : T → List Lexeme) (offends : List Y → T → List Refused) (key : T → Y) (means : T →
    X) (all : List T) (each : (done : List T) (t : T) (more : List T) (us : List Lexeme) → all ≡ done ++ t ∷ more →
    one (map means done) (spelled t ++ us) ≡ reads (offends (map key done) t) (means t) us) where
  among : (done rest : List T) (ts : List Lexeme) → all ≡ done ++ rest → each_at one (length rest) (map means done) (flat_map spelled rest ++ ts)
      ≡ reads (each_offends offends key (map key done) rest) (map means all) ts
  among done [] ts h =
      let e : all ≡ done = h ∙ append-nil done in
      rw e refl
  among done (t ∷ rest) ts h =
      let us : List Lexeme = flat_map spelled rest ++ ts in
      let regroup : (spelled t ++ flat_map spelled rest) ++ ts ≡ spelled t ++ us = append_assoc (spelled t) (flat_map spelled rest) ts in
      let e : all ≡ (done ++ t ∷ []) ++ rest = h ∙ sym (append_assoc done (t ∷ []) rest) in
      let k : map key (done ++ t ∷ []) ≡ map key done ++ key t ∷ [] = map-append key done (t ∷ []) in
      let m : map means (done ++ t ∷ []) ≡ map means done ++ means t ∷ [] = map-append means done (t ∷ []) in
      let ih : each_at one (length rest) (map means (done ++ t ∷ [])) us
      ≡ reads (each_offends offends key (map key (done ++ t ∷ [])) rest) (map means all) ts = among (done ++ t ∷ []) rest ts e in
      rw (regroup, each done t rest us h)
      (reads_then (offends (map key done) t) (each_offends offends key (map key done ++ key t ∷ []) rest) (means t) _ us ts _ (rw (k, m) at ih))

  pub each_among : (ts : List Lexeme) → each_at one (length all) [] (flat_map spelled all ++ ts) ≡ reads (each_offends offends key [] all) (map means all) ts
  each_among ts = among [] all ts refl
