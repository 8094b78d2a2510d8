-- What is read of the tokens of items, where each reads as it means before tokens of some sort.
use Rattle.std.proofs.Common.{◌≡◌, Bool, true, false, List, [], ◌∷◌, ◌++◌, length, Ok, refl, ◌∙◌, append_assoc, ◌<◌}
use Rattle.std.specs.Prelude.{map, flat_map}
use Rattle.std.proofs.lemmas.List.{append-nil}
use Rattle.cj_tokens.specs.Lexemes.{Lexeme}
use Rattle.cj_tokens.specs.declared.refusal.Refused.{Refused}
use Rattle.cj_grammar.specs.Reading.{each_offends}
use Rattle.cj_grammar.specs.Readers.{Read, reads}
use Rattle.cj_script.specs.Reading.{all_at}
use Rattle.cj_script.proofs.Turns.{all_stops, all_fails, all_goes}

-- an item that begins, and reads as it means
pub record ReadsItem {X T : Type 0} (more : List Lexeme → Bool) (one : List X → List Lexeme → Read X) (spelled : T → List Lexeme) (offends : List X → T →
    List Refused) (means : T → X) (earlier : List X) (t : T) (ts : List Lexeme) : Type 0 where
  pub begins : more (spelled t ++ ts) ≡ true
  pub read : one earlier (spelled t ++ ts) ≡ reads (offends earlier t) (means t) ts

module _ {X : Type 0} (Before : List Lexeme → Type 0) (more : List Lexeme → Bool) (one : List X → List Lexeme → Read X) (ends : more [] ≡ false)
    (short : (earlier : List X) (ts : List Lexeme) (x : X × List Lexeme) → more ts ≡ true → one earlier ts ≡ Ok x → length x.1 < length ts) where
  before_all : {T : Type 0} (spelled : T → List Lexeme) → ((t : T) (ts : List Lexeme) → Before ts → Before (spelled t ++ ts)) →
      (items : List T) (ts : List Lexeme) → Before ts → Before (flat_map spelled items ++ ts)
  before_all spelled b [] ts h = h
  before_all spelled b (t ∷ items) ts h =
      let regroup : (spelled t ++ flat_map spelled items) ++ ts ≡ spelled t
      ++ (flat_map spelled items ++ ts) = append_assoc (spelled t) (flat_map spelled items) ts in
      rw regroup (b t (flat_map spelled items ++ ts) (before_all spelled b items ts h))

  pub all_reads_before : {T : Type 0} (spelled : T → List Lexeme) (offends : List X → T → List Refused) (means : T → X) (earlier : List X) (items : List T)
      (ts : List Lexeme)
      → ((t : T) (ts : List Lexeme) → Before ts → Before (spelled t ++ ts))
      → ((earlier : List X) (t : T) (ts : List Lexeme) → Before ts → ReadsItem more one spelled offends means earlier t ts)
      → Before ts
      → more ts ≡ false
      → all_at more one earlier (flat_map spelled items ++ ts) ≡ reads (each_offends offends means earlier items) (earlier ++ map means items) ts
  all_reads_before spelled offends means earlier [] ts b r h m = rw append-nil (all_stops more one ends short earlier ts m)
  all_reads_before {T} spelled offends means earlier (t ∷ items) ts b r h m =
      let us : List Lexeme = flat_map spelled items ++ ts in
      let regroup : (spelled t ++ flat_map spelled items) ++ ts ≡ spelled t ++ us = append_assoc (spelled t) (flat_map spelled items) ts in
      let here : ReadsItem more one spelled offends means earlier t us = r earlier t us (before_all spelled b items ts h) in
      rw regroup (go (offends earlier t) refl here (all_reads_before spelled offends means (earlier ++ means t ∷ []) items ts b r h m))
    where
      go : (es : List Refused) → offends earlier t ≡ es → ReadsItem more one spelled offends means earlier t (flat_map spelled items ++ ts) →
          all_at more one (earlier ++ means t ∷ []) (flat_map spelled items ++ ts)
          ≡ reads (each_offends offends means (earlier ++ means t ∷ []) items) ((earlier ++ means t ∷ []) ++ map means items) ts →
          all_at more one earlier (spelled t ++ (flat_map spelled items ++ ts))
          ≡ reads (offends earlier t ++ each_offends offends means (earlier ++ means t ∷ []) items) (earlier ++ (means t ∷ map means items)) ts
      go [] o here ih =
          let us : List Lexeme = flat_map spelled items ++ ts in
          rw o (all_goes more one ends short earlier (spelled t ++ us) (means t, us) here.begins (here.read ∙ rw o refl)
          ∙ (ih ∙ rw append_assoc refl))
      go (f ∷ fs) o here ih =
          let us : List Lexeme = flat_map spelled items ++ ts in
          rw o (all_fails more one ends short earlier (spelled t ++ us) f here.begins (here.read ∙ rw o refl))
