-- From what readers gave to what the tokens are.
use Rattle.std.proofs.Common.{◌≡◌, ◌∙◌, sym, ap, refl, false, true, List, [], ◌∷◌, ◌++◌, Result, Ok, Err, inl, inr}
use Rattle.cj_tokens.specs.Lexemes.{Lexeme, is_terminal}
use Rattle.cj_tokens.specs.Passing.{front}
use Rattle.cj_tokens.specs.declared.terminal.Terminal.TheVariants.{Fun, End}
use Rattle.cj_tokens.specs.declared.refusal.Refused as refusal
use Rattle.cj_tokens.specs.declared.refusal.ParseError.{ParseError}
use Rattle.cj_tokens.specs.declared.refusal.ParseError.TheVariants.{Refused, NoMemory}
use Rattle.cj_grammar.specs.Grammar.{Rule, Tree, leaves, IsSentence}
use Rattle.cj_grammar.specs.Offences.{class_one, IsFirstOffence}
use Rattle.cj_grammar.specs.Reading.{offence}
use Rattle.cj_grammar.specs.Readers.{reads, Gives}
use Rattle.cj_grammar.specs.Rules.{one, ◌▸◌, funs}
use Rattle.cj_grammar.specs.Shapes.{GoesPast, HasFunctions}
use Rattle.cj_grammar.specs.Sentences.{Reads, IsAnswer, Agrees}
use Rattle.cj_grammar.proofs.FirstBad.{sentence_is_good, one_bad}

-- ---- what `reads` gives

pub reads_err : {X : Type 0} (es : List refusal.Refused) (x : X) (ts : List Lexeme) (r : refusal.Refused) → reads es x ts ≡ Err r →
    (more : List refusal.Refused) × (es ≡ r ∷ more)
reads_err [] x ts r is = cc
reads_err (e ∷ es) x ts r is = let same : e ≡ r = cc in (es, ap (λ f. f ∷ es) same)

-- where it gives a value, there was no offence, and the value is the meaning
pub record IsMeaning {X : Type 0} (es : List refusal.Refused) (x y : X) (ts us : List Lexeme) : Type 0 where
  pub fine : es ≡ []
  pub value : y ≡ x
  pub rest : us ≡ ts

pub reads_ok : {X : Type 0} (es : List refusal.Refused) (x y : X) (ts us : List Lexeme) → reads es x ts ≡ Ok (y, us) → IsMeaning es x y ts us
reads_ok {X} [] x y ts us is =
    let P : Type 0 = X × List Lexeme in
    let pair : ◌≡◌ {A = P} (x, ts) (y, us) = cc in
    record {
      fine = refl;
      value = sym (ap (λ (q : P). q.0) pair);
      rest = sym (ap (λ (q : P). q.1) pair);
    }
reads_ok (e ∷ es) x y ts us is = cc

-- ---- functions and what stands behind them, where what that means depends on them

-- what their reader gave
abbrev pub GivesFirst : {P : Type 0} (offences : Tree funs → List refusal.Refused) (means : Tree funs → P) → List Lexeme → Result P ParseError → List Lexeme →
    Type 0
GivesFirst offences means ts result left =
    (rest : List Lexeme) (past : GoesPast ts rest) → Gives result left (reads (offences past.tree) (means past.tree) rest)

-- and what the reader behind it gave, up to the last token
abbrev pub GivesSecond : {Y : Type 0} (r : Rule) (offences : Tree r → List refusal.Refused) (means : Tree r → Y) → List Lexeme → Result Y ParseError →
    List Lexeme → Type 0
GivesSecond r offences means ts result left =
    (t : Tree r) (last : Lexeme) (rest : List Lexeme) → ts ≡ leaves r t ++ last ∷ rest → is_terminal End last ≡ true →
    Gives result left (reads (offences t) (means t) (last ∷ rest))

module _ {P Y X : Type 0}
    (first_offences : Tree funs → List refusal.Refused) (first_of : Tree funs → P)
    (r : Rule) (offences : P → Tree r → List refusal.Refused) (means : P → Tree r → Y)
    (whole : P → Y → X) (no_function : (t : Tree r) (ts : List Lexeme) → is_terminal Fun (front (leaves r t ++ ts)) ≡ false) where
  abbrev pub Text : Rule
  Text = funs ▸ r ▸ one End

  abbrev pub offences_of : Tree Text → List refusal.Refused
  offences_of (functions, (behind, last)) = first_offences functions ++ offences (first_of functions) behind

  abbrev pub meaning_of : Tree Text → X
  meaning_of (functions, (behind, last)) = whole (first_of functions) (means (first_of functions) behind)

  abbrev past_of : (t : Tree Text) (ts : List Lexeme) → leaves Text t ≡ ts → GoesPast ts (leaves r t.1.0 ++ t.1.1.token ∷ [])
  past_of t ts is = record { tree = t.0; all = is; no_more = no_function t.1.0 (t.1.1.token ∷ []) }

  pub has_functions : (ts : List Lexeme) → IsSentence Text ts → HasFunctions ts
  has_functions ts sentence = (_, past_of sentence.0 ts sentence.1)

  -- the functions were refused
  pub first_fails : (ts : List Lexeme) (e : ParseError) → GivesFirst first_offences first_of ts (Err e) [] → (t : Tree Text) → leaves Text t ≡ ts →
      Agrees (Err e) (offences_of t) (meaning_of t)
  first_fails ts NoMemory gives (functions, (behind, last)) is = tt
  first_fails ts (Refused e) gives (functions, (behind, last)) is =
      let failed = reads_err (first_offences functions) (first_of functions) _ e (gives _ (past_of (functions, (behind, last)) ts is)) in
      let later = offences (first_of functions) behind in (failed.0 ++ later, ap (λ es. es ++ later) failed.1)

  -- the functions were read, so all offences are those of the rest
  pub first_read : (ts left : List Lexeme) (p : P) → GivesFirst first_offences first_of ts (Ok p) left → (t : Tree Text) → leaves Text t ≡ ts →
      IsMeaning (first_offences t.0) (first_of t.0) p (leaves r t.1.0 ++ t.1.1.token ∷ []) left
  first_read ts left p gives t is = reads_ok (first_offences t.0) (first_of t.0) p _ left (gives _ (past_of t ts is))

  rest_alone : (functions : Tree funs) (behind : Tree r) (p : P) → first_offences functions ≡ [] → p ≡ first_of functions →
      first_offences functions ++ offences (first_of functions) behind ≡ offences p behind
  rest_alone functions behind p fine same = ap (λ es. es ++ offences (first_of functions) behind) fine ∙ ap (λ q. offences q behind) (sym same)

  -- and the rest was refused
  pub second_fails : (ts us : List Lexeme) (p : P) (e : ParseError) → GivesFirst first_offences first_of ts (Ok p) us →
      GivesSecond r (offences p) (means p) us (Err e) [] → (t : Tree Text) → leaves Text t ≡ ts → Agrees (Err e) (offences_of t) (meaning_of t)
  second_fails ts us p NoMemory gives then (functions, (behind, last)) is = tt
  second_fails ts us p (Refused e) gives then (functions, (behind, last)) is =
      let read = first_read ts us p gives (functions, (behind, last)) is in
      let failed = reads_err (offences p behind) (means p behind) _ e (then behind last.token [] read.rest last.is) in
      (failed.0, rest_alone functions behind p read.fine read.value ∙ failed.1)

  -- or read too
  pub both_read : (ts us left : List Lexeme) (p : P) (y : Y) → GivesFirst first_offences first_of ts (Ok p) us →
      GivesSecond r (offences p) (means p) us (Ok y) left → (t : Tree Text) → leaves Text t ≡ ts → Agrees (Ok (whole p y)) (offences_of t) (meaning_of t)
  both_read ts us left p y gives then (functions, (behind, last)) is =
      let read = first_read ts us p gives (functions, (behind, last)) is in
      let second = reads_ok (offences p behind) (means p behind) y _ left (then behind last.token [] read.rest last.is) in
      let value : y ≡ means (first_of functions) behind = second.value ∙ ap (λ q. means q behind) read.value in
      (rest_alone functions behind p read.fine read.value ∙ second.fine, rw (value, read.value) refl)

-- ---- from trees to readings

module _ {X : Type 0} (g : Rule) (offences : Tree g → List refusal.Refused) (means : Tree g → X) (ts : List Lexeme) where
  pub meant : (x : X) → IsSentence g ts → ((t : Tree g) → leaves g t ≡ ts → Agrees (Ok x) (offences t) (means t)) → Reads g offences means ts (Ok x)
  meant x sentence agrees =
      let a = agrees sentence.0 sentence.1 in
      record { tree = sentence.0; tokens = sentence.1; fine = a.0; meaning = a.1 }

  pub offended : (first : refusal.Refused) → IsSentence g ts → ((t : Tree g) → leaves g t ≡ ts → Agrees {X = X} (Err (Refused first)) (offences t) (means t)) →
      Reads g offences means ts (Err first)
  offended first sentence agrees =
      let a = agrees sentence.0 sentence.1 in
      inr (record { tree = sentence.0; tokens = sentence.1; more = a.0; first = a.1 })

  -- a sentence is read as one thing alone
  pub only_meant : (result : Result X ParseError) → IsSentence g ts → ((t : Tree g) → leaves g t ≡ ts → Agrees result (offences t) (means t)) →
      (answer : Result X refusal.Refused) → Reads g offences means ts answer → IsAnswer answer result
  only_meant (Err NoMemory) sentence agrees answer reads = no_claim answer
    where
      no_claim : (answer : Result X refusal.Refused) → IsAnswer {X = X} answer (Err NoMemory)
      no_claim answer = tt
  only_meant (Ok i) sentence agrees (Ok v) spells =
      let a = agrees spells.tree spells.tokens in ap Ok (spells.meaning ∙ sym a.1)
  only_meant (Ok i) sentence agrees (Err e) (inl first) = absurd (sentence_is_good g ts first.token sentence first.first)
  only_meant (Ok i) sentence agrees (Err e) (inr second) =
      let a = agrees second.tree second.tokens in
      let both : [] ≡ e ∷ second.more = sym a.0 ∙ second.first in cc
  only_meant (Err (Refused f)) sentence agrees (Ok v) spells =
      let a = agrees spells.tree spells.tokens in
      let both : [] ≡ f ∷ a.0 = sym spells.fine ∙ a.1 in cc
  only_meant (Err (Refused f)) sentence agrees (Err e) (inl first) = absurd (sentence_is_good g ts first.token sentence first.first)
  only_meant (Err (Refused f)) sentence agrees (Err e) (inr second) =
      let a = agrees second.tree second.tokens in
      let both : e ∷ second.more ≡ f ∷ a.0 = sym second.first ∙ a.1 in cc

  -- and no sentence as its first bad token
  pub only_first : (f : refusal.Refused) → IsFirstOffence g ts f → (answer : Result X refusal.Refused) → Reads g offences means ts answer →
      IsAnswer {X = X} answer (Err (Refused f))
  only_first f found (Ok v) spells = absurd (sentence_is_good g ts found.token (spells.tree, spells.tokens) found.first)
  only_first f found (Err e) (inl first) =
      let same : first.token ≡ found.token = one_bad g ts first.token found.token first.first found.first in
      ap Err (first.is ∙ ap (λ t. offence t (class_one t)) same ∙ sym found.is)
  only_first f found (Err e) (inr second) = absurd (sentence_is_good g ts found.token (second.tree, second.tokens) found.first)
