-- What tokens are to a grammar whose trees have offences and a meaning: one value, or refused with the first offence.
use Rattle.std.specs.Prelude.{◌≡◌, ◌⊎◌, List, [], ◌∷◌, Result, Ok, Err, ⊤}
use Rattle.cj_tokens.specs.Lexemes.{Lexeme}
use Rattle.cj_tokens.specs.declared.refusal.Refused as refusal
use Rattle.cj_tokens.specs.declared.refusal.ParseError.{ParseError}
use Rattle.cj_tokens.specs.declared.refusal.ParseError.TheVariants.{Refused, NoMemory}
use Rattle.cj_grammar.specs.Grammar.{Rule, Tree, leaves}
use Rattle.cj_grammar.specs.Offences.{IsFirstOffence}

-- the tokens are a sentence of the grammar, which has no offence of the second class, and means this
pub record Spells {X : Type 0} (g : Rule) (offences : Tree g → List refusal.Refused) (means : Tree g → X) (ts : List Lexeme) (value : X) : Type 0 where
  pub tree : Tree g
  pub tokens : leaves g tree ≡ ts
  pub fine : offences tree ≡ []
  pub meaning : value ≡ means tree

-- the tokens are a sentence, and this is the first of its offences
pub record OffendsSecond (g : Rule) (offences : Tree g → List refusal.Refused) (ts : List Lexeme) (r : refusal.Refused) : Type 0 where
  pub tree : Tree g
  pub tokens : leaves g tree ≡ ts
  pub more : List refusal.Refused
  pub first : offences tree ≡ r ∷ more

-- The tokens are this value, or are refused with this offence: that of the first token with which the tokens so far
-- begin no sentence, or else the first one of the second class.
abbrev pub Reads : {X : Type 0} (g : Rule) (offences : Tree g → List refusal.Refused) (means : Tree g → X) → List Lexeme → Result X refusal.Refused → Type 0
Reads g offences means ts (Ok value) = Spells g offences means ts value
Reads g offences means ts (Err r) = IsFirstOffence g ts r ⊎ OffendsSecond g offences ts r

-- the answer is the one that was given, want of memory aside
abbrev pub IsAnswer : {X : Type 0} → Result X refusal.Refused → Result X ParseError → Type 0
IsAnswer answer (Ok value) = answer ≡ Ok value
IsAnswer answer (Err (Refused r)) = answer ≡ Err r
IsAnswer answer (Err NoMemory) = ⊤

-- what was read agrees with a tree: it is its meaning, or the first of its offences
abbrev pub Agrees : {X : Type 0} → Result X ParseError → List refusal.Refused → X → Type 0
Agrees (Ok value) offences meaning = (offences ≡ []) × (value ≡ meaning)
Agrees (Err (Refused r)) offences meaning = (more : List refusal.Refused) × (offences ≡ r ∷ more)
Agrees (Err NoMemory) offences meaning = ⊤
