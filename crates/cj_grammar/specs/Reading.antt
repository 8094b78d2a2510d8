-- Words for the offences of the second class: the first one, from the left, refuses.
use Rattle.std.specs.Prelude.{List, [], ◌∷◌, ◌++◌, Option, None, Some, Bool, cond}
use Rattle.cj_tokens.specs.Lexemes.{Lexeme}
use Rattle.cj_tokens.specs.declared.refusal.Kind.{Kind}
use Rattle.cj_tokens.specs.declared.refusal.Refused.{Refused}

-- an offence that a token carries
abbrev pub offence : Lexeme → Kind → Refused
offence t kind = record { line = t.line; kind = kind }

abbrev pub offends_if : Bool → Lexeme → Kind → List Refused
offends_if test t kind = cond test (offence t kind ∷ []) []

-- an offence where something is not there
abbrev pub missing : {A : Type 0} → Option A → Lexeme → Kind → List Refused
missing None t kind = offence t kind ∷ []
missing (Some a) t kind = []

-- of a token's offences, which stand in the order of their table, the first one counts
abbrev pub highest : List Refused → List Refused
highest [] = []
highest (e ∷ es) = e ∷ []

-- a list's offences, where an item's may depend on what the items before it mean
abbrev pub each_offends : {T X : Type 0} → (List X → T → List Refused) → (T → X) → List X → List T → List Refused
each_offends offends means earlier [] = []
each_offends offends means earlier (t ∷ ts) =
    offends earlier t ++ each_offends offends means (earlier ++ means t ∷ []) ts
