-- What holds where there are no offences.
use Rattle.std.proofs.Common.{◌≡◌, Bool, true, false, Option, Some, None, List, [], ◌∷◌, ◌++◌, refl}
use Rattle.cj_tokens.specs.Lexemes.{Lexeme}
use Rattle.cj_tokens.specs.declared.refusal.Kind.{Kind}
use Rattle.cj_grammar.specs.Reading.{offends_if, missing}

pub none_of : {A : Type 0} (xs ys : List A) → xs ++ ys ≡ [] → (xs ≡ []) × (ys ≡ [])
none_of [] ys h = (refl, h)
none_of (x ∷ xs) ys h = cc

pub none_if : (b : Bool) (t : Lexeme) (kind : Kind) → offends_if b t kind ≡ [] → b ≡ false
none_if true t kind h = cc
none_if false t kind h = refl

pub none_missing : {X : Type 0} (o : Option X) (t : Lexeme) (kind : Kind) → missing o t kind ≡ [] → (x : X) × (o ≡ Some x)
none_missing None t kind h = cc
none_missing (Some x) t kind h = (x, refl)
