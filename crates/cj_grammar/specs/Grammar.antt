-- Grammars without recursion, as data: their trees, their sentences, and the first token that fits in none.
use Rattle.std.specs.Prelude.{◌≡◌, true, ◌⊎◌, List, [], ◌∷◌, ◌++◌, Option, None, Some, flat_map}
use Rattle.std.proofs.Common.{inl, inr}
use Rattle.cj_tokens.specs.Lexemes.{Lexeme, Sign, fits}

-- one token; two rules one after the other; either of two; one or none; any number of times
pub data Rule : Type 0 where
  tok : Sign → Rule
  seq : Rule → Rule → Rule
  alt : Rule → Rule → Rule
  opt : Rule → Rule
  many : Rule → Rule

-- a token that fits
pub record Leaf (sign : Sign) : Type 0 where
  pub token : Lexeme
  pub is : fits sign token ≡ true

-- the trees of a rule
abbrev pub Tree : Rule → Type 0
Tree (tok s) = Leaf s
Tree (seq a b) = Tree a × Tree b
Tree (alt a b) = Tree a ⊎ Tree b
Tree (opt a) = Option (Tree a)
Tree (many a) = List (Tree a)

-- the tokens of a tree, in order
abbrev pub leaves : (r : Rule) → Tree r → List Lexeme
leaves (tok s) t = t.token ∷ []
leaves (seq a b) t = leaves a t.0 ++ leaves b t.1
leaves (alt a b) (inl t) = leaves a t
leaves (alt a b) (inr t) = leaves b t
leaves (opt a) None = []
leaves (opt a) (Some t) = leaves a t
leaves (many a) ts = flat_map (leaves a) ts

abbrev pub IsSentence : Rule → List Lexeme → Type 0
IsSentence r ts = (t : Tree r) × (leaves r t ≡ ts)

-- the tokens begin some sentence
abbrev pub IsFront : Rule → List Lexeme → Type 0
IsFront r ts = (more : List Lexeme) × IsSentence r (ts ++ more)

-- t is the first token with which the tokens so far begin no sentence
pub record IsFirstBad (r : Rule) (ts : List Lexeme) (t : Lexeme) : Type 0 where
  pub before : List Lexeme
  pub after : List Lexeme
  pub split : ts ≡ before ++ t ∷ after
  pub well : IsFront r before
  pub bad : IsFront r (before ++ t ∷ []) → ⊥
