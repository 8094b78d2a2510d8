-- Laws of parts, which watches and loops cite.
pub use Rattle.cj_publish.specs.Learns.{learns_nothing, learns_twice}
use Rattle.std.proofs.Common.{◌∙◌, refl, sym, ap, subst, List, [], ◌∷◌, ◌++◌, append-nil, append_assoc}
use Rattle.cj_parts.specs.Parts.{InParts}

module _ {I A : Type 0} (P : I → List A → Type 0) where
  -- parts of some items, then of others
  pub parts_append : (xs ys : List I) (a b : List A) → InParts P xs a → InParts P ys b → InParts P (xs ++ ys) (a ++ b)
  parts_append [] ys a b h k = subst (λ l. InParts P ys (l ++ b)) (sym h) k
  parts_append (x ∷ xs) ys a b h k = (h.0, h.1 ++ b, h.2, parts_append xs ys h.1 b h.3 k, ap (λ l. l ++ b) h.4 ∙ append_assoc h.0 h.1 b)

  -- one part alone
  pub one_part : (x : I) (part : List A) → P x part → InParts P (x ∷ []) part
  one_part x part p = (part, [], p, refl, sym (append-nil part))

  -- one part more
  pub parts_push : (xs : List I) (x : I) (a part : List A) → InParts P xs a → P x part → InParts P (xs ++ x ∷ []) (a ++ part)
  parts_push xs x a part h p = parts_append xs (x ∷ []) a part h (one_part x part p)

-- parts are parts by what they imply
pub parts_weaker : {I A : Type 0} (P Q : I → List A → Type 0) → ((i : I) (xs : List A) → P i xs → Q i xs) → (is : List I) (all : List A) → InParts P is all
    → InParts Q is all
parts_weaker P Q f [] all h = h
parts_weaker P Q f (i ∷ is) all h = (h.0, h.1, f i h.0 h.2, parts_weaker P Q f is h.1 h.3, h.4)
