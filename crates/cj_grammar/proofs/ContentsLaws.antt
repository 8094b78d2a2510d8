-- A sentence has its rule's signs alone, and an end at most as its last token.
use Rattle.std.proofs.Common.{◌≡◌, true, false, List, [], ◌∷◌, ◌++◌, None, Some, refl, ap, sym, ◌∙◌, inl, inr, subst}
use Rattle.std.specs.Prelude.{flat_map, not}
use Rattle.cj_tokens.specs.Ends.{HasOneEnd}
use Rattle.cj_tokens.specs.Lexemes.{Lexeme, Sign, Is, fits, is_terminal}
use Rattle.cj_grammar.specs.OneAhead.{clash, has}
use Rattle.cj_tokens.specs.declared.terminal.Terminal.TheVariants.{End}
use Rattle.cj_grammar.specs.Grammar.{Rule, tok, seq, alt, opt, many, Tree, leaves}
use Rattle.cj_grammar.specs.Contents.{signs, is_without, lacks, is_ended}
use Rattle.cj_grammar.proofs.Signs.{and_true, not_true, or_false, fits_apart}

pub lacks-append : (s : Sign) (xs ys : List Lexeme) → lacks s xs ≡ true → lacks s ys ≡ true → lacks s (xs ++ ys) ≡ true
lacks-append s [] ys h g = g
lacks-append s (x ∷ xs) ys h g =
    let p : (not (fits s x) ≡ true) × (lacks s xs ≡ true) = and_true (not (fits s x)) (lacks s xs) h in
    rw p.0 (lacks-append s xs ys p.1 g)

none_of : (xs ys : List Sign) (s : Sign) → has (xs ++ ys) s ≡ false → (has xs s ≡ false) × (has ys s ≡ false)
none_of [] ys s h = (refl, h)
none_of (x ∷ xs) ys s h =
    let p : (clash x s ≡ false) × (has (xs ++ ys) s ≡ false) = or_false (clash x s) (has (xs ++ ys) s) h in
    let i : (has xs s ≡ false) × (has ys s ≡ false) = none_of xs ys s p.1 in
    (rw (p.0, i.0) refl, i.1)

lacks_many : (a : Rule) (s : Sign) → ((t : Tree a) → lacks s (leaves a t) ≡ true) → (ts : List (Tree a)) → lacks s (flat_map (leaves a) ts) ≡ true
lacks_many a s f [] = refl
lacks_many a s f (t ∷ ts) = lacks-append s (leaves a t) (flat_map (leaves a) ts) (f t) (lacks_many a s f ts)

lacks_all : (r : Rule) (s : Sign) (t : Tree r) → has (signs r) s ≡ false → lacks s (leaves r t) ≡ true
lacks_all (tok j) s t h =
    let p : (clash j s ≡ false) × (false ≡ false) = or_false (clash j s) false h in
    let n : fits s t.token ≡ false = fits_apart j s t.token p.0 t.is in
    rw n refl
lacks_all (seq a b) s t h =
    let n : (has (signs a) s ≡ false) × (has (signs b) s ≡ false) = none_of (signs a) (signs b) s h in
    lacks-append s (leaves a t.0) (leaves b t.1) (lacks_all a s t.0 n.0) (lacks_all b s t.1 n.1)
lacks_all (alt a b) s (inl t) h = lacks_all a s t (none_of (signs a) (signs b) s h).0
lacks_all (alt a b) s (inr t) h = lacks_all b s t (none_of (signs a) (signs b) s h).1
lacks_all (opt a) s None h = refl
lacks_all (opt a) s (Some t) h = lacks_all a s t h
lacks_all (many a) s ts h = lacks_many a s (λ t. lacks_all a s t h) ts

-- A sentence has its rule's signs alone.
pub only_its_own : (r : Rule) (s : Sign) (t : Tree r) → is_without r s ≡ true → lacks s (leaves r t) ≡ true
only_its_own r s t h = lacks_all r s t (not_true (has (signs r) s) h)

pub lacks-at : (s : Sign) (xs ys : List Lexeme) (e : Lexeme) → fits s e ≡ true → lacks s (xs ++ e ∷ ys) ≡ true → ⊥
lacks-at s [] ys e h g =
    let p : (not (fits s e) ≡ true) × (lacks s ys ≡ true) = and_true (not (fits s e)) (lacks s ys) g in
    let q : fits s e ≡ false = not_true (fits s e) p.0 in cc
lacks-at s (x ∷ xs) ys e h g =
    let p : (not (fits s x) ≡ true) × (lacks s (xs ++ e ∷ ys) ≡ true) = and_true (not (fits s x)) (lacks s (xs ++ e ∷ ys)) g in
    lacks-at s xs ys e h p.1

-- A token that the first part lacks stands in the second.
pub in_second : (s : Sign) (xs ys us more : List Lexeme) (e : Lexeme) → lacks s xs ≡ true → fits s e ≡ true → xs ++ ys ≡ us ++ e ∷ more →
    (vs : List Lexeme) × (ys ≡ vs ++ e ∷ more) × (us ≡ xs ++ vs)
in_second s [] ys us more e l h q = (us, q, refl)
in_second s (x ∷ xs) ys [] more e l h q =
    let p : (not (fits s x) ≡ true) × (lacks s xs ≡ true) = and_true (not (fits s x)) (lacks s xs) l in
    let same : x ≡ e = cc in
    let n : fits s e ≡ false = subst (λ (z : Lexeme). fits s z ≡ false) same (not_true (fits s x) p.0) in cc
in_second s (x ∷ xs) ys (u ∷ us) more e l h q =
    let p : (not (fits s x) ≡ true) × (lacks s xs ≡ true) = and_true (not (fits s x)) (lacks s xs) l in
    let rest : xs ++ ys ≡ us ++ e ∷ more = cc in
    let first : x ≡ u = cc in
    let i : (vs : List Lexeme) × (ys ≡ vs ++ e ∷ more) × (us ≡ xs ++ vs) = in_second s xs ys us more e p.1 h rest in
    (i.0, i.1, ap (λ z. z ∷ us) (sym first) ∙ ap (λ z. x ∷ z) i.2)

one_alone : (x e : Lexeme) (us more : List Lexeme) → x ∷ [] ≡ us ++ e ∷ more → more ≡ []
one_alone x e [] more q = let r : [] ≡ more = cc in sym r
one_alone x e (u ∷ []) more q = cc
one_alone x e (u ∷ v ∷ us) more q = cc

-- Nothing stands behind an end.
pub end_is_last : (r : Rule) (t : Tree r) (us more : List Lexeme) (e : Lexeme) → is_ended r ≡ true → is_terminal End e ≡ true → leaves r t ≡ us ++ e ∷ more →
    more ≡ []
end_is_last (tok s) t us more e w h q = one_alone t.token e us more q
end_is_last (seq a b) t us more e w h q =
    let p : (is_without a (Is End) ≡ true) × (is_ended b ≡ true) = and_true (is_without a (Is End)) (is_ended b) w in
    let i : (vs : List Lexeme) × (leaves b t.1 ≡ vs ++ e ∷ more)
    × (us ≡ leaves a t.0 ++ vs) = in_second (Is End) (leaves a t.0) (leaves b t.1) us more e (only_its_own a (Is End) t.0 p.0) h q in
    end_is_last b t.1 i.0 more e p.1 h i.1
end_is_last (alt a b) (inl t) us more e w h q = end_is_last a t us more e (and_true (is_ended a) (is_ended b) w).0 h q
end_is_last (alt a b) (inr t) us more e w h q = end_is_last b t us more e (and_true (is_ended a) (is_ended b) w).1 h q
end_is_last (opt a) None [] more e w h q = cc
end_is_last (opt a) None (u ∷ us) more e w h q = cc
end_is_last (opt a) (Some t) us more e w h q = end_is_last a t us more e w h q
end_is_last (many a) ts us more e w h q = absurd
    (lacks-at (Is End) us more e h (subst (λ (z : List Lexeme). lacks (Is End) z ≡ true) q (only_its_own (many a) (Is End) ts w)))

lacks_second : (s : Sign) (xs ys : List Lexeme) → lacks s (xs ++ ys) ≡ true → lacks s ys ≡ true
lacks_second s [] ys h = h
lacks_second s (x ∷ xs) ys h = lacks_second s xs ys (and_true (not (fits s x)) (lacks s (xs ++ ys)) h).1

-- Where a sentence without an end is gone past, the end is left.
pub end_stays : (r : Rule) (t : Tree r) (old new : List Lexeme) → is_without r (Is End) ≡ true → leaves r t ++ new ≡ old → HasOneEnd old → HasOneEnd new
end_stays r t old new w q h =
    let i : (vs : List Lexeme) × (new ≡ vs ++ h.last ∷ [])
    × (h.body ≡ leaves r t ++ vs) = in_second (Is End) (leaves r t) new h.body [] h.last (only_its_own r (Is End) t w) h.is_end (q ∙ h.all) in
    record {
      body = i.0;
      last = h.last;
      all = i.1;
      is_end = h.is_end;
      once = lacks_second (Is End) (leaves r t) i.0
          (subst (λ (z : List Lexeme). lacks (Is End) z ≡ true) i.2 h.once);
    }
