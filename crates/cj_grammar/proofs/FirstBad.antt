-- Where `eat` fails stands the first token with which no sentence begins.
use Rattle.std.proofs.Common.{◌⊎◌, inl, inr, ◌≡◌, true, List, [], ◌∷◌, ◌++◌, Ok, Err, refl, ap, sym, ◌∙◌, append_assoc}
use Rattle.std.proofs.lemmas.List.{append-nil}
use Rattle.cj_tokens.specs.Ends.{HasOneEnd}
use Rattle.cj_tokens.specs.Lexemes.{Lexeme, Sign}
use Rattle.cj_grammar.specs.Grammar.{Rule, leaves, IsSentence, IsFront, IsFirstBad}
use Rattle.cj_grammar.specs.OneAhead.{is_plain, eat}
use Rattle.cj_grammar.specs.Contents.{is_ended}
use Rattle.cj_grammar.proofs.Eats.{stuck}
use Rattle.cj_grammar.proofs.Complete.{complete}
use Rattle.cj_grammar.proofs.Local.{local}
use Rattle.cj_grammar.proofs.ContentsLaws.{end_is_last}

-- The first token that is left after a failure begins no sentence with those before it.
pub no_front : (r : Rule) (next : List Sign) (u : List Lexeme) (t : Lexeme) (s : List Lexeme) → is_plain r next ≡ true → eat r (u ++ t ∷ s) ≡ Err (t ∷ s) →
    IsFront r (u ++ t ∷ []) → ⊥
no_front r next u t s p h f =
    let same : (u ++ t ∷ []) ++ f.0 ≡ u ++ t ∷ f.0 = append_assoc u (t ∷ []) f.0 in
    let all : leaves r f.1.0 ++ [] ≡ u ++ t ∷ f.0 = append-nil (leaves r f.1.0) ∙ (f.1.1 ∙ same) in
    let c : eat r (leaves r f.1.0 ++ []) ≡ Ok [] = complete r next f.1.0 [] p tt in
    let d : eat r (u ++ t ∷ f.0) ≡ Ok [] = rw all at c in
    let e : eat r (u ++ t ∷ f.0) ≡ Err (t ∷ f.0) = local r next u t s f.0 (Err []) p h in
    cc

-- A failure is at the first token with which no sentence begins.
pub first_bad : (r : Rule) (next : List Sign) (ts after : List Lexeme) (t : Lexeme) → is_plain r next ≡ true → eat r ts ≡ Err (t ∷ after) → IsFirstBad r ts t
first_bad r next ts after t p e =
    let i : (u : List Lexeme) × (u ++ t ∷ after ≡ ts) × IsFront r u = stuck r ts (t ∷ after) e in
    let e2 : eat r (i.0 ++ t ∷ after) ≡ Err (t ∷ after) = ap (eat r) i.1 ∙ e in
    record { before = i.0; after = after; split = sym i.1; well = i.2; bad = no_front r next i.0 t after p e2 }

-- No failure is behind the last token.
pub never_out : (r : Rule) (ts : List Lexeme) → is_plain r [] ≡ true → is_ended r ≡ true → HasOneEnd ts → eat r ts ≡ Err [] → ⊥
never_out r ts p w h e =
    let i : (u : List Lexeme) × (u ++ [] ≡ ts) × IsFront r u = stuck r ts [] e in
    let u_is : i.0 ≡ h.body ++ h.last ∷ [] = sym (append-nil i.0) ∙ (i.1 ∙ h.all) in
    let all : leaves r i.2.1.0 ≡ h.body ++ h.last ∷ i.2.0 = i.2.1.1 ∙ (ap (λ x. x ++ i.2.0) u_is ∙ append_assoc h.body (h.last ∷ []) i.2.0) in
    let none : i.2.0 ≡ [] = end_is_last r i.2.1.0 h.body i.2.0 h.last w h.is_end all in
    let whole : leaves r i.2.1.0 ≡ ts = all ∙ (ap (λ x. h.body ++ h.last ∷ x) none ∙ sym h.all) in
    let c : eat r (leaves r i.2.1.0 ++ []) ≡ Ok [] = complete r [] i.2.1.0 [] p tt in
    let d : eat r ts ≡ Ok [] = sym (ap (eat r) (append-nil (leaves r i.2.1.0) ∙ whole)) ∙ c in
    cc

-- So, before an end, each failure is at such a token.
pub bad_before_end : (r : Rule) (ts rest : List Lexeme) → is_plain r [] ≡ true → is_ended r ≡ true → HasOneEnd ts → eat r ts ≡ Err rest →
    (t : Lexeme) × (after : List Lexeme) × (rest ≡ t ∷ after) × IsFirstBad r ts t
bad_before_end r ts [] p w h e = absurd (never_out r ts p w h e)
bad_before_end r ts (t ∷ after) p w h e = (t, after, refl, first_bad r [] ts after t p e)

-- Where a sentence is left, no token is bad.
pub sentence_is_good : (r : Rule) (ts : List Lexeme) (t : Lexeme) → IsSentence r ts → IsFirstBad r ts t → ⊥
sentence_is_good r ts t s b =
    b.bad (b.after, (s.0, s.1 ∙ (b.split ∙ sym (append_assoc b.before (t ∷ []) b.after))))

-- two places in the same tokens
places : (u v : List Lexeme) (t x : Lexeme) (s w : List Lexeme) → u ++ t ∷ s ≡ v ++ x ∷ w →
    (t ≡ x) ⊎ (((y : List Lexeme) × (u ≡ v ++ x ∷ y)) ⊎ ((y : List Lexeme) × (v ≡ u ++ t ∷ y)))
places [] [] t x s w q = inl (let e : t ≡ x = cc in e)
places [] (b ∷ v) t x s w q = let e : t ≡ b = cc in inr (inr (v, ap (λ z. z ∷ v) (sym e)))
places (a ∷ u) [] t x s w q = let e : a ≡ x = cc in inr (inl (u, ap (λ z. z ∷ u) e))
places (a ∷ u) (b ∷ v) t x s w q =
    let e : a ≡ b = cc in
    let r : u ++ t ∷ s ≡ v ++ x ∷ w = cc in
    elim (places u v t x s w r) [
      | inl h ↦ inl h
      | inr h ↦ inr (elim h [
        | inl p ↦ inl (p.0, ap (λ z. z ∷ u) e ∙ ap (λ z. b ∷ z) p.1)
        | inr p ↦ inr (p.0, ap (λ z. z ∷ v) (sym e) ∙ ap (λ z. a ∷ z) p.1)
      ])
    ]

front_of_front : (r : Rule) (u : List Lexeme) (t : Lexeme) (y whole : List Lexeme) → whole ≡ u ++ t ∷ y → IsFront r whole → IsFront r (u ++ t ∷ [])
front_of_front r u t y whole e f =
    (y ++ f.0, (f.1.0, f.1.1 ∙ (ap (λ z. z ++ f.0) e ∙ (append_assoc u (t ∷ y) f.0 ∙ sym (append_assoc u (t ∷ []) (y ++ f.0))))))

-- There is one first bad token at most.
pub one_bad : (r : Rule) (ts : List Lexeme) (t x : Lexeme) → IsFirstBad r ts t → IsFirstBad r ts x → t ≡ x
one_bad r ts t x a b = elim (places a.before b.before t x a.after b.after (sym a.split ∙ b.split)) [
  | inl h ↦ h
  | inr h ↦ elim h [
    | inl p ↦ absurd (b.bad (front_of_front r b.before x p.0 a.before p.1 a.well))
    | inr p ↦ absurd (a.bad (front_of_front r a.before t p.0 b.before p.1 b.well))
  ]
]
