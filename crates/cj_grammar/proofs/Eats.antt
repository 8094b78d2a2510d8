-- What `eat` leaves: behind a sentence, or behind the front of one.
use Rattle.std.proofs.Common.{◌≡◌, ℕ, zero, suc, Bool, true, false, cond, ◌⊎◌, List, [], ◌∷◌, ◌++◌, length, None, Some, Result, Ok, Err, refl, ap, sym, ◌∙◌}
use Rattle.std.proofs.Common.{append_assoc, inl, inr}
use Rattle.std.specs.Prelude.{flat_map}
use Rattle.std.proofs.lemmas.List.{append-nil}
use Rattle.cj_tokens.specs.Lexemes.{Lexeme, Sign, fits}
use Rattle.cj_grammar.specs.Grammar.{Rule, tok, seq, alt, opt, many, Tree, leaves, IsFront}
use Rattle.cj_grammar.specs.OneAhead.{starts, ◌>>=◌, eat, eat_many}
use Rattle.cj_grammar.proofs.Signs.{sample, sample_fits}

pub bind_ok : {A B E : Type 0} (r : Result A E) (f : A → Result B E) (y : B) → (r >>= f) ≡ Ok y → (x : A) × (r ≡ Ok x) × (f x ≡ Ok y)
bind_ok (Ok x) f y h = (x, refl, h)
bind_ok (Err e) f y h = cc

pub bind_err : {A B E : Type 0} (r : Result A E) (f : A → Result B E) (e : E) → (r >>= f) ≡ Err e → (r ≡ Err e) ⊎ ((x : A) × (r ≡ Ok x) × (f x ≡ Err e))
bind_err (Ok x) f e h = inr (x, refl, h)
bind_err (Err d) f e h = inl (let k : d ≡ e = cc in ap Err k)

pub chosen : {A : Type 0} (b : Bool) (x y z : A) → cond b x y ≡ z → ((b ≡ true) × (x ≡ z)) ⊎ ((b ≡ false) × (y ≡ z))
chosen true x y z h = inl (refl, h)
chosen false x y z h = inr (refl, h)

-- Each sentence that is eaten stands in front of what is left.
abbrev pub Sound : Rule → Type 0
Sound r = (ts rest : List Lexeme) → eat r ts ≡ Ok rest → (t : Tree r) × (leaves r t ++ rest ≡ ts)

sound_tok : (k : Sign) → Sound (tok k)
sound_tok k [] rest h = cc
sound_tok k (t ∷ ts) rest h =
    elim (chosen (fits k t) (Ok ts) (Err (t ∷ ts)) (Ok rest) h) [
      | inl p ↦ (record { token = t; is = p.0 }, let e : ts ≡ rest = cc in ap (λ x. t ∷ x) (sym e))
      | inr p ↦ cc
    ]

pub sound_many : (a : Rule) → Sound a → (n : ℕ) (ts rest : List Lexeme) → eat_many (eat a) (starts a) n ts ≡ Ok rest →
    (t : List (Tree a)) × (flat_map (leaves a) t ++ rest ≡ ts)
sound_many a s zero ts rest h = ([], let e : ts ≡ rest = cc in sym e)
sound_many a s (suc n) ts rest h =
    elim (chosen (starts a ts) (eat a ts >>= eat_many (eat a) (starts a) n) (Ok ts) (Ok rest) h) [
      | inl p ↦
          let b : (x : List Lexeme) × (eat a ts ≡ Ok x)
          × (eat_many (eat a) (starts a) n x ≡ Ok rest) = bind_ok (eat a ts) (eat_many (eat a) (starts a) n) rest p.1 in
          let one : (t : Tree a) × (leaves a t ++ b.0 ≡ ts) = s ts b.0 b.1 in
          let more : (t : List (Tree a)) × (flat_map (leaves a) t ++ rest ≡ b.0) = sound_many a s n b.0 rest b.2 in
          (one.0 ∷ more.0, append_assoc (leaves a one.0) (flat_map (leaves a) more.0) rest ∙ (ap (λ x. leaves a one.0 ++ x) more.1 ∙ one.1))
      | inr p ↦ ([], let e : ts ≡ rest = cc in sym e)
    ]

pub sound : (r : Rule) → Sound r
sound (tok k) ts rest h = sound_tok k ts rest h
sound (seq a b) ts rest h =
    let m : (x : List Lexeme) × (eat a ts ≡ Ok x) × (eat b x ≡ Ok rest) = bind_ok (eat a ts) (eat b) rest h in
    let one : (t : Tree a) × (leaves a t ++ m.0 ≡ ts) = sound a ts m.0 m.1 in
    let two : (t : Tree b) × (leaves b t ++ rest ≡ m.0) = sound b m.0 rest m.2 in
    ((one.0, two.0), append_assoc (leaves a one.0) (leaves b two.0) rest ∙ (ap (λ x. leaves a one.0 ++ x) two.1 ∙ one.1))
sound (alt a b) ts rest h =
    elim (chosen (starts a ts) (eat a ts) (eat b ts) (Ok rest) h) [
      | inl p ↦ let one : (t : Tree a) × (leaves a t ++ rest ≡ ts) = sound a ts rest p.1 in (inl one.0, one.1)
      | inr p ↦ let one : (t : Tree b) × (leaves b t ++ rest ≡ ts) = sound b ts rest p.1 in (inr one.0, one.1)
    ]
sound (opt a) ts rest h =
    elim (chosen (starts a ts) (eat a ts) (Ok ts) (Ok rest) h) [
      | inl p ↦ let one : (t : Tree a) × (leaves a t ++ rest ≡ ts) = sound a ts rest p.1 in (Some one.0, one.1)
      | inr p ↦ (None, let e : ts ≡ rest = cc in sym e)
    ]
sound (many a) ts rest h = sound_many a (sound a) (length ts) ts rest h

pub known : {A E : Type 0} (r : Result A E) → ((x : A) × (r ≡ Ok x)) ⊎ ((e : E) × (r ≡ Err e))
known (Ok x) = inl (x, refl)
known (Err e) = inr (e, refl)

-- a tree of each rule
any : (r : Rule) → Tree r
any (tok k) = record { token = sample k; is = sample_fits k }
any (seq a b) = (any a, any b)
any (alt a b) = inl (any a)
any (opt a) = None
any (many a) = []

-- Where the rule is not met, what stands before the refused token begins a sentence.
abbrev pub Stuck : Rule → Type 0
Stuck r = (ts rest : List Lexeme) → eat r ts ≡ Err rest → (u : List Lexeme) × (u ++ rest ≡ ts) × IsFront r u

stuck_tok : (k : Sign) → Stuck (tok k)
stuck_tok k [] rest h = ([], (let e : rest ≡ [] = cc in e), ((any (tok k)).token ∷ [], (any (tok k), refl)))
stuck_tok k (t ∷ ts) rest h =
    elim (chosen (fits k t) (Ok ts) (Err (t ∷ ts)) (Err rest) h) [
      | inl p ↦ cc
      | inr p ↦ ([], (let e : rest ≡ t ∷ ts = cc in e), ((any (tok k)).token ∷ [], (any (tok k), refl)))
    ]

pub stuck_many : (a : Rule) → Stuck a → (n : ℕ) (ts rest : List Lexeme) → eat_many (eat a) (starts a) n ts ≡ Err rest →
    (u : List Lexeme) × (u ++ rest ≡ ts) × IsFront (many a) u
stuck_many a s zero ts rest h = cc
stuck_many a s (suc n) ts rest h =
    elim (chosen (starts a ts) (eat a ts >>= eat_many (eat a) (starts a) n) (Ok ts) (Err rest) h) [
      | inl p ↦ elim (bind_err (eat a ts) (eat_many (eat a) (starts a) n) rest p.1) [
        | inl q ↦
            let i : (u : List Lexeme) × (u ++ rest ≡ ts) × IsFront a u = s ts rest q in
            let e : leaves a i.2.1.0 ++ [] ≡ i.0 ++ i.2.0 = rw append-nil i.2.1.1 in
            (i.0, i.1, (i.2.0, (i.2.1.0 ∷ [], e)))
        | inr b ↦
            let one : (t : Tree a) × (leaves a t ++ b.0 ≡ ts) = sound a ts b.0 b.1 in
            let i : (u : List Lexeme) × (u ++ rest ≡ b.0) × IsFront (many a) u = stuck_many a s n b.0 rest b.2 in
            let e : (leaves a one.0 ++ i.0) ++ rest ≡ ts = append_assoc (leaves a one.0) i.0 rest ∙ (ap (λ x. leaves a one.0 ++ x) i.1 ∙ one.1) in
            let f : leaves a one.0 ++ flat_map (leaves a) i.2.1.0 ≡ (leaves a one.0 ++ i.0) ++ i.2.0 = ap (λ x. leaves a one.0 ++ x) i.2.1.1
            ∙ sym (append_assoc (leaves a one.0) i.0 i.2.0) in
            (leaves a one.0 ++ i.0, e, (i.2.0, (one.0 ∷ i.2.1.0, f)))
      ]
      | inr p ↦ cc
    ]

pub stuck : (r : Rule) → Stuck r
stuck (tok k) ts rest h = stuck_tok k ts rest h
stuck (seq a b) ts rest h =
    elim (bind_err (eat a ts) (eat b) rest h) [
      | inl q ↦
          let i : (u : List Lexeme) × (u ++ rest ≡ ts) × IsFront a u = stuck a ts rest q in
          let e : leaves a i.2.1.0 ++ leaves b (any b) ≡ i.0 ++ (i.2.0 ++ leaves b (any b)) = ap (λ x. x ++ leaves b (any b)) i.2.1.1
          ∙ append_assoc i.0 i.2.0 (leaves b (any b)) in
          (i.0, i.1, (i.2.0 ++ leaves b (any b), ((i.2.1.0, any b), e)))
      | inr m ↦
          let one : (t : Tree a) × (leaves a t ++ m.0 ≡ ts) = sound a ts m.0 m.1 in
          let i : (u : List Lexeme) × (u ++ rest ≡ m.0) × IsFront b u = stuck b m.0 rest m.2 in
          let e : (leaves a one.0 ++ i.0) ++ rest ≡ ts = append_assoc (leaves a one.0) i.0 rest ∙ (ap (λ x. leaves a one.0 ++ x) i.1 ∙ one.1) in
          let f : leaves a one.0 ++ leaves b i.2.1.0 ≡ (leaves a one.0 ++ i.0) ++ i.2.0 = ap (λ x. leaves a one.0 ++ x) i.2.1.1
          ∙ sym (append_assoc (leaves a one.0) i.0 i.2.0) in
          (leaves a one.0 ++ i.0, e, (i.2.0, ((one.0, i.2.1.0), f)))
    ]
stuck (alt a b) ts rest h =
    elim (chosen (starts a ts) (eat a ts) (eat b ts) (Err rest) h) [
      | inl p ↦ let i : (u : List Lexeme) × (u ++ rest ≡ ts) × IsFront a u = stuck a ts rest p.1 in (i.0, i.1, (i.2.0, (inl i.2.1.0, i.2.1.1)))
      | inr p ↦ let i : (u : List Lexeme) × (u ++ rest ≡ ts) × IsFront b u = stuck b ts rest p.1 in (i.0, i.1, (i.2.0, (inr i.2.1.0, i.2.1.1)))
    ]
stuck (opt a) ts rest h =
    elim (chosen (starts a ts) (eat a ts) (Ok ts) (Err rest) h) [
      | inl p ↦ let i : (u : List Lexeme) × (u ++ rest ≡ ts) × IsFront a u = stuck a ts rest p.1 in (i.0, i.1, (i.2.0, (Some i.2.1.0, i.2.1.1)))
      | inr p ↦ cc
    ]
stuck (many a) ts rest h = stuck_many a (stuck a) (length ts) ts rest h
