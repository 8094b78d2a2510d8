-- Readers of many items, turn by turn.
use Rattle.std.proofs.Common.{◌≡◌, ℕ, zero, suc, ◌<◌, ◌≤◌, Bool, true, false, cond, inl, inr, List, [], ◌∷◌, ◌++◌, length, Ok, Err, refl, ap, sym, ◌∙◌}
use Rattle.std.proofs.Common.{append_assoc, arith}
use Rattle.std.specs.Prelude.{map, flat_map}
use Rattle.std.proofs.lemmas.List.{append-nil}
use Rattle.std.proofs.lemmas.Bool.{cases_Bool}
use Rattle.cj_tokens.specs.Lexemes.{Lexeme, is_terminal}
use Rattle.cj_tokens.specs.Passing.{front, behind}
use Rattle.cj_tokens.specs.declared.terminal.Terminal.{Terminal}
use Rattle.cj_tokens.specs.declared.terminal.Terminal.TheVariants as terminal
use Rattle.cj_tokens.specs.declared.refusal.Refused.{Refused}
use Rattle.cj_grammar.specs.OneAhead.{◌>>=◌}
use Rattle.cj_grammar.specs.Reading.{each_offends}
use Rattle.cj_grammar.specs.Readers.{Read, reads}
use Rattle.cj_script.specs.Reading.{judged, numbers_at, behind_numbers, many_at, all_at}
use Rattle.cj_grammar.proofs.Eats.{known}

-- ---- lengths

pub behind_within : (ts : List Lexeme) → length (behind ts) ≤ length ts
unfolding behind
behind_within [] = omega arith
behind_within (t ∷ ts) = omega arith

-- ---- numbers

pub numbers_turn : (ts : List Lexeme) → is_terminal terminal.Number (front ts) ≡ true → numbers_at ts ≡ (front ts).number ∷ numbers_at (behind ts)
unfolding numbers_at front behind
numbers_turn [] h = cc
numbers_turn (t ∷ ts) h = rw h refl

pub numbers_stop : (ts : List Lexeme) → is_terminal terminal.Number (front ts) ≡ false → numbers_at ts ≡ []
unfolding numbers_at front
numbers_stop [] h = refl
numbers_stop (t ∷ ts) h = rw h refl

pub behind_turn : (ts : List Lexeme) → is_terminal terminal.Number (front ts) ≡ true → behind_numbers ts ≡ behind_numbers (behind ts)
unfolding behind_numbers front behind
behind_turn [] h = cc
behind_turn (t ∷ ts) h = rw h refl

pub behind_stop : (ts : List Lexeme) → is_terminal terminal.Number (front ts) ≡ false → behind_numbers ts ≡ ts
unfolding behind_numbers front
behind_stop [] h = refl
behind_stop (t ∷ ts) h = rw h refl

-- a number is a token
pub number_shorter : (ts : List Lexeme) → is_terminal terminal.Number (front ts) ≡ true → length (behind ts) < length ts
unfolding front behind
number_shorter [] h = cc
number_shorter (t ∷ ts) h = omega arith

-- ---- items one after another

-- Where each item takes a token, the number of tokens is enough.
module _ {X : Type 0} (more : List Lexeme → Bool) (one : List X → List Lexeme → Read X) (ends : more [] ≡ false)
    (short : (earlier : List X) (ts : List Lexeme) (x : X × List Lexeme) → more ts ≡ true → one earlier ts ≡ Ok x → length x.1 < length ts) where
  enough : (n m : ℕ) (earlier : List X) (ts : List Lexeme) → length ts ≤ n → length ts ≤ m → many_at more one n earlier ts ≡ many_at more one m earlier ts
  enough zero zero earlier ts h g = refl
  enough zero (suc m) earlier [] h g = rw ends refl
  enough zero (suc m) earlier (t ∷ ts) h g = absurd (omega arith)
  enough (suc n) zero earlier [] h g = rw ends refl
  enough (suc n) zero earlier (t ∷ ts) h g = absurd (omega arith)
  enough (suc n) (suc m) earlier ts h g = elim (cases_Bool (more ts)) [
    | inr b ↦ rw b refl
    | inl b ↦ rw b (elim (known (one earlier ts)) [
      | inl x ↦ let s : length x.0.1 < length ts = short earlier ts x.0 b x.1 in rw x.1 (enough n m (earlier ++ x.0.0 ∷ []) x.0.1 (omega arith) (omega arith))
      | inr e ↦ rw e.1 refl
    ])
  ]

  pub all_stops : (earlier : List X) (ts : List Lexeme) → more ts ≡ false → all_at more one earlier ts ≡ Ok (earlier, ts)
  unfolding all_at
  all_stops earlier [] b = refl
  all_stops earlier (t ∷ ts) b = rw b refl

  pub all_fails : (earlier : List X) (ts : List Lexeme) (e : Refused) → more ts ≡ true → one earlier ts ≡ Err e → all_at more one earlier ts ≡ Err e
  unfolding all_at
  all_fails earlier [] e b h = absurd (let d : true ≡ false = sym b ∙ ends in cc)
  all_fails earlier (t ∷ ts) e b h = rw (b, h) refl

  pub all_goes : (earlier : List X) (ts : List Lexeme) (x : X × List Lexeme) → more ts ≡ true → one earlier ts ≡ Ok x →
      all_at more one earlier ts ≡ all_at more one (earlier ++ x.0 ∷ []) x.1
  unfolding all_at
  all_goes earlier [] x b h = absurd (let d : true ≡ false = sym b ∙ ends in cc)
  all_goes earlier (t ∷ ts) x b h =
      let s : length x.1 < length (t ∷ ts) = short earlier (t ∷ ts) x b h in
      rw (b, h) (enough (length ts) (length x.1) (earlier ++ x.0 ∷ []) x.1 (omega arith) (omega arith))

  -- What is read of the tokens of items, where each reads as it means.
  pub all_reads : {T : Type 0} (spelled : T → List Lexeme) (offends : List X → T → List Refused) (means : T → X) (earlier : List X) (items : List T)
      (ts : List Lexeme)
      → ((earlier : List X) (t : T) (ts : List Lexeme) →
      (more (spelled t ++ ts) ≡ true) × (one earlier (spelled t ++ ts) ≡ reads (offends earlier t) (means t) ts))
      → more ts ≡ false
      → all_at more one earlier (flat_map spelled items ++ ts) ≡ reads (each_offends offends means earlier items) (earlier ++ map means items) ts
  all_reads spelled offends means earlier [] ts r m = rw append-nil (all_stops earlier ts m)
  all_reads {T} spelled offends means earlier (t ∷ items) ts r m =
      let us : List Lexeme = flat_map spelled items ++ ts in
      let regroup : (spelled t ++ flat_map spelled items) ++ ts ≡ spelled t ++ us = append_assoc (spelled t) (flat_map spelled items) ts in
      rw regroup (go (offends earlier t) refl (all_reads spelled offends means (earlier ++ means t ∷ []) items ts r m))
    where
      go : (es : List Refused) → offends earlier t ≡ es → all_at more one (earlier ++ means t ∷ []) (flat_map spelled items ++ ts)
          ≡ reads (each_offends offends means (earlier ++ means t ∷ []) items) ((earlier ++ means t ∷ []) ++ map means items) ts →
          all_at more one earlier (spelled t ++ (flat_map spelled items ++ ts))
          ≡ reads (offends earlier t ++ each_offends offends means (earlier ++ means t ∷ []) items) (earlier ++ (means t ∷ map means items)) ts
      go [] o ih =
          let us : List Lexeme = flat_map spelled items ++ ts in
          rw o (all_goes earlier (spelled t ++ us) (means t, us) (r earlier t us).0 ((r earlier t us).1 ∙ rw o refl)
          ∙ (ih ∙ rw append_assoc refl))
      go (f ∷ fs) o ih =
          let us : List Lexeme = flat_map spelled items ++ ts in
          rw o (all_fails earlier (spelled t ++ us) f (r earlier t us).0 ((r earlier t us).1 ∙ rw o refl))

-- ---- what is left

-- no more than n tokens are left
pub record Within (Y : Type 0) (n : ℕ) (read : Read Y) : Type 0 where
  pub within : (y : Y × List Lexeme) → read ≡ Ok y → length y.1 ≤ n

pub ok_within : {Y : Type 0} (a : Y) (n : ℕ) (ts : List Lexeme) → length ts ≤ n → Within Y n (Ok (a, ts))
ok_within a n ts h =
    record { within = λ y e. let g : (a, ts) ≡ y = cc in let f : ts ≡ y.1 = ap (λ p. p.1) g in rw (← f) h }

pub err_within : (Y : Type 0) (n : ℕ) (e : Refused) → Within Y n (Err e)
err_within Y n e = record { within = λ y h. cc }

pub judged_within : {X Y : Type 0} (es : List Refused) (x : X) (n : ℕ) (f : X → Read Y) → Within Y n (f x) → Within Y n (judged es x >>= f)
judged_within [] x n f h = h
judged_within {Y = Y} (e ∷ es) x n f h = err_within Y n e

pub then_within : {X Y : Type 0} (read : Read X) (m n : ℕ) (f : X × List Lexeme → Read Y) → Within X m read →
    ((x : X × List Lexeme) → length x.1 ≤ m → Within Y n (f x)) → Within Y n (read >>= f)
then_within (Ok x) m n f h g = g x (h.within x refl)
then_within {Y = Y} (Err e) m n f h g = err_within Y n e

pub cond_within : {Y : Type 0} (b : Bool) (n : ℕ) (one other : Read Y) → Within Y n one → Within Y n other → Within Y n (cond b one other)
cond_within true n one other h g = h
cond_within false n one other h g = g

pub behind_shorter : (k : Terminal) (ts : List Lexeme) → is_terminal k (front []) ≡ false → is_terminal k (front ts) ≡ true → length (behind ts) < length ts
unfolding front behind
behind_shorter k [] e h = absurd (let d : true ≡ false = sym h ∙ e in cc)
behind_shorter k (t ∷ ts) e h = omega arith
