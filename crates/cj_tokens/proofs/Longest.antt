-- The token at the front of some bytes is the longest there: with more of the bytes it is still that one.
use Rattle.std.proofs.Common.{◌≡◌, ℕ, zero, suc, ◌+◌, ◌<◌, ◌≤◌, Bool, true, false, cond, List, [], ◌∷◌, length, take, drop, refl, ap, arith}
use Rattle.std.proofs.lemmas.Bool.Decides.{nat_tests}
use Rattle.std.specs.Prelude.{◌&&◌, nat_lt}
use Rattle.std.specs.Char.{is_ascii_digit}
use Rattle.std.specs.List.{prefix_len}
use Rattle.cj_ir.specs.Texts.{is_letter, is_letter_or_digit, is_text_byte}
use Rattle.cj_tokens.specs.Bytes.{is_minus, is_greater, is_quote, begins, is_closed}
use Rattle.cj_tokens.specs.Spellings.{begins_number}
use Rattle.cj_tokens.specs.Scan.{size_of}
use Rattle.cj_tokens.proofs.Found.{sized}

begins_front : (p : ℕ → Bool) (m : ℕ) (bs : List ℕ) → begins p (take (suc m) bs) ≡ begins p bs
begins_front p m [] = refl
begins_front p m (b ∷ bs) = refl

-- a run that stops in the front stops there
run_front : (p : ℕ → Bool) (m : ℕ) (bs : List ℕ) → prefix_len p bs < m → prefix_len p (take m bs) ≡ prefix_len p bs
run_front p zero bs h = absurd (omega arith)
run_front p (suc m) [] h = refl
run_front p (suc m) (b ∷ bs) h = go (p b) (run_front p m bs) h
  where
    go : (v : Bool) → (prefix_len p bs < m → prefix_len p (take m bs) ≡ prefix_len p bs) → cond v (1 + prefix_len p bs) 0 < suc m →
        cond v (1 + prefix_len p (take m bs)) 0 ≡ cond v (1 + prefix_len p bs) 0
    go true f w = let i : prefix_len p (take m bs) ≡ prefix_len p bs = f (omega arith) in rw i refl
    go false f w = refl

begins_later : (p : ℕ → Bool) (k m : ℕ) (bs : List ℕ) → k < m → begins p (drop k (take m bs)) ≡ begins p (drop k bs)
begins_later p k zero bs h = absurd (omega arith)
begins_later p zero (suc m) bs h = begins_front p m bs
begins_later p (suc k) (suc m) [] h = refl
begins_later p (suc k) (suc m) (b ∷ bs) h = begins_later p k m bs (omega arith)

-- a run past the front has all of it
run_over : (p : ℕ → Bool) (m : ℕ) (bs : List ℕ) → m ≤ prefix_len p bs → begins is_quote (drop (prefix_len p (take m bs)) (take m bs)) ≡ false
run_over p zero bs h = refl
run_over p (suc m) [] h = refl
run_over p (suc m) (b ∷ bs) h = go (p b) (run_over p m bs) h
  where
    go : (v : Bool) → (m ≤ prefix_len p bs → begins is_quote (drop (prefix_len p (take m bs)) (take m bs)) ≡ false) → suc m ≤ cond v (1 + prefix_len p bs) 0 →
        begins is_quote (drop (cond v (1 + prefix_len p (take m bs)) 0) (b ∷ take m bs)) ≡ false
    go true f w =
        let e : 1 + prefix_len p (take m bs) ≡ suc (prefix_len p (take m bs)) = omega arith in
        rw e (f (omega arith))
    go false f w = absurd (omega arith)

quoted : (m : ℕ) (bs : List ℕ) (v : Bool) → cond (v && is_closed bs) (suc (suc (prefix_len is_text_byte bs))) 1 ≤ m →
    cond (v && is_closed (take m bs)) (suc (suc (prefix_len is_text_byte (take m bs)))) 1 ≡ cond (v && is_closed bs) (suc (suc (prefix_len is_text_byte bs))) 1
quoted m bs false h = refl
quoted m bs true h = go (nat_lt (prefix_len is_text_byte bs) m) refl
  where
    over : (c : Bool) → m ≤ prefix_len is_text_byte bs → cond c (suc (suc (prefix_len is_text_byte bs))) 1 ≤ m →
        1 ≡ cond c (suc (suc (prefix_len is_text_byte bs))) 1
    over true w h = absurd (omega arith)
    over false w h = refl

    go : (c : Bool) → nat_lt (prefix_len is_text_byte bs) m ≡ c → cond (is_closed (take m bs)) (suc (suc (prefix_len is_text_byte (take m bs)))) 1
        ≡ cond (is_closed bs) (suc (suc (prefix_len is_text_byte bs))) 1
    go true e =
        let l : prefix_len is_text_byte bs < m = grind (arith, nat_tests) in
        let r : prefix_len is_text_byte (take m bs) ≡ prefix_len is_text_byte bs = run_front is_text_byte m bs l in
        let q : begins is_quote (drop (prefix_len is_text_byte bs) (take m bs))
        ≡ begins is_quote (drop (prefix_len is_text_byte bs) bs) = begins_later is_quote (prefix_len is_text_byte bs) m bs l in
        rw (r, q) refl
    go false e =
        let l : m ≤ prefix_len is_text_byte bs = grind (arith, nat_tests) in
        let q : is_closed (take m bs) ≡ false = run_over is_text_byte m bs l in
        rw q (over (is_closed bs) l h)

each : (c : Bool) (m x y u v : ℕ) → cond c x y ≤ m → (x ≤ m → u ≡ x) → (y ≤ m → v ≡ y) → cond c u v ≡ cond c x y
each true m x y u v h f g = f h
each false m x y u v h f g = g h

run_stays : (p : ℕ → Bool) (m : ℕ) (bs : List ℕ) → suc (prefix_len p bs) ≤ m → suc (prefix_len p (take m bs)) ≡ suc (prefix_len p bs)
run_stays p m bs h = ap (λ k. suc k) (run_front p m bs h)

stays : (b m : ℕ) (bs : List ℕ) → size_of (b ∷ bs) ≤ suc m → size_of (b ∷ take (suc m) bs) ≡ size_of (b ∷ bs)
unfolding size_of
stays b m bs h =
    let d : begins is_ascii_digit (take (suc m) bs) ≡ begins is_ascii_digit bs = begins_front is_ascii_digit m bs in
    let g : begins is_greater (take (suc m) bs) ≡ begins is_greater bs = begins_front is_greater m bs in
    rw (d, g) (each (is_letter b) (suc m) _ _ _ _ h (run_stays is_letter_or_digit (suc m) bs) (λ i.
    each (begins_number b bs) (suc m) _ _ _ _ i (run_stays is_ascii_digit (suc m) bs) (λ j.
    each (is_minus b && begins is_greater bs) (suc m) _ _ _ _ j (λ _. refl) (λ k. quoted (suc m) bs (is_quote b) k))))

-- No longer front of the bytes is a token.
pub longest : (n : ℕ) (bytes : List ℕ) → size_of bytes < n → n ≤ length bytes → size_of (take n bytes) ≡ size_of bytes
longest zero bytes h l = absurd (omega arith)
longest (suc n) [] h l = absurd (omega arith)
longest (suc zero) (b ∷ bs) h l = let k : (k : ℕ) × (size_of (b ∷ bs) ≡ suc k) × (k ≤ length bs) = sized b bs in absurd (omega (arith, k.1))
longest (suc (suc m)) (b ∷ bs) h l = stays b m bs (omega arith)
