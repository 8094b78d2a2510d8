-- A value that goes no higher than a cap.
use Rattle.std.proofs.Common.{◌≡◌, ℕ, ◌+◌, ◌*◌, ◌-◌, ◌<◌, ◌≤◌, min, List, [], ◌∷◌, length, drop, get_or, arith, add-one, drop-cons}
use Rattle.std.proofs.Math.Seq.{drop-length}
use Rattle.cj_tokens.specs.Spellings.{value}

pub capped : (cap m n : ℕ) (bs : List ℕ) → min m cap ≡ min n cap → min (value m bs) cap ≡ min (value n bs) cap
unfolding value
capped cap m n [] h = h
capped cap m n (b ∷ bs) h = capped cap (10 * m + (b - 48)) (10 * n + (b - 48)) bs (omega arith)

pub magnitude_turn : (cap n : ℕ) (bs : List ℕ) (i : ℕ) → i < length bs →
    min (value n (drop i bs)) cap ≡ min (value (min (10 * n + (get_or bs i 0 - 48)) cap) (drop (i + 1) bs)) cap
unfolding value
magnitude_turn cap n bs i h =
    let m : ℕ = 10 * n + (get_or bs i 0 - 48) in
    let e : min (value m (drop (i + 1) bs)) cap ≡ min (value (min m cap) (drop (i + 1) bs)) cap = capped cap m (min m cap) (drop (i + 1) bs) (omega arith) in
    rw (add-one) (rw (drop-cons bs i 0) (rw add-one at e))

pub magnitude_end : (cap n : ℕ) (bs : List ℕ) → n ≤ cap → min (value n (drop (length bs) bs)) cap ≡ n
unfolding value
magnitude_end cap n bs h = rw (drop-length bs) (omega arith)
