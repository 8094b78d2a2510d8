-- Small cases of the definitions.
use Rattle.std.proofs.Common.{◌≡◌, refl, ℕ, [], ◌∷◌}
use Rattle.cj_records.specs.Chains.{flat, share, alone_each, numbers_from, dealt}

-- five calls, dealt to two callers
five : dealt {A = ℕ} 2 (alone_each {A = ℕ} (10 ∷ 11 ∷ 12 ∷ 13 ∷ 14 ∷ [])) ≡ (10 ∷ 12 ∷ 14 ∷ []) ∷ (11 ∷ 13 ∷ []) ∷ []
unfolding dealt alone_each flat share numbers_from
five = refl

-- three chains, dealt to two callers
three : dealt {A = ℕ} 2 ((10 ∷ 11 ∷ []) ∷ (12 ∷ []) ∷ (13 ∷ 14 ∷ []) ∷ []) ≡ (10 ∷ 11 ∷ 13 ∷ 14 ∷ []) ∷ (12 ∷ []) ∷ []
unfolding dealt flat share numbers_from
three = refl
