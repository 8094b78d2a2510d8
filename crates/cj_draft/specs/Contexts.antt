-- The contexts of slots: the facts of the arguments with which the versions in a slot of a function are entered.
use Rattle.std.specs.Prelude.{ℕ, zero, suc, ℤ, pos, negsuc, List, [], ◌∷◌}
use Rattle.cj_draft.specs.declared.facts.Fact.{Fact}

-- register 0, the first argument, has this value
abbrev pub first_is : ℤ → List Fact
first_is value = record { reg = record { 0 = 0 }; value = value } ∷ []

-- slot 0 is entered with any arguments, slots 1, 2 and 3 with a first argument of 0, 1 and -1; nothing is known in others
abbrev pub context_in : ℕ → List Fact
context_in zero = []
context_in (suc zero) = first_is (pos 0)
context_in (suc (suc zero)) = first_is (pos 1)
context_in (suc (suc (suc zero))) = first_is (negsuc 0)
context_in (suc (suc (suc (suc n)))) = []
