-- The steps that a seat makes, and those of each call.
use Rattle.std.specs.Prelude.{◌≡◌, ◌≢◌, ℕ, suc, ◌+◌, ◌%◌, ◌^◌, max, List, [], ◌∷◌, ◌++◌, Some, None, ◌⊎◌, ℤ}
use Rattle.cj_ir.specs.declared.language.FunId.{FunId}
use Rattle.cj_ir.specs.Values.{value_word}
use Rattle.cj_profile.specs.Words.{number}
use Rattle.cj_profile.specs.declared.layout.Word.{Word}
use Rattle.cj_profile.specs.declared.layout.Word.TheVariants.{Calls, Last, Agreed}
use Rattle.cj_profile.specs.declared.view.Read.{Read}

-- a load of the word, which found that value
abbrev pub load : Word → ℕ → Read
load w found = record { word = number w; found = Some found; left = found }

-- a store of that value
abbrev pub store : Word → ℕ → Read
store w value = record { word = number w; found = None; left = value }

-- a fetch_add of 1
abbrev pub add_one : Word → ℕ → Read
add_one w found = record { word = number w; found = Some found; left = (found + 1) % 2 ^ 64 }

-- a fetch_max
abbrev pub raise : Word → ℕ → ℕ → Read
raise w found to = record { word = number w; found = Some found; left = max found to }

-- a compare_exchange that succeeded, and one that failed
abbrev pub exchange : Word → ℕ → ℕ → Read
exchange w found to = record { word = number w; found = Some found; left = to }

abbrev pub miss : Word → ℕ → Read
miss w found = record { word = number w; found = Some found; left = found }

-- the step left the word as it found it
abbrev pub Keeps : Read → Type 0
Keeps r = r.found ≡ Some r.left

-- an argument that equals the last one is counted, and another takes its place
abbrev pub ParamPart : FunId → ℕ → ℤ → List Read → Type 0
ParamPart f param arg rs =
    ((agreed : ℕ) × (rs ≡ load (Last f param) (value_word arg) ∷ add_one (Agreed f param) agreed ∷ []))
    ⊎ ((last : ℕ) × (last ≢ value_word arg)
    × (rs ≡ load (Last f param) last ∷ store (Last f param) (value_word arg) ∷ store (Agreed f param) 1 ∷ []))

-- these arguments, of the parameters from that one on
abbrev pub ParamsPart : FunId → ℕ → List ℤ → List Read → Type 0
ParamsPart f param [] rs = rs ≡ []
ParamsPart f param (arg ∷ args) rs =
    (part : List Read) × (rest : List Read) × ParamPart f param arg part × ParamsPart f (suc param) args rest × (rs ≡ part ++ rest)

-- an entry of the function, which found that count of calls
abbrev pub EnteredPart : FunId → List ℤ → ℕ → List Read → Type 0
EnteredPart f args found rs =
    (params : List Read) × ParamsPart f 0 args params × (rs ≡ add_one (Calls f) found ∷ params)
