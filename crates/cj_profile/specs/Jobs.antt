-- The steps of taking a job.
use Rattle.std.specs.Prelude.{◌≡◌, ◌≢◌, ℕ, zero, suc, ◌<◌, ◌≤◌, List, [], ◌∷◌, ◌++◌, ◌⊎◌, Option, Some, None, length, ⊤}
use Rattle.cj_ir.specs.declared.language.FunId.{FunId}
use Rattle.cj_ir.specs.declared.language.Program.{Program}
use Rattle.cj_profile.specs.Reads.{load, exchange, miss}
use Rattle.cj_profile.specs.declared.layout.Word.TheVariants as word
use Rattle.cj_profile.specs.declared.view.Read.{Read}
use Rattle.cj_profile.specs.declared.jobs.JobAnswer.{JobAnswer}
use Rattle.cj_profile.specs.declared.jobs.JobAnswer.TheVariants.{Job, NoneAsked, Taken}

-- the asked and the taken level of a function, as loaded
abbrev pub levels : FunId → ℕ → ℕ → List Read
levels f asked taken = load (word.Asked f) asked ∷ load (word.Taken f) taken ∷ []

-- the exchange of the asked for the taken level, and what it answers
abbrev pub Exchanges : FunId → ℕ → ℕ → JobAnswer → Read → Type 0
Exchanges f asked taken (Job g level) r = (g ≡ f) × (level ≡ asked) × (r ≡ exchange (word.Taken f) taken asked)
Exchanges f asked taken NoneAsked r = ⊥
Exchanges f asked taken (Taken g found) r = (g ≡ f) × (found ≢ taken) × (r ≡ miss (word.Taken f) found)

-- a function of which no more is asked than taken is passed by
abbrev pub IsPassed : FunId → List Read → Type 0
IsPassed f rs = (asked : ℕ) × (taken : ℕ) × (asked ≤ 3) × (asked ≤ taken) × (rs ≡ levels f asked taken)

-- and of another the asked level is exchanged
abbrev pub Answers : FunId → JobAnswer → List Read → Type 0
Answers f answer rs =
    (asked : ℕ) × (taken : ℕ) × (r : Read) × (asked ≤ 3) × (taken < asked) × Exchanges f asked taken answer r × (rs ≡ levels f asked taken ++ r ∷ [])

abbrev pub TakesLevel : FunId → Option JobAnswer → List Read → Type 0
TakesLevel f None rs = IsPassed f rs
TakesLevel f (Some answer) rs = Answers f answer rs

-- that many functions are gone through in order, from this one on, up to the first that answers
abbrev pub TakesJob : ℕ → ℕ → JobAnswer → List Read → Type 0
TakesJob zero next answer rs = (answer ≡ NoneAsked) × (rs ≡ [])
TakesJob (suc count) next answer rs =
    let f : FunId = record { 0 = next } in
    Answers f answer rs
    ⊎ ((part : List Read) × (rest : List Read) × IsPassed f part × TakesJob count (suc next) answer rest × (rs ≡ part ++ rest))

-- an answer names a function of the program, and a job has a level from 1 to 3
abbrev pub IsAnswerOf : Program → JobAnswer → Type 0
IsAnswerOf p (Job f level) = (f.0 < length p.functions) × (1 ≤ level) × (level ≤ 3)
IsAnswerOf p NoneAsked = ⊤
IsAnswerOf p (Taken f found) = f.0 < length p.functions
