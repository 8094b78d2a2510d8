-- The loop of taking a job: functions that were passed by, then what came of the rest.
use Rattle.std.proofs.Common.{◌≡◌, ℕ, zero, suc, ⊎_elim, ap, length, ◌+◌, ◌-◌, ◌<◌, ◌≤◌, List, [], ◌++◌, inl, inr, refl, sym, subst, arith}
use Rattle.cj_ir.specs.declared.language.FunId.{FunId}
use Rattle.cj_ir.specs.declared.language.Program.{Program}
use Rattle.cj_profile.specs.declared.jobs.JobAnswer.{JobAnswer}
use Rattle.cj_profile.specs.declared.jobs.JobAnswer.TheVariants.{Job, NoneAsked, Taken}
use Rattle.cj_profile.specs.declared.view.Read.{Read}
use Rattle.cj_profile.specs.Jobs.{Exchanges, IsPassed, Answers, TakesJob, IsAnswerOf}

abbrev pub numbered : ℕ → FunId
numbered k = record { 0 = k }

pub takes_next : (n k : ℕ) (answer : JobAnswer) (part rest : List Read) → k < n → IsPassed (numbered k) part → TakesJob (n - (k + 1)) (k + 1) answer rest →
    TakesJob (n - k) k answer (part ++ rest)
takes_next n k answer part rest lt one more =
    let e : n - k ≡ suc (n - (k + 1)) = omega arith in
    let s : k + 1 ≡ suc k = omega arith in
    subst (λ m. TakesJob m k answer (part ++ rest)) (sym e) (inr (part, rest, one, subst (λ j. TakesJob (n - (k + 1)) j answer rest) s more, refl))

pub takes_here : (n k : ℕ) (answer : JobAnswer) (part : List Read) → k < n → Answers (numbered k) answer part → TakesJob (n - k) k answer part
takes_here n k answer part lt one =
    let e : n - k ≡ suc (n - (k + 1)) = omega arith in subst (λ m. TakesJob m k answer part) (sym e) (inl one)

pub takes_none : (n k : ℕ) → n ≤ k → TakesJob (n - k) k NoneAsked []
takes_none n k le = let e : n - k ≡ 0 = omega arith in subst (λ m. TakesJob m k NoneAsked []) (sym e) (refl, refl)

answer_of : (p : Program) (k asked taken : ℕ) (answer : JobAnswer) (r : Read) → k < length p.functions → asked ≤ 3 → taken < asked →
    Exchanges (numbered k) asked taken answer r → IsAnswerOf p answer
answer_of p k asked taken (Job g level) r lt most above e = let z = ap (λ (f : FunId). f.0) e.0 in let same = e.1 in (omega arith, omega arith, omega arith)
answer_of p k asked taken NoneAsked r lt most above e = elim e [ ]
answer_of p k asked taken (Taken g found) r lt most above e = let z = ap (λ (f : FunId). f.0) e.0 in omega arith

-- what is answered is a function's
pub answers_of : (p : Program) (count next : ℕ) (answer : JobAnswer) (rs : List Read) → next + count ≤ length p.functions → TakesJob count next answer rs →
    IsAnswerOf p answer
answers_of p zero next answer rs le t = subst (IsAnswerOf p) (sym t.0) tt
answers_of p (suc count) next answer rs le t =
    let lt : next < length p.functions = omega arith in
    let more : suc next + count ≤ length p.functions = omega arith in
    ⊎_elim
    (λ (a : Answers (numbered next) answer rs). answer_of p next a.0 a.1 answer a.2 lt a.3 a.4 a.5)
    (λ (b : (part : List Read) × (rest : List Read) × IsPassed (numbered next) part × TakesJob count (suc next) answer rest × (rs ≡ part ++ rest)). answers_of
    p count (suc next) answer b.1 more b.3)
    t
