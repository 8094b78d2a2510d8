-- What a note tells of its code, its version and its job.
use Rattle.std.proofs.Common.{◌≡◌, ◌∙◌, refl, sym, subst, arith, ℕ, ◌≤◌, ◌<◌, List, [], ◌∷◌, ◌++◌, Option, Some, None}
use Rattle.std.specs.Prelude.{All}
use Rattle.std.proofs.lemmas.Option.{same_Some}
use Rattle.cj_ir.specs.declared.language.FunId.{FunId}
use Rattle.cj_ir.specs.declared.language.Program.{Program}
use Rattle.cj_draft.specs.declared.code.Code.{Code}
use Rattle.cj_draft.specs.declared.passes.Skipped.{Skipped}
use Rattle.cj_profile.specs.declared.view.Read.{Read}
use Rattle.cj_profile.specs.declared.layout.Word.TheVariants as word
use Rattle.cj_profile.specs.declared.jobs.JobAnswer.TheVariants as answer
use Rattle.cj_profile.specs.declared.snapshot.Snapshot.{Snapshot}
use Rattle.cj_profile.specs.Reads.{raise, Keeps}
use Rattle.cj_profile.specs.Snapshots.{snapshot_loads}
use Rattle.cj_publish.specs.declared.view.View.{View}
use Rattle.cj_publish.specs.Seen.{SeenAt}
use Rattle.cj_publish.specs.Fetched.{main_of, HasVersion}
use Rattle.cj_plan.specs.Plan.{code_of, first_plan, second_plan, inline_passes}
use Rattle.cj_passes.specs.Pipeline.{IsPipeline}
use Rattle.cj_parts.specs.Parts.{Among}
use Rattle.cj_notes.specs.declared.notes.WorkNote.{WorkNote}
use Rattle.cj_notes.specs.declared.notes.WorkNote.TheVariants.{Published, Older, Full, TooLarge, NoneAsked, Taken}
use Rattle.cj_notes.specs.Jobs.{Job, job, job_of, IsMadeFor}
use Rattle.cj_notes.specs.Causes.{word_count, IsCodeOf, HasCode, words_in, claims, kept}
use Rattle.cj_notes.specs.Standing.{NoteStands}
use Rattle.cj_notes.specs.JobParts.{Takes, JobPart, MarkedPart, WarmPart, WorkPart}

module _ (P : Program) where
  -- ---- the code

  pub few_words : (note : WorkNote) (made : Option Code) → HasCode P note made → claims note (words_in made) ≤ 65536
  unfolding claims words_in
  few_words (Published f level offset s skipped) (Some code) h = h.1
  few_words (Published f level offset s skipped) None h = absurd h
  few_words (Older f level mine found s) (Some code) h = h.1
  few_words (Older f level mine found s) None h = absurd h
  few_words (Full f level next need s) made h = omega arith
  few_words (TooLarge f level len s) made h = omega arith
  few_words NoneAsked made h = omega arith
  few_words (Taken f found) made h = omega arith

  pub need_is : (f : FunId) (level next need : ℕ) (s : Snapshot) (code : Code) → HasCode P (Full f level next need s) (Some code)
      → (need ≡ word_count code) × (need ≤ 65536)
  need_is f level next need s code h = let few = h.1 in let is = h.2 in (is, omega arith)

  pub len_is : (f : FunId) (level len : ℕ) (s : Snapshot) (code : Code) → HasCode P (TooLarge f level len s) (Some code)
      → (len ≤ word_count code) × (65536 < len)
  len_is f level len s code h = let long = h.1.0 in let is = h.1.1 in (omega arith, omega arith)

  pub by_level : (f : FunId) (s : Snapshot) (code : Code) (skips : List (ℕ × Skipped))
      → (IsMadeFor P (job f 1 s) code skips → IsPipeline P f (first_plan (code_of P f) s) code skips)
      × (IsMadeFor P (job f 2 s) code skips → IsPipeline P f (second_plan P f (code_of P f) s) code skips)
      × (IsMadeFor P (job f 3 s) code skips → IsPipeline P f (inline_passes P f (code_of P f)) code skips)
  by_level f s code skips = (λ h. h, λ h. h, λ h. h)

  -- ---- the version

  pub version_there : (v : View) (f : FunId) (level offset : ℕ) (s : Snapshot) (skipped : List (ℕ × Skipped)) (made : Option Code)
      → NoteStands P v (record { note = Published f level offset s skipped; code = made })
      → (code : Code) × (made ≡ Some code) × IsMadeFor P (job f level s) code skipped × HasVersion v (main_of f) offset code
  version_there v f level offset s skipped (Some code) h = (code, refl, h.has_code.0, h.shown)
  version_there v f level offset s skipped None h = absurd h.has_code

  pub newer_there : (v : View) (f : FunId) (level mine found : ℕ) (s : Snapshot) (made : Option Code)
      → NoteStands P v (record { note = Older f level mine found s; code = made })
      → (code : Code) × (made ≡ Some code) × IsCodeOf P (job f level s) code × (mine < found) × SeenAt v (main_of f) found
  newer_there v f level mine found s (Some code) h = (code, refl, h.has_code.0, h.has_code.2, h.shown)
  newer_there v f level mine found s None h = absurd h.has_code

  -- ---- the job

  abbrev pub TakesAndReads : Job → List Read → Type 0
  TakesAndReads j rs = (front : List Read) × (rest : List Read) × Takes P (answer.Job j.function j.level) front
      × All Keeps rest × Among (snapshot_loads j.function j.snapshot) rest × (rs ≡ front ++ rest)

  of_job : (j k : Job) (rs : List Read) → Some j ≡ Some k → JobPart P j rs → TakesAndReads k rs
  of_job j k rs e h =
      subst (λ (x : Job). TakesAndReads x rs) (same_Some j k e) (h.0, h.1, h.2, h.3.keep, h.3.loads, h.4)

  pub own_snapshot : (note : WorkNote) (j : Job) (rs : List Read) → job_of note ≡ Some j → WorkPart P note rs → TakesAndReads j rs
  unfolding job_of
  own_snapshot (Published f level offset s skipped) j rs e h = of_job (job f level s) j rs e h
  own_snapshot (Older f level mine found s) j rs e h = of_job (job f level s) j rs e h
  own_snapshot (Full f level next need s) j rs e h = of_job (job f level s) j rs e h
  own_snapshot (TooLarge f level len s) j rs e h = of_job (job f level s) j rs e h
  own_snapshot NoneAsked j rs e h = let never : None ≡ Some j = e in absurd cc
  own_snapshot (Taken f found) j rs e h = let never : None ≡ Some j = e in absurd cc

  pub warm_snapshot : (note : WorkNote) (j : Job) (rs : List Read) → job_of note ≡ Some j → WarmPart P note rs
      → (found : ℕ) × (rest : List Read) × All Keeps rest × Among (snapshot_loads j.function j.snapshot) rest
      × (rs ≡ (raise (word.Taken j.function) found j.level ∷ []) ++ rest)
  warm_snapshot note j rs e h =
      let k : MarkedPart P j rs = subst (λ (x : Job). MarkedPart P x rs) (same_Some h.0 j (sym h.1 ∙ e)) h.2 in
      (k.0, k.1, k.2.keep, k.2.loads, k.3)

-- a worker keeps the notes that have a job
pub kept_has_job : (note : WorkNote) → ((j : Job) → job_of note ≡ Some j → kept note ≡ note ∷ []) × (job_of note ≡ None → kept note ≡ [])
unfolding kept job_of
kept_has_job (Published f level offset s skipped) = (λ j e. refl, λ e. let never : Some (job f level s) ≡ None = e in absurd cc)
kept_has_job (Older f level mine found s) = (λ j e. refl, λ e. let never : Some (job f level s) ≡ None = e in absurd cc)
kept_has_job (Full f level next need s) = (λ j e. refl, λ e. let never : Some (job f level s) ≡ None = e in absurd cc)
kept_has_job (TooLarge f level len s) = (λ j e. refl, λ e. let never : Some (job f level s) ≡ None = e in absurd cc)
kept_has_job NoneAsked = (λ j e. let never : None ≡ Some j = e in absurd cc, λ e. refl)
kept_has_job (Taken f found) = (λ j e. let never : None ≡ Some j = e in absurd cc, λ e. refl)
