-- What a worker's calls do, from the job that was done.
use Rattle.std.proofs.Common.{◌≡◌, sym, subst, ℕ, List, [], ◌∷◌, ◌++◌}
use Rattle.std.specs.Prelude.{Some, None, All}
use Rattle.std.proofs.lemmas.Option.{same_Some}
use Rattle.cj_ir.specs.declared.language.FunId.{FunId}
use Rattle.cj_ir.specs.declared.language.Program.{Program}
use Rattle.cj_profile.specs.declared.view.Read.{Read}
use Rattle.cj_profile.specs.declared.layout.Word.TheVariants as word
use Rattle.cj_profile.specs.declared.jobs.JobAnswer.TheVariants as answer
use Rattle.cj_profile.specs.Reads.{raise, Keeps}
use Rattle.cj_publish.specs.declared.view.View.{View}
use Rattle.cj_parts.specs.Calls.{GainsPart}
use Rattle.cj_notes.specs.declared.notes.WorkNote.{WorkNote}
use Rattle.cj_notes.specs.declared.notes.WorkNote.TheVariants.{Published, Older, Full, TooLarge, NoneAsked, Taken}
use Rattle.cj_notes.specs.Jobs.{Job, job, job_of}
use Rattle.cj_notes.specs.JobParts.{LooksAt, Takes, TakesFirst, JobPart, Marks, MarkedPart, WorkPart}
use Rattle.cj_notes.specs.Works.{JobDone, WorkedOne, Warmed, WorkFailed, WarmFailed}
use Rattle.cj_notes.proofs.Looking.{takes_first, marks_first}
use Rattle.cj_notes.proofs.Working.{idle, late}

-- the part of a job is the part of the work whose note tells of it
work_part : (P : Program) (note : WorkNote) (j : Job) (rs : List Read) → job_of note ≡ Some j → JobPart P j rs → WorkPart P note rs
unfolding job_of
work_part P (Published f level offset s skipped) j rs e h = subst (λ (x : Job). JobPart P x rs) (sym (same_Some (job f level s) j e)) h
work_part P (Older f level mine found s) j rs e h = subst (λ (x : Job). JobPart P x rs) (sym (same_Some (job f level s) j e)) h
work_part P (Full f level next need s) j rs e h = subst (λ (x : Job). JobPart P x rs) (sym (same_Some (job f level s) j e)) h
work_part P (TooLarge f level len s) j rs e h = subst (λ (x : Job). JobPart P x rs) (sym (same_Some (job f level s) j e)) h
work_part P NoneAsked j rs e h = let never : None ≡ Some j = e in absurd cc
work_part P (Taken f found) j rs e h = let never : None ≡ Some j = e in absurd cc

module _ (P : Program) (f : FunId) (level : ℕ) (v w : View) (old mid new : List Read) where
  -- a job was taken and done
  pub worked_one : (note : WorkNote) (front : List Read) → Takes P (answer.Job f level) front → mid ≡ old ++ front
      → JobDone P (record { function = f; level = level }) note v w mid new → WorkedOne P note v w old new
  worked_one note front takes first done =
      let j : Job = done.is_line.job in
      let g = takes_first P f level (LooksAt P j) old mid new front takes first done.reads in
      let by_level : TakesFirst P f j.level (LooksAt P j) g.0 = subst (λ (n : ℕ). TakesFirst P f n (LooksAt P j) g.0) (sym done.is_line.level) g.1 in
      let by_both : JobPart P j g.0 = subst (λ (x : FunId). TakesFirst P x j.level (LooksAt P j) g.0) (sym done.is_line.function) by_level in
      record { code = done.code; works = done.works; reads = (g.0, work_part P note j g.0 done.is_line.is_job by_both, g.2) }

  -- a level was marked and done
  pub warmed : (note : WorkNote) (found : ℕ) → mid ≡ old ++ raise (word.Taken f) found level ∷ []
      → JobDone P (record { function = f; level = level }) note v w mid new → Warmed P (record { function = f; level = level }) note v w old new
  warmed note found first done =
      let j : Job = done.is_line.job in
      let g = marks_first P f level (LooksAt P j) old mid new found first done.reads in
      let by_level : Marks f j.level (LooksAt P j) g.0 = subst (λ (n : ℕ). Marks f n (LooksAt P j) g.0) (sym done.is_line.level) g.1 in
      let by_both : MarkedPart P j g.0 = subst (λ (x : FunId). Marks x j.level (LooksAt P j) g.0) (sym done.is_line.function) by_level in
      record { code = done.code; works = done.works; is_line = done.is_line; reads = (g.0, (j, done.is_line.is_job, by_both), g.2) }

  -- there was no memory
  pub work_failed : (front : List Read) → Takes P (answer.Job f level) front → mid ≡ old ++ front → w ≡ v → GainsPart (All Keeps) mid new
      → WorkFailed P v w old new
  work_failed front takes first same lost =
      let g = takes_first P f level (All Keeps) old mid new front takes first lost in
      record { same = same; reads = (g.0, (f, level, g.1), g.2) }

  pub warm_failed : (found : ℕ) → mid ≡ old ++ raise (word.Taken f) found level ∷ [] → w ≡ v → GainsPart (All Keeps) mid new
      → WarmFailed (record { function = f; level = level }) v w old new
  warm_failed found first same lost = record { same = same; reads = marks_first P f level (All Keeps) old mid new found first lost }

module _ (P : Program) (v : View) (old new : List Read) (free : v.claim ≡ None) (front : List Read) (gains : new ≡ old ++ front) where
  -- there was no job
  pub none_asked : Takes P answer.NoneAsked front → WorkedOne P NoneAsked v v old new
  none_asked takes = record { code = None; works = idle P v free; reads = (front, takes, gains) }

  pub was_taken : (f : FunId) (found : ℕ) → Takes P (answer.Taken f found) front → WorkedOne P (Taken f found) v v old new
  was_taken f found takes = record { code = None; works = late P f found v free; reads = (front, takes, gains) }
