-- The code of a note is the only one.
use Rattle.std.proofs.Common.{◌≡◌, ◌∙◌, sym, ap, ℕ, List, Option, Some, None}
use Rattle.cj_ir.specs.declared.language.FunId.{FunId}
use Rattle.cj_ir.specs.declared.language.Program.{Program}
use Rattle.cj_draft.specs.declared.code.Code.{Code}
use Rattle.cj_draft.specs.declared.passes.Pass.{Pass}
use Rattle.cj_draft.specs.declared.passes.Skipped.{Skipped}
use Rattle.cj_passes.specs.Pipeline.{IsPipeline}
use Rattle.cj_plan.specs.Plan.{planned}
use Rattle.cj_notes.specs.declared.notes.WorkNote.{WorkNote}
use Rattle.cj_notes.specs.declared.notes.WorkNote.TheVariants.{Published, Older, Full, TooLarge, NoneAsked, Taken}
use Rattle.cj_notes.specs.Jobs.{Job, job, IsMadeFor}
use Rattle.cj_notes.specs.Causes.{HasCode}

-- what the law of the pipeline says
abbrev pub IsUnique : Type 0
IsUnique = (P : Program) (f : FunId) (passes : List Pass) (one other : Code) (skips skips' : List (ℕ × Skipped)) → IsPipeline P f passes one skips
    → IsPipeline P f passes other skips' → (one ≡ other) × (skips ≡ skips')

module _ (law : IsUnique) (P : Program) where
  pub job_unique : (j : Job) (one other : Code) (skips skips' : List (ℕ × Skipped)) → IsMadeFor P j one skips → IsMadeFor P j other skips'
      → (one ≡ other) × (skips ≡ skips')
  job_unique j one other skips skips' h k = law P j.function (planned P j.function j.level j.snapshot) one other skips skips' h k

  pub note_unique : (note : WorkNote) (one other : Option Code) → HasCode P note one → HasCode P note other → one ≡ other
  note_unique (Published f level offset s skipped) (Some a) (Some b) h k = ap (λ c. Some c) (job_unique (job f level s) a b skipped skipped h.0 k.0).0
  note_unique (Published f level offset s skipped) (Some a) None h k = absurd k
  note_unique (Published f level offset s skipped) None other h k = absurd h
  note_unique (Older f level mine found s) (Some a) (Some b) h k = ap (λ c. Some c) (job_unique (job f level s) a b h.0.0 k.0.0 h.0.1 k.0.1).0
  note_unique (Older f level mine found s) (Some a) None h k = absurd k
  note_unique (Older f level mine found s) None other h k = absurd h
  note_unique (Full f level next need s) (Some a) (Some b) h k = ap (λ c. Some c) (job_unique (job f level s) a b h.0.0 k.0.0 h.0.1 k.0.1).0
  note_unique (Full f level next need s) (Some a) None h k = absurd k
  note_unique (Full f level next need s) None other h k = absurd h
  note_unique (TooLarge f level len s) (Some a) (Some b) h k = ap (λ c. Some c) (job_unique (job f level s) a b h.0.0 k.0.0 h.0.1 k.0.1).0
  note_unique (TooLarge f level len s) (Some a) None h k = absurd k
  note_unique (TooLarge f level len s) None other h k = absurd h
  note_unique NoneAsked one other h k = h ∙ sym k
  note_unique (Taken f found) one other h k = h ∙ sym k
