-- The part of a job, from what the calls of the profile say.
use Rattle.std.proofs.Common.{◌≡◌, ◌∙◌, refl, sym, ap, subst, ℕ, List, [], ◌∷◌, ◌++◌, append_assoc}
use Rattle.std.specs.Prelude.{All}
use Rattle.std.proofs.lemmas.List.{append_cancel_left}
use Rattle.cj_ir.specs.declared.language.FunId.{FunId}
use Rattle.cj_ir.specs.declared.language.Program.{Program}
use Rattle.cj_profile.specs.declared.view.Read.{Read}
use Rattle.cj_profile.specs.declared.layout.Word.TheVariants as word
use Rattle.cj_profile.specs.declared.jobs.JobAnswer.TheVariants as answer
use Rattle.cj_profile.specs.declared.snapshot.Snapshot.{Snapshot}
use Rattle.cj_profile.specs.Reads.{raise, Keeps}
use Rattle.cj_profile.specs.Snapshots.{snapshot_loads, FitsFunction}
use Rattle.cj_parts.specs.Parts.{Among}
use Rattle.cj_parts.specs.Calls.{GainsPart}
use Rattle.cj_notes.specs.Jobs.{job}
use Rattle.cj_notes.specs.JobParts.{LooksAt, Marks, Takes, TakesFirst}

-- a list stands in itself, in order
pub among_self : {A : Type 0} (xs : List A) → Among xs xs
among_self [] = tt
among_self (x ∷ xs) = ([], xs, refl, among_self xs)

module _ (P : Program) (f : FunId) (level : ℕ) where
  -- a snapshot changes nothing
  pub looks_at : (s : Snapshot) (old new part : List Read) → FitsFunction P f s → new ≡ old ++ snapshot_loads f s → new ≡ old ++ part → All Keeps part
      → GainsPart (LooksAt P (job f level s)) old new
  looks_at s old new part fits loads gains keep =
      let same : part ≡ snapshot_loads f s = append_cancel_left old part (snapshot_loads f s) (sym gains ∙ loads) in
      (snapshot_loads f s, record { fits = fits; keep = subst (All Keeps) same keep; loads = among_self (snapshot_loads f s) }, loads)

  module _ (IsRest : List Read → Type 0) (old mid new : List Read) where
    -- after a job was taken
    pub takes_first : (front : List Read) → Takes P (answer.Job f level) front → mid ≡ old ++ front → GainsPart IsRest mid new
        → GainsPart (TakesFirst P f level IsRest) old new
    takes_first front takes first rest =
        (front ++ rest.0, (front, rest.0, takes, rest.1, refl), rest.2 ∙ ap (λ (l : List Read). l ++ rest.0) first ∙ append_assoc old front rest.0)

    -- after a level was marked
    pub marks_first : (found : ℕ) → mid ≡ old ++ raise (word.Taken f) found level ∷ [] → GainsPart IsRest mid new → GainsPart (Marks f level IsRest) old new
    marks_first found first rest =
        let mark : Read = raise (word.Taken f) found level in
        (mark ∷ rest.0, (found, rest.0, rest.1, refl), rest.2 ∙ ap (λ (l : List Read). l ++ rest.0) first ∙ append_assoc old (mark ∷ []) rest.0)
