-- The empty context fits every function.
use Rattle.std.proofs.Common.{ℕ, ◌<◌, ◌≤◌, [], Option, Some, None, arith}
use Rattle.std.specs.Prelude.{IsSomeAnd, slice_get}
use Rattle.std.proofs.lemmas.List.Elements.{All-nil}
use Rattle.cj_ir.specs.declared.language.Function.{Function}
use Rattle.cj_ir.specs.declared.language.Program.{Program}
use Rattle.cj_draft.specs.declared.code.Code.{Code}
use Rattle.cj_draft.specs.WellNamed.{AreFactsFine}
use Rattle.cj_draft.specs.Sound.{Sound}
use Rattle.cj_draft.specs.Bodies.{IsSoundBody}

pub no_facts : (n : ℕ) → AreFactsFine n []
no_facts n = record { registers = All-nil (λ fact. fact.reg.0 < n); increasing = λ k h. absurd (omega arith) }

fits_any : (o : Option Function) (n : ℕ) → IsSomeAnd o (λ f. f.params ≤ n) → IsSomeAnd o (λ f. AreFactsFine f.params [])
fits_any None n h = absurd h
fits_any (Some f) n h = no_facts f.params

-- a code that is sound with no facts of its arguments
pub sound_alone : (P : Program) (code : Code) → Sound P [] code.function code → IsSoundBody P [] code
sound_alone P code sound =
    record { context_fits = fits_any (slice_get P.functions code.function.0) code.regs sound.named.params; sound = sound }
