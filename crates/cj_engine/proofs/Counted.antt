-- The same turns, by a count or an answer that is the same.
use Rattle.std.proofs.Common.{◌≡◌, subst, ℕ, List}
use Rattle.cj_ir.specs.declared.language.Program.{Program}
use Rattle.cj_base.specs.declared.machine.Turned.{Turned}
use Rattle.cj_calls.specs.declared.report.Look.{Look}
use Rattle.cj_machine.specs.Versions.{State, Codes}
use Rattle.cj_machine.specs.Marks.{Mark}
use Rattle.cj_engine.specs.Stretches.{Onward}

module _ {P : Program} {went : List Mark → Type 0} {codes : Codes} {trail : List Look} {s t : State} where
  pub onward_count : {m n : ℕ} {answer : Turned} → m ≡ n → Onward P went codes trail m s answer t → Onward P went codes trail n s answer t
  onward_count {m} {n} {answer} same o = subst (λ (k : ℕ). Onward P went codes trail k s answer t) same o

  pub onward_answer : {n : ℕ} {a b : Turned} → a ≡ b → Onward P went codes trail n s a t → Onward P went codes trail n s b t
  onward_answer {n} {a} {b} same o = subst (λ (x : Turned). Onward P went codes trail n s x t) same o
