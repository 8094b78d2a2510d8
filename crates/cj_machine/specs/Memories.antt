-- The memory of a run.
use Rattle.std.specs.Prelude.{ℕ, zero, suc, List, Option, Some, None, ℤ}
use Rattle.cj_ir.specs.declared.language.Program.{Program}
use Rattle.cj_base.specs.Run.{Begun, Run, Going, Over, Lost, base_run}
use Rattle.cj_calls.specs.declared.report.Look.{Look}
use Rattle.cj_machine.specs.Versions.{Codes, Progress, Continues, Finishes, Undefined}
use Rattle.cj_machine.specs.VersionRuns.{version_run}

-- ---- the base run

-- the memory after a turn, which leaves it as it was where it ends the run
unfoldable pub memory_after : Run → List ℤ → List ℤ
memory_after (Going printed c) before = c.memory
memory_after (Over printed end turns) before = before
memory_after Lost before = before

-- the memory of the base run after n turns
unfoldable pub base_memory : Program → Begun → ℕ → List ℤ
base_memory P call zero = call.memory
base_memory P call (suc n) = memory_after (base_run P call (suc n)) (base_memory P call n)

-- ---- the versioned run

unfoldable pub memory_in : Progress → Option (List ℤ)
memory_in (Continues s) = Some s.memory
memory_in (Finishes end s) = Some s.memory
memory_in Undefined = None

-- the memory of the versioned run of a call over a trail, where no more turns are made
unfoldable pub version_memory : Program → Codes → List Look → Begun → Option (List ℤ)
version_memory P codes trail call = memory_in (version_run P codes trail call call.limit)
