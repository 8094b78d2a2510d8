-- The program of the tests: its first function has one parameter, and at least three labels.
use Rattle.std.specs.Prelude.{◌≡◌, ◌<◌}
use Rattle.cj_ir.specs.Program.{param_count, label_count}
use Rattle.cj_ir.specs.declared.language.FunId.{FunId}
use Rattle.cj_ir.specs.declared.language.Program.{Program}

abbrev pub main : FunId
main = record { 0 = 0 }

abbrev pub IsIncrement : Program → Type 0
IsIncrement p = (param_count p main ≡ 1) × (2 < label_count p main)
