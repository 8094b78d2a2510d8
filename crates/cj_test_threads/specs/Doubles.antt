-- The programs of the tests: they have one function, which in one of them has one parameter.
use Rattle.std.specs.Prelude.{◌≡◌, length}
use Rattle.cj_ir.specs.Program.{param_count}
use Rattle.cj_ir.specs.declared.language.FunId.{FunId}
use Rattle.cj_ir.specs.declared.language.Program.{Program}

abbrev pub main : FunId
main = record { 0 = 0 }

abbrev pub HasMain : Program → Type 0
HasMain P = length P.functions ≡ 1

abbrev pub HasDouble : Program → Type 0
HasDouble P = HasMain P × (param_count P main ≡ 1)
