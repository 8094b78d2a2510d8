use Rattle.std.proofs.Common.{◌<◌, lit<, [], ◌∷◌}
use Rattle.std.proofs.lemmas.List.Elements.{All-nil, All-cons}
use Rattle.cj_ir.specs.declared.language.Label.{Label}
use Rattle.cj_ir.specs.declared.language.Reg.{Reg}
use Rattle.cj_links.specs.EdgeTable.{label_of}
use Rattle.cj_links.specs.UseTable.{reg_of}
use Rattle.cj_test_passes.proofs.links.two_registers.Goals as goal

abbrev IsLow : Reg × Label → Type 0
IsLow x = x.0.0 < 2

pub of-requires-clause-within : goal.of-requires-clause-within
of-requires-clause-within c =
    let one : Reg × Label = (reg_of 0, label_of 0) in
    let two : Reg × Label = (reg_of 1, label_of 0) in
    let three : Reg × Label = (reg_of 0, label_of 2) in
    All-cons IsLow one (two ∷ three ∷ []) (lit< tt) (All-cons IsLow two (three ∷ []) (lit< tt) (All-cons IsLow three [] (lit< tt) (All-nil IsLow)))
