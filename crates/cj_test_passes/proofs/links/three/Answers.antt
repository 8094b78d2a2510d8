use Rattle.std.proofs.Common.{lit<, [], ◌∷◌}
use Rattle.std.proofs.lemmas.List.Elements.{All-nil, All-cons}
use Rattle.cj_ir.specs.declared.language.Label.{Label}
use Rattle.cj_links.specs.EdgeTable.{IsInto, label_of}
use Rattle.cj_test_passes.proofs.links.three.Goals as goal

pub of-requires-clause-into : goal.of-requires-clause-into
of-requires-clause-into c =
    let into = IsInto 3 in
    let one : Label × Label = (label_of 0, label_of 1) in
    let two : Label × Label = (label_of 0, label_of 2) in
    let three : Label × Label = (label_of 1, label_of 2) in
    All-cons into one (two ∷ three ∷ []) (lit< tt)
    (All-cons into two (three ∷ []) (lit< tt)
    (All-cons into three [] (lit< tt)
    (All-nil into)))
