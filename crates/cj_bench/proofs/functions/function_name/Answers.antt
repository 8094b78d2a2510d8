use Rattle.std.proofs.Common.{◌≡◌, ◌∙◌, sym, ap, subst}
use Rattle.std.specs.Prelude.{IsTrue, codes, ◌++◌}
use Rattle.cj_ir.specs.Texts.{is_name}
use Rattle.cj_bench.specs.Generated.{function_name}
use Rattle.cj_bench.proofs.Written.{is_function_name}
use Rattle.cj_bench.proofs.functions.function_name.Goals as goal

pub name_of-requires : goal.name_of-requires
unfolding function_name
name_of-requires c =
    let bytes : c.as_slice.result.now ≡ function_name c.args.index =
    c.as_slice.ensures.value
    ∙ c.in_ok-extend_from_slice.ensures.items
    ∙ ap (λ start. start ++ c.as_bytes.result.now) c.in_ok-bytes.ensures.items
    ∙ ap (λ digits. codes "f" ++ digits) (c.as_bytes.ensures.value ∙ c.format.ensures.text)
    in
    subst (λ bs. IsTrue (is_name bs)) (sym bytes) (is_function_name c.args.index c.requires)
