use Rattle.std.proofs.Common.{◌≡◌, ap, sym, ◌∙◌, true}
use Rattle.cj_driver.specs.Commands.{is_bench_number}
use Rattle.cj_driver.proofs.Numbers.{bench_read, bench_unread}
use Rattle.cj_driver.proofs.command.bench_of.Goals as goal

pub returns-in-Ok : goal.returns-in-Ok
returns-in-Ok c =
    let is : is_bench_number c.args.word.now ≡ true =
    sym (ap is_bench_number c.as_bytes.ensures.value) ∙ sym c.is_bench_number.ensures ∙ c.if-not-is_bench_number.false in
    bench_read c.args.word.now c.parse.result c.in-Ok.number is c.parse.ensures.value.0 c.in-Ok.is

pub returns-in-Err : goal.returns-in-Err
returns-in-Err c =
    let is : is_bench_number c.args.word.now ≡ true =
    sym (ap is_bench_number c.as_bytes.ensures.value) ∙ sym c.is_bench_number.ensures ∙ c.if-not-is_bench_number.false in
    bench_unread c.args.word.now c.parse.result c.in-Err.field-0 is c.parse.ensures.value.0 c.in-Err.is
