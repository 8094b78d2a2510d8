use Rattle.std.proofs.Common.{Ok, sym, ap, ◌∙◌, subst}
use Rattle.cj_ir.specs.declared.language.Program.{Program}
use Rattle.cj_tokens.specs.Left.{left}
use Rattle.cj_grammar.specs.Readers.{Fails, Read}
use Rattle.cj_reader.proofs.FineProgram.{program_is, read_fine}
use Rattle.cj_reader.proofs.Behind.{end_behind}
use Rattle.cj_reader.proofs.program.read_program.Goals as goal

pub returns-in-Err-clause-read : goal.returns-in-Err-clause-read
returns-in-Err-clause-read c = λ rest past.
    subst (λ (r : Read Program). Fails c.in-Err.error r) (program_is (left c.args.tokens.now) rest past) c.in-Err.ensures.reads

pub adopt-requires : goal.adopt-requires
adopt-requires c =
    read_fine (left c.args.tokens.now) c.in-Ok.program (left c.read_all.new.tokens) c.requires c.in-Ok.ensures.reads

pub returns-clause-read : goal.returns-clause-read
returns-clause-read c = λ rest past.
    sym (program_is (left c.args.tokens.now) rest past)
    ∙ (c.in-Ok.ensures.reads ∙ ap (λ (p : Program). let r : Read Program = Ok (p, left c.read_all.new.tokens) in r) (sym c.adopt.ensures))

pub returns-clause-end : goal.returns-clause-end
returns-clause-end c = end_behind (left c.args.tokens.now) c.in-Ok.program (left c.read_all.new.tokens) c.requires c.in-Ok.ensures.reads
