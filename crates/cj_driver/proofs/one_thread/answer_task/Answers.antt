use Rattle.std.proofs.Common.{subst, sym}
use Rattle.cj_driver.specs.Outside.{outside}
use Rattle.cj_driver.specs.Answers.{Answers}
use Rattle.cj_driver.specs.Texts.{ReadsAs, Owes}
use Rattle.cj_driver.specs.declared.command.Task.{Task}
use Rattle.cj_driver.proofs.one_thread.answer_task.Goals as goal

pub returns-in-OnInput : goal.returns-in-OnInput
returns-in-OnInput g c =
    let P : Task → Type 0 = λ t. Answers (ReadsAs t) (Owes t)
    (outside (g.S.Source.left c.args.source.now) (g.S.Source.left c.answer_input.new.source) (g.K.Sink.written c.args.sink.now)
    (g.K.Sink.written c.answer_input.new.sink) (g.S.Source.faults c.args.source.now) (g.S.Source.faults c.answer_input.new.source)
    (g.K.Sink.faults c.args.sink.now) (g.K.Sink.faults c.answer_input.new.sink))
    c.answer_input.result in
    subst P (sym c.in-OnInput.is) c.answer_input.ensures

pub returns-in-OnReplay : goal.returns-in-OnReplay
returns-in-OnReplay g c =
    let P : Task → Type 0 = λ t. Answers (ReadsAs t) (Owes t)
    (outside (g.S.Source.left c.args.source.now) (g.S.Source.left c.answer_replay.new.source) (g.K.Sink.written c.args.sink.now)
    (g.K.Sink.written c.answer_replay.new.sink) (g.S.Source.faults c.args.source.now) (g.S.Source.faults c.answer_replay.new.source)
    (g.K.Sink.faults c.args.sink.now) (g.K.Sink.faults c.answer_replay.new.sink))
    c.answer_replay.result in
    subst P (sym c.in-OnReplay.is) c.answer_replay.ensures
