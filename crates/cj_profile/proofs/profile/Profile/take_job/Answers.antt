use Rattle.std.proofs.Common.{◌≡◌, ◌<◌, ◌≤◌, ℕ, [], ◌++◌, length, sym, ap, ◌∙◌, subst, append_assoc, append-nil, arith}
use Rattle.std.proofs.lemmas.List.{length-map}
use Rattle.cj_profile.specs.declared.jobs.JobAnswer.TheVariants.{NoneAsked}
use Rattle.cj_profile.specs.Jobs.{TakesLevel, TakesJob}
use Rattle.cj_profile.specs.Shapes.{shape_of}
use Rattle.cj_profile.proofs.Adding.{adds_on, same_on}
use Rattle.cj_profile.proofs.Taking.{numbered, takes_next, takes_here, takes_none, answers_of}
use Rattle.cj_profile.proofs.profile.Profile.take_job.Goals as goal

pub returns-in-Some-clause-reads : goal.returns-in-Some-clause-reads
returns-in-Some-clause-reads c =
    let i = c.loop-number.invariant in
    let n : ℕ = length c.args.self.now.table.shared.key.functions in
    let k : ℕ = c.loop-number.number in
    let part = c.take_level.ensures.reads in
    let count : length c.items-number-end.result.now ≡ n = ap length c.items-number-end.ensures
    ∙ (ap length c.args.self.now.shaped ∙ length-map c.args.self.now.table.shared.key.functions shape_of) in
    let lt : k < n = omega arith in (
      i.reads.0 ++ part.0,
      i.reads.2 c.in-Some.answer part.0 (takes_here n k c.in-Some.answer part.0 lt (subst (λ o. TakesLevel (numbered k) o part.0) c.in-Some.is part.1)),
      adds_on c.args.seat.now c.loop-number.seat c.take_level.new.seat i.reads.0 part.0 i.reads.1 part.2,
    )

pub loop-number-preserved : goal.loop-number-preserved
loop-number-preserved c =
    let i = c.loop-number.invariant in
    let n : ℕ = length c.args.self.now.table.shared.key.functions in
    let k : ℕ = c.loop-number.number in
    let part = c.take_level.ensures.reads in
    let count : length c.items-number-end.result.now ≡ n = ap length c.items-number-end.ensures
    ∙ (ap length c.args.self.now.shaped ∙ length-map c.args.self.now.table.shared.key.functions shape_of) in
    let lt : k < n = omega arith in
    record {
      own = c.take_level.ensures.own;
      same = same_on c.args.seat.now c.loop-number.seat c.take_level.new.seat i.same c.take_level.ensures.same;
      reads = (
        i.reads.0 ++ part.0,
        adds_on c.args.seat.now c.loop-number.seat c.take_level.new.seat i.reads.0 part.0 i.reads.1 part.2,
        λ answer rest more. subst (TakesJob n 0 answer) (sym (append_assoc i.reads.0 part.0 rest))
            (i.reads.2 answer (part.0 ++ rest)
            (takes_next n k answer part.0 rest lt (subst (λ o. TakesLevel (numbered k) o part.0) c.in_default.is part.1) more)),
      );
    }

pub returns-clause-reads : goal.returns-clause-reads
returns-clause-reads c =
    let i = c.loop-number.invariant in
    let n : ℕ = length c.args.self.now.table.shared.key.functions in
    let k : ℕ = c.loop-number.number in
    let count : length c.items-number-end.result.now ≡ n = ap length c.items-number-end.ensures
    ∙ (ap length c.args.self.now.shaped ∙ length-map c.args.self.now.table.shared.key.functions shape_of) in
    let le : n ≤ k = omega arith in (
      i.reads.0,
      subst (TakesJob n 0 NoneAsked) (append-nil i.reads.0) (i.reads.2 NoneAsked [] (takes_none n k le)),
      i.reads.1,
    )

pub returns-in-Some-clause-answer : goal.returns-in-Some-clause-answer
returns-in-Some-clause-answer c =
    let i = c.loop-number.invariant in
    let n : ℕ = length c.args.self.now.table.shared.key.functions in
    let k : ℕ = c.loop-number.number in
    let part = c.take_level.ensures.reads in
    let count : length c.items-number-end.result.now ≡ n = ap length c.items-number-end.ensures
    ∙ (ap length c.args.self.now.shaped ∙ length-map c.args.self.now.table.shared.key.functions shape_of) in
    let lt : k < n = omega arith in
    let one = takes_here n k c.in-Some.answer part.0 lt (subst (λ o. TakesLevel (numbered k) o part.0) c.in-Some.is part.1) in
    answers_of c.args.self.now.table.shared.key n 0 c.in-Some.answer (i.reads.0 ++ part.0) (omega arith) (i.reads.2 c.in-Some.answer part.0 one)
