use Rattle.std.proofs.Common.{◌≡◌, ◌-◌, []}
use Rattle.cj_tokens.specs.Left.{left, source}
use Rattle.cj_grammar.specs.Readers.{each_at}
use Rattle.cj_reader.specs.Known.{scope_in}
use Rattle.cj_reader.specs.Reading.{line_at}
use Rattle.cj_reader.proofs.lines.read_lines.Given as goal

abbrev pub invariant-more : goal.invariant-more
invariant-more l =
    record {
      reads : each_at (line_at (scope_in l.scope)) l.count [] (left l.fn.tokens)
          ≡ each_at (line_at (scope_in l.scope)) (l.count - l.k) l.lines (left l.tokens);
      source : source l.tokens ≡ source l.fn.tokens;
    }
