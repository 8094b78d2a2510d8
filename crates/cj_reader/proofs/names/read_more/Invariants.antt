use Rattle.std.proofs.Common.{◌≡◌, ◌-◌, ◌≤◌, length}
use Rattle.cj_tokens.specs.Left.{left, source}
use Rattle.cj_grammar.specs.Readers.{each_at}
use Rattle.cj_reader.specs.Reading.{next_name_at}
use Rattle.cj_reader.proofs.names.read_more.Given as goal

abbrev pub invariant-more : goal.invariant-more
invariant-more l =
    record {
      reads : each_at (next_name_at l.limit) l.count l.fn.names (left l.fn.tokens) ≡ each_at (next_name_at l.limit) (l.count - l.k) l.names (left l.tokens);
      few : length l.names ≤ l.limit;
      source : source l.tokens ≡ source l.fn.tokens;
    }
