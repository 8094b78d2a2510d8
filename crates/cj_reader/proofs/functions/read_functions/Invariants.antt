use Rattle.std.proofs.Common.{◌≡◌, ◌-◌, []}
use Rattle.cj_tokens.specs.Left.{left, source}
use Rattle.cj_grammar.specs.Readers.{each_at}
use Rattle.cj_reader.specs.Known.{function_in}
use Rattle.cj_reader.specs.Reading.{function_at}
use Rattle.cj_reader.proofs.functions.read_functions.Given as goal

abbrev pub invariant-more : goal.invariant-more
invariant-more l =
    record {
      reads : each_at (function_at (function_in l.functions)) l.count [] (left l.fn.tokens)
          ≡ each_at (function_at (function_in l.functions)) (l.count - l.k) l.all (left l.tokens);
      source : source l.tokens ≡ source l.fn.tokens;
    }
