-- What the functions of a text mean, and the offences of their tokens from the left.
use Rattle.std.specs.Prelude.{List, [], ◌∷◌, map}
use Rattle.cj_ir.specs.declared.language.Program.{Program}
use Rattle.cj_tokens.specs.declared.refusal.Refused.{Refused}
use Rattle.cj_grammar.specs.Grammar.{Tree}
use Rattle.cj_grammar.specs.Rules.{fun, more_funs, funs}
use Rattle.cj_grammar.specs.Reading.{each_offends}
use Rattle.cj_reader.specs.Scopes.{Head}
use Rattle.cj_reader.specs.Functions.{head_of, function_head, function_name, function_offences, function_of}

unfoldable pub all_functions : Tree funs → List (Tree fun)
unfolding funs more_funs
all_functions (first, more) = first ∷ more

-- the heads of all functions, in order
unfoldable pub heads_of : Tree funs → List Head
heads_of t = map (λ f. head_of (function_head f)) (all_functions t)

unfoldable pub program_offences : Tree funs → List Refused
program_offences t =
    each_offends (function_offences (heads_of t)) (λ f. (function_name (function_head f)).text) [] (all_functions t)

unfoldable pub program_of : Tree funs → Program
program_of t = record { functions = map (function_of (heads_of t)) (all_functions t) }
