use Rattle.std.proofs.Common.{◌∙◌, ap, sym}
use Rattle.std.specs.Prelude.{unwrap_or, slice_get}
use Rattle.cj_tokens.specs.declared.terminal.Terminal.TheVariants.{Name}
use Rattle.cj_tokens.proofs.Tables.{word_at_place}
use Rattle.cj_tokens.proofs.spelling.word_terminal.Goals as goal

pub returns-in-Some : goal.returns-in-Some
returns-in-Some c =
    c.unwrap_or.ensures ∙ ap (λ o. unwrap_or o Name)
    (c.terminal_at.ensures ∙ ap (λ terminals. slice_get terminals c.in-Some.place) c.keyword_terminals.ensures)
    ∙ word_at_place c.args.word.now c.in-Some.place (sym c.keyword_place.ensures ∙ c.in-Some.is)
