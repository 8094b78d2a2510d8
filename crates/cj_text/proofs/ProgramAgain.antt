-- The canonical text of a program is read as that program.
use Rattle.std.proofs.Common.{◌≡◌, ◌∙◌, sym, ap, refl, ℕ, ◌<◌, List, [], ◌∷◌, ◌++◌, length, arith, true, false}
use Rattle.cj_ir.specs.WellFormed.{IsWellFormed}
use Rattle.cj_ir.specs.declared.language.Function.{Function}
use Rattle.cj_ir.specs.declared.language.Program.{Program}
use Rattle.cj_tokens.specs.Lexemes.{Lexeme, Is, is_terminal}
use Rattle.cj_tokens.specs.Passing.{front}
use Rattle.cj_tokens.specs.Printed.{lexed}
use Rattle.cj_tokens.specs.Scan.{next_line, lexemes_of}
use Rattle.cj_tokens.specs.declared.terminal.Terminal.TheVariants.{Fun, End}
use Rattle.cj_tokens.proofs.Again.{line_feed_again}
use Rattle.cj_grammar.specs.Grammar.{leaves}
use Rattle.cj_grammar.specs.Rules as rule
use Rattle.cj_grammar.specs.Shapes.{GoesPast, HasFunctions}
use Rattle.cj_grammar.proofs.Signs.{fits_apart}
use Rattle.cj_printer.specs.Pieces.{Piece, pieces_text}
use Rattle.cj_printer.specs.Canonical.{functions_pieces, program_text}
use Rattle.cj_text.specs.Canonical.{SpellsProgram}
use Rattle.cj_text.specs.Written.{IsProgramWritten}
use Rattle.cj_text.proofs.InputAgain.{functions_known, nothing_left}
use Rattle.cj_text.proofs.Chunks.{Inside, before, before_is}
use Rattle.cj_text.proofs.Known.{FunctionKnown}
use Rattle.cj_text.proofs.Lists.{Every}
use Rattle.cj_text.proofs.MeantFunctions.{program_same, program_fine}
use Rattle.cj_text.proofs.PrintedProgram.{functions_inside}
use Rattle.cj_text.proofs.Trees.{end_token, fun_end, funs_end, funs_tree}

program_tokens : (f : Function) (more : List Function) → Every (FunctionKnown (f ∷ more)) (f ∷ more) →
    leaves rule.funs (funs_tree (f ∷ more) f more) ++ end_token (next_line (funs_end (fun_end 1 f) more)) ∷ []
    ≡ lexemes_of (pieces_text (functions_pieces (f ∷ more) (f ∷ more)) ++ 10 ∷ [])
program_tokens f more k =
    let fs : List Function = f ∷ more in
    let pieces : List Piece = functions_pieces fs fs in
    let last : ℕ = funs_end (fun_end 1 f) more in
    let tokens : List Lexeme = leaves rule.funs (funs_tree fs f more) in
    let all : Inside 1 last pieces tokens = functions_inside fs f more k.0 k.1 in
    let bytes : lexed 1 (pieces_text pieces ++ 10 ∷ []) ≡ lexed 1 (before pieces (10 ∷ [])) = ap (lexed 1) (before_is pieces (10 ∷ [])) in
    let read : lexed 1 (before pieces (10 ∷ [])) ≡ tokens ++ lexed last (10 ∷ []) = all.reads (10 ∷ []) refl in
    let end : lexed last (10 ∷ []) ≡ end_token (next_line last) ∷ [] = line_feed_again last [] ∙ nothing_left (next_line last) in
    sym (bytes ∙ (read ∙ ap (λ (ts : List Lexeme). tokens ++ ts) end))

functions_again : (fs : List Function) → IsWellFormed (record { functions = fs }) → IsProgramWritten (record { functions = fs }) →
    SpellsProgram (pieces_text (functions_pieces fs fs) ++ 10 ∷ []) (record { functions = fs })
functions_again [] well written = let some : 0 < length {A = Function} [] = well.some_function in absurd (omega arith)
functions_again (f ∷ more) well written =
    let known : Every (FunctionKnown (f ∷ more)) (f ∷ more) = functions_known (f ∷ more) well written in
    record {
      tree = funs_tree (f ∷ more) f more;
      last = end_token (next_line (funs_end (fun_end 1 f) more));
      tokens = program_tokens f more known;
      is_end = refl;
      fine = program_fine f more known well.few_functions well.functions_differ;
      meaning = sym (program_same f more known);
    }

pub printed_program : (p : Program) → IsWellFormed p → IsProgramWritten p → SpellsProgram (program_text p) p
printed_program p well written = functions_again p.functions well written

-- ---- its functions stand in front of the end

pub no_function : (last : Lexeme) → is_terminal End last ≡ true → is_terminal Fun (front (last ∷ [])) ≡ false
unfolding front
no_function last is = fits_apart (Is End) (Is Fun) last refl is

abbrev pub past_program : (bytes : List ℕ) (p : Program) (ts : List Lexeme) (spells : SpellsProgram bytes p) → ts ≡ lexemes_of bytes →
    GoesPast ts (spells.last ∷ [])
past_program bytes p ts spells is = record {
  tree = spells.tree;
  all = spells.tokens ∙ sym is;
  no_more = no_function spells.last spells.is_end;
}

pub has_functions : (bytes : List ℕ) (p : Program) (ts : List Lexeme) → SpellsProgram bytes p → ts ≡ lexemes_of bytes → HasFunctions ts
has_functions bytes p ts spells is = (spells.last ∷ [], past_program bytes p ts spells is)
