-- The canonical text of an input is read as that input.
use Rattle.std.proofs.Common.{◌≡◌, ◌∙◌, sym, ap, refl, ℕ, ◌<◌, List, [], ◌∷◌, ◌++◌, length, arith, append_assoc, Ok}
use Rattle.cj_ir.specs.WellFormed.{IsFunctionFine, IsWellFormed}
use Rattle.cj_ir.specs.declared.language.Function.{Function}
use Rattle.cj_ir.specs.declared.language.Program.{Program}
use Rattle.cj_ir.specs.declared.script.Input.{Input}
use Rattle.cj_ir.specs.declared.script.Script.{Script}
use Rattle.cj_tokens.specs.Lexemes.{Lexeme}
use Rattle.cj_tokens.specs.Printed.{lexed}
use Rattle.cj_tokens.specs.Scan.{items, next_line, lexemes_of}
use Rattle.cj_tokens.specs.Spellings.{lexeme_of, terminal_of, text_of, worth}
use Rattle.cj_tokens.proofs.Again.{line_feed_again}
use Rattle.cj_grammar.specs.Grammar.{leaves}
use Rattle.cj_grammar.specs.Rules as rule
use Rattle.cj_reader.specs.Meaning.{program_offences, program_of}
use Rattle.cj_script.specs.Fitting.{FitsSetup, FitsCall, FitsScript}
use Rattle.cj_script.specs.Meaning.{script_offences, script_of}
use Rattle.cj_printer.specs.Pieces.{Piece, pieces_text}
use Rattle.cj_printer.specs.Canonical.{functions_pieces, script_pieces, input_text}
use Rattle.cj_text.specs.Reads.{Reads, Spells, input_offences, input_of}
use Rattle.cj_text.specs.Written.{IsName, IsFunctionWritten, IsProgramWritten, IsScriptWritten, IsSetupWritten, IsCallWritten}
use Rattle.cj_text.proofs.Chunks.{Inside, ◌▹◌, before, before_is}
use Rattle.cj_text.proofs.Lists.{Every, every_of_all, every_map, every_both}
use Rattle.cj_text.proofs.Known.{FunctionKnown, function_known}
use Rattle.cj_text.proofs.KnownScript.{SetupKnown, CallKnown, setup_known, call_known}
use Rattle.cj_text.proofs.PrintedProgram.{functions_inside}
use Rattle.cj_text.proofs.PrintedScript.{script_chunk}
use Rattle.cj_text.proofs.MeantInstructions.{none, same_two}
use Rattle.cj_text.proofs.MeantFunctions.{program_same, program_fine}
use Rattle.cj_text.proofs.MeantScript.{script_same, script_fine}
use Rattle.cj_text.proofs.Trees.{end_token, fun_end, funs_end, funs_tree, script_tree, script_end, input_tree}

-- what is known of an input whose program has these functions
pub record InputKnown (f : Function) (more : List Function) (s : Script) : Type 0 where
  pub well : IsWellFormed (record { functions = f ∷ more })
  pub functions : Every (FunctionKnown (f ∷ more)) (f ∷ more)
  pub setups : Every (SetupKnown (f ∷ more)) s.setups
  pub calls : Every (CallKnown (f ∷ more)) s.calls
  pub fits : FitsScript (record { functions = f ∷ more }) s

pub functions_known : (fs : List Function) → IsWellFormed (record { functions = fs }) → IsProgramWritten (record { functions = fs }) →
    Every (FunctionKnown fs) fs
functions_known fs well written =
    let written_all : Every IsFunctionWritten fs = every_of_all IsFunctionWritten fs written in
    let fine_all : Every (IsFunctionFine fs) fs = every_of_all (IsFunctionFine fs) fs well.functions in
    let names : Every (λ (f : Function). IsName f.name) fs = every_map IsFunctionWritten (λ (f : Function). IsName f.name) (λ f w. w.name) fs written_all in
    every_both (IsFunctionFine fs) IsFunctionWritten (FunctionKnown fs) (λ f fine w. function_known fs f names well.functions_differ fine w) fs fine_all
    written_all

input_known : (f : Function) (more : List Function) (s : Script) → IsWellFormed (record { functions = f ∷ more }) →
    IsProgramWritten (record { functions = f ∷ more }) → FitsScript (record { functions = f ∷ more }) s → IsScriptWritten s → InputKnown f more s
input_known f more s well written fits script =
    let fs : List Function = f ∷ more in
    let known : Every (FunctionKnown fs) fs = functions_known fs well written in
    record {
      well = well;
      functions = known;
      setups = every_both (FitsSetup fs) IsSetupWritten (SetupKnown fs) (setup_known fs known well.functions_differ) s.setups
          (every_of_all (FitsSetup fs) s.setups fits.setups) (every_of_all IsSetupWritten s.setups script.setups);
      calls = every_both (FitsCall fs) IsCallWritten (CallKnown fs) (call_known fs known well.functions_differ) s.calls
          (every_of_all (FitsCall fs) s.calls fits.calls) (every_of_all IsCallWritten s.calls script.calls);
      fits = fits;
    }

-- ---- tokens

pub nothing_left : (line : ℕ) → lexed line [] ≡ end_token line ∷ []
unfolding items lexeme_of terminal_of text_of worth
nothing_left line = refl

text_tokens : (f : Function) (more : List Function) (s : Script) → InputKnown f more s → leaves rule.input (input_tree (f ∷ more) f more s)
    ≡ lexemes_of (pieces_text (functions_pieces (f ∷ more) (f ∷ more) ++ script_pieces (f ∷ more) s) ++ 10 ∷ [])
unfolding rule.input input_tree
text_tokens f more s k =
    let fs : List Function = f ∷ more in
    let program : List Piece = functions_pieces fs fs in
    let script : List Piece = script_pieces fs s in
    let behind : ℕ = funs_end (fun_end 1 f) more in
    let last : ℕ = script_end behind s in
    let fun_leaves : List Lexeme = leaves rule.funs (funs_tree fs f more) in
    let script_leaves : List Lexeme = leaves rule.script (script_tree fs behind s) in
    let all : Inside 1 last (program ++ script) (fun_leaves ++ script_leaves) =
    functions_inside fs f more k.functions.0 k.functions.1 ▹ script_chunk fs s k.setups k.calls behind in
    let bytes : lexed 1 (pieces_text (program ++ script) ++ 10 ∷ [])
    ≡ lexed 1 (before (program ++ script) (10 ∷ [])) = ap (lexed 1) (before_is (program ++ script) (10 ∷ [])) in
    let read : lexed 1 (before (program ++ script) (10 ∷ [])) ≡ (fun_leaves ++ script_leaves) ++ lexed last (10 ∷ []) = all.reads (10 ∷ []) refl in
    let end : lexed last (10 ∷ []) ≡ end_token (next_line last) ∷ [] = line_feed_again last [] ∙ nothing_left (next_line last) in
    sym (bytes ∙ (read ∙ (ap (λ (ts : List Lexeme). (fun_leaves ++ script_leaves) ++ ts) end
    ∙ append_assoc fun_leaves script_leaves (end_token (next_line last) ∷ []))))

-- ---- meaning

text_fine : (f : Function) (more : List Function) (s : Script) → InputKnown f more s → input_offences (input_tree (f ∷ more) f more s) ≡ []
unfolding rule.input input_tree input_offences
text_fine f more s k =
    let p : Program = record { functions = f ∷ more } in
    let well : IsWellFormed p = k.well in
    let fits : FitsScript p s = k.fits in
    let behind : ℕ = funs_end (fun_end 1 f) more in
    let same : program_of (funs_tree (f ∷ more) f more) ≡ p = program_same f more k.functions in
    none (program_offences (funs_tree (f ∷ more) f more)) (script_offences (program_of (funs_tree (f ∷ more) f more)) (script_tree (f ∷ more) behind s))
    (program_fine f more k.functions well.few_functions well.functions_differ)
    (ap (λ (q : Program). script_offences q (script_tree (f ∷ more) behind s)) same ∙ script_fine p behind s k.setups k.calls fits.few_calls fits.few_turns)

text_means : (f : Function) (more : List Function) (s : Script) → InputKnown f more s →
    input_of (input_tree (f ∷ more) f more s) ≡ record { checked = record { functions = f ∷ more }; script = s }
unfolding rule.input input_tree input_of
text_means f more s k =
    let p : Program = record { functions = f ∷ more } in
    let behind : ℕ = funs_end (fun_end 1 f) more in
    let same : program_of (funs_tree (f ∷ more) f more) ≡ p = program_same f more k.functions in
    same_two (λ (q : Program) (t : Script). let i : Input = record { checked = q; script = t } in i) same
    (ap (λ (q : Program). script_of q (script_tree (f ∷ more) behind s)) same ∙ script_same p behind s k.setups k.calls)

reads_again : (fs : List Function) (s : Script) → IsWellFormed (record { functions = fs }) → IsProgramWritten (record { functions = fs }) →
    FitsScript (record { functions = fs }) s → IsScriptWritten s →
    Spells (pieces_text (functions_pieces fs fs ++ script_pieces fs s) ++ 10 ∷ []) (record { checked = record { functions = fs }; script = s })
reads_again [] s well written fits script = let some : 0 < length {A = Function} [] = well.some_function in absurd (omega arith)
reads_again (f ∷ more) s well written fits script =
    let k : InputKnown f more s = input_known f more s well written fits script in
    record {
      tree = input_tree (f ∷ more) f more s;
      tokens = text_tokens f more s k;
      fine = text_fine f more s k;
      meaning = sym (text_means f more s k);
    }

pub printed_is_read : (i : Input) → IsWellFormed i.checked → IsProgramWritten i.checked → FitsScript i.checked i.script → IsScriptWritten i.script →
    Reads (input_text i) (Ok i)
printed_is_read i well written fits script = reads_again i.checked.functions i.script well written fits script
