-- A text that is read as an input is read as nothing else, and its script fits its program.
use Rattle.std.proofs.Common.{◌≡◌, ◌∙◌, sym, ap, refl, subst, ℕ, List, [], ◌∷◌, ◌++◌, Result, Ok, Err, true, inl, inr}
use Rattle.cj_ir.specs.WellFormed.{IsWellFormed}
use Rattle.cj_ir.specs.declared.language.Program.{Program}
use Rattle.cj_ir.specs.declared.script.Input.{Input}
use Rattle.cj_ir.specs.declared.script.Script.{Script}
use Rattle.cj_tokens.specs.Lexemes.{Lexeme, is_terminal}
use Rattle.cj_tokens.specs.Scan.{lexemes_of}
use Rattle.cj_tokens.specs.declared.refusal.Refused.{Refused}
use Rattle.cj_tokens.specs.declared.terminal.Terminal.TheVariants.{End}
use Rattle.cj_grammar.specs.Grammar.{Tree, leaves}
use Rattle.cj_grammar.specs.Readers.{reads}
use Rattle.cj_grammar.specs.Rules.{funs, script, input}
use Rattle.cj_grammar.specs.Shapes.{GoesPast}
use Rattle.cj_grammar.proofs.FirstBad.{sentence_is_good}
use Rattle.cj_reader.specs.Meaning.{program_offences, program_of}
use Rattle.cj_reader.specs.Reading.{program_at}
use Rattle.cj_reader.proofs.FineProgram as fine_program
use Rattle.cj_script.specs.Fitting.{FitsScript}
use Rattle.cj_script.specs.Meaning.{script_offences, script_of}
use Rattle.cj_script.specs.Reading.{script_at}
use Rattle.cj_script.proofs.ScriptFits.{script_fits}
use Rattle.cj_script.proofs.ScriptReads.{script_reads, script_known}
use Rattle.cj_text.proofs.MeantInstructions.{none, same_two}
use Rattle.cj_text.specs.Reads.{Reads, Spells, input_offences, input_of}
use Rattle.cj_text.proofs.Readings.{no_function}
use Rattle.cj_grammar.proofs.SentenceLaws.{IsMeaning, reads_ok}
use Rattle.cj_grammar.proofs.Unoffended.{none_of}

-- the tokens of functions, a script, and the end
record Parts (ts : List Lexeme) (functions : Tree funs) (lines : Tree script) (last : Lexeme) : Type 0 where
  tokens : leaves funs functions ++ (leaves script lines ++ last ∷ []) ≡ ts
  is_end : is_terminal End last ≡ true

-- they have no offence, and mean an input
record Means (functions : Tree funs) (lines : Tree script) (i : Input) : Type 0 where
  program_fine : program_offences functions ≡ []
  program : i.checked ≡ program_of functions
  script_fine : script_offences i.checked lines ≡ []
  script : i.script ≡ script_of i.checked lines

past : (ts : List Lexeme) (functions : Tree funs) (lines : Tree script) (last : Lexeme) → Parts ts functions lines last →
    program_at ts ≡ reads (program_offences functions) (program_of functions) (leaves script lines ++ last ∷ [])
past ts functions lines last k =
    let past : GoesPast ts (leaves script lines ++ last ∷ []) = record { tree = functions; all = k.tokens; no_more = no_function lines (last ∷ []) } in
    fine_program.program_is ts (leaves script lines ++ last ∷ []) past

means_of : (functions : Tree funs) (lines : Tree script) (i : Input) → program_offences functions ++ script_offences (program_of functions) lines ≡ [] →
    i.checked ≡ program_of functions → i.script ≡ script_of (program_of functions) lines → Means functions lines i
means_of functions lines i fine p s =
    let both : (program_offences functions ≡ [])
    × (script_offences (program_of functions) lines ≡ []) = none_of (program_offences functions) (script_offences (program_of functions) lines) fine in
    record {
      program_fine = both.0;
      program = p;
      script_fine = ap (λ (q : Program). script_offences q lines) p ∙ both.1;
      script = s ∙ ap (λ (q : Program). script_of q lines) (sym p);
    }

-- ---- what is read where there is no offence, and the other way round

reads_none : {X : Type 0} (es : List Refused) (x y : X) (ts : List Lexeme) → es ≡ [] → y ≡ x → reads es x ts ≡ Ok (y, ts)
reads_none es x y ts e h = rw (e, h) refl

program_read : (ts : List Lexeme) (functions : Tree funs) (lines : Tree script) (last : Lexeme) (i : Input) → Parts ts functions lines last →
    Means functions lines i → program_at ts ≡ Ok (i.checked, leaves script lines ++ last ∷ [])
program_read ts functions lines last i k m =
    past ts functions lines last k
    ∙ reads_none (program_offences functions) (program_of functions) i.checked (leaves script lines ++ last ∷ []) m.program_fine m.program

script_read : (functions : Tree funs) (lines : Tree script) (last : Lexeme) (i : Input) → is_terminal End last ≡ true → Means functions lines i →
    script_at i.checked.functions (leaves script lines ++ last ∷ []) ≡ Ok (i.script, last ∷ [])
script_read functions lines last i is_end m =
    script_reads i.checked lines last [] is_end
    ∙ reads_none (script_offences i.checked lines) (script_of i.checked lines) i.script (last ∷ []) m.script_fine m.script

-- other functions and lines of the same tokens mean the same
same_meaning : (ts : List Lexeme) (f g : Tree funs) (x y : Tree script) (a b : Lexeme) (i : Input) → Parts ts f x a → Means f x i → Parts ts g y b → Means g y i
same_meaning ts f g x y a b i k m l =
    let us : List Lexeme = leaves script x ++ a ∷ [] in
    let functions : IsMeaning (program_offences g) (program_of g) i.checked (leaves script y ++ b ∷ []) us = reads_ok (program_offences g)
    (program_of g) i.checked (leaves script y ++ b ∷ []) us (sym (past ts g y b l) ∙ program_read ts f x a i k m) in
    let lines : script_at i.checked.functions us
    ≡ reads (script_offences i.checked y) (script_of i.checked y) (b ∷ []) = script_known i.checked i.checked.functions us y b [] refl functions.rest
    l.is_end in
    let rest : IsMeaning (script_offences i.checked y) (script_of i.checked y) i.script (b ∷ []) (a ∷ []) = reads_ok (script_offences i.checked y)
    (script_of i.checked y) i.script (b ∷ []) (a ∷ []) (sym lines ∙ script_read f x a i k.is_end m) in
    record {
      program_fine = functions.fine;
      program = functions.value;
      script_fine = rest.fine;
      script = rest.value;
    }

-- ---- inputs

-- a tree of the tokens means the input, without offence
abbrev AgreesWith : Input → Tree input → Type 0
AgreesWith i t = (input_offences t ≡ []) × (i ≡ input_of t)

agrees : (g : Tree funs) (y : Tree script) (i : Input) → Means g y i → (program_offences g ++ script_offences (program_of g) y ≡ [])
    × (i ≡ record { checked = program_of g; script = script_of (program_of g) y })
agrees g y i m =
    let fine : script_offences (program_of g) y ≡ [] = ap (λ (q : Program). script_offences q y) (sym m.program) ∙ m.script_fine in
    let lines : i.script ≡ script_of (program_of g) y = m.script ∙ ap (λ (q : Program). script_of q y) m.program in (
      none (program_offences g) (script_offences (program_of g) y) m.program_fine fine,
      same_two
          (λ (q : Program) (s : Script). let new : Input = record { checked = q; script = s } in new) m.program lines,
    )

-- the parts of the tree that a text's reading has
all_agree : (ts : List Lexeme) (i : Input) (t u : Tree input) → leaves input t ≡ ts → AgreesWith i t → leaves input u ≡ ts → AgreesWith i u
unfolding input input_offences input_of
all_agree ts i (f, (x, a)) (g, (y, b)) first m second =
    let k : Parts ts f x a.token = record { tokens = first; is_end = a.is } in
    let l : Parts ts g y b.token = record { tokens = second; is_end = b.is } in
    agrees g y i (same_meaning ts f g x y a.token b.token i k (means_of f x i m.0 (ap (λ (j : Input). j.checked) m.1) (ap (λ (j : Input). j.script) m.1)) l)

pub only_reading : (bytes : List ℕ) (i : Input) → Spells bytes i → (answer : Result Input Refused) → Reads bytes answer → answer ≡ Ok i
only_reading bytes i spells (Ok other) reads =
    let a : AgreesWith i reads.tree = all_agree (lexemes_of bytes) i spells.tree reads.tree spells.tokens (spells.fine, spells.meaning) reads.tokens in
    ap Ok (reads.meaning ∙ sym a.1)
only_reading bytes i spells (Err r) (inl first) =
    absurd (sentence_is_good input (lexemes_of bytes) first.token (spells.tree, spells.tokens) first.first)
only_reading bytes i spells (Err r) (inr second) =
    let a : AgreesWith i second.tree = all_agree (lexemes_of bytes) i spells.tree second.tree spells.tokens (spells.fine, spells.meaning) second.tokens in
    let both : [] ≡ r ∷ second.more = sym a.0 ∙ second.first in cc

fits_of : (ts : List Lexeme) (i : Input) (t : Tree input) → leaves input t ≡ ts → AgreesWith i t → IsWellFormed i.checked × FitsScript i.checked i.script
unfolding input input_offences input_of
fits_of ts i (f, (x, a)) is m =
    let n : Means f x i = means_of f x i m.0 (ap (λ (j : Input). j.checked) m.1) (ap (λ (j : Input). j.script) m.1) in (
      subst IsWellFormed (sym n.program) (fine_program.program_fine f n.program_fine),
      script_fits i.checked i.checked.functions (leaves script x ++ a.token
          ∷ []) (a.token ∷ []) i.script refl (script_read f x a.token i a.is n),
    )

pub read_well_formed : (bytes : List ℕ) (i : Input) → Spells bytes i → IsWellFormed i.checked
read_well_formed bytes i spells = (fits_of (lexemes_of bytes) i spells.tree spells.tokens (spells.fine, spells.meaning)).0

pub read_fits : (bytes : List ℕ) (i : Input) → Spells bytes i → FitsScript i.checked i.script
read_fits bytes i spells = (fits_of (lexemes_of bytes) i spells.tree spells.tokens (spells.fine, spells.meaning)).1
