-- What is answered for the canonical text of a value: that value.
use Rattle.std.proofs.Common.{◌≡◌, ◌∙◌, sym, ap, refl, subst, ℕ, List, [], ◌∷◌, Ok, Err, Result}
use Rattle.cj_ir.specs.WellFormed.{IsWellFormed}
use Rattle.cj_ir.specs.declared.language.Program.{Program}
use Rattle.cj_ir.specs.declared.script.Input.{Input}
use Rattle.cj_tokens.specs.Lexemes.{Lexeme}
use Rattle.cj_tokens.specs.Scan.{lexemes_of}
use Rattle.cj_tokens.specs.declared.refusal.ParseError.{ParseError}
use Rattle.cj_tokens.specs.declared.refusal.ParseError.TheVariants.{Refused, NoMemory}
use Rattle.cj_tokens.specs.declared.refusal.Refused as refusal
use Rattle.cj_grammar.specs.Readers.{Read, reads, Gives, Fails}
use Rattle.cj_grammar.specs.Shapes.{GoesPast}
use Rattle.cj_reader.specs.Meaning.{program_offences, program_of}
use Rattle.cj_script.specs.Fitting.{FitsScript}
use Rattle.cj_printer.specs.Canonical.{input_text, program_text}
use Rattle.cj_text.specs.Reads.{Reads}
use Rattle.cj_text.specs.Answers.{IsOnlyReading}
use Rattle.cj_text.specs.Canonical.{SpellsProgram}
use Rattle.cj_text.specs.Written.{IsProgramWritten, IsScriptWritten}
use Rattle.cj_text.proofs.InputAgain.{printed_is_read}
use Rattle.cj_text.proofs.ProgramAgain.{printed_program, past_program}

pub input_reads : (i : Input) (p : Program) → p ≡ i.checked → IsWellFormed i.checked → IsProgramWritten p → FitsScript i.checked i.script →
    IsScriptWritten i.script → Reads (input_text i) (Ok i)
input_reads i p same well written fits script = printed_is_read i well (subst IsProgramWritten same written) fits script

pub program_reads : (q p : Program) → p ≡ q → IsWellFormed q → IsProgramWritten p → SpellsProgram (program_text q) q
program_reads q p same well written = printed_program q well (subst IsProgramWritten same written)

-- ---- inputs

one_answer : (a b : Input) → ◌≡◌ {A = Result Input refusal.Refused} (Ok a) (Ok b) → b ≡ a
one_answer a b h = let e : a ≡ b = cc in sym e

no_answer : (a : Input) (r : refusal.Refused) → ◌≡◌ {A = Result Input refusal.Refused} (Ok a) (Err r) → ⊥
no_answer a r h = cc

pub same_input : (bytes text : List ℕ) (x again : Input) → bytes ≡ text → Reads text (Ok x) → IsOnlyReading bytes (Ok again) → again ≡ x
same_input bytes text x again is read only = one_answer x again (only (Ok x) (subst (λ b. Reads b (Ok x)) (sym is) read))

pub not_refused : (bytes text : List ℕ) (x : Input) (r : refusal.Refused) → bytes ≡ text → Reads text (Ok x) → IsOnlyReading bytes (Err (Refused r)) → ⊥
not_refused bytes text x r is read only = no_answer x r (only (Ok x) (subst (λ b. Reads b (Ok x)) (sym is) read))

pub only_memory : (bytes : List ℕ) (x : Input) (e : ParseError) → Reads bytes (Ok x) → IsOnlyReading bytes (Err e) → e ≡ NoMemory
only_memory bytes x NoMemory read only = refl
only_memory bytes x (Refused r) read only = absurd (not_refused bytes bytes x r refl read only)

-- ---- programs

one_read : (a b : Program) (ts us : List Lexeme) → ◌≡◌ {A = Read Program} (Ok (a, ts)) (Ok (b, us)) → b ≡ a
one_read a b ts us h =
    let P : Type 0 = Program × List Lexeme in
    let pair : ◌≡◌ {A = P} (a, ts) (b, us) = cc in
    sym (ap (λ (q : P). q.0) pair)

no_read : (a : Program) (ts : List Lexeme) (r : refusal.Refused) → ◌≡◌ {A = Read Program} (Ok (a, ts)) (Err r) → ⊥
no_read a ts r h = cc

pub same_program : (bytes : List ℕ) (p again : Program) (ts us : List Lexeme) → SpellsProgram bytes p → ts ≡ lexemes_of bytes →
    ((rest : List Lexeme) (past : GoesPast ts rest) → Gives (Ok again) us (reads (program_offences past.tree) (program_of past.tree) rest)) → again ≡ p
same_program bytes p again ts us spells is read =
    let g : reads (program_offences spells.tree) (program_of spells.tree) (spells.last ∷ [])
    ≡ Ok (again, us) = read (spells.last ∷ []) (past_program bytes p ts spells is) in
    let h : reads (program_offences spells.tree) (program_of spells.tree) (spells.last ∷ [])
    ≡ Ok (program_of spells.tree, spells.last ∷ []) = ap (λ es. reads es (program_of spells.tree) (spells.last ∷ [])) spells.fine in
    one_read (program_of spells.tree) again (spells.last ∷ []) us (sym h ∙ g) ∙ sym spells.meaning

pub program_not_refused : (bytes : List ℕ) (p : Program) (r : refusal.Refused) (ts : List Lexeme) → SpellsProgram bytes p → ts ≡ lexemes_of bytes →
    ((rest : List Lexeme) (past : GoesPast ts rest) → Fails (Refused r) (reads (program_offences past.tree) (program_of past.tree) rest)) → ⊥
program_not_refused bytes p r ts spells is read =
    let g : reads (program_offences spells.tree) (program_of spells.tree) (spells.last ∷ [])
    ≡ Err r = read (spells.last ∷ []) (past_program bytes p ts spells is) in
    let h : reads (program_offences spells.tree) (program_of spells.tree) (spells.last ∷ [])
    ≡ Ok (program_of spells.tree, spells.last ∷ []) = ap (λ es. reads es (program_of spells.tree) (spells.last ∷ [])) spells.fine in
    no_read (program_of spells.tree) (spells.last ∷ []) r (sym h ∙ g)

pub fails : (e : ParseError) (r : refusal.Refused) (read : Read Program) → e ≡ Refused r → Fails e read → Fails (Refused r) read
fails e r read is h = subst (λ f. Fails f read) is h
