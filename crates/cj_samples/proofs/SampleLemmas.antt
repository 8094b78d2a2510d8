-- Lines that grow at their end.
use Rattle.std.proofs.Common.{◌≡◌, ◌∙◌, ap, sym, ℕ, List, [], ◌∷◌, ◌++◌, length, ◌+◌, ◌<◌, ◌%◌, ◌^◌, arith}
use Rattle.cj_ir.specs.declared.language.Instr.{Instr}
use Rattle.cj_ir.specs.declared.language.Line.{Line}
use Rattle.cj_samples.specs.Samples.{line, lines_from, lines_of}

lines_from_append : (number : ℕ) (instrs : List Instr) (instr : Instr) → number < 2 ^ 32
    → lines_from number (instrs ++ instr ∷ []) ≡ lines_from number instrs ++ line ((number + length instrs) % 2 ^ 32) instr ∷ []
lines_from_append number [] instr small =
    let same : number ≡ (number + 0) % 2 ^ 32 = omega (arith, small) in
    ap (λ (k : ℕ). line k instr ∷ []) same
lines_from_append number (first ∷ rest) instr small =
    let next : ((number + 1) % 2 ^ 32 + length rest) % 2 ^ 32 ≡ (number + length (first ∷ rest)) % 2 ^ 32 = omega arith in
    let later = lines_from_append ((number + 1) % 2 ^ 32) rest instr (omega arith) in
    ap (λ (ls : List Line). line number first ∷ ls)
    (later ∙ ap (λ (k : ℕ). lines_from ((number + 1) % 2 ^ 32) rest ++ line k instr ∷ []) next)

-- the lines of one more instruction are those before it, and its own
pub lines_of_append : (instrs : List Instr) (instr : Instr)
    → lines_of (instrs ++ instr ∷ []) ≡ lines_of instrs ++ line ((length instrs % 2 ^ 32 + 1) % 2 ^ 32) instr ∷ []
lines_of_append instrs instr =
    let same : (1 + length instrs) % 2 ^ 32 ≡ (length instrs % 2 ^ 32 + 1) % 2 ^ 32 = omega arith in
    lines_from_append 1 instrs instr (omega arith) ∙ ap (λ (k : ℕ). lines_of instrs ++ line k instr ∷ []) same
