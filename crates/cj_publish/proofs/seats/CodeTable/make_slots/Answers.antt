use Rattle.std.proofs.Common.{◌≡◌, ℕ, ◌+◌, ◌*◌, length, sym, ap, ◌∙◌, arith}
use Rattle.cj_ir.specs.declared.language.Program.{Program}
use Rattle.cj_publish.specs.declared.view.Told.{Told}
use Rattle.cj_publish.specs.Cells.{cells}
use Rattle.cj_publish.proofs.Shares.{opens, fresh_words}
use Rattle.cj_publish.proofs.seats.CodeTable.make_slots.Goals as goal

product : (a b c d : ℕ) → a ≡ b → c ≡ d → a * c ≡ b * d
product a b c d p q = λ i. p i * q i

pub of_words-requires : goal.of_words-requires
unfolding cells
of_words-requires c =
    let count : length c.items-functions.result.now ≡ length c.args.checked.now.functions =
    ap length (c.items-functions.ensures ∙ ap (λ (p : Program). p.functions) c.program.ensures.same) in
    let told : length c.of.result.value.functions ≡ length c.args.checked.now.functions = ap (λ (p : Program). length p.functions) c.of.ensures in
    let first = product _ _ _ _ c.from.ensures count in
    let all = product _ _ _ _ c.from-2.ensures told in
    let size = c.requires.size.0 in
    let room = c.from-3.ensures in
    let h = fresh_words c.args.size _ c.in_ok-words.words.items c.as_slice.result.now
    (c.in_ok-words.ensures.items_if_clones_equal (λ y e. e)) c.as_slice.ensures.value (omega arith) in
    opens _ _ (h.0 ∙ sym room) (h.1 ∙ ap (λ (n : ℕ). n + 1) (first ∙ sym all)) (omega arith) h.2

pub invariant_of-table : goal.invariant_of-table
unfolding cells
invariant_of-table c =
    let key = c.in_ok-table.ensures.5 in
    let program = ap (λ (t : Told). t.program.value) key ∙ c.of.ensures in
    let count = ap (λ (p : Program). length p.functions) program in
    let slots = ap (λ (t : Told). t.slots) key ∙ c.from-2.ensures in
    let all = product _ _ _ _ slots count in
    let few = c.program.ensures.well_formed.few_functions in
    let size = c.requires.size in
    let same = c.program.ensures.same in
    let words = c.in_ok-table.ensures.0 in
    let h = fresh_words c.args.size _ c.in_ok-words.words.items c.as_slice.result.now
    (c.in_ok-words.ensures.items_if_clones_equal (λ y e. e)) c.as_slice.ensures.value (omega arith) in
    let long = h.0 in
    let at = c.from-5.ensures in
    let up = c.requires.size.1 in
    let low = c.requires.size.0 in
    let four = c.from-4.ensures in
    let most = c.requires.slots.1 in
    let of_program : length c.program.result.now.functions ≡ length c.args.checked.now.functions = ap (λ (p : Program). length p.functions) same in record {
      sized = (words ∙ (long ∙ sym at), omega arith);
      about = (slots ∙ sym four, ap (λ (t : Told). t.size) key ∙ (c.from-3.ensures ∙ sym at), omega arith);
      few = (omega arith, omega arith);
    }
