-- Words that spell a version begin with their number, which is at least 2.
use Rattle.std.proofs.Common.{◌≡◌, ℕ, ◌≤◌, List, length, get_or, refl, sym, subst, arith}
use Rattle.cj_ir.specs.declared.language.FunId.{FunId}
use Rattle.cj_ir.specs.declared.language.Program.{Program}
use Rattle.cj_publish.specs.Spelled.{SpellsVersion}

pub first_word_is : (P : Program) (f : FunId) (slot : ℕ) (words : List ℕ) → SpellsVersion P f slot words → (2 ≤ length words)
    × (get_or words 0 0 ≡ length words)
first_word_is P f slot words h =
    subst (λ (ws : List ℕ). (2 ≤ length ws) × (get_or ws 0 0 ≡ length ws)) (sym h.spells.spelled) (omega arith, refl)

pub few_words : (P : Program) (f : FunId) (slot : ℕ) (words : List ℕ) → SpellsVersion P f slot words → length words ≤ 65536
few_words P f slot words h = h.spells.few_words
