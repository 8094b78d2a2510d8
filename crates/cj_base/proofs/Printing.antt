-- What a run has printed is not taken back.
use Rattle.std.proofs.Common.{◌≡◌, ◌∙◌, sym, ap, refl, ℕ, zero, suc, ◌+◌, List, [], ◌++◌, ℤ, append-nil, append_assoc, arith}
use Rattle.cj_ir.specs.declared.language.Program.{Program}
use Rattle.cj_base.specs.Machine.{Outcome, Goes, Ends, Stuck, turn_of}
use Rattle.cj_base.specs.Run.{Begun, Run, Going, Over, Lost, ran, one_more, base_run, HasPrinted}

-- the second list is the first with more behind
abbrev Extends : List ℤ → List ℤ → Type 0
Extends before after = (more : List ℤ) × (after ≡ before ++ more)

turn_extends : (printed : List ℤ) (n : ℕ) (o : Outcome) (after : List ℤ) → HasPrinted (ran printed n o) after → Extends printed after
unfolding ran
turn_extends printed n (Goes more c) after h = (more, h)
turn_extends printed n (Ends end) after h = ([], h ∙ sym (append-nil printed))
turn_extends printed n Stuck after h = absurd h

-- the prints before a turn
more_extends : (P : Program) (n : ℕ) (r : Run) (after : List ℤ) → HasPrinted (one_more P n r) after →
    (before : List ℤ) × HasPrinted r before × Extends before after
unfolding one_more
more_extends P n (Going printed c) after h = (printed, refl, turn_extends printed n (turn_of P c) after h)
more_extends P n (Over printed end turns) after h = (printed, refl, ([], h ∙ sym (append-nil printed)))
more_extends P n Lost after h = absurd h

one_print : (r : Run) (a b : List ℤ) → HasPrinted r a → HasPrinted r b → a ≡ b
one_print (Going printed c) a b h k = h ∙ sym k
one_print (Over printed end turns) a b h k = h ∙ sym k
one_print Lost a b h k = absurd h

extends_by : (P : Program) (call : Begun) (n k : ℕ) (before after : List ℤ) → HasPrinted (base_run P call n) before →
    HasPrinted (base_run P call (k + n)) after → Extends before after
unfolding base_run
extends_by P call n zero before after h g =
    let e : 0 + n ≡ n = omega arith in
    ([], one_print (base_run P call n) after before (rw e at g) h ∙ sym (append-nil before))
extends_by P call n (suc k) before after h g =
    let e : suc k + n ≡ suc (k + n) = omega arith in
    let last = more_extends P (suc (k + n)) (base_run P call (k + n)) after (rw e at g) in
    let first = extends_by P call n k before last.0 h last.1 in
    (first.0 ++ last.2.0, last.2.1 ∙ ap (λ xs. xs ++ last.2.0) first.1 ∙ append_assoc before first.0 last.2.0)

pub prints_grow : (P : Program) (call : Begun) (n k : ℕ) (before after : List ℤ) → HasPrinted (base_run P call n) before →
    HasPrinted (base_run P call (n + k)) after → (more : List ℤ) × (after ≡ before ++ more)
prints_grow P call n k before after h g =
    let e : n + k ≡ k + n = omega arith in
    extends_by P call n k before after h (rw e at g)
