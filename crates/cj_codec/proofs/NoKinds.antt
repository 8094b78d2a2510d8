-- What is read where a number is of no kind.
use Rattle.std.proofs.Common.{◌≡◌, ◌≢◌, ℕ, List, refl}
use Rattle.std.specs.Prelude.{None}
use Rattle.std.proofs.lemmas.Bool.{ne_eqb}
use Rattle.cj_codec.specs.declared.reader.Limits.{Limits}
use Rattle.cj_codec.specs.Reading.{expr_by, instr_by}
use Rattle.cj_spelling.specs.declared.kinds.InstrKind.{InstrKind}
use Rattle.cj_spelling.specs.declared.kinds.InstrKind.TheVariants as instr_kind
use Rattle.cj_spelling.specs.declared.kinds.ExprKind.{ExprKind}
use Rattle.cj_spelling.specs.declared.kinds.ExprKind.TheVariants as expr_kind
use Rattle.cj_spelling.specs.Kinds.{instr_number, expr_number}

pub no_instr : (limits : Limits) (n : ℕ) (ws : List ℕ) → ((k : InstrKind) → n ≢ instr_number k) → instr_by limits n ws ≡ None
no_instr limits n ws h =
    rw (
      ne_eqb n 1 (h instr_kind.Nop),
      ne_eqb n 2 (h instr_kind.Op),
      ne_eqb n 3 (h instr_kind.Move),
      ne_eqb n 4 (h instr_kind.Cond),
      ne_eqb n 5 (h instr_kind.Call),
      ne_eqb n 6 (h instr_kind.Return),
      ne_eqb n 7 (h instr_kind.Print),
      ne_eqb n 8 (h instr_kind.Load),
      ne_eqb n 9 (h instr_kind.Store),
      ne_eqb n 10 (h instr_kind.Fail),
      ne_eqb n 11 (h instr_kind.Assume),
    ) refl

pub no_expr : (limits : Limits) (n : ℕ) (ws : List ℕ) → ((k : ExprKind) → n ≢ expr_number k) → expr_by limits n ws ≡ None
no_expr limits n ws h =
    rw (
      ne_eqb n 0 (h expr_kind.Copy),
      ne_eqb n 1 (h expr_kind.Neg),
      ne_eqb n 2 (h expr_kind.Eqz),
      ne_eqb n 3 (h expr_kind.Add),
      ne_eqb n 4 (h expr_kind.Sub),
      ne_eqb n 5 (h expr_kind.Mul),
      ne_eqb n 6 (h expr_kind.Div),
      ne_eqb n 7 (h expr_kind.Rem),
      ne_eqb n 8 (h expr_kind.Eq),
      ne_eqb n 9 (h expr_kind.Lt),
    ) refl
