-- What is known of the functions, parameters and labels that a fitting script names.
use Rattle.std.proofs.Common.{◌≡◌, ◌∙◌, sym, ap, subst, ℕ, pos, zero, suc, ◌<◌, ◌≤◌, Bool, true, false, List, [], ◌∷◌, length, take, arith}
use Rattle.std.specs.Prelude.{Option, Some, slice_get, nat_lt, decimal, position}
use Rattle.std.specs.List.{find}
use Rattle.std.specs.Ordering.{int_eq}
use Rattle.std.specs.Str.{bytes_eq}
use Rattle.std.proofs.lemmas.Slice.Eq.{bytes_eq-Decides}
use Rattle.cj_ir.specs.WellFormed.{AllDifferBy, Takes, IsFunctionFine}
use Rattle.cj_ir.specs.declared.language.FunId.{FunId}
use Rattle.cj_ir.specs.declared.language.Function.{Function}
use Rattle.cj_ir.specs.declared.language.Label.{Label}
use Rattle.cj_ir.specs.declared.language.Line.{Line}
use Rattle.cj_ir.specs.declared.script.ScriptCall.{ScriptCall}
use Rattle.cj_ir.specs.declared.script.Setup.{Setup}
use Rattle.cj_ir.specs.declared.script.Setup.TheVariants as setups
use Rattle.cj_printer.specs.Canonical.{text_or_none, name_of, function_text, number_text, reg_in, label_in}
use Rattle.cj_script.specs.Meaning.{is_cond}
use Rattle.cj_script.specs.Fitting.{FitsSetup, FitsCall}
use Rattle.cj_text.specs.Written.{IsName, IsValue, IsSetupWritten, IsCallWritten}
use Rattle.cj_text.proofs.Lists.{Every, every_of_all, every_at, IsFirst, first_position, first_found, first_of_differing}
use Rattle.cj_text.proofs.Known.{FunctionKnown, InstrKnown, name_short, function_first, line_first}
use Rattle.cj_text.proofs.Trees.{number_at, label_in_number}
use Rattle.cj_ir.proofs.ListReads.{at_index}

-- ---- the NAME of a function

pub record FunKnown (fs : List Function) (id : FunId) (f : Function) : Type 0 where
  pub at : slice_get fs id.0 ≡ Some f
  pub known : FunctionKnown fs f
  pub name : IsName (function_text fs id)
  pub short : nat_lt 32 (length (function_text fs id)) ≡ false
  pub found : find (λ g. bytes_eq g.name (function_text fs id)) fs ≡ Some f
  pub place : position (λ g. bytes_eq g.name (function_text fs id)) fs ≡ Some id.0

pub fun_known : (fs : List Function) (id : FunId) (f : Function) → Every (FunctionKnown fs) fs → AllDifferBy (λ f. f.name) fs → slice_get fs id.0 ≡ Some f →
    FunKnown fs id f
fun_known fs id f known differ at =
    let t : function_text fs id ≡ f.name = ap name_of at in
    let k : FunctionKnown fs f = every_at (FunctionKnown fs) fs id.0 f known at in
    let first : IsFirst (λ g. bytes_eq g.name f.name) id.0 fs f = function_first fs id f differ at in
    record {
      at = at;
      known = k;
      name = subst IsName (sym t) k.name;
      short = subst (λ w. nat_lt 32 (length w) ≡ false) (sym t) (name_short f.name k.name);
      found = subst (λ w. find (λ (g : Function). bytes_eq g.name w) fs ≡ Some f) (sym t) (first_found (λ g. bytes_eq g.name f.name) id.0 fs f first);
      place = subst (λ w. position (λ (g : Function). bytes_eq g.name w) fs ≡ Some id.0) (sym t) (first_position (λ g. bytes_eq g.name f.name) id.0 fs f first);
    }

-- ---- parameters

first_in_front : {A : Type 0} (test : A → Bool) (n m : ℕ) (xs : List A) (x : A) → n < m → IsFirst test n xs x → IsFirst test n (take m xs) x
first_in_front test n zero xs x h k = absurd (omega arith)
first_in_front test n (suc m) [] x h k = absurd k
first_in_front test zero (suc m) (y ∷ ys) x h k = k
first_in_front test (suc n) (suc m) (y ∷ ys) x h k = (k.0, first_in_front test n m ys x (omega arith) k.1)

pub record ParamKnown (fs : List Function) (id : FunId) (param : ℕ) (f : Function) : Type 0 where
  pub name : IsName (reg_in (slice_get fs id.0) param)
  pub short : nat_lt 32 (length (reg_in (slice_get fs id.0) param)) ≡ false
  pub place : position (λ p. bytes_eq p (reg_in (slice_get fs id.0) param)) (take f.params f.regs) ≡ Some param

pub param_known : (fs : List Function) (id : FunId) (param : ℕ) (f : Function) → FunKnown fs id f → param < f.params → ParamKnown fs id param f
param_known fs id param f k h =
    let fine : IsFunctionFine fs f = k.known.fine in
    let within : f.params ≤ length f.regs = fine.params_are_registers in
    let s : (x : List ℕ) × (slice_get f.regs param ≡ Some x) = at_index f.regs param (omega arith) in
    let t : reg_in (slice_get fs id.0) param ≡ s.0 = ap (λ (o : Option Function). reg_in o param) k.at ∙ ap text_or_none s.1 in
    let n : IsName s.0 = every_at IsName f.regs param s.0 k.known.registers s.1 in
    let first : IsFirst (λ p. bytes_eq p s.0) param (take f.params f.regs) s.0 =
    first_in_front (λ p. bytes_eq p s.0) param f.params f.regs s.0 h
    (first_of_differing (λ (name : List ℕ). name) bytes_eq bytes_eq-Decides param f.regs s.0 fine.registers_differ s.1) in
    record {
      name = subst IsName (sym t) n;
      short = subst (λ w. nat_lt 32 (length w) ≡ false) (sym t) (name_short s.0 n);
      place = subst (λ w. position (λ p. bytes_eq p w) (take f.params f.regs) ≡ Some param) (sym t)
          (first_position (λ p. bytes_eq p s.0) param (take f.params f.regs) s.0 first);
    }

-- ---- the numbers of `cond`s

pub record CondKnown (fs : List Function) (id : FunId) (label : Label) (f : Function) (line : Line) : Type 0 where
  pub text : label_in (slice_get fs id.0) label ≡ decimal (label_in_number (slice_get fs id.0) label)
  pub small : label_in_number (slice_get fs id.0) label ≤ 65535
  pub found : find (λ (other : Line). int_eq (pos other.name) (pos (label_in_number (slice_get fs id.0) label))) f.code ≡ Some line
  pub place : position (λ (other : Line). int_eq (pos other.name) (pos (label_in_number (slice_get fs id.0) label))) f.code ≡ Some label.0
  pub is_cond : is_cond line.instr ≡ true

pub cond_known : (fs : List Function) (id : FunId) (label : Label) (f : Function) (line : Line) → FunKnown fs id f → slice_get f.code label.0 ≡ Some line →
    is_cond line.instr ≡ true → CondKnown fs id label f line
cond_known fs id label f line k at is =
    let fine : IsFunctionFine fs f = k.known.fine in
    let n : label_in_number (slice_get fs id.0) label ≡ line.name = ap (λ (o : Option Function). label_in_number o label) k.at ∙ ap number_at at in
    let w : label_in (slice_get fs id.0) label ≡ decimal line.name = ap (λ (o : Option Function). label_in o label) k.at ∙ ap number_text at in
    let first : IsFirst (λ (other : Line). int_eq (pos other.name) (pos line.name)) label.0 f.code line = line_first f.code label.0 line fine.labels_differ at
    in
    let both : (line.name ≤ 65535)
    × InstrKnown fs f line.instr = every_at (λ (line : Line). (line.name ≤ 65535) × InstrKnown fs f line.instr) f.code label.0 line k.known.lines at in
    record {
      text = w ∙ ap decimal (sym n);
      small = subst (λ m. m ≤ 65535) (sym n) both.0;
      found = subst (λ m. find (λ (other : Line). int_eq (pos other.name) (pos m)) f.code ≡ Some line) (sym n)
          (first_found (λ (other : Line). int_eq (pos other.name) (pos line.name)) label.0 f.code line first);
      place = subst (λ m. position (λ (other : Line). int_eq (pos other.name) (pos m)) f.code ≡ Some label.0) (sym n)
          (first_position (λ (other : Line). int_eq (pos other.name) (pos line.name)) label.0 f.code line first);
      is_cond = is;
    }

-- ---- setups and calls

abbrev pub SetupKnown : List Function → Setup → Type 0
SetupKnown fs (setups.Guess id param value) = (f : Function) × FunKnown fs id f × ParamKnown fs id param f × IsValue value
SetupKnown fs (setups.Cold id label edge) = (f : Function) × (line : Line) × FunKnown fs id f × CondKnown fs id label f line
SetupKnown fs (setups.Warm id level) = (f : Function) × FunKnown fs id f × (1 ≤ level) × (level ≤ 3)

pub setup_known : (fs : List Function) → Every (FunctionKnown fs) fs → AllDifferBy (λ f. f.name) fs → (x : Setup) → FitsSetup fs x → IsSetupWritten x →
    SetupKnown fs x
setup_known fs known differ (setups.Guess id param value) h w =
    let k : FunKnown fs id h.0 = fun_known fs id h.0 known differ h.1 in
    (h.0, k, param_known fs id param h.0 k h.2, w)
setup_known fs known differ (setups.Cold id label edge) h w =
    let k : FunKnown fs id h.0 = fun_known fs id h.0 known differ h.2 in
    (h.0, h.1, k, cond_known fs id label h.0 h.1 k h.3 h.4)
setup_known fs known differ (setups.Warm id level) h w =
    let s : (f : Function) × (slice_get fs id.0 ≡ Some f) = at_index fs id.0 h.0 in
    (s.0, fun_known fs id s.0 known differ s.1, h.1, h.2)

pub record CallKnown (fs : List Function) (call : ScriptCall) : Type 0 where
  pub callee : Function
  pub known : FunKnown fs call.function callee
  pub count : callee.params ≡ length call.args
  pub values : Every IsValue call.args
  pub few_cells : call.cells ≤ 65536
  pub some_turn : 1 ≤ call.limit
  pub few_turns : call.limit ≤ 1000000

pub call_known : (fs : List Function) → Every (FunctionKnown fs) fs → AllDifferBy (λ f. f.name) fs → (call : ScriptCall) → FitsCall fs call →
    IsCallWritten call → CallKnown fs call
call_known fs known differ call h w =
    let takes : Takes fs call.function (length call.args) = h.takes in
    record {
      callee = takes.0;
      known = fun_known fs call.function takes.0 known differ takes.1;
      count = takes.2;
      values = every_of_all IsValue call.args w;
      few_cells = h.few_cells;
      some_turn = h.some_turn;
      few_turns = h.few_turns;
    }
