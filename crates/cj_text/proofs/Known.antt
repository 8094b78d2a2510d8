-- What is known of the names, the numbers and the functions that a well-formed program's instructions use: each is
-- printed as a token, and stands first at its own place.
use Rattle.std.proofs.Common.{◌≡◌, ◌∙◌, sym, ap, subst, ℕ, ℤ, pos, zero, suc, ◌+◌, ◌<◌, ◌≤◌, true, false, List, [], ◌∷◌, length, map, arith}
use Rattle.std.specs.Prelude.{Some, slice_get, ◌&&◌, nat_lt, nat_le, decimal, not}
use Rattle.std.specs.Ordering.{int_eq}
use Rattle.std.specs.Str.{bytes_eq}
use Rattle.std.specs.List.{list_all}
use Rattle.std.proofs.lemmas.Bool.Decides.{nat_tests, Decides-int_eq}
use Rattle.std.proofs.lemmas.Slice.Eq.{bytes_eq-Decides}
use Rattle.std.proofs.lemmas.Bool.{and_parts}
use Rattle.cj_ir.specs.Texts.{is_letter_or_digit, starts_with_letter, is_keyword, is_text_byte, is_fail_text}
use Rattle.cj_ir.specs.Values.{IsOperandWithin, IsExprWithin}
use Rattle.cj_ir.specs.WellFormed.{AllDifferBy, Takes, IsInstrFine, IsFunctionFine}
use Rattle.cj_ir.specs.declared.language.Expr.{Expr}
use Rattle.cj_ir.specs.declared.language.Expr.TheVariants as exprs
use Rattle.cj_ir.specs.declared.language.FunId.{FunId}
use Rattle.cj_ir.specs.declared.language.Function.{Function}
use Rattle.cj_ir.specs.declared.language.Instr.{Instr}
use Rattle.cj_ir.specs.declared.language.Instr.TheVariants as instrs
use Rattle.cj_ir.specs.declared.language.Label.{Label}
use Rattle.cj_ir.specs.declared.language.Line.{Line}
use Rattle.cj_ir.specs.declared.language.Operand.{Operand}
use Rattle.cj_ir.specs.declared.language.Operand.TheVariants as operands
use Rattle.cj_ir.specs.declared.language.Reg.{Reg}
use Rattle.cj_reader.specs.Scopes.{Head, first_named, name_place, number_place}
use Rattle.cj_reader.specs.declared.scope.Callee.{Callee}
use Rattle.cj_printer.specs.Canonical.{text_or_none, name_of, reg_text, function_text, number_text, label_text}
use Rattle.cj_text.specs.Written.{IsName, IsValue, IsOperandWritten, IsExprWritten, IsInstrWritten, IsFunctionWritten}
use Rattle.cj_text.proofs.Trees.{number_at, label_number}
use Rattle.cj_text.proofs.Lists.{Every, every_of_all, every_both, every_at, IsFirst, first_placed, first_position, first_of_differing, position_map}
use Rattle.cj_ir.proofs.ListReads.{at_index}

within : (n : ℕ) → nat_le n 32 ≡ true → nat_lt 32 n ≡ false
within n h = grind (arith, nat_tests)

-- a name is no longer than 32 bytes
pub name_short : (w : List ℕ) → IsName w → nat_lt 32 (length w) ≡ false
name_short w h =
    let f : ((starts_with_letter w && list_all is_letter_or_digit w && nat_le (length w) 32) ≡ true) × (not (is_keyword w) ≡ true) = and_parts _ _ h in
    let g : ((starts_with_letter w && list_all is_letter_or_digit w) ≡ true) × (nat_le (length w) 32 ≡ true) = and_parts _ _ f.0 in
    within (length w) g.1

within_text : (n : ℕ) → nat_le n 64 ≡ true → nat_lt 64 n ≡ false
within_text n h = grind (arith, nat_tests)

pub text_parts : (t : List ℕ) → is_fail_text t ≡ true → (list_all is_text_byte t ≡ true) × (nat_lt 64 (length t) ≡ false)
text_parts t h =
    let p : (list_all is_text_byte t ≡ true) × (nat_le (length t) 64 ≡ true) = and_parts _ _ h in
    (p.0, within_text (length t) p.1)

-- ---- registers

pub record RegKnown (f : Function) (r : Reg) : Type 0 where
  pub name : IsName (reg_text f r)
  pub short : nat_lt 32 (length (reg_text f r)) ≡ false
  pub place : name_place f.regs (reg_text f r) ≡ Some r.0

pub reg_known : (f : Function) (r : Reg) → Every IsName f.regs → AllDifferBy (λ name. name) f.regs → r.0 < length f.regs → RegKnown f r
reg_known f r names differ h =
    let s : (x : List ℕ) × (slice_get f.regs r.0 ≡ Some x) = at_index f.regs r.0 h in
    let t : reg_text f r ≡ s.0 = ap text_or_none s.1 in
    let n : IsName s.0 = every_at IsName f.regs r.0 s.0 names s.1 in
    let p : name_place f.regs s.0
    ≡ Some r.0 = first_position (λ other. bytes_eq other s.0) r.0 f.regs s.0
    (first_of_differing (λ name. name) bytes_eq bytes_eq-Decides r.0 f.regs s.0 differ s.1) in
    record {
      name = subst IsName (sym t) n;
      short = subst (λ w. nat_lt 32 (length w) ≡ false) (sym t) (name_short s.0 n);
      place = subst (λ w. name_place f.regs w ≡ Some r.0) (sym t) p;
    }

-- ---- labels

abbrev pub numbers : List Line → List ℤ
numbers code = map (λ line. pos line.name) code

pub record LabelKnown (f : Function) (l : Label) : Type 0 where
  pub text : label_text f l ≡ decimal (label_number f l)
  pub small : label_number f l ≤ 65535
  pub range : nat_le (label_number f l) 65535 ≡ true
  pub place : number_place (numbers f.code) (pos (label_number f l)) ≡ Some l.0

pos_same : (m n : ℕ) → pos m ≡ pos n → m ≡ n
pos_same m n h = cc

pub values_differ : (code : List Line) → AllDifferBy (λ line. line.name) code → AllDifferBy (λ line. pos line.name) code
values_differ code h = λ i j d below in_code e. h i j d below in_code (pos_same _ _ e)

-- a line with its number is the first with it
pub line_first : (code : List Line) (n : ℕ) (line : Line) → AllDifferBy (λ line. line.name) code → slice_get code n ≡ Some line →
    IsFirst (λ other. int_eq (pos other.name) (pos line.name)) n code line
line_first code n line differ s = first_of_differing (λ (l : Line). pos l.name) int_eq Decides-int_eq n code line (values_differ code differ) s

small_number : (n : ℕ) → n ≤ 65535 → nat_le n 65535 ≡ true
small_number n h = grind (arith, nat_tests)

pub label_known : (f : Function) (l : Label) → Every (λ line. line.name ≤ 65535) f.code → AllDifferBy (λ line. line.name) f.code → l.0 < length f.code →
    LabelKnown f l
label_known f l small differ h =
    let s : (x : Line) × (slice_get f.code l.0 ≡ Some x) = at_index f.code l.0 h in
    let t : label_number f l ≡ s.0.name = ap number_at s.1 in
    let w : label_text f l ≡ decimal s.0.name = ap number_text s.1 in
    let n : s.0.name ≤ 65535 = every_at (λ line. line.name ≤ 65535) f.code l.0 s.0 small s.1 in
    let p : number_place (numbers f.code) (pos s.0.name)
    ≡ Some l.0 = position_map (λ (line : Line). pos line.name) (λ other. int_eq other (pos s.0.name)) 0 f.code
    ∙ first_placed (λ (other : Line). int_eq (pos other.name) (pos s.0.name)) l.0 f.code s.0 (line_first f.code l.0 s.0 differ s.1) in
    record {
      text = w ∙ ap decimal (sym t);
      small = subst (λ n. n ≤ 65535) (sym t) n;
      range = subst (λ n. nat_le n 65535 ≡ true) (sym t) (small_number s.0.name n);
      place = subst (λ n. number_place (numbers f.code) (pos n) ≡ Some l.0) (sym t) p;
    }

-- ---- functions

abbrev pub head_in : Function → Head
head_in f = record { name = f.name; params = f.params }

abbrev pub heads_in : List Function → List Head
heads_in fs = map head_in fs

abbrev pub callee_in : FunId → ℕ → Callee
callee_in id params = record { function = id; params = params }

pub record CalleeKnown (fs : List Function) (id : FunId) (count : ℕ) : Type 0 where
  pub name : IsName (function_text fs id)
  pub short : nat_lt 32 (length (function_text fs id)) ≡ false
  pub place : first_named 0 (heads_in fs) (function_text fs id) ≡ Some (callee_in id count)

first_named_at : (name : List ℕ) (i n : ℕ) (fs : List Function) (f : Function) → IsFirst (λ g. bytes_eq g.name name) n fs f →
    first_named i (heads_in fs) name ≡ Some (callee_in (record { 0 = i + n }) f.params)
first_named_at name i n [] f h = absurd h
first_named_at name i zero (g ∷ gs) f h =
    let e : i ≡ i + 0 = omega arith in
    let p : g.params ≡ f.params = ap (λ (x : Function). x.params) h.0 in
    rw h.1 (ap (λ k. Some (callee_in (record { 0 = k }) g.params)) e ∙ ap (λ k. Some (callee_in (record { 0 = i + 0 }) k)) p)
first_named_at name i (suc n) (g ∷ gs) f h =
    let e : i + 1 + n ≡ i + suc n = omega arith in
    rw h.0 (first_named_at name (i + 1) n gs f h.1 ∙ ap (λ k. Some (callee_in (record { 0 = k }) f.params)) e)

pub function_first : (fs : List Function) (id : FunId) (f : Function) → AllDifferBy (λ f. f.name) fs → slice_get fs id.0 ≡ Some f →
    IsFirst (λ g. bytes_eq g.name f.name) id.0 fs f
function_first fs id f differ s = first_of_differing (λ (g : Function). g.name) bytes_eq bytes_eq-Decides id.0 fs f differ s

pub callee_known : (fs : List Function) (id : FunId) (count : ℕ) → Every (λ f. IsName f.name) fs → AllDifferBy (λ f. f.name) fs → Takes fs id count →
    CalleeKnown fs id count
callee_known fs id count names differ takes =
    let f : Function = takes.0 in
    let s : slice_get fs id.0 ≡ Some f = takes.1 in
    let t : function_text fs id ≡ f.name = ap name_of s in
    let n : IsName f.name = every_at (λ f. IsName f.name) fs id.0 f names s in
    let z : 0 + id.0 ≡ id.0 = omega arith in
    let p : first_named 0 (heads_in fs) f.name ≡ Some (callee_in id count) =
    first_named_at f.name 0 id.0 fs f (function_first fs id f differ s)
    ∙ (ap (λ k. Some (callee_in (record { 0 = k }) f.params)) z ∙ ap (λ k. Some (callee_in id k)) takes.2) in
    record {
      name = subst IsName (sym t) n;
      short = subst (λ w. nat_lt 32 (length w) ≡ false) (sym t) (name_short f.name n);
      place = subst (λ w. first_named 0 (heads_in fs) w ≡ Some (callee_in id count)) (sym t) p;
    }

-- ---- instructions

abbrev pub OperandKnown : Function → Operand → Type 0
OperandKnown f (operands.Reg r) = RegKnown f r
OperandKnown f (operands.Const z) = IsValue z

abbrev pub ExprKnown : Function → Expr → Type 0
ExprKnown f (exprs.Copy a) = OperandKnown f a
ExprKnown f (exprs.Neg a) = OperandKnown f a
ExprKnown f (exprs.Eqz a) = OperandKnown f a
ExprKnown f (exprs.Add a b) = OperandKnown f a × OperandKnown f b
ExprKnown f (exprs.Sub a b) = OperandKnown f a × OperandKnown f b
ExprKnown f (exprs.Mul a b) = OperandKnown f a × OperandKnown f b
ExprKnown f (exprs.Div a b) = OperandKnown f a × OperandKnown f b
ExprKnown f (exprs.Rem a b) = OperandKnown f a × OperandKnown f b
ExprKnown f (exprs.Eq a b) = OperandKnown f a × OperandKnown f b
ExprKnown f (exprs.Lt a b) = OperandKnown f a × OperandKnown f b

abbrev pub InstrKnown : List Function → Function → Instr → Type 0
InstrKnown fs f (instrs.Nop next) = LabelKnown f next
InstrKnown fs f (instrs.Op dest e next) = RegKnown f dest × ExprKnown f e × LabelKnown f next
InstrKnown fs f (instrs.Cond test then_to else_to) = OperandKnown f test × LabelKnown f then_to × LabelKnown f else_to
InstrKnown fs f (instrs.Call dest callee args next) =
    RegKnown f dest × CalleeKnown fs callee (length args) × Every (OperandKnown f) args × LabelKnown f next
InstrKnown fs f (instrs.Return value) = OperandKnown f value
InstrKnown fs f (instrs.Print value next) = OperandKnown f value × LabelKnown f next
InstrKnown fs f (instrs.Load dest address next) = RegKnown f dest × OperandKnown f address × LabelKnown f next
InstrKnown fs f (instrs.Store address value next) = OperandKnown f address × OperandKnown f value × LabelKnown f next
InstrKnown fs f (instrs.Fail text) = is_fail_text text ≡ true

-- what makes all names of a function known
pub record NamesKnown (fs : List Function) (f : Function) : Type 0 where
  pub reg : (r : Reg) → r.0 < length f.regs → RegKnown f r
  pub label : (l : Label) → l.0 < length f.code → LabelKnown f l
  pub callee : (id : FunId) (count : ℕ) → Takes fs id count → CalleeKnown fs id count

operand_known : (fs : List Function) (f : Function) → NamesKnown fs f → (a : Operand) → IsOperandWithin (length f.regs) a → IsOperandWritten a →
    OperandKnown f a
operand_known fs f k (operands.Reg r) h w = k.reg r h
operand_known fs f k (operands.Const z) h w = w

expr_known : (fs : List Function) (f : Function) → NamesKnown fs f → (e : Expr) → IsExprWithin (length f.regs) e → IsExprWritten e → ExprKnown f e
expr_known fs f k (exprs.Copy a) h w = operand_known fs f k a h w
expr_known fs f k (exprs.Neg a) h w = operand_known fs f k a h w
expr_known fs f k (exprs.Eqz a) h w = operand_known fs f k a h w
expr_known fs f k (exprs.Add a b) h w = (operand_known fs f k a h.0 w.0, operand_known fs f k b h.1 w.1)
expr_known fs f k (exprs.Sub a b) h w = (operand_known fs f k a h.0 w.0, operand_known fs f k b h.1 w.1)
expr_known fs f k (exprs.Mul a b) h w = (operand_known fs f k a h.0 w.0, operand_known fs f k b h.1 w.1)
expr_known fs f k (exprs.Div a b) h w = (operand_known fs f k a h.0 w.0, operand_known fs f k b h.1 w.1)
expr_known fs f k (exprs.Rem a b) h w = (operand_known fs f k a h.0 w.0, operand_known fs f k b h.1 w.1)
expr_known fs f k (exprs.Eq a b) h w = (operand_known fs f k a h.0 w.0, operand_known fs f k b h.1 w.1)
expr_known fs f k (exprs.Lt a b) h w = (operand_known fs f k a h.0 w.0, operand_known fs f k b h.1 w.1)

pub instr_known : (fs : List Function) (f : Function) → NamesKnown fs f → (i : Instr) → IsInstrFine fs (length f.regs) (length f.code) i → IsInstrWritten i →
    InstrKnown fs f i
instr_known fs f k (instrs.Nop next) h w = k.label next h
instr_known fs f k (instrs.Op dest e next) h w = (k.reg dest h.0, expr_known fs f k e h.1 w, k.label next h.2)
instr_known fs f k (instrs.Cond test then_to else_to) h w = (operand_known fs f k test h.0 w, k.label then_to h.1, k.label else_to h.2)
instr_known fs f k (instrs.Call dest callee args next) h w =
    let within_all : Every (IsOperandWithin (length f.regs)) args = every_of_all (IsOperandWithin (length f.regs)) args h.2 in
    let written_all : Every IsOperandWritten args = every_of_all IsOperandWritten args w in (
      k.reg dest h.0,
      k.callee callee (length args) h.1,
      every_both (IsOperandWithin (length f.regs)) IsOperandWritten (OperandKnown f)
          (operand_known fs f k) args within_all written_all,
      k.label next h.3,
    )
instr_known fs f k (instrs.Return value) h w = operand_known fs f k value h w
instr_known fs f k (instrs.Print value next) h w = (operand_known fs f k value h.0 w, k.label next h.1)
instr_known fs f k (instrs.Load dest address next) h w = (k.reg dest h.0, operand_known fs f k address h.1 w, k.label next h.2)
instr_known fs f k (instrs.Store address value next) h w = (operand_known fs f k address h.0 w.0, operand_known fs f k value h.1 w.1, k.label next h.2)
instr_known fs f k (instrs.Fail text) h w = w

-- ---- well-formed functions

pub record FunctionKnown (fs : List Function) (f : Function) : Type 0 where
  pub name : IsName f.name
  pub registers : Every IsName f.regs
  pub fine : IsFunctionFine fs f
  pub lines : Every (λ line. (line.name ≤ 65535) × InstrKnown fs f line.instr) f.code

pub names_known : (fs : List Function) (f : Function) → Every (λ f. IsName f.name) fs → AllDifferBy (λ f. f.name) fs → IsFunctionFine fs f →
    IsFunctionWritten f → NamesKnown fs f
names_known fs f names differ fine written = record {
  reg = λ r h. reg_known f r (every_of_all IsName f.regs written.registers) fine.registers_differ h;
  label = λ l h. label_known f l (every_of_all (λ line. line.name ≤ 65535) f.code fine.small_labels) fine.labels_differ h;
  callee = λ id count takes. callee_known fs id count names differ takes;
}

pub function_known : (fs : List Function) (f : Function) → Every (λ f. IsName f.name) fs → AllDifferBy (λ f. f.name) fs → IsFunctionFine fs f →
    IsFunctionWritten f → FunctionKnown fs f
function_known fs f names differ fine written =
    let k : NamesKnown fs f = names_known fs f names differ fine written in
    let Small : Line → Type 0 = λ line. line.name ≤ 65535 in
    let Fine : Line → Type 0 = λ line. IsInstrFine fs (length f.regs) (length f.code) line.instr in
    let Written : Line → Type 0 = λ line. IsInstrWritten line.instr in
    let Known : Line → Type 0 = λ line. InstrKnown fs f line.instr in
    let instructions : Every Known f.code = every_both Fine Written Known (λ line h w. instr_known fs f k line.instr h w) f.code
    (every_of_all Fine f.code fine.instructions) (every_of_all Written f.code written.instructions) in
    record {
      name = written.name;
      registers = every_of_all IsName f.regs written.registers;
      fine = fine;
      lines = every_both Small Known (λ line. Small line × Known line) (λ line s h. (s, h)) f.code (every_of_all Small f.code fine.small_labels) instructions;
    }
