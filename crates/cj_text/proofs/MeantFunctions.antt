-- The trees of a well-formed program's functions mean these functions, and have no offence.
use Rattle.std.proofs.Common.{◌≡◌, ◌∙◌, sym, ap, refl, subst, ℕ, ℤ, pos, suc, ◌+◌, ◌<◌, ◌≤◌, false, List, [], ◌∷◌, ◌++◌, length, map, take, drop, arith}
use Rattle.std.proofs.Common.{length-append, length-take}
use Rattle.std.specs.Prelude.{◌==◌, ◌||◌, not, nat_le}
use Rattle.std.specs.List.{list_any}
use Rattle.std.specs.Ordering.{int_eq}
use Rattle.std.specs.Str.{bytes_eq}
use Rattle.std.proofs.lemmas.Bool.Decides.{nat_tests, Decides-int_eq}
use Rattle.std.proofs.lemmas.List.{length-map, take-append-drop}
use Rattle.std.proofs.lemmas.Slice.Eq.{bytes_eq-Decides}
use Rattle.std.proofs.lemmas.Bool.{or_from}
use Rattle.cj_ir.specs.WellFormed.{AllDifferBy, IsFunctionFine}
use Rattle.cj_ir.specs.declared.language.Function.{Function}
use Rattle.cj_ir.specs.declared.language.Line.{Line}
use Rattle.cj_ir.specs.declared.language.Program.{Program}
use Rattle.cj_tokens.specs.Lexemes.{Lexeme, Is}
use Rattle.cj_tokens.specs.Printed.{fixed}
use Rattle.cj_tokens.specs.Scan.{next_line}
use Rattle.cj_tokens.specs.declared.terminal.Terminal.TheVariants as terminal
use Rattle.cj_tokens.specs.declared.refusal.Kind.TheVariants.{TooMany, NameTwice, Range, LabelTwice, NoEntry}
use Rattle.cj_grammar.specs.Grammar.{Leaf, Tree}
use Rattle.cj_grammar.specs.Rules as rule
use Rattle.cj_grammar.specs.Reading.{offends_if, each_offends}
use Rattle.cj_reader.specs.Scopes.{Head, scope_of}
use Rattle.cj_reader.specs.Operands.{is_long, is_line_number}
use Rattle.cj_reader.specs.Instructions.{instr_offences}
use Rattle.cj_reader.specs.Functions.{name_offences, name_tokens, names_offences, texts_of, function_name, other_names, param_tokens, other_tokens, head_of}
use Rattle.cj_reader.specs.Functions.{registers_of, head_offences, line_number, number_offences, line_offences, line_of, numbers_of, lines_offences, lines_of}
use Rattle.cj_reader.specs.Functions.{function_head, function_scope, function_offences, function_of}
use Rattle.cj_reader.specs.Meaning.{all_functions, heads_of, program_offences, program_of}
use Rattle.cj_text.specs.Written.{IsName}
use Rattle.cj_text.proofs.Chunks.{name_token, number_token}
use Rattle.cj_text.proofs.Lists.{Every, every_split, AreNew, new_of_differing, new_split}
use Rattle.cj_text.proofs.Known.{InstrKnown, FunctionKnown, name_short, numbers, head_in, heads_in, values_differ}
use Rattle.cj_text.proofs.MeantInstructions.{none, unless, same_two, same_three, known_scope, instr_fine, instr_same}
use Rattle.cj_text.proofs.Trees.{each_line, instr_tree, line_tree, lines_tree, next_name, names_tree, others_tree, head_tree, fun_end, fun_tree, fun_trees}
use Rattle.cj_text.proofs.Trees.{funs_tree}

-- ---- counts

room : (n m : ℕ) → m < n → nat_le n m ≡ false
room n m h = grind (arith, nat_tests)

one_more : {A : Type 0} (earlier : List A) (x : A) (n limit : ℕ) → length earlier + suc n ≤ limit → length (earlier ++ x ∷ []) + n ≤ limit
one_more earlier x n limit h = let l : length (earlier ++ x ∷ []) ≡ length earlier + 1 = length-append earlier (x ∷ []) in omega arith

has_room : {A : Type 0} (earlier : List A) (n limit : ℕ) → length earlier + suc n ≤ limit → nat_le limit (length earlier) ≡ false
has_room earlier n limit h = let less : length earlier < limit = omega arith in room limit (length earlier) less

-- ---- lines

abbrev IsLineKnown : List Function → Function → Line → Type 0
IsLineKnown fs f line = (line.name ≤ 65535) × InstrKnown fs f line.instr

in_range : (n : ℕ) → n ≤ 65535 → not (nat_le n 65535) ≡ false
in_range n h = grind (arith, nat_tests)

number_fine : (earlier : List ℤ) (l n rest : ℕ) → n ≤ 65535 → length earlier + suc rest ≤ 256 → list_any (λ other. int_eq other (pos n)) earlier ≡ false →
    number_offences earlier (number_token l (pos n)) ≡ []
number_fine earlier l n rest h room new =
    let t : Lexeme = number_token l (pos n) in
    none _ _ (unless (nat_le 256 (length earlier)) t TooMany (has_room earlier rest 256 room))
    (none _ _ (unless (not (is_line_number (pos n))) t Range (in_range n h)) (unless (list_any (λ other. int_eq other (pos n)) earlier) t LabelTwice new))

line_fine : (fs : List Function) (f : Function) (earlier : List ℤ) (l rest : ℕ) (line : Line) → IsLineKnown fs f line → length earlier + suc rest ≤ 256 →
    list_any (λ other. int_eq other (pos line.name)) earlier ≡ false → line_offences (known_scope fs f) earlier (line_tree fs f l line) ≡ []
unfolding rule.line line_tree line_offences
line_fine fs f earlier l rest line k room new =
    none (number_offences earlier (number_token l (pos line.name))) (instr_offences (known_scope fs f) (instr_tree fs f l line.instr))
    (number_fine earlier l line.name rest k.0 room new) (instr_fine fs f l line.instr k.1)

number_is : (fs : List Function) (f : Function) (l : ℕ) (line : Line) → (line_number (line_tree fs f l line)).number ≡ pos line.name
unfolding rule.line line_tree line_number
number_is fs f l line = refl

code_fine : (fs : List Function) (f : Function) (earlier : List ℤ) (l : ℕ) (code : List Line) → Every (IsLineKnown fs f) code →
    length earlier + length code ≤ 256 → AreNew (λ line. pos line.name) int_eq earlier code →
    each_offends (line_offences (known_scope fs f)) (λ t. (line_number t).number) earlier (each_line (line_tree fs f) l code) ≡ []
code_fine fs f earlier l [] k room new = refl
code_fine fs f earlier l (line ∷ code) k room new =
    let t : Tree rule.line = line_tree fs f (next_line l) line in
    let rest : List (Tree rule.line) = each_line (line_tree fs f) (next_line l) code in
    let number : (line_number t).number ≡ pos line.name = number_is fs f (next_line l) line in
    let more : each_offends (line_offences (known_scope fs f)) (λ t. (line_number t).number) (earlier ++ pos line.name ∷ []) rest ≡ [] =
    code_fine fs f (earlier ++ pos line.name ∷ []) (next_line l) code k.1 (one_more earlier (pos line.name) (length code) 256 room) new.1 in
    none (line_offences (known_scope fs f) earlier t)
    (each_offends (line_offences (known_scope fs f)) (λ t. (line_number t).number) (earlier ++ (line_number t).number ∷ []) rest)
    (line_fine fs f earlier (next_line l) (length code) line k.0 room new.0)
    (ap (λ z. each_offends (line_offences (known_scope fs f)) (λ t. (line_number t).number) (earlier ++ z ∷ []) rest) number ∙ more)

line_same : (fs : List Function) (f : Function) (l : ℕ) (line : Line) → IsLineKnown fs f line → line_of (known_scope fs f) (line_tree fs f l line) ≡ line
unfolding rule.line line_tree line_of
line_same fs f l line k = ap (λ i. let new : Line = record { name = line.name; instr = i } in new) (instr_same fs f l line.instr k.1)

code_same : (fs : List Function) (f : Function) (l : ℕ) (code : List Line) → Every (IsLineKnown fs f) code →
    map (line_of (known_scope fs f)) (each_line (line_tree fs f) l code) ≡ code
code_same fs f l [] k = refl
code_same fs f l (line ∷ code) k = same_two (λ (x : Line) (xs : List Line). x ∷ xs) (line_same fs f (next_line l) line k.0)
    (code_same fs f (next_line l) code k.1)

code_numbers : (fs : List Function) (f : Function) (l : ℕ) (code : List Line) →
    map (λ (t : Tree rule.line). (line_number t).number) (each_line (line_tree fs f) l code) ≡ numbers code
code_numbers fs f l [] = refl
code_numbers fs f l (line ∷ code) = same_two (λ (x : ℤ) (xs : List ℤ). x ∷ xs) (number_is fs f (next_line l) line) (code_numbers fs f (next_line l) code)

numbers_same : (fs : List Function) (f : Function) (l : ℕ) → numbers_of (lines_tree fs f l f.code) ≡ numbers f.code
unfolding rule.lines lines_tree numbers_of
numbers_same fs f l = code_numbers fs f l f.code

lines_fine : (fs : List Function) (f : Function) (l : ℕ) → FunctionKnown fs f → lines_offences (known_scope fs f) (lines_tree fs f l f.code) ≡ []
unfolding rule.lines lines_tree lines_offences
lines_fine fs f l k =
    let fine : IsFunctionFine fs f = k.fine in
    let few : length f.code ≤ 256 = fine.few_labels in
    let room : length {A = ℤ} [] + length f.code ≤ 256 = omega arith in
    code_fine fs f [] l f.code k.lines room
    (new_of_differing (λ (line : Line). pos line.name) int_eq Decides-int_eq f.code (values_differ f.code fine.labels_differ))

lines_same : (fs : List Function) (f : Function) (l : ℕ) → FunctionKnown fs f → lines_of (known_scope fs f) (lines_tree fs f l f.code) ≡ f.code
unfolding rule.lines lines_tree lines_of
lines_same fs f l k = code_same fs f l f.code k.lines

-- ---- names

name_fine : (limit : ℕ) (earlier : List (List ℕ)) (l rest : ℕ) (name : List ℕ) → IsName name → length earlier + suc rest ≤ limit →
    list_any (λ other. bytes_eq other name) earlier ≡ false → name_offences limit earlier (name_token l name) ≡ []
name_fine limit earlier l rest name h room new =
    let t : Lexeme = name_token l name in
    none _ _ (unless (is_long t || nat_le limit (length earlier)) t TooMany
    (or_from (is_long t) (nat_le limit (length earlier)) (name_short name h) (has_room earlier rest limit room)))
    (unless (list_any (λ other. bytes_eq other name) earlier) t NameTwice new)

names_fine : (limit : ℕ) (earlier : List (List ℕ)) (l : ℕ) (names : List (List ℕ)) → Every IsName names → length earlier + length names ≤ limit →
    AreNew (λ name. name) bytes_eq earlier names → names_offences limit earlier (map (name_token l) names) ≡ []
names_fine limit earlier l [] h room new = refl
names_fine limit earlier l (name ∷ names) h room new =
    none (name_offences limit earlier (name_token l name)) (names_offences limit (earlier ++ name ∷ []) (map (name_token l) names))
    (name_fine limit earlier l (length names) name h.0 room new.0)
    (names_fine limit (earlier ++ name ∷ []) l names h.1 (one_more earlier name (length names) limit room) new.1)

abbrev Next : Type 0
Next = Leaf (Is terminal.Comma) × Leaf (Is terminal.Name)

next_tokens : (l : ℕ) (names : List (List ℕ)) → map (λ (t : Next). t.1.token) (map (next_name l) names) ≡ map (name_token l) names
next_tokens l [] = refl
next_tokens l (name ∷ names) = ap (λ (ts : List Lexeme). name_token l name ∷ ts) (next_tokens l names)

names_tokens : (l : ℕ) (names : List (List ℕ)) → name_tokens (names_tree l names) ≡ map (name_token l) names
unfolding rule.names rule.more_names names_tree name_tokens
names_tokens l [] = refl
names_tokens l (name ∷ names) = ap (λ (ts : List Lexeme). name_token l name ∷ ts) (next_tokens l names)

others_tokens : (l : ℕ) (names : List (List ℕ)) → other_names (others_tree l names) ≡ map (name_token l) names
unfolding rule.names rule.more_names others_tree other_names name_tokens
others_tokens l [] = refl
others_tokens l (name ∷ names) = ap (λ (ts : List Lexeme). name_token l name ∷ ts) (next_tokens l names)

texts_same : (l : ℕ) (names : List (List ℕ)) → texts_of (map (name_token l) names) ≡ names
texts_same l [] = refl
texts_same l (name ∷ names) = ap (λ (all : List (List ℕ)). name ∷ all) (texts_same l names)

-- ---- heads

name_is : (l : ℕ) (f : Function) → function_name (head_tree l f) ≡ name_token l f.name
unfolding rule.head head_tree function_name
name_is l f = refl

params_are : (l : ℕ) (f : Function) → param_tokens (head_tree l f) ≡ map (name_token l) (take f.params f.regs)
unfolding rule.head head_tree param_tokens
params_are l f = names_tokens l (take f.params f.regs)

others_are : (l : ℕ) (f : Function) → other_tokens (head_tree l f) ≡ map (name_token l) (drop f.params f.regs)
unfolding rule.head head_tree other_tokens
others_are l f = others_tokens l (drop f.params f.regs)

registers_same : (l : ℕ) (f : Function) → registers_of (head_tree l f) ≡ f.regs
registers_same l f =
    same_two (λ (xs ys : List (List ℕ)). xs ++ ys) (ap texts_of (params_are l f) ∙ texts_same l (take f.params f.regs)) (ap texts_of (others_are l f)
    ∙ texts_same l (drop f.params f.regs)) ∙ take-append-drop f.params f.regs

length_front : (n : ℕ) (xs : List (List ℕ)) → n ≤ length xs → length (take n xs) ≡ n
length_front n xs h = omega (arith, length-take n xs)

params_same : (fs : List Function) (l : ℕ) (f : Function) → FunctionKnown fs f → length (param_tokens (head_tree l f)) ≡ f.params
params_same fs l f k =
    let fine : IsFunctionFine fs f = k.fine in
    ap (λ (ts : List Lexeme). length ts) (params_are l f)
    ∙ (length-map (take f.params f.regs) (name_token l) ∙ length_front f.params f.regs fine.params_are_registers)

head_same : (fs : List Function) (l : ℕ) (f : Function) → FunctionKnown fs f → head_of (head_tree l f) ≡ head_in f
head_same fs l f k =
    same_two (λ (n : List ℕ) (m : ℕ). let h : Head = record { name = n; params = m } in h) (ap (λ (t : Lexeme). t.text) (name_is l f)) (params_same fs l f k)

head_fine : (fs : List Function) (earlier : List (List ℕ)) (l rest : ℕ) (f : Function) → FunctionKnown fs f → length earlier + suc rest ≤ 64 →
    list_any (λ other. bytes_eq other f.name) earlier ≡ false → head_offences earlier (head_tree l f) ≡ []
head_fine fs earlier l rest f k room new =
    let fine : IsFunctionFine fs f = k.fine in
    let front : List (List ℕ) = take f.params f.regs in
    let back : List (List ℕ) = drop f.params f.regs in
    let all : front ++ back ≡ f.regs = take-append-drop f.params f.regs in
    let named : Every IsName front
    × Every IsName back = every_split IsName front back (subst (λ (names : List (List ℕ)). Every IsName names) (sym all) k.registers) in
    let news : AreNew (λ (name : List ℕ). name) bytes_eq [] f.regs = new_of_differing (λ (name : List ℕ). name) bytes_eq bytes_eq-Decides f.regs
    fine.registers_differ in
    let split : AreNew (λ (name : List ℕ). name) bytes_eq [] front
    × AreNew (λ (name : List ℕ). name) bytes_eq ([] ++ map (λ (name : List ℕ). name) front) back =
    new_split (λ (name : List ℕ). name) bytes_eq [] front back
    (subst (λ (names : List (List ℕ)). AreNew (λ (name : List ℕ). name) bytes_eq [] names) (sym all) news) in
    let few : f.params ≤ 8 = fine.few_params in
    let n : length front ≡ f.params = length_front f.params f.regs fine.params_are_registers in
    let room_front : length {A = List ℕ} [] + length front ≤ 8 = omega arith in
    let both : length front + length back ≡ length f.regs = sym (length-append front back) ∙ ap (λ (xs : List (List ℕ)). length xs) all in
    let few_all : length f.regs ≤ 32 = fine.few_registers in
    let room_back : length front + length back ≤ 32 = omega arith in
    let first : name_offences 64 earlier (function_name (head_tree l f)) ≡ [] = ap (name_offences 64 earlier) (name_is l f)
    ∙ name_fine 64 earlier l rest f.name k.name room new in
    let second : names_offences 8 [] (param_tokens (head_tree l f)) ≡ [] = ap (names_offences 8 []) (params_are l f)
    ∙ names_fine 8 [] l front named.0 room_front split.0 in
    let texts : texts_of (param_tokens (head_tree l f)) ≡ front = ap texts_of (params_are l f) ∙ texts_same l front in
    let third : names_offences 32 (texts_of (param_tokens (head_tree l f))) (other_tokens (head_tree l f)) ≡ [] =
    same_two (λ (es : List (List ℕ)) (ts : List Lexeme). names_offences 32 es ts) texts (others_are l f)
    ∙ names_fine 32 front l back named.1 room_back
    (subst (λ (es : List (List ℕ)). AreNew (λ (name : List ℕ). name) bytes_eq es back) (identity front) split.1) in
    none _ _ first (none _ _ second third)
  where
    identity : (xs : List (List ℕ)) → map (λ (name : List ℕ). name) xs ≡ xs
    identity [] = refl
    identity (x ∷ xs) = ap (λ (ys : List (List ℕ)). x ∷ ys) (identity xs)

-- ---- functions

scope_same : (fs : List Function) (l : ℕ) (f : Function) → function_scope (heads_in fs) (head_tree l f) (lines_tree fs f l f.code) ≡ known_scope fs f
scope_same fs l f = same_two (scope_of (heads_in fs)) (registers_same l f) (numbers_same fs f l)

some_lines : (n : ℕ) → 0 < n → (n == 0) ≡ false
some_lines n h = grind (arith, nat_tests)

length_numbers : (fs : List Function) (l : ℕ) (f : Function) → length (numbers_of (lines_tree fs f l f.code)) ≡ length f.code
length_numbers fs l f = ap (λ (zs : List ℤ). length zs) (numbers_same fs f l) ∙ length-map f.code (λ (line : Line). pos line.name)

function_fine : (fs : List Function) (earlier : List (List ℕ)) (l rest : ℕ) (f : Function) → FunctionKnown fs f → length earlier + suc rest ≤ 64 →
    list_any (λ other. bytes_eq other f.name) earlier ≡ false → function_offences (heads_in fs) earlier (fun_tree fs l f) ≡ []
unfolding rule.fun fun_tree function_offences
function_fine fs earlier l rest f k room new =
    let fine : IsFunctionFine fs f = k.fine in
    let body : Tree rule.lines = lines_tree fs f l f.code in
    let last : Lexeme = fixed terminal.CloseBrace (fun_end l f) in
    let some : (length (numbers_of body) == 0) ≡ false = ap (λ n. n == 0) (length_numbers fs l f) ∙ some_lines (length f.code) fine.has_entry in
    let code : lines_offences (function_scope (heads_in fs) (head_tree l f) body) body ≡ [] = ap (λ s. lines_offences s body) (scope_same fs l f)
    ∙ lines_fine fs f l k in
    none (head_offences earlier (head_tree l f)) (lines_offences (function_scope (heads_in fs) (head_tree l f) body) body
    ++ offends_if (length (numbers_of body) == 0) last NoEntry)
    (head_fine fs earlier l rest f k room new)
    (none (lines_offences (function_scope (heads_in fs) (head_tree l f) body) body) (offends_if (length (numbers_of body) == 0) last NoEntry) code
    (unless (length (numbers_of body) == 0) last NoEntry some))

function_same : (fs : List Function) (l : ℕ) (f : Function) → FunctionKnown fs f → function_of (heads_in fs) (fun_tree fs l f) ≡ f
unfolding rule.fun fun_tree function_of
function_same fs l f k =
    let body : Tree rule.lines = lines_tree fs f l f.code in
    let code : lines_of (function_scope (heads_in fs) (head_tree l f) body) body ≡ f.code = ap (λ s. lines_of s body) (scope_same fs l f)
    ∙ lines_same fs f l k in
    ap (λ (name : List ℕ). let new : Function = record {
      name = name;
      params = length (param_tokens (head_tree l f));
      regs = registers_of
          (head_tree l f);
      code = lines_of (function_scope (heads_in fs) (head_tree l f) body) body;
    } in new) (ap (λ (t : Lexeme). t.text) (name_is l f))
    ∙ same_three (λ (params : ℕ) (regs : List (List ℕ)) (lines : List Line). let new : Function = record
    { name = f.name; params = params; regs = regs; code = lines } in new) (params_same fs l f k) (registers_same l f) code

head_of_fun : (fs : List Function) (l : ℕ) (f : Function) → function_head (fun_tree fs l f) ≡ head_tree l f
unfolding rule.fun fun_tree function_head
head_of_fun fs l f = refl

fun_name : (fs : List Function) (l : ℕ) (f : Function) → (function_name (function_head (fun_tree fs l f))).text ≡ f.name
fun_name fs l f = ap (λ (t : Tree rule.head). (function_name t).text) (head_of_fun fs l f) ∙ ap (λ (t : Lexeme). t.text) (name_is l f)

-- ---- all functions

heads_same : (fs : List Function) (l : ℕ) (xs : List Function) → Every (FunctionKnown fs) xs →
    map (λ (t : Tree rule.fun). head_of (function_head t)) (fun_trees fs l xs) ≡ heads_in xs
heads_same fs l [] k = refl
heads_same fs l (f ∷ more) k =
    same_two (λ (x : Head) (xs : List Head). x ∷ xs) (ap (λ (t : Tree rule.head). head_of t) (head_of_fun fs l f) ∙ head_same fs l f k.0)
    (heads_same fs (next_line (fun_end l f)) more k.1)

functions_same : (fs : List Function) (l : ℕ) (xs : List Function) → Every (FunctionKnown fs) xs → map (function_of (heads_in fs)) (fun_trees fs l xs) ≡ xs
functions_same fs l [] k = refl
functions_same fs l (f ∷ more) k =
    same_two (λ (x : Function) (xs : List Function). x ∷ xs) (function_same fs l f k.0) (functions_same fs (next_line (fun_end l f)) more k.1)

functions_fine : (fs : List Function) (earlier : List (List ℕ)) (l : ℕ) (xs : List Function) → Every (FunctionKnown fs) xs → length earlier + length xs ≤ 64 →
    AreNew (λ f. f.name) bytes_eq earlier xs →
    each_offends (function_offences (heads_in fs)) (λ t. (function_name (function_head t)).text) earlier (fun_trees fs l xs) ≡ []
functions_fine fs earlier l [] k room new = refl
functions_fine fs earlier l (f ∷ more) k room new =
    let t : Tree rule.fun = fun_tree fs l f in
    let rest : List (Tree rule.fun) = fun_trees fs (next_line (fun_end l f)) more in
    none (function_offences (heads_in fs) earlier t)
    (each_offends (function_offences (heads_in fs)) (λ t. (function_name (function_head t)).text) (earlier ++ (function_name (function_head t)).text
    ∷ []) rest)
    (function_fine fs earlier l (length more) f k.0 room new.0)
    (ap (λ name. each_offends (function_offences (heads_in fs)) (λ t. (function_name (function_head t)).text) (earlier ++ name ∷ []) rest) (fun_name fs l f)
    ∙ functions_fine fs (earlier ++ f.name ∷ []) (next_line (fun_end l f)) more k.1 (one_more earlier f.name (length more) 64 room) new.1)

-- ---- programs

all_are : (fs : List Function) (f : Function) (more : List Function) → all_functions (funs_tree fs f more) ≡ fun_trees fs 1 (f ∷ more)
unfolding rule.funs rule.more_funs funs_tree all_functions
all_are fs f more = refl

heads_are : (f : Function) (more : List Function) → Every (FunctionKnown (f ∷ more)) (f ∷ more) → heads_of (funs_tree (f ∷ more) f more) ≡ heads_in (f ∷ more)
unfolding heads_of
heads_are f more k = ap (λ (ts : List (Tree rule.fun)). map (λ (t : Tree rule.fun). head_of (function_head t)) ts) (all_are (f ∷ more) f more)
    ∙ heads_same (f ∷ more) 1 (f ∷ more) k

pub program_same : (f : Function) (more : List Function) → Every (FunctionKnown (f ∷ more)) (f ∷ more) →
    program_of (funs_tree (f ∷ more) f more) ≡ record { functions = f ∷ more }
unfolding program_of
program_same f more k =
    ap (λ (fs : List Function). let p : Program = record { functions = fs } in p)
    (same_two (λ (hs : List Head) (ts : List (Tree rule.fun)). map (function_of hs) ts) (heads_are f more k) (all_are (f ∷ more) f more)
    ∙ functions_same (f ∷ more) 1 (f ∷ more) k)

pub program_fine : (f : Function) (more : List Function) → Every (FunctionKnown (f ∷ more)) (f ∷ more) → length (f ∷ more) ≤ 64 →
    AllDifferBy (λ f. f.name) (f ∷ more) → program_offences (funs_tree (f ∷ more) f more) ≡ []
unfolding program_offences
program_fine f more k few differ =
    let room : length {A = List ℕ} [] + length (f ∷ more) ≤ 64 = omega arith in
    same_two (λ (hs : List Head) (ts : List (Tree rule.fun)). each_offends (function_offences hs) (λ t. (function_name (function_head t)).text) [] ts)
    (heads_are f more k) (all_are (f ∷ more) f more)
    ∙ functions_fine (f ∷ more) [] 1 (f ∷ more) k room (new_of_differing (λ (g : Function). g.name) bytes_eq bytes_eq-Decides (f ∷ more) differ)
