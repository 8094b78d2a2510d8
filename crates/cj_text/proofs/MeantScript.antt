-- The tree of a fitting script means that script, and has no offence.
use Rattle.std.proofs.Common.{◌≡◌, ◌∙◌, sym, ap, refl, ℕ, ℤ, pos, ◌+◌, ◌+ℤ◌, ◌<◌, ◌≤◌, false, List, [], ◌∷◌, ◌++◌, length, map, arith, length-append}
use Rattle.std.specs.Prelude.{Option, ◌==◌, not, ◌&&◌, slice_get, unwrap_or, nat_le, nat_lt, int_le, int_lt}
use Rattle.std.specs.List.{sum_by}
use Rattle.std.proofs.lemmas.Bool.Decides.{nat_tests}
use Rattle.std.proofs.lemmas.List.{length-map}
use Rattle.std.proofs.lemmas.List.Sums.{sum_by-cons}
use Rattle.std.proofs.lemmas.Bool.{not_from_true, eq-eqb}
use Rattle.cj_ir.specs.declared.language.Edge.{Edge}
use Rattle.cj_ir.specs.declared.language.Edge.TheVariants as edges
use Rattle.cj_ir.specs.declared.language.FunId.{FunId}
use Rattle.cj_ir.specs.declared.language.Function.{Function}
use Rattle.cj_ir.specs.declared.language.Label.{Label}
use Rattle.cj_ir.specs.declared.language.Line.{Line}
use Rattle.cj_ir.specs.declared.language.Program.{Program}
use Rattle.cj_ir.specs.declared.script.Script.{Script}
use Rattle.cj_ir.specs.declared.script.ScriptCall.{ScriptCall}
use Rattle.cj_ir.specs.declared.script.Setup.{Setup}
use Rattle.cj_ir.specs.declared.script.Setup.TheVariants as setups
use Rattle.cj_tokens.specs.Lexemes.{Lexeme}
use Rattle.cj_tokens.specs.Printed.{fixed}
use Rattle.cj_tokens.specs.Scan.{next_line}
use Rattle.cj_tokens.specs.declared.terminal.Terminal.TheVariants as terminal
use Rattle.cj_tokens.specs.declared.refusal.Kind.TheVariants.{TooMany, Range, NoFunction, Arguments, NoRegister, NoLabel, NotCond}
use Rattle.cj_tokens.specs.declared.refusal.Refused.{Refused}
use Rattle.cj_grammar.specs.Grammar.{Tree}
use Rattle.cj_grammar.specs.Rules as rule
use Rattle.cj_grammar.specs.Reading.{offends_if, missing, highest, each_offends}
use Rattle.cj_printer.specs.Canonical.{function_text, reg_in}
use Rattle.cj_script.specs.Meaning.{function_named, id_named, parameter_named, line_numbered, is_cond, long_name, out_of_range, function_offences, other_count}
use Rattle.cj_script.specs.Meaning.{callee_offences, limit_offences, begun_offences, cells_of, limit_of, begun_of, call_limit, spent_by, call_offences}
use Rattle.cj_script.specs.Meaning.{calls_offences, call_of, calls_of, parameter_offences, parameter_of, no_cond, label_offences, label_of, guess_offences}
use Rattle.cj_script.specs.Meaning.{guess_of, cold_offences, edge_of, cold_of, warm_offences, warm_of, setup_offences, setup_of, setups_offences, setups_of}
use Rattle.cj_script.specs.Meaning.{script_offences, script_of}
use Rattle.cj_script.proofs.CallsReads.{spent_more}
use Rattle.cj_text.proofs.Chunks.{name_token, number_token}
use Rattle.cj_text.proofs.Lists.{Every}
use Rattle.cj_text.proofs.KnownScript.{FunKnown, ParamKnown, CondKnown, SetupKnown, CallKnown}
use Rattle.cj_text.proofs.MeantInstructions.{none, unless, there, same_two, same_three}
use Rattle.cj_text.proofs.Trees.{number_leaf, each_line, last_line, label_in_number, edge_tree, setup_tree, begun_tree, call_tree, script_tree}

-- ---- words

abbrev named : ℕ → List Function → FunId → Lexeme
named l fs id = name_token l (function_text fs id)

highest_none : (es : List Refused) → es ≡ [] → highest es ≡ []
highest_none es e = rw e refl

not_outside : (low high n : ℕ) → low ≤ n → n ≤ high → not (int_le (pos low) (pos n) && int_le (pos n) (pos high)) ≡ false
not_outside low high n h k = grind (arith, nat_tests)

range_fine : (l low high n : ℕ) → low ≤ n → n ≤ high → out_of_range (pos low) (pos high) (number_token l (pos n)) ≡ []
range_fine l low high n h k = unless (not (int_le (pos low) (pos n) && int_le (pos n) (pos high))) (number_token l (pos n)) Range (not_outside low high n h k)

-- ---- functions

name_fine : (l : ℕ) (fs : List Function) (id : FunId) (f : Function) → FunKnown fs id f → function_offences fs (named l fs id) ≡ []
unfolding function_offences
name_fine l fs id f k =
    let t : Lexeme = named l fs id in
    highest_none (long_name t ++ missing (function_named fs t) t NoFunction)
    (none (long_name t) (missing (function_named fs t) t NoFunction) (unless (nat_lt 32 (length t.text)) t TooMany k.short)
    (there (function_named fs t) f t NoFunction k.found))

id_same : (l : ℕ) (fs : List Function) (id : FunId) (f : Function) → FunKnown fs id f → id_named fs (named l fs id) ≡ id
id_same l fs id f k = ap (λ (o : Option ℕ). let new : FunId = record { 0 = unwrap_or o 0 } in new) k.place

-- ---- setups

param_fine : (l : ℕ) (fs : List Function) (id : FunId) (param : ℕ) (f : Function) → FunKnown fs id f → ParamKnown fs id param f →
    parameter_offences (function_named fs (named l fs id)) (name_token l (reg_in (slice_get fs id.0) param)) ≡ []
param_fine l fs id param f k p =
    let t : Lexeme = name_token l (reg_in (slice_get fs id.0) param) in
    ap (λ (o : Option Function). parameter_offences o t) k.found
    ∙ highest_none (long_name t ++ missing (parameter_named f t) t NoRegister)
    (none (long_name t) (missing (parameter_named f t) t NoRegister) (unless (nat_lt 32 (length t.text)) t TooMany p.short)
    (there (parameter_named f t) param t NoRegister p.place))

param_same : (l : ℕ) (fs : List Function) (id : FunId) (param : ℕ) (f : Function) → FunKnown fs id f → ParamKnown fs id param f →
    parameter_of (function_named fs (named l fs id)) (name_token l (reg_in (slice_get fs id.0) param)) ≡ param
param_same l fs id param f k p =
    let t : Lexeme = name_token l (reg_in (slice_get fs id.0) param) in
    ap (λ (o : Option Function). parameter_of o t) k.found ∙ ap (λ (o : Option ℕ). unwrap_or o 0) p.place

cond_fine : (l : ℕ) (fs : List Function) (id : FunId) (label : Label) (f : Function) (line : Line) → FunKnown fs id f → CondKnown fs id label f line →
    label_offences (function_named fs (named l fs id)) (number_token l (pos (label_in_number (slice_get fs id.0) label))) ≡ []
cond_fine l fs id label f line k c =
    let t : Lexeme = number_token l (pos (label_in_number (slice_get fs id.0) label)) in
    ap (λ (o : Option Function). label_offences o t) k.found
    ∙ none (missing (line_numbered f t) t NoLabel) (no_cond (line_numbered f t) t)
    (there (line_numbered f t) line t NoLabel c.found)
    (ap (λ (o : Option Line). no_cond o t) c.found ∙ unless (not (is_cond line.instr)) t NotCond (not_from_true (is_cond line.instr) c.is_cond))

cond_same : (l : ℕ) (fs : List Function) (id : FunId) (label : Label) (f : Function) (line : Line) → FunKnown fs id f → CondKnown fs id label f line →
    label_of (function_named fs (named l fs id)) (number_token l (pos (label_in_number (slice_get fs id.0) label))) ≡ label
cond_same l fs id label f line k c =
    let t : Lexeme = number_token l (pos (label_in_number (slice_get fs id.0) label)) in
    ap (λ (o : Option Function). label_of o t) k.found ∙ ap (λ (o : Option ℕ). let new : Label = record { 0 = unwrap_or o 0 } in new) c.place

edge_same : (l : ℕ) (e : Edge) → edge_of (edge_tree l e) ≡ e
unfolding rule.edge edge_tree edge_of
edge_same l edges.Then = refl
edge_same l edges.Else = refl

setup_fine : (fs : List Function) (l : ℕ) (x : Setup) → SetupKnown fs x → setup_offences fs (setup_tree fs l x) ≡ []
unfolding rule.setup rule.guess_setup rule.cold_setup rule.warm_setup setup_tree setup_offences guess_offences cold_offences warm_offences
setup_fine fs l (setups.Guess id param value) k =
    none (function_offences fs (named l fs id)) (parameter_offences (function_named fs (named l fs id)) (name_token l (reg_in (slice_get fs id.0) param)))
    (name_fine l fs id k.0 k.1) (param_fine l fs id param k.0 k.1 k.2)
setup_fine fs l (setups.Cold id label edge) k =
    none (function_offences fs (named l fs id))
    (label_offences (function_named fs (named l fs id)) (number_token l (pos (label_in_number (slice_get fs id.0) label)))) (name_fine l fs id k.0 k.2)
    (cond_fine l fs id label k.0 k.1 k.2 k.3)
setup_fine fs l (setups.Warm id level) k =
    none (function_offences fs (named l fs id)) (out_of_range (pos 1) (pos 3) (number_token l (pos level))) (name_fine l fs id k.0 k.1)
    (range_fine l 1 3 level k.2 k.3)

setup_same : (fs : List Function) (l : ℕ) (x : Setup) → SetupKnown fs x → setup_of fs (setup_tree fs l x) ≡ x
unfolding rule.setup rule.guess_setup rule.cold_setup rule.warm_setup setup_tree setup_of guess_of cold_of warm_of
setup_same fs l (setups.Guess id param value) k =
    same_two (λ (i : FunId) (n : ℕ). setups.Guess i n value) (id_same l fs id k.0 k.1) (param_same l fs id param k.0 k.1 k.2)
setup_same fs l (setups.Cold id label edge) k =
    same_three setups.Cold (id_same l fs id k.0 k.2) (cond_same l fs id label k.0 k.1 k.2 k.3) (edge_same l edge)
setup_same fs l (setups.Warm id level) k = ap (λ (i : FunId). setups.Warm i level) (id_same l fs id k.0 k.1)

setups_fine : (fs : List Function) (earlier : List Setup) (l : ℕ) (xs : List Setup) → Every (SetupKnown fs) xs →
    each_offends (λ done line. setup_offences fs line) (setup_of fs) earlier (each_line (setup_tree fs) l xs) ≡ []
setups_fine fs earlier l [] k = refl
setups_fine fs earlier l (x ∷ xs) k =
    let t : Tree rule.setup = setup_tree fs (next_line l) x in
    none (setup_offences fs t)
    (each_offends (λ done line. setup_offences fs line) (setup_of fs) (earlier ++ setup_of fs t ∷ []) (each_line (setup_tree fs) (next_line l) xs))
    (setup_fine fs (next_line l) x k.0) (setups_fine fs (earlier ++ setup_of fs t ∷ []) (next_line l) xs k.1)

setups_same : (fs : List Function) (l : ℕ) (xs : List Setup) → Every (SetupKnown fs) xs → map (setup_of fs) (each_line (setup_tree fs) l xs) ≡ xs
setups_same fs l [] k = refl
setups_same fs l (x ∷ xs) k = same_two (λ (y : Setup) (ys : List Setup). y ∷ ys) (setup_same fs (next_line l) x k.0) (setups_same fs (next_line l) xs k.1)

-- ---- calls

callee_fine : (l : ℕ) (fs : List Function) (id : FunId) (f : Function) (count : ℕ) → FunKnown fs id f → f.params ≡ count →
    callee_offences fs count (named l fs id) ≡ []
unfolding callee_offences
callee_fine l fs id f count k e =
    let t : Lexeme = named l fs id in
    highest_none (function_offences fs t ++ other_count (function_named fs t) count t)
    (none (function_offences fs t) (other_count (function_named fs t) count t) (name_fine l fs id f k)
    (ap (λ (o : Option Function). other_count o count t) k.found
    ∙ unless (not (f.params == count)) t Arguments (not_from_true (f.params == count) (eq-eqb f.params count e))))

within_sum : (spent n : ℕ) → spent + n ≤ 4000000 → int_lt (pos 4000000) (pos spent +ℤ pos n) ≡ false
within_sum spent n h = grind (arith, nat_tests)

limit_fine : (l spent n : ℕ) → 1 ≤ n → n ≤ 1000000 → spent + n ≤ 4000000 → limit_offences (pos spent) (number_token l (pos n)) ≡ []
limit_fine l spent n h k s =
    let t : Lexeme = number_token l (pos n) in
    highest_none (offends_if (int_lt (pos 4000000) (pos spent +ℤ pos n)) t TooMany ++ out_of_range (pos 1) (pos 1000000) t)
    (none (offends_if (int_lt (pos 4000000) (pos spent +ℤ pos n)) t TooMany) (out_of_range (pos 1) (pos 1000000) t)
    (unless (int_lt (pos 4000000) (pos spent +ℤ pos n)) t TooMany (within_sum spent n s)) (range_fine l 1 1000000 n h k))

begun_fine : (fs : List Function) (l spent : ℕ) (call : ScriptCall) → CallKnown fs call → spent + call.limit ≤ 4000000 →
    begun_offences fs (pos spent) (begun_tree fs l call) ≡ []
unfolding rule.begun rule.numbers begun_tree begun_offences
begun_fine fs l spent call k s =
    let count : k.callee.params ≡ length (map (number_leaf l) call.args) = k.count ∙ sym (length-map call.args (number_leaf l)) in
    none (callee_offences fs (length (map (number_leaf l) call.args)) (named l fs call.function))
    (out_of_range (pos 0) (pos 65536) (number_token l (pos call.cells)) ++ limit_offences (pos spent) (number_token l (pos call.limit)))
    (callee_fine l fs call.function k.callee (length (map (number_leaf l) call.args)) k.known count)
    (none (out_of_range (pos 0) (pos 65536) (number_token l (pos call.cells))) (limit_offences (pos spent) (number_token l (pos call.limit)))
    (range_fine l 0 65536 call.cells (omega arith) k.few_cells) (limit_fine l spent call.limit k.some_turn k.few_turns s))

values_same : (l : ℕ) (values : List ℤ) → map (λ arg. arg.token.number) (map (number_leaf l) values) ≡ values
values_same l [] = refl
values_same l (z ∷ values) = ap (λ (zs : List ℤ). z ∷ zs) (values_same l values)

begun_same : (fs : List Function) (l : ℕ) (call : ScriptCall) → CallKnown fs call → begun_of fs (begun_tree fs l call) ≡ call
unfolding rule.begun rule.numbers begun_tree begun_of cells_of limit_of
begun_same fs l call k =
    same_two (λ (id : FunId) (args : List ℤ). let new : ScriptCall = record { function = id; args = args; cells = call.cells; limit = call.limit } in new)
    (id_same l fs call.function k.callee k.known) (values_same l call.args)

call_same : (fs : List Function) (l : ℕ) (call : ScriptCall) → CallKnown fs call → call_of fs (call_tree fs l call) ≡ call
unfolding rule.script_call call_tree call_of
call_same fs l call k = begun_same fs l call k

calls_same : (fs : List Function) (l : ℕ) (xs : List ScriptCall) → Every (CallKnown fs) xs → map (call_of fs) (each_line (call_tree fs) l xs) ≡ xs
calls_same fs l [] k = refl
calls_same fs l (x ∷ xs) k = same_two (λ (y : ScriptCall) (ys : List ScriptCall). y ∷ ys) (call_same fs (next_line l) x k.0)
    (calls_same fs (next_line l) xs k.1)

limit_is : (fs : List Function) (l : ℕ) (call : ScriptCall) → call_limit (call_tree fs l call) ≡ pos call.limit
unfolding rule.script_call rule.begun rule.numbers call_tree begun_tree call_limit limit_of
limit_is fs l call = refl

spent_with : (fs : List Function) (l spent : ℕ) (done : List (Tree rule.script_call)) (call : ScriptCall) → spent_by done ≡ pos spent →
    spent_by (done ++ call_tree fs l call ∷ []) ≡ pos (spent + call.limit)
spent_with fs l spent done call h =
    let m : spent_by (done ++ call_tree fs l call ∷ []) ≡ spent_by done +ℤ call_limit (call_tree fs l call) = spent_more done (call_tree fs l call) in
    let n : spent_by done +ℤ call_limit (call_tree fs l call) ≡ pos spent +ℤ pos call.limit = same_two (λ (a b : ℤ). a +ℤ b) h (limit_is fs l call) in
    m ∙ n

room : (n : ℕ) → n < 256 → nat_le 256 n ≡ false
room n h = grind (arith, nat_tests)

call_fine : (fs : List Function) (l spent : ℕ) (done : List (Tree rule.script_call)) (call : ScriptCall) → CallKnown fs call → spent_by done ≡ pos spent →
    length done < 256 → spent + call.limit ≤ 4000000 → call_offences fs done (call_tree fs l call) ≡ []
unfolding rule.script_call call_tree call_offences
call_fine fs l spent done call k h few s =
    none (offends_if (nat_le 256 (length done)) (fixed terminal.Call l) TooMany) (begun_offences fs (spent_by done) (begun_tree fs l call))
    (unless (nat_le 256 (length done)) (fixed terminal.Call l) TooMany (room (length done) few))
    (ap (λ z. begun_offences fs z (begun_tree fs l call)) h ∙ begun_fine fs l spent call k s)

limits : List ScriptCall → ℕ
limits [] = 0
limits (call ∷ calls) = call.limit + limits calls

limits_are : (calls : List ScriptCall) → sum_by (λ (call : ScriptCall). call.limit) calls ≡ limits calls
unfolding limits
limits_are [] = refl
limits_are (call ∷ calls) = sum_by-cons (λ (call : ScriptCall). call.limit) call calls ∙ ap (λ n. call.limit + n) (limits_are calls)

calls_fine : (fs : List Function) (l spent : ℕ) (done : List (Tree rule.script_call)) (xs : List ScriptCall) → Every (CallKnown fs) xs →
    spent_by done ≡ pos spent → length done + length xs ≤ 256 → spent + limits xs ≤ 4000000 →
    each_offends (call_offences fs) (λ call. call) done (each_line (call_tree fs) l xs) ≡ []
unfolding limits
calls_fine fs l spent done [] k h few s = refl
calls_fine fs l spent done (x ∷ xs) k h few s =
    let t : Tree rule.script_call = call_tree fs (next_line l) x in
    let longer : length (done ++ t ∷ []) ≡ length done + 1 = length-append done (t ∷ []) in
    let less : length done < 256 = omega arith in
    let here : spent + x.limit ≤ 4000000 = omega arith in
    let few_more : length (done ++ t ∷ []) + length xs ≤ 256 = omega arith in
    let more : spent + x.limit + limits xs ≤ 4000000 = omega arith in
    none (call_offences fs done t) (each_offends (call_offences fs) (λ call. call) (done ++ t ∷ []) (each_line (call_tree fs) (next_line l) xs))
    (call_fine fs (next_line l) spent done x k.0 h less here)
    (calls_fine fs (next_line l) (spent + x.limit) (done ++ t ∷ []) xs k.1 (spent_with fs (next_line l) spent done x h) few_more more)

-- ---- scripts

nothing_spent : spent_by [] ≡ pos 0
unfolding spent_by
nothing_spent = refl

pub script_fine : (p : Program) (l : ℕ) (s : Script) → Every (SetupKnown p.functions) s.setups → Every (CallKnown p.functions) s.calls → length s.calls ≤ 256 →
    sum_by (λ (call : ScriptCall). call.limit) s.calls ≤ 4000000 → script_offences p (script_tree p.functions l s) ≡ []
unfolding rule.script rule.setups rule.script_calls script_tree script_offences setups_offences calls_offences
script_fine p l s k ks few sum =
    let fs : List Function = p.functions in
    let total : sum_by (λ (call : ScriptCall). call.limit) s.calls ≡ limits s.calls = limits_are s.calls in
    let few_all : length {A = Tree rule.script_call} [] + length s.calls ≤ 256 = omega arith in
    let spent : 0 + limits s.calls ≤ 4000000 = omega arith in
    none (each_offends (λ done line. setup_offences fs line) (setup_of fs) [] (each_line (setup_tree fs) (next_line l) s.setups))
    (each_offends (call_offences fs) (λ call. call) [] (each_line (call_tree fs) (last_line (next_line l) s.setups) s.calls))
    (setups_fine fs [] (next_line l) s.setups k) (calls_fine fs (last_line (next_line l) s.setups) 0 [] s.calls ks nothing_spent few_all spent)

pub script_same : (p : Program) (l : ℕ) (s : Script) → Every (SetupKnown p.functions) s.setups → Every (CallKnown p.functions) s.calls →
    script_of p (script_tree p.functions l s) ≡ s
unfolding rule.script rule.setups rule.script_calls script_tree script_of setups_of calls_of
script_same p l s k ks =
    same_two (λ (xs : List Setup) (ys : List ScriptCall). let new : Script = record { setups = xs; calls = ys } in new)
    (setups_same p.functions (next_line l) s.setups k) (calls_same p.functions (last_line (next_line l) s.setups) s.calls ks)
