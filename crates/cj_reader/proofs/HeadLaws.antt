-- The heads of functions, looked up ahead, on the tokens of a tree.
use Rattle.std.proofs.Common.{◌≡◌, ℕ, List, [], ◌∷◌, ◌++◌, length, Bool, true, false, cond, refl, ap, sym, ◌∙◌, append_assoc}
use Rattle.std.specs.Prelude.{not, map, flat_map}
use Rattle.cj_tokens.specs.Lexemes.{Lexeme, Is, is_terminal}
use Rattle.cj_tokens.specs.Passing.{front, behind}
use Rattle.cj_tokens.specs.declared.terminal.Terminal.TheVariants as terminal
use Rattle.cj_grammar.specs.Grammar.{Rule, Leaf, Tree, leaves, opt}
use Rattle.cj_grammar.specs.Contents.{lacks}
use Rattle.cj_grammar.specs.Rules.{one, ◌▸◌, operand, more_operands, operands, more_names, names, binary, expr, target, nop_instr, op_instr, cond_instr}
use Rattle.cj_grammar.specs.Rules.{call_instr, return_instr, print_instr, load_instr, store_instr, fail_instr, instr, line, lines, head, fun, more_funs, funs}
use Rattle.cj_grammar.proofs.ContentsLaws.{only_its_own}
use Rattle.cj_grammar.proofs.Signs.{and_true, not_true}
use Rattle.cj_reader.specs.Scopes.{Head}
use Rattle.cj_reader.specs.Functions.{name_tokens, function_name, param_tokens, head_of, function_head}
use Rattle.cj_reader.specs.Meaning.{all_functions, heads_of}
use Rattle.cj_reader.specs.Prescans.{count_at, head_at, heads_at}
use Rattle.cj_reader.proofs.OperandLaws.{leaf_number}
use Rattle.cj_reader.proofs.PrescanLaws.{Others, count_names, others_count}

heads_pass : (xs ts : List Lexeme) → lacks (Is terminal.Fun) xs ≡ true → lacks (Is terminal.CloseBrace) xs ≡ true → lacks (Is terminal.End) xs ≡ true →
    heads_at (xs ++ ts) ≡ heads_at ts
unfolding heads_at
heads_pass [] ts f b e = refl
heads_pass (x ∷ xs) ts f b e =
    let p : (not (is_terminal terminal.Fun x) ≡ true)
    × (lacks (Is terminal.Fun) xs ≡ true) = and_true (not (is_terminal terminal.Fun x)) (lacks (Is terminal.Fun) xs) f in
    let q : (not (is_terminal terminal.CloseBrace x) ≡ true) × (lacks (Is terminal.CloseBrace) xs ≡ true) = and_true (not (is_terminal terminal.CloseBrace x))
    (lacks (Is terminal.CloseBrace) xs) b in
    let r : (not (is_terminal terminal.End x) ≡ true)
    × (lacks (Is terminal.End) xs ≡ true) = and_true (not (is_terminal terminal.End x)) (lacks (Is terminal.End) xs) e in
    rw (not_true (is_terminal terminal.End x) r.0, not_true (is_terminal terminal.CloseBrace x) q.0, not_true (is_terminal terminal.Fun x) p.0)
    (heads_pass xs ts p.1 q.1 r.1)

-- what stands between `fun` and the `}`
abbrev Declaration : Rule
Declaration = one terminal.Name ▸ one terminal.OpenParen ▸ opt names ▸ Others ▸ one terminal.CloseParen

abbrev Inside : Rule
Inside = Declaration ▸ one terminal.OpenBrace ▸ lines

inside_lacks : (t : Tree Inside) → (lacks (Is terminal.Fun) (leaves Inside t) ≡ true) × (lacks (Is terminal.CloseBrace) (leaves Inside t) ≡ true)
    × (lacks (Is terminal.End) (leaves Inside t) ≡ true)
unfolding operand more_operands operands more_names names binary expr target nop_instr op_instr cond_instr call_instr return_instr print_instr load_instr
    store_instr fail_instr instr line lines
inside_lacks t = (
  only_its_own Inside (Is terminal.Fun) t refl,
  only_its_own Inside (Is terminal.CloseBrace) t refl,
  only_its_own Inside
      (Is terminal.End) t refl,
)

abbrev inside_of : Tree fun → Tree Inside
unfolding fun head
inside_of ((word, declared), (left, (body, right))) = (declared, (left, body))

abbrev word_of : Tree fun → Leaf (Is terminal.Fun)
unfolding fun head
word_of ((word, declared), (left, (body, right))) = word

abbrev end_of : Tree fun → Leaf (Is terminal.CloseBrace)
unfolding fun head
end_of (front, (left, (body, right))) = right

spelled_so : (t : Tree fun) (us : List Lexeme) → leaves fun t ++ us ≡ (word_of t).token ∷ (leaves Inside (inside_of t) ++ (end_of t).token ∷ us)
unfolding fun head word_of inside_of end_of
spelled_so ((word, declared), (left, (body, right))) us =
    let xs : List Lexeme = leaves Declaration declared in
    let ys : List Lexeme = left.token ∷ leaves lines body in
    let regroup : (xs ++ (ys ++ right.token ∷ [])) ++ us ≡ (xs ++ ys) ++ right.token ∷ us =
    append_assoc xs (ys ++ right.token ∷ []) us ∙ (ap (λ z. xs ++ z) (append_assoc ys (right.token ∷ []) us) ∙ sym (append_assoc xs ys (right.token ∷ us))) in
    ap (λ z. word.token ∷ z) regroup

head_is : (t : Tree fun) (us : List Lexeme) → head_at (leaves Inside (inside_of t) ++ us) ≡ head_of (function_head t)
unfolding fun head function_head function_name param_tokens front behind inside_of
head_is ((word, (name, (open_paren, (params, (others, close))))), (left, (body, right))) us =
    let os : List Lexeme = leaves Others others in
    let vs : List Lexeme = (left.token ∷ leaves lines body) ++ us in
    let regroup : ((leaves (opt names) params ++ (os ++ close.token ∷ [])) ++ (left.token ∷ leaves lines body)) ++ us ≡ leaves (opt names) params
    ++ (os ++ close.token ∷ vs) =
    append_assoc (leaves (opt names) params ++ (os ++ close.token ∷ [])) (left.token ∷ leaves lines body) us
    ∙ (append_assoc (leaves (opt names) params) (os ++ close.token ∷ []) vs
    ∙ ap (λ z. leaves (opt names) params ++ z) (append_assoc os (close.token ∷ []) vs)) in
    let n : count_at (leaves (opt names) params ++ (os ++ close.token ∷ vs))
    ≡ length (name_tokens params) = count_names params (os ++ close.token ∷ vs) (others_count others close vs) in
    let make : ℕ → Head = λ n. record { name = name.token.text; params = n } in
    ap make (ap count_at regroup ∙ n)

behind_close : (t : Tree fun) (us : List Lexeme) (b : Bool) → is_terminal terminal.Fun (front us) ≡ b →
    heads_at ((end_of t).token ∷ us) ≡ cond b (heads_at us) []
unfolding fun heads_at end_of
behind_close (declared, (left, (body, right))) us true h = rw (leaf_number right, h) refl
behind_close (declared, (left, (body, right))) us false h = rw (leaf_number right, h) refl

first_head : (word : Leaf (Is terminal.Fun)) (ts : List Lexeme) → heads_at (word.token ∷ ts) ≡ head_at ts ∷ heads_at ts
unfolding heads_at
first_head word ts = rw (leaf_number word) refl

one_head : (t : Tree fun) (us : List Lexeme) (b : Bool) → is_terminal terminal.Fun (front us) ≡ b → heads_at (leaves fun t ++ us) ≡ head_of (function_head t)
    ∷ cond b (heads_at us) []
one_head t us b h =
    let l : (lacks (Is terminal.Fun) (leaves Inside (inside_of t)) ≡ true) × (lacks (Is terminal.CloseBrace) (leaves Inside (inside_of t)) ≡ true)
    × (lacks (Is terminal.End) (leaves Inside (inside_of t)) ≡ true) = inside_lacks (inside_of t) in
    let ws : List Lexeme = (end_of t).token ∷ us in
    let p : heads_at (leaves Inside (inside_of t) ++ ws) ≡ heads_at ws = heads_pass (leaves Inside (inside_of t)) ws l.0 l.1 l.2 in
    ap heads_at (spelled_so t us) ∙ (first_head (word_of t) (leaves Inside (inside_of t) ++ ws) ∙ rw (head_is t ws, p, behind_close t us b h) refl)

begins_fun : (t : Tree fun) (us : List Lexeme) → is_terminal terminal.Fun (front (leaves fun t ++ us)) ≡ true
unfolding fun head front
begins_fun ((word, declared), body) us = word.is

all_heads : (t : Tree fun) (more : List (Tree fun)) (rest : List Lexeme) → is_terminal terminal.Fun (front rest) ≡ false →
    heads_at (leaves fun t ++ (flat_map (leaves fun) more ++ rest)) ≡ head_of (function_head t) ∷ map (λ f. head_of (function_head f)) more
all_heads t [] rest h = one_head t rest false h
all_heads t (u ∷ more) rest h =
    let us : List Lexeme = flat_map (leaves fun) more ++ rest in
    let regroup : (leaves fun u ++ flat_map (leaves fun) more) ++ rest ≡ leaves fun u ++ us = append_assoc (leaves fun u) (flat_map (leaves fun) more) rest in
    rw (regroup) (one_head t (leaves fun u ++ us) true (begins_fun u us) ∙ ap (λ hs. head_of (function_head t) ∷ hs) (all_heads u more rest h))

pub heads_are : (t : Tree funs) (rest : List Lexeme) → is_terminal terminal.Fun (front rest) ≡ false → heads_at (leaves funs t ++ rest) ≡ heads_of t
unfolding funs more_funs all_functions heads_of
heads_are (first, more) rest h = ap heads_at (append_assoc (leaves fun first) (flat_map (leaves fun) more) rest) ∙ all_heads first more rest h
