-- What the readers of functions and of inputs leave, in the grammar's words.
use Rattle.std.proofs.Common.{◌≡◌, ℕ, zero, suc, ◌<◌, ◌≤◌, true, false, List, [], ◌∷◌, ◌++◌, length, Ok, Err, refl, ap, sym, ◌∙◌, arith, inl, inr}
use Rattle.std.proofs.lemmas.Bool.{eq-eqb}
use Rattle.std.specs.Prelude.{nat_eq}
use Rattle.cj_tokens.specs.Ends.{HasOneEnd}
use Rattle.cj_tokens.specs.Lexemes.{Lexeme, Is, number_of, is_terminal}
use Rattle.cj_tokens.specs.Passing.{front}
use Rattle.cj_tokens.specs.declared.terminal.Terminal.{Terminal}
use Rattle.cj_tokens.specs.declared.terminal.Terminal.TheVariants.{Fun}
use Rattle.cj_grammar.specs.Grammar.{Rule, many, Tree, leaves, IsSentence}
use Rattle.cj_grammar.specs.OneAhead.{is_empty, is_plain, starts, ◌>>=◌, eat, eat_many}
use Rattle.cj_grammar.specs.Rules.{operand, more_operands, operands, more_names, names, binary, expr, target, nop_instr, op_instr, cond_instr, call_instr}
use Rattle.cj_grammar.specs.Rules.{return_instr, print_instr, load_instr, store_instr, fail_instr, instr, line, lines, head, fun, more_funs, funs, guess_setup}
use Rattle.cj_grammar.specs.Rules.{edge, cold_setup, warm_setup, setup, setups, numbers, begun, script_call, script_calls, script, input}
use Rattle.cj_grammar.specs.Reading.{offence}
use Rattle.cj_grammar.specs.Offences.{class_one, IsFirstOffence}
use Rattle.cj_grammar.specs.Shapes.{GoesPast, HasFunctions}
use Rattle.cj_grammar.proofs.Signs.{fits_one, or_false}
use Rattle.cj_grammar.proofs.Eats.{bind_ok, chosen, sound}
use Rattle.cj_grammar.proofs.Begins.{shorter}
use Rattle.cj_grammar.proofs.Complete.{complete}
use Rattle.cj_grammar.proofs.Ahead.{ahead}
use Rattle.cj_grammar.proofs.ContentsLaws.{end_stays}
use Rattle.cj_grammar.proofs.ClassOne.{first_offence, whole_sentence}

ends : (a : Rule) (n : ℕ) (ts rest : List Lexeme) → is_empty a ≡ false → length ts ≤ n → eat_many (eat a) (starts a) n ts ≡ Ok rest → starts a rest ≡ false
ends a zero [] rest e l h = let r : [] ≡ rest = cc in ap (starts a) (sym r)
ends a zero (t ∷ ts) rest e l h = absurd (omega arith)
ends a (suc n) ts rest e l h =
    elim (chosen (starts a ts) (eat a ts >>= eat_many (eat a) (starts a) n) (Ok ts) (Ok rest) h) [
      | inl p ↦
          let b : (x : List Lexeme) × (eat a ts ≡ Ok x)
          × (eat_many (eat a) (starts a) n x ≡ Ok rest) = bind_ok (eat a ts) (eat_many (eat a) (starts a) n) rest p.1 in
          let s : length b.0 < length ts = shorter a ts b.0 e b.1 in
          ends a n b.0 rest e (omega arith) b.2
      | inr p ↦ let r : ts ≡ rest = cc in ap (starts a) (sym r) ∙ p.0
    ]

-- A repeated part is repeated as long as it begins.
pub many_ends : (a : Rule) (ts rest : List Lexeme) → is_empty a ≡ false → eat (many a) ts ≡ Ok rest → starts a rest ≡ false
many_ends a ts rest e h = ends a (length ts) ts rest e (omega arith) h

no_more_funs : (ts rest : List Lexeme) → eat funs ts ≡ Ok rest → is_terminal Fun (front rest) ≡ false
unfolding funs more_funs fun head
no_more_funs ts rest h =
    let b : (x : List Lexeme) × (eat fun ts ≡ Ok x) × (eat more_funs x ≡ Ok rest) = bind_ok (eat fun ts) (eat more_funs) rest h in
    let s : starts fun rest ≡ false = many_ends fun b.0 rest refl b.2 in
    let f : fits_one (Is Fun ∷ []) (front rest) ≡ false = sym (ahead (Is Fun ∷ []) rest refl) ∙ s in
    (or_false (is_terminal Fun (front rest)) false f).0

pub funs_past : (old new : List Lexeme) → eat funs old ≡ Ok new → GoesPast old new
funs_past old new h =
    let i : (t : Tree funs) × (leaves funs t ++ new ≡ old) = sound funs old new h in
    record { tree = i.0; all = i.1; no_more = no_more_funs old new h }

pub funs_end : (old new : List Lexeme) → HasOneEnd old → eat funs old ≡ Ok new → HasOneEnd new
unfolding operand more_operands operands more_names names binary expr target nop_instr op_instr cond_instr call_instr return_instr print_instr load_instr
    store_instr fail_instr instr line lines head fun more_funs funs
funs_end old new h e =
    let i : (t : Tree funs) × (leaves funs t ++ new ≡ old) = sound funs old new e in
    end_stays funs i.0 old new refl i.1 h

pub funs_offence : (old rest : List Lexeme) → HasOneEnd old → eat funs old ≡ Err rest → IsFirstOffence funs old (offence (front rest) (class_one (front rest)))
unfolding operand more_operands operands more_names names binary expr target nop_instr op_instr cond_instr call_instr return_instr print_instr load_instr
    store_instr fail_instr instr line lines head fun more_funs funs
funs_offence old rest h e = first_offence funs old rest refl refl h e

plain_before : (k : Terminal) → nat_eq (number_of k) (number_of Fun) ≡ false → is_plain funs (Is k ∷ []) ≡ true
unfolding operand more_operands operands more_names names binary expr target nop_instr op_instr cond_instr call_instr return_instr print_instr load_instr
    store_instr fail_instr instr line lines head fun more_funs funs
plain_before k h = rw h refl

funs_plain : is_plain funs [] ≡ true
unfolding operand more_operands operands more_names names binary expr target nop_instr op_instr cond_instr call_instr return_instr print_instr load_instr
    store_instr fail_instr instr line lines head fun more_funs funs
funs_plain = refl

-- Functions are gone past, wherever no further one begins behind them.
pub past_funs : (t : Tree funs) (new : List Lexeme) → is_terminal Fun (front new) ≡ false → eat funs (leaves funs t ++ new) ≡ Ok new
unfolding front
past_funs t [] h = complete funs [] t [] funs_plain tt
past_funs t (x ∷ new) h =
    let same : nat_eq (number_of x.terminal) (number_of x.terminal) ≡ true = eq-eqb (number_of x.terminal) (number_of x.terminal) refl in
    complete funs (Is x.terminal ∷ []) t (x ∷ new) (plain_before x.terminal h) (rw same refl)

pub funs_none : (old rest : List Lexeme) → eat funs old ≡ Err rest → HasFunctions old → ⊥
funs_none old rest e f =
    let g : eat funs old ≡ Ok f.0 = ap (eat funs) (sym f.1.all) ∙ past_funs f.1.tree f.0 f.1.no_more in cc

pub input_offence : (old rest : List Lexeme) → HasOneEnd old → eat input old ≡ Err rest →
    IsFirstOffence input old (offence (front rest) (class_one (front rest)))
unfolding operand more_operands operands more_names names binary expr target nop_instr op_instr cond_instr call_instr return_instr print_instr load_instr
    store_instr fail_instr instr line lines head fun more_funs funs guess_setup edge cold_setup warm_setup setup setups numbers begun script_call script_calls
    script input
input_offence old rest h e = first_offence input old rest refl refl h e

pub input_whole : (old rest : List Lexeme) → HasOneEnd old → eat input old ≡ Ok rest → IsSentence input old
unfolding input
input_whole old rest h e = whole_sentence input old rest refl h e
