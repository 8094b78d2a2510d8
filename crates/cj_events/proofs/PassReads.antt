-- What is read of the tokens of passes is their meaning, or the first offence of their tokens.
use Rattle.std.proofs.Common.{◌≡◌, ℕ, true, false, List, [], ◌∷◌, ◌++◌, length, refl, subst, inl, inr, append_assoc, append-nil}
use Rattle.std.specs.Prelude.{nat_le, flat_map}
use Rattle.cj_ir.specs.declared.language.Guard.{Guard}
use Rattle.cj_ir.specs.declared.language.Guard.TheVariants as guards
use Rattle.cj_ir.specs.declared.language.Label.{Label}
use Rattle.cj_draft.specs.declared.passes.Pass.{Pass}
use Rattle.cj_draft.specs.declared.passes.Pass.TheVariants as passes
use Rattle.cj_tokens.specs.Lexemes.{Lexeme, Is, is_terminal}
use Rattle.cj_tokens.specs.Passing.{front, behind}
use Rattle.cj_tokens.specs.declared.refusal.Kind.TheVariants.{TooMany}
use Rattle.cj_tokens.specs.declared.refusal.Refused.{Refused}
use Rattle.cj_tokens.specs.declared.terminal.Terminal.TheVariants as terminal
use Rattle.cj_grammar.specs.Grammar.{Tree, Leaf, leaves}
use Rattle.cj_grammar.specs.Reading.{each_offends}
use Rattle.cj_grammar.specs.Readers.{reads}
use Rattle.cj_grammar.specs.Rules.{one, ◌▸◌, numbers}
use Rattle.cj_grammar.proofs.ReadsLaws.{reads_then, reads_last}
use Rattle.cj_script.proofs.BegunReads.{judged_then, judged_last, other_terminal}
use Rattle.cj_script.proofs.Turns.{all_reads}
use Rattle.cj_script.proofs.CallsReads.{refuse_or}
use Rattle.cj_events.specs.Meaning.{label_of, label_offences, listed_offences, labels_offences, labels_of, register_of, ninth_offences, register_offences}
use Rattle.cj_events.specs.Meaning.{guard_offences, guard_of, guards_offences, guards_of, pass_word_offences, anchors_offences, anchors_of, assume_offences}
use Rattle.cj_events.specs.Meaning.{assume_of, delay_offences, delay_of, const_offences, const_of, inline_offences, inline_of, pass_offences, pass_of}
use Rattle.cj_events.specs.Meaning.{passes_offences, passes_of}
use Rattle.cj_events.specs.Reading.{is_number, label_at, next_label, labels_at, is_comma, never_at, equation_at, guard_at, next_guard, more_guards_at}
use Rattle.cj_events.specs.Reading.{guards_at, is_pass, anchors_at, assume_at, delay_at, inline_at, any_pass_at, pass_at, next_pass, passes_at}
use Rattle.cj_events.specs.Rules.{labels, equation, guard, more_guards, guards, anchors_pass, assume_pass, delay_pass, const_pass, inline_pass, any_pass}
use Rattle.cj_events.specs.Rules.{passes}
use Rattle.cj_events.proofs.GuardTurns as guard_turns
use Rattle.cj_events.proofs.LabelTurns as label_turns
use Rattle.cj_events.proofs.PassTurns as pass_turns
use Rattle.cj_events.proofs.ManyReads.{ReadsItem, all_reads_before}

-- ---- labels

listed_reads : (earlier : List Label) (t : Leaf (Is terminal.Number)) (ts : List Lexeme) → (is_number (leaves (one terminal.Number) t ++ ts) ≡ true)
    × (next_label earlier (leaves (one terminal.Number) t ++ ts) ≡ reads (listed_offences (length earlier) t.token) (label_of t.token) ts)
unfolding label_at front behind
listed_reads earlier t ts =
    (t.is, judged_last (listed_offences (length earlier) t.token) (label_of t.token) (label_of t.token) ts _ refl)

pub labels_read : (t : Tree labels) (ts : List Lexeme) → is_number ts ≡ false →
    labels_at [] (leaves labels t ++ ts) ≡ reads (labels_offences t) (labels_of t) ts
unfolding labels numbers labels_at labels_offences labels_of front
labels_read (first, more) ts h =
    all_reads is_number next_label refl label_turns.next_shorter (leaves (one terminal.Number)) (λ earlier t. listed_offences (length earlier) t.token)
    (λ t. label_of t.token) [] (first ∷ more) ts listed_reads h

-- ---- guards

guard_reads : (earlier : ℕ) (mark : Lexeme) (t : Tree guard) (ts : List Lexeme) → guard_at earlier (mark ∷ (leaves guard t ++ ts))
    ≡ reads (guard_offences earlier t) (guard_of t) ts
unfolding guard equation guard_at never_at equation_at guard_offences guard_of front behind
guard_reads earlier mark (inl (register, (sign, value))) ts =
    let other : is_terminal terminal.Never register.token ≡ false = other_terminal terminal.Number terminal.Never register.token register.is refl in
    rw other (judged_last (register_offences earlier register.token) (register_of register.token) _ ts _ refl)
guard_reads earlier mark (inr never) ts =
    rw never.is (judged_last (ninth_offences earlier never.token) guards.Never _ ts _ refl)

abbrev next_offences : List Guard → Tree (one terminal.Comma ▸ guard) → List Refused
next_offences earlier next = guard_offences (length earlier) next.1

abbrev next_means : Tree (one terminal.Comma ▸ guard) → Guard
next_means next = guard_of next.1

next_reads : (earlier : List Guard) (t : Tree (one terminal.Comma ▸ guard)) (ts : List Lexeme) →
    (is_comma (leaves (one terminal.Comma ▸ guard) t ++ ts) ≡ true)
    × (next_guard earlier (leaves (one terminal.Comma ▸ guard) t ++ ts) ≡ reads (next_offences earlier t) (next_means t) ts)
unfolding front
next_reads earlier (comma, t) ts = (comma.is, guard_reads (length earlier) comma.token t ts)

pub guards_read : (t : Tree guards) (ts : List Lexeme) → is_comma ts ≡ false → guards_at (leaves guards t ++ ts) ≡ reads (guards_offences t) (guards_of t) ts
unfolding guards more_guards guards_at more_guards_at guards_offences guards_of front
guards_read (when, (first, more)) ts h =
    let us : List Lexeme = flat_map (leaves (one terminal.Comma ▸ guard)) more ++ ts in
    let regroup : (leaves guard first ++ flat_map (leaves (one terminal.Comma ▸ guard)) more) ++ ts ≡ leaves guard first
    ++ us = append_assoc (leaves guard first) (flat_map (leaves (one terminal.Comma ▸ guard)) more) ts in
    rw (regroup, guard_reads 0 when.token first us)
    (reads_then (guard_offences 0 first) (each_offends next_offences next_means (guard_of first ∷ []) more) (guard_of first) _ us ts _
    (all_reads is_comma next_guard refl guard_turns.next_shorter (leaves (one terminal.Comma ▸ guard)) next_offences next_means
    (guard_of first ∷ []) more ts next_reads h))

-- ---- passes

-- what may stand behind a pass
pub record EndsLists (ts : List Lexeme) : Type 0 where
  pub no_number : is_number ts ≡ false
  pub no_comma : is_comma ts ≡ false

pass_ends : (t : Tree any_pass) (ts : List Lexeme) → EndsLists ts → EndsLists (leaves any_pass t ++ ts)
unfolding any_pass anchors_pass assume_pass delay_pass const_pass inline_pass front
pass_ends (inl (word, places)) ts h = record {
  no_number = other_terminal terminal.Anchors terminal.Number word.token word.is refl;
  no_comma = other_terminal terminal.Anchors terminal.Comma word.token word.is refl;
}
pass_ends (inr (inl (word, (anchor, tests)))) ts h = record {
  no_number = other_terminal terminal.Assume terminal.Number word.token word.is refl;
  no_comma = other_terminal terminal.Assume terminal.Comma word.token word.is refl;
}
pass_ends (inr (inr (inl (word, (path, tests))))) ts h = record {
  no_number = other_terminal terminal.Delay terminal.Number word.token word.is refl;
  no_comma = other_terminal terminal.Delay terminal.Comma word.token word.is refl;
}
pass_ends (inr (inr (inr (inl word)))) ts h = record {
  no_number = other_terminal terminal.Const terminal.Number word.token word.is refl;
  no_comma = other_terminal terminal.Const terminal.Comma word.token word.is refl;
}
pass_ends (inr (inr (inr (inr (word, call))))) ts h = record {
  no_number = other_terminal terminal.Inline terminal.Number word.token word.is refl;
  no_comma = other_terminal terminal.Inline terminal.Comma word.token word.is refl;
}

anchors_read : (earlier : ℕ) (t : Tree anchors_pass) (ts : List Lexeme) → EndsLists ts →
    pass_at earlier (leaves anchors_pass t ++ ts) ≡ reads (anchors_offences earlier t) (anchors_of t) ts
unfolding anchors_pass pass_at any_pass_at anchors_at anchors_offences anchors_of front behind
anchors_read earlier (word, places) ts h =
    refuse_or (nat_le 256 earlier) word.token TooMany (labels_offences places) (passes.Anchors (labels_of places)) ts _
    (rw (word.is, labels_read places ts h.no_number) (reads_last (labels_offences places) (labels_of places) _ ts ts _ refl))

assume_reads : (earlier : ℕ) (t : Tree assume_pass) (ts : List Lexeme) → EndsLists ts →
    pass_at earlier (leaves assume_pass t ++ ts) ≡ reads (assume_offences earlier t) (assume_of t) ts
unfolding assume_pass pass_at any_pass_at assume_at assume_offences assume_of front behind
assume_reads earlier (word, (anchor, tests)) ts h =
    let other : is_terminal terminal.Anchors word.token ≡ false = other_terminal terminal.Assume terminal.Anchors word.token word.is refl in
    refuse_or (nat_le 256 earlier) word.token TooMany (label_offences anchor.token ++ guards_offences tests)
    (passes.Assume (label_of anchor.token) (guards_of tests)) ts _
    (rw (other, word.is) (judged_then (label_offences anchor.token) (guards_offences tests) (label_of anchor.token) _ ts _
    (rw (guards_read tests ts h.no_comma) (reads_last (guards_offences tests) (guards_of tests) _ ts ts _ refl))))

delay_reads : (earlier : ℕ) (t : Tree delay_pass) (ts : List Lexeme) → EndsLists ts →
    pass_at earlier (leaves delay_pass t ++ ts) ≡ reads (delay_offences earlier t) (delay_of t) ts
unfolding delay_pass guards pass_at any_pass_at delay_at delay_offences delay_of front behind
delay_reads earlier (word, (path, tests)) ts h =
    let a : is_terminal terminal.Anchors word.token ≡ false = other_terminal terminal.Delay terminal.Anchors word.token word.is refl in
    let b : is_terminal terminal.Assume word.token ≡ false = other_terminal terminal.Delay terminal.Assume word.token word.is refl in
    let us : List Lexeme = leaves guards tests ++ ts in
    let regroup : (leaves labels path ++ leaves guards tests) ++ ts ≡ leaves labels path ++ us = append_assoc (leaves labels path) (leaves guards tests) ts in
    let no_number : is_number us ≡ false = other_terminal terminal.When terminal.Number tests.0.token tests.0.is refl in
    refuse_or (nat_le 256 earlier) word.token TooMany (labels_offences path ++ guards_offences tests) (passes.Delay (labels_of path) (guards_of tests)) ts _
    (rw (a, b, word.is, regroup, labels_read path us no_number)
    (reads_then (labels_offences path) (guards_offences tests) (labels_of path) _ us ts _
    (rw (guards_read tests ts h.no_comma) (reads_last (guards_offences tests) (guards_of tests) _ ts ts _ refl))))

const_reads : (earlier : ℕ) (t : Tree const_pass) (ts : List Lexeme) →
    pass_at earlier (leaves const_pass t ++ ts) ≡ reads (const_offences earlier t) (const_of t) ts
unfolding const_pass pass_at any_pass_at const_offences const_of front behind
const_reads earlier word ts =
    let a : is_terminal terminal.Anchors word.token ≡ false = other_terminal terminal.Const terminal.Anchors word.token word.is refl in
    let b : is_terminal terminal.Assume word.token ≡ false = other_terminal terminal.Const terminal.Assume word.token word.is refl in
    let c : is_terminal terminal.Delay word.token ≡ false = other_terminal terminal.Const terminal.Delay word.token word.is refl in
    let word_offences : List Refused = pass_word_offences earlier word.token in
    let read : pass_at earlier (word.token ∷ ts)
    ≡ reads (word_offences ++ []) passes.Const ts = refuse_or (nat_le 256 earlier) word.token TooMany [] passes.Const ts _ (rw (a, b, c, word.is) refl) in
    subst (λ (os : List Refused). pass_at earlier (word.token ∷ ts) ≡ reads os passes.Const ts) (append-nil word_offences) read

inline_reads : (earlier : ℕ) (t : Tree inline_pass) (ts : List Lexeme) →
    pass_at earlier (leaves inline_pass t ++ ts) ≡ reads (inline_offences earlier t) (inline_of t) ts
unfolding inline_pass pass_at any_pass_at inline_at inline_offences inline_of front behind
inline_reads earlier (word, call) ts =
    let a : is_terminal terminal.Anchors word.token ≡ false = other_terminal terminal.Inline terminal.Anchors word.token word.is refl in
    let b : is_terminal terminal.Assume word.token ≡ false = other_terminal terminal.Inline terminal.Assume word.token word.is refl in
    let c : is_terminal terminal.Delay word.token ≡ false = other_terminal terminal.Inline terminal.Delay word.token word.is refl in
    let d : is_terminal terminal.Const word.token ≡ false = other_terminal terminal.Inline terminal.Const word.token word.is refl in
    refuse_or (nat_le 256 earlier) word.token TooMany (label_offences call.token) (passes.Inline (label_of call.token)) ts _
    (rw (a, b, c, d) (judged_last (label_offences call.token) (label_of call.token) _ ts _ refl))

pass_reads : (earlier : ℕ) (t : Tree any_pass) (ts : List Lexeme) → EndsLists ts →
    pass_at earlier (leaves any_pass t ++ ts) ≡ reads (pass_offences earlier t) (pass_of t) ts
unfolding any_pass pass_offences pass_of
pass_reads earlier (inl t) ts h = anchors_read earlier t ts h
pass_reads earlier (inr (inl t)) ts h = assume_reads earlier t ts h
pass_reads earlier (inr (inr (inl t))) ts h = delay_reads earlier t ts h
pass_reads earlier (inr (inr (inr (inl t)))) ts h = const_reads earlier t ts
pass_reads earlier (inr (inr (inr (inr t)))) ts h = inline_reads earlier t ts

pass_next : (t : Tree any_pass) (ts : List Lexeme) → is_pass (leaves any_pass t ++ ts) ≡ true
unfolding any_pass anchors_pass assume_pass delay_pass const_pass inline_pass front
pass_next (inl (word, places)) ts = rw word.is refl
pass_next (inr (inl (word, (anchor, tests)))) ts =
    let a : is_terminal terminal.Anchors word.token ≡ false = other_terminal terminal.Assume terminal.Anchors word.token word.is refl in
    rw (a, word.is) refl
pass_next (inr (inr (inl (word, (path, tests))))) ts =
    let a : is_terminal terminal.Anchors word.token ≡ false = other_terminal terminal.Delay terminal.Anchors word.token word.is refl in
    let b : is_terminal terminal.Assume word.token ≡ false = other_terminal terminal.Delay terminal.Assume word.token word.is refl in
    rw (a, b, word.is) refl
pass_next (inr (inr (inr (inl word)))) ts =
    let a : is_terminal terminal.Anchors word.token ≡ false = other_terminal terminal.Const terminal.Anchors word.token word.is refl in
    let b : is_terminal terminal.Assume word.token ≡ false = other_terminal terminal.Const terminal.Assume word.token word.is refl in
    let c : is_terminal terminal.Delay word.token ≡ false = other_terminal terminal.Const terminal.Delay word.token word.is refl in
    rw (a, b, c, word.is) refl
pass_next (inr (inr (inr (inr (word, call))))) ts =
    let a : is_terminal terminal.Anchors word.token ≡ false = other_terminal terminal.Inline terminal.Anchors word.token word.is refl in
    let b : is_terminal terminal.Assume word.token ≡ false = other_terminal terminal.Inline terminal.Assume word.token word.is refl in
    let c : is_terminal terminal.Delay word.token ≡ false = other_terminal terminal.Inline terminal.Delay word.token word.is refl in
    let d : is_terminal terminal.Const word.token ≡ false = other_terminal terminal.Inline terminal.Const word.token word.is refl in
    rw (a, b, c, d, word.is) refl

abbrev item_offences : List Pass → Tree any_pass → List Refused
item_offences earlier item = pass_offences (length earlier) item

item_reads : (earlier : List Pass) (t : Tree any_pass) (ts : List Lexeme) → EndsLists ts →
    ReadsItem is_pass next_pass (leaves any_pass) item_offences pass_of earlier t ts
item_reads earlier t ts h = record { begins = pass_next t ts; read = pass_reads (length earlier) t ts h }

pub passes_read : (t : Tree passes) (ts : List Lexeme) → EndsLists ts → is_pass ts ≡ false →
    passes_at [] (leaves passes t ++ ts) ≡ reads (passes_offences t) (passes_of t) ts
unfolding passes passes_at passes_offences passes_of front
passes_read t ts h m =
    all_reads_before EndsLists is_pass next_pass refl pass_turns.next_shorter (leaves any_pass) item_offences pass_of [] t ts pass_ends item_reads h m
