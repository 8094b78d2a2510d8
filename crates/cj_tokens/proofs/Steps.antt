-- What is left once the next token is taken, or given.
use Rattle.std.proofs.Common.{◌≡◌, ℕ, Bool, true, false, cond, List, [], ◌∷◌, ◌++◌, map, drop, Ok, Err, refl, sym, ◌∙◌, nat_eq}
use Rattle.std.proofs.lemmas.Bool.{and_parts}
use Rattle.std.specs.Prelude.{not}
use Rattle.std.specs.List.{list_all}
use Rattle.cj_tokens.specs.Ends.{HasOneEnd}
use Rattle.cj_tokens.specs.Lexemes.{Lexeme, Sign, fits, is_terminal, number_of}
use Rattle.cj_tokens.specs.Passing.{front, behind, pass}
use Rattle.cj_tokens.specs.Scan.{Item, items, items_from, lexeme_in}
use Rattle.cj_tokens.specs.Pieces.{given_as, is_passed, next_of, past_items, past_lexemes}
use Rattle.cj_tokens.specs.declared.terminal.Terminal.{Terminal}
use Rattle.cj_tokens.specs.declared.terminal.Terminal.TheVariants.{End, BadCharacter, BadNumber}

-- what is left, by whether the end is taken
abbrev pub view : Bool → List ℕ → Item → List Lexeme
view taken bytes t = cond taken [] (map lexeme_in (items_from bytes t))

pub taken_end : (taken : Bool) (bytes : List ℕ) (t : Item) → is_terminal End (front (view taken bytes t)) ≡ true → [] ≡ behind (view taken bytes t)
unfolding items_from front behind
taken_end true bytes t e = refl
taken_end false bytes t e = rw e refl

pub taken_next : (taken : Bool) (bytes : List ℕ) (t u : Item) → is_terminal End (front (view taken bytes t)) ≡ false →
    items 0 t.lexeme.line t.stop (drop t.stop bytes) ≡ items_from bytes u → view taken bytes u ≡ behind (view taken bytes t)
unfolding items_from front behind
taken_next true bytes t u e f = cc
taken_next false bytes t u e f = rw (e, f) refl

pub pass_fit : (taken : Bool) (bytes : List ℕ) (t : Item) (s : Sign) (rest : List Lexeme) → taken ≡ false → fits s (front (view taken bytes t)) ≡ true →
    rest ≡ behind (view taken bytes t) → pass s (view taken bytes t) ≡ Ok rest
unfolding items_from front behind
pass_fit true bytes t s rest n e r = cc
pass_fit false bytes t s rest n e r = rw (e, r) refl

pub pass_taken : (taken : Bool) (bytes : List ℕ) (t : Item) (s : Sign) → taken ≡ true → pass s (view taken bytes t) ≡ Err (view taken bytes t)
pass_taken true bytes t s e = refl
pass_taken false bytes t s e = cc

pub pass_unfit : (ts : List Lexeme) (s : Sign) → fits s (front ts) ≡ false → pass s ts ≡ Err ts
unfolding front
pass_unfit [] s e = refl
pass_unfit (t ∷ ts) s e = rw e refl

pub passed_no_end : (k : Terminal) → is_passed k ≡ true → nat_eq (number_of k) 0 ≡ false
passed_no_end End h = cc
passed_no_end BadCharacter h = cc
passed_no_end BadNumber h = cc
passed_no_end _ h = refl

pub given_passed : (bytes : List ℕ) (t u : Item) → is_passed t.lexeme.terminal ≡ true → items 0 t.lexeme.line t.stop (drop t.stop bytes) ≡ items_from bytes u →
    items_from bytes u ≡ past_items (items_from bytes t)
unfolding items_from past_items
given_passed bytes t u p f = let n : is_terminal End t.lexeme ≡ false = passed_no_end t.lexeme.terminal p in rw (p, n, f) refl

pub given_stays : (bytes : List ℕ) (t : Item) → is_passed t.lexeme.terminal ≡ false → items_from bytes t ≡ past_items (items_from bytes t)
unfolding items_from past_items
given_stays bytes t p = rw p refl

-- the same of the lexemes
lexemes_past : (bytes : List ℕ) (t : Item) → map lexeme_in (past_items (items_from bytes t)) ≡ past_lexemes (map lexeme_in (items_from bytes t))
unfolding items_from past_items past_lexemes
lexemes_past bytes t = go (is_passed t.lexeme.terminal) _
  where
    go : (c : Bool) (ts : List Item) → map lexeme_in (cond c ts (t ∷ ts)) ≡ cond c (map lexeme_in ts) (t.lexeme ∷ map lexeme_in ts)
    go true ts = refl
    go false ts = refl

pub left_past : (taken : Bool) (bytes : List ℕ) (t u : Item) → items_from bytes u ≡ past_items (items_from bytes t) →
    view taken bytes u ≡ past_lexemes (view taken bytes t)
unfolding past_lexemes
left_past true bytes t u e = refl
left_past false bytes t u e = rw e (lexemes_past bytes t)

pub next_is : (bytes : List ℕ) (t : Item) → next_of (items_from bytes t) ≡ given_as t.lexeme.terminal t
unfolding items_from next_of
next_is bytes t = refl

-- the end stands last behind the next token too
behind_first : (t : Lexeme) (ts body : List Lexeme) (last : Lexeme) →
    t ∷ ts ≡ body ++ last ∷ [] → is_terminal End last ≡ true → list_all (λ u. not (is_terminal End u)) body ≡ true →
    is_terminal End t ≡ false → HasOneEnd ts
behind_first t ts [] last a e o n =
    let i : t ≡ last = cc in
    let q : is_terminal End t ≡ true = rw i e in
    absurd (let no : true ≡ false = sym q ∙ n in cc)
behind_first t ts (b ∷ body) last a e o n =
    let r : ts ≡ body ++ last ∷ [] = cc in
    record { body = body; last = last; all = r; is_end = e; once = (and_parts (not (is_terminal End b)) (list_all (λ u. not (is_terminal End u)) body) o).1 }

pub past_end : (ts : List Lexeme) → HasOneEnd ts → HasOneEnd (past_lexemes ts)
unfolding past_lexemes
past_end [] h = h
past_end (t ∷ ts) h = go (is_passed t.terminal) refl
  where
    go : (c : Bool) → is_passed t.terminal ≡ c → HasOneEnd (cond c ts (t ∷ ts))
    go true e = behind_first t ts h.body h.last h.all h.is_end h.once (passed_no_end t.terminal e)
    go false e = h
