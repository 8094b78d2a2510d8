-- What is looked up ahead, token by token.
use Rattle.std.proofs.Common.{◌≡◌, ℕ, suc, ◌+◌, ◌<◌, List, [], ◌∷◌, ◌++◌, length, true, false, cond, refl, ap, sym, ◌∙◌, append_assoc, arith, Result, Ok}
use Rattle.cj_tokens.specs.Lexemes.{Lexeme, is_terminal}
use Rattle.cj_tokens.specs.Passing.{front, behind}
use Rattle.cj_tokens.specs.declared.terminal.Terminal.TheVariants.{Comma}
use Rattle.cj_reader.specs.Scopes.{Head}
use Rattle.cj_reader.specs.Prescans.{ends_list, count_at, ends_body, numbered, numbers_at, ends_functions, headed, heads_at}

pub count_ends : (ts : List Lexeme) → ends_list (front ts) ≡ true → count_at ts ≡ 0
unfolding count_at front
count_ends [] h = refl
count_ends (t ∷ ts) h = rw h refl

pub count_goes : (n m : ℕ) (ts : List Lexeme) → ends_list (front ts) ≡ false → cond (is_terminal Comma (front ts)) n (n + 1) ≡ m →
    n + count_at ts ≡ m + count_at (behind ts)
unfolding count_at front behind
count_goes n m [] h e = cc
count_goes n m (t ∷ ts) h e = rw h
    (elim (is_terminal Comma t) as (λ b. cond b n (n + 1) ≡ m →
    n + cond b (count_at ts) (suc (count_at ts)) ≡ m + count_at ts) [ true ↦ (λ e. omega arith) | false ↦ (λ e. omega arith) ] e)

pub list_shorter : (ts : List Lexeme) → ends_list (front ts) ≡ false → length (behind ts) < length ts
unfolding front behind
list_shorter [] h = cc
list_shorter (t ∷ ts) h = omega arith

pub ok_same : {X E : Type 0} {a b : X} → (let r : Result X E = Ok a in r) ≡ Ok b → a ≡ b
ok_same h = cc

pub numbers_end : (ts : List Lexeme) → ends_body (front ts) ≡ true → numbers_at ts ≡ []
unfolding numbers_at front
numbers_end [] h = refl
numbers_end (t ∷ ts) h = rw h refl

pub numbers_go : (ts : List Lexeme) → ends_body (front ts) ≡ false → numbers_at ts ≡ numbered (front ts) (front (behind ts)).terminal ++ numbers_at (behind ts)
unfolding numbers_at front behind
numbers_go [] h = cc
numbers_go (t ∷ ts) h = rw h refl

pub body_shorter : (ts : List Lexeme) → ends_body (front ts) ≡ false → length (behind ts) < length ts
unfolding front behind
body_shorter [] h = cc
body_shorter (t ∷ ts) h = omega arith

pub heads_end : (ts : List Lexeme) → ends_functions (front ts) (behind ts) ≡ true → heads_at ts ≡ []
unfolding heads_at front behind
heads_end [] h = refl
heads_end (t ∷ ts) h = rw h refl

pub heads_go : (ts : List Lexeme) → ends_functions (front ts) (behind ts) ≡ false → heads_at ts ≡ headed (front ts) (behind ts) ++ heads_at (behind ts)
unfolding heads_at front behind
heads_go [] h = cc
heads_go (t ∷ ts) h = rw h refl

pub functions_shorter : (ts : List Lexeme) → ends_functions (front ts) (behind ts) ≡ false → length (behind ts) < length ts
unfolding front behind
functions_shorter [] h = cc
functions_shorter (t ∷ ts) h = omega arith

pub heads_turn : (done new : List Head) (all ts us : List Lexeme) → heads_at all ≡ done ++ heads_at ts → ends_functions (front ts) (behind ts) ≡ false →
    new ≡ headed (front ts) (behind ts) → us ≡ behind ts → heads_at all ≡ (done ++ new) ++ heads_at us
heads_turn done new all ts us i h n b =
    i ∙ (ap (λ hs. done ++ hs) (heads_go ts h)
    ∙ (sym (append_assoc done (headed (front ts) (behind ts)) (heads_at (behind ts)))
    ∙ (ap (λ hs. (done ++ hs) ++ heads_at (behind ts)) (sym n) ∙ ap (λ vs. (done ++ new) ++ heads_at vs) (sym b))))
