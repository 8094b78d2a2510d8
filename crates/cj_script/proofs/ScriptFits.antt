-- A script that is read fits its program.
use Rattle.std.proofs.Common.{◌≡◌, ℕ, ◌+◌, ◌<◌, ◌≤◌, pos, true, false, Bool, cond, List, [], ◌∷◌, ◌++◌, length, Ok, Err, refl, ap, subst, length-append, arith}
use Rattle.std.proofs.Common.{zero, suc}
use Rattle.std.specs.Prelude.{Result, IfOk, All, unsigned_abs, nat_le}
use Rattle.std.proofs.lemmas.Bool.Decides.{nat_tests}
use Rattle.std.proofs.lemmas.List.Elements.{All-nil, All-push}
use Rattle.std.proofs.lemmas.Option.{slice_get_within}
use Rattle.cj_ir.specs.declared.language.Function.{Function}
use Rattle.cj_ir.specs.declared.language.Program.{Program}
use Rattle.cj_ir.specs.declared.script.Script.{Script}
use Rattle.cj_ir.specs.declared.script.ScriptCall.{ScriptCall}
use Rattle.cj_ir.specs.declared.script.Setup.{Setup}
use Rattle.cj_tokens.specs.Lexemes.{Lexeme, is_terminal}
use Rattle.cj_tokens.specs.Passing.{front, behind}
use Rattle.cj_tokens.specs.declared.refusal.Kind.TheVariants.{TooMany}
use Rattle.cj_tokens.specs.declared.refusal.ParseError.{ParseError}
use Rattle.cj_tokens.specs.declared.refusal.Refused.{Refused}
use Rattle.cj_tokens.specs.declared.terminal.Terminal.TheVariants as terminal
use Rattle.cj_grammar.specs.OneAhead.{◌>>=◌}
use Rattle.cj_grammar.specs.Reading.{offence}
use Rattle.cj_grammar.specs.Readers.{Read, Gives}
use Rattle.cj_script.specs.Fitting.{FitsSetup, FitsCall, FitsScript}
use Rattle.cj_script.specs.Meaning.{function_named, id_named, out_of_range, function_offences, callee_offences, limit_offences, parameter_offences}
use Rattle.cj_script.specs.Meaning.{parameter_of, label_offences, label_of}
use Rattle.cj_script.specs.Reading.{judged, numbers_at, behind_numbers, cells_at, limit_at, begun_at, many_at, all_at, is_call, limits, call_at, calls_at}
use Rattle.cj_script.specs.Reading.{guess_at, cold_at, warm_at, setup_at, is_setup, next_setup, setups_at, script_at}
use Rattle.cj_script.proofs.CallTurns.{limits_more}
use Rattle.cj_script.proofs.Offences.{in_range, limit_fine, function_fine, callee_fine, parameter_fine, label_fine}

-- what is read has a property
record Grants (X : Type 0) (P : X → Type 0) (read : Read X) : Type 0 where
  grants : (x : X) (us : List Lexeme) → read ≡ Ok (x, us) → P x

ok_grants : {X : Type 0} (P : X → Type 0) (x : X) (us : List Lexeme) → P x → Grants X P (Ok (x, us))
ok_grants {X = X} P x us h =
    record {
      grants = λ y vs e. let one : X × List Lexeme = (x, us) in let other : X × List Lexeme = (y, vs) in let same : one
          ≡ other = cc in subst P (ap (λ q. q.0) same) h;
    }

err_grants : {X : Type 0} (P : X → Type 0) (e : Refused) → Grants X P (Err e)
err_grants P e = record { grants = λ y vs h. cc }

judged_grants : {X Y : Type 0} (P : Y → Type 0) (es : List Refused) (x : X) (f : X → Read Y) → (es ≡ [] → Grants Y P (f x)) → Grants Y P (judged es x >>= f)
judged_grants P [] x f h = h refl
judged_grants P (e ∷ es) x f h = err_grants P e

then_grants : {X Y : Type 0} (Q : X → Type 0) (P : Y → Type 0) (read : Read X) (f : X × List Lexeme → Read Y) → Grants X Q read →
    ((x : X × List Lexeme) → Q x.0 → Grants Y P (f x)) → Grants Y P (read >>= f)
then_grants Q P (Ok x) f h g = g x (h.grants x.0 x.1 refl)
then_grants Q P (Err e) f h g = err_grants P e

cond_grants : {Y : Type 0} (P : Y → Type 0) (b : Bool) (one other : Read Y) → Grants Y P one → (b ≡ false → Grants Y P other) → Grants Y P (cond b one other)
cond_grants P true one other h g = h
cond_grants P false one other h g = g refl

-- where each item keeps a property of all, the last list has it
many_grants : {X : Type 0} (P : List X → Type 0) (more : List Lexeme → Bool) (one : List X → List Lexeme → Read X) →
    ((earlier : List X) (ts : List Lexeme) → P earlier → Grants X (λ x. P (earlier ++ x ∷ [])) (one earlier ts)) →
    (n : ℕ) (earlier : List X) (ts : List Lexeme) → P earlier → Grants (List X) P (many_at more one n earlier ts)
many_grants P more one keeps zero earlier ts h = ok_grants P earlier ts h
many_grants {X = X} P more one keeps (suc n) earlier ts h =
    go (more ts) (then_grants (λ x. P (earlier ++ x ∷ [])) P (one earlier ts) _ (keeps earlier ts h)
    (λ x g. many_grants P more one keeps n (earlier ++ x.0 ∷ []) x.1 g))
  where
    go : (b : Bool) → Grants (List X) P (one earlier ts >>= λ x. many_at more one n (earlier ++ x.0 ∷ []) x.1) →
        Grants (List X) P (cond b (one earlier ts >>= λ x. many_at more one n (earlier ++ x.0 ∷ []) x.1) (Ok (earlier, ts)))
    go true g = g
    go false g = ok_grants P earlier ts h

-- ---- calls

cells_grants : (ts : List Lexeme) → Grants ℕ (λ cells. cells ≤ 65536) (cells_at ts)
unfolding cells_at
cells_grants ts =
    let P : ℕ → Type 0 = λ cells. cells ≤ 65536 in
    cond_grants P (is_terminal terminal.Memory (front ts)) _ _
    (judged_grants P (out_of_range (pos 0) (pos 65536) (front (behind ts))) (unsigned_abs (front (behind ts)).number) _
    (λ fine. ok_grants P (unsigned_abs (front (behind ts)).number) (behind (behind ts)) (in_range 0 65536 (front (behind ts)) fine).2))
    (λ other. ok_grants P 64 ts (omega arith))

IsLimit : ℕ → ℕ → Type 0
IsLimit spent limit = (1 ≤ limit) × (limit ≤ 1000000) × (spent + limit ≤ 4000000)

limit_grants : (spent : ℕ) (ts : List Lexeme) → Grants ℕ (IsLimit spent) (limit_at spent ts)
unfolding limit_at IsLimit
limit_grants spent ts =
    judged_grants (IsLimit spent) (limit_offences (pos spent) (front (behind ts))) (unsigned_abs (front (behind ts)).number) _
    (λ fine. ok_grants (IsLimit spent) (unsigned_abs (front (behind ts)).number) (behind (behind ts)) (limit_fine spent (front (behind ts)) fine))

record IsRun (functions : List Function) (spent : ℕ) (call : ScriptCall) : Type 0 where
  fits : FitsCall functions call
  within : spent + call.limit ≤ 4000000

begun_grants : (functions : List Function) (spent : ℕ) (ts : List Lexeme) → Grants ScriptCall (IsRun functions spent) (begun_at functions spent ts)
unfolding begun_at IsLimit
begun_grants functions spent ts =
    judged_grants (IsRun functions spent) (callee_offences functions (length (numbers_at (behind ts))) (front ts)) (id_named functions (front ts)) _
    (λ callee. then_grants (λ cells. cells ≤ 65536) (IsRun functions spent) (cells_at (behind_numbers (behind ts))) _
    (cells_grants (behind_numbers (behind ts)))
    (λ cells few. then_grants (IsLimit spent) (IsRun functions spent) (limit_at spent cells.1) _ (limit_grants spent cells.1)
    (λ limit fine. ok_grants (IsRun functions spent) _ limit.1
    (record {
      fits = record {
        takes = callee_fine functions (length (numbers_at (behind ts))) (front ts) callee;
        few_cells = few;
        some_turn = fine.0;
        few_turns =
            fine.1;
      };
      within = fine.2;
    }))))

pub begun_fits : (functions : List Function) (spent : ℕ) (ts us : List Lexeme) (result : Result ScriptCall ParseError) →
    Gives result us (begun_at functions spent ts) → IfOk result (FitsCall functions)
begun_fits functions spent ts us (Ok call) h = ((begun_grants functions spent ts).grants call us h).fits
begun_fits functions spent ts us (Err e) h = tt

record AreCalls (functions : List Function) (calls : List ScriptCall) : Type 0 where
  fit : All (FitsCall functions) calls
  few : length calls ≤ 256
  within : limits calls ≤ 4000000

call_grants : (functions : List Function) (earlier : List ScriptCall) (ts : List Lexeme) → AreCalls functions earlier →
    Grants ScriptCall (λ call. AreCalls functions (earlier ++ call ∷ [])) (call_at functions earlier ts)
unfolding call_at
call_grants functions earlier ts h =
    cond_grants (λ call. AreCalls functions (earlier ++ call ∷ [])) (nat_le 256 (length earlier)) (Err (offence (front ts) TooMany))
    (begun_at functions (limits earlier) (behind ts))
    (err_grants (λ call. AreCalls functions (earlier ++ call ∷ [])) (offence (front ts) TooMany))
    (λ few. record { grants = λ call us e. more few call ((begun_grants functions (limits earlier) (behind ts)).grants call us e) })
  where
    more : nat_le 256 (length earlier) ≡ false → (call : ScriptCall) → IsRun functions (limits earlier) call → AreCalls functions (earlier ++ call ∷ [])
    more few call run =
        let short : length earlier < 256 = grind (arith, nat_tests) in
        record {
          fit = All-push (FitsCall functions) earlier call h.fit run.fits;
          few = omega (arith, length-append earlier (call ∷ []));
          within = rw limits_more run.within;
        }

calls_grants : (functions : List Function) (ts : List Lexeme) → Grants (List ScriptCall) (AreCalls functions) (calls_at functions [] ts)
unfolding calls_at all_at
calls_grants functions ts =
    many_grants (AreCalls functions) is_call (call_at functions) (call_grants functions) (length ts) [] ts
    (record { fit = All-nil (FitsCall functions); few = omega arith; within = omega arith })

-- ---- setups

guess_grants : (functions : List Function) (ts : List Lexeme) → Grants Setup (FitsSetup functions) (guess_at functions ts)
unfolding guess_at
guess_grants functions ts =
    judged_grants (FitsSetup functions) (function_offences functions (front ts)) (id_named functions (front ts)) _
    (λ function. judged_grants (FitsSetup functions) (parameter_offences (function_named functions (front ts)) (front (behind ts)))
    (parameter_of (function_named functions (front ts)) (front (behind ts))) _
    (λ parameter. ok_grants (FitsSetup functions) _ (behind (behind (behind ts))) (parameter_fine functions (front ts) (front (behind ts)) function parameter)))

cold_grants : (functions : List Function) (ts : List Lexeme) → Grants Setup (FitsSetup functions) (cold_at functions ts)
unfolding cold_at
cold_grants functions ts =
    judged_grants (FitsSetup functions) (function_offences functions (front ts)) (id_named functions (front ts)) _
    (λ function. judged_grants (FitsSetup functions) (label_offences (function_named functions (front ts)) (front (behind ts)))
    (label_of (function_named functions (front ts)) (front (behind ts))) _
    (λ label. ok_grants (FitsSetup functions) _ (behind (behind (behind ts))) (label_fine functions (front ts) (front (behind ts)) function label)))

warm_grants : (functions : List Function) (ts : List Lexeme) → Grants Setup (FitsSetup functions) (warm_at functions ts)
unfolding warm_at
warm_grants functions ts =
    judged_grants (FitsSetup functions) (function_offences functions (front ts)) (id_named functions (front ts)) _
    (λ function. judged_grants (FitsSetup functions) (out_of_range (pos 1) (pos 3) (front (behind ts))) (unsigned_abs (front (behind ts)).number) _
    (λ level.
    let found : (f : Function) × (function_named functions (front ts) ≡ _) × _ = function_fine functions (front ts) function in
    let range : (pos (unsigned_abs (front (behind ts)).number) ≡ (front (behind ts)).number) × (1 ≤ unsigned_abs (front (behind ts)).number)
    × (unsigned_abs (front (behind ts)).number ≤ 3) = in_range 1 3 (front (behind ts)) level in
    ok_grants (FitsSetup functions) _ (behind (behind ts)) (slice_get_within functions (id_named functions (front ts)).0 found.0 found.2, range.1, range.2)))

setup_grants : (functions : List Function) (ts : List Lexeme) → Grants Setup (FitsSetup functions) (setup_at functions ts)
unfolding setup_at
setup_grants functions ts =
    cond_grants (FitsSetup functions) (is_terminal terminal.Guess (front ts)) _ _ (guess_grants functions (behind ts))
    (λ other. cond_grants (FitsSetup functions) (is_terminal terminal.Cold (front ts)) _ _ (cold_grants functions (behind ts))
    (λ last. warm_grants functions (behind ts)))

setups_grants : (functions : List Function) (ts : List Lexeme) → Grants (List Setup) (All (FitsSetup functions)) (setups_at functions [] ts)
unfolding setups_at all_at
setups_grants functions ts =
    many_grants (All (FitsSetup functions)) is_setup (next_setup functions)
    (λ earlier us h. record { grants = λ setup vs e. All-push (FitsSetup functions) earlier setup h ((setup_grants functions us).grants setup vs e) })
    (length ts) [] ts (All-nil (FitsSetup functions))

-- ---- scripts

script_grants : (p : Program) (ts : List Lexeme) → Grants Script (FitsScript p) (script_at p.functions ts)
unfolding script_at
script_grants p ts =
    then_grants (All (FitsSetup p.functions)) (FitsScript p) (setups_at p.functions [] (behind ts)) _ (setups_grants p.functions (behind ts))
    (λ setups fit. then_grants (AreCalls p.functions) (FitsScript p) (calls_at p.functions [] setups.1) _ (calls_grants p.functions setups.1)
    (λ calls fine. ok_grants (FitsScript p) _ calls.1
    (record { setups = fit; calls = fine.fit; few_calls = fine.few; few_turns = fine.within })))

pub script_fits : (p : Program) (functions : List Function) (ts us : List Lexeme) (s : Script) → functions ≡ p.functions →
    script_at functions ts ≡ Ok (s, us) → FitsScript p s
script_fits p functions ts us s f h = let e : script_at p.functions ts ≡ Ok (s, us) = rw f at h in (script_grants p ts).grants s us e
