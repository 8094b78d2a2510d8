-- What is read of the tokens of calls is their meaning, or the first offence of their tokens.
use Rattle.std.proofs.Common.{◌≡◌, ◌+◌, ℤ, pos, ◌+ℤ◌, true, false, Bool, cond, List, [], ◌∷◌, ◌++◌, length, Err, refl, ◌∙◌, length-append, arith}
use Rattle.std.specs.Prelude.{Some, None, map, nat_le}
use Rattle.std.proofs.lemmas.Int.{ints}
use Rattle.cj_ir.specs.declared.language.Function.{Function}
use Rattle.cj_ir.specs.declared.script.ScriptCall.{ScriptCall}
use Rattle.cj_tokens.specs.Lexemes.{Lexeme}
use Rattle.cj_tokens.specs.Passing.{front, behind}
use Rattle.cj_tokens.specs.declared.refusal.Kind.{Kind}
use Rattle.cj_tokens.specs.declared.refusal.Kind.TheVariants.{TooMany}
use Rattle.cj_tokens.specs.declared.refusal.Refused.{Refused}
use Rattle.cj_grammar.specs.Grammar.{Tree, leaves}
use Rattle.cj_grammar.specs.Reading.{each_offends, offends_if, offence}
use Rattle.cj_grammar.specs.Readers.{Read, reads}
use Rattle.cj_grammar.specs.Rules.{begun, script_call, script_calls}
use Rattle.cj_script.specs.Meaning.{out_of_range, limit_offences, callee_offences, begun_offences, begun_of, limit_of, call_limit, spent_by, call_offences}
use Rattle.cj_script.specs.Meaning.{call_of, calls_offences, calls_of}
use Rattle.cj_script.specs.Reading.{is_call, limits, call_at, calls_at}
use Rattle.cj_script.proofs.BegunReads.{begun_reads}
use Rattle.cj_script.proofs.Offences.{none_of, limit_natural}
use Rattle.cj_script.proofs.Turns.{all_reads}
use Rattle.cj_script.proofs.CallTurns.{call_shorter, limits_more}

-- the offences of a call behind calls of these meanings
behind_offences : List Function → List ScriptCall → Tree script_call → List Refused
unfolding script_call
behind_offences functions earlier (word, call) =
    offends_if (nat_le 256 (length earlier)) word.token TooMany ++ begun_offences functions (pos (limits earlier)) call

-- a first word that may be one too many, and what stands behind it
pub refuse_or : {Y : Type 0} (b : Bool) (t : Lexeme) (kind : Kind) (fs : List Refused) (y : Y) (us : List Lexeme) (read : Read Y) → read ≡ reads fs y us →
    cond b (Err (offence t kind)) read ≡ reads (offends_if b t kind ++ fs) y us
refuse_or true t kind fs y us read h = refl
refuse_or false t kind fs y us read h = h

call_reads : (functions : List Function) (earlier : List ScriptCall) (t : Tree script_call) (ts : List Lexeme) →
    (is_call (leaves script_call t ++ ts) ≡ true)
    × (call_at functions earlier (leaves script_call t ++ ts) ≡ reads (behind_offences functions earlier t) (call_of functions t) ts)
unfolding script_call call_at behind_offences call_of front behind
call_reads functions earlier (word, call) ts = (
  word.is,
  refuse_or (nat_le 256 (length earlier)) word.token TooMany (begun_offences functions (pos (limits earlier)) call) (begun_of functions call) ts _
      (begun_reads functions (limits earlier) call ts),
)

begun_fine : (functions : List Function) (spent : ℤ) (t : Tree begun) → begun_offences functions spent t ≡ [] → pos (begun_of functions t).limit ≡ limit_of t
unfolding begun begun_offences begun_of limit_of
begun_fine functions spent (name, (args, (None, (word, limit)))) h = limit_natural spent limit.token
    (none_of (callee_offences functions (length args) name.token) (limit_offences spent limit.token) h).1
begun_fine functions spent (name, (args, (Some (memory, cells), (word, limit)))) h =
    limit_natural spent limit.token
    (none_of (out_of_range (pos 0) (pos 65536) cells.token) (limit_offences spent limit.token)
    (none_of (callee_offences functions (length args) name.token) (out_of_range (pos 0) (pos 65536) cells.token ++ limit_offences spent limit.token) h).1).1

call_fine : (functions : List Function) (done : List (Tree script_call)) (t : Tree script_call) → call_offences functions done t ≡ [] →
    pos (call_of functions t).limit ≡ call_limit t
unfolding script_call call_offences call_of call_limit
call_fine functions done (word, call) h =
    begun_fine functions (spent_by done) call
    (none_of (offends_if (nat_le 256 (length done)) word.token TooMany) (begun_offences functions (spent_by done) call) h).1

-- the turns that one more call may take
pub spent_more : (done : List (Tree script_call)) (t : Tree script_call) → spent_by (done ++ t ∷ []) ≡ spent_by done +ℤ call_limit t
unfolding spent_by
spent_more [] t = omega (arith, ints)
spent_more (call ∷ done) t =
    let ih : spent_by (done ++ t ∷ []) ≡ spent_by done +ℤ call_limit t = spent_more done t in
    rw ih (omega (arith, ints))

same_offences : (functions : List Function) (earlier : List ScriptCall) (done : List (Tree script_call)) (t : Tree script_call) →
    length earlier ≡ length done → spent_by done ≡ pos (limits earlier) → behind_offences functions earlier t ≡ call_offences functions done t
unfolding script_call behind_offences call_offences
same_offences functions earlier done (word, call) n s = rw (n, s) refl

-- The first offence is the same where calls before it are counted by what they mean.
same_reads : {Y : Type 0} (functions : List Function) (earlier : List ScriptCall) (done calls : List (Tree script_call)) (y : Y) (ts : List Lexeme) →
    length earlier ≡ length done → spent_by done ≡ pos (limits earlier) →
    reads (each_offends (behind_offences functions) (call_of functions) earlier calls) y ts
    ≡ reads (each_offends (call_offences functions) (λ call. call) done calls) y ts
same_reads functions earlier done [] y ts n s = refl
same_reads {Y = Y} functions earlier done (t ∷ calls) y ts n s =
    rw (same_offences functions earlier done t n s)
    (go (call_offences functions done t) (λ h. same_reads functions (earlier ++ call_of functions t ∷ []) (done ++ t ∷ []) calls y ts (more h).0 (more h).1)
    refl)
  where
    more : call_offences functions done t ≡ [] → (length (earlier ++ call_of functions t ∷ []) ≡ length (done ++ t ∷ []))
        × (spent_by (done ++ t ∷ []) ≡ pos (limits (earlier ++ call_of functions t ∷ [])))
    more h =
        let fine : pos (call_of functions t).limit ≡ call_limit t = call_fine functions done t h in
        let by_meaning : limits (earlier ++ call_of functions t ∷ [])
        ≡ limits earlier + (call_of functions t).limit = limits_more earlier (call_of functions t) in
        let by_token : spent_by (done ++ t ∷ []) ≡ spent_by done +ℤ call_limit t = spent_more done t in
        (rw (length-append earlier (call_of functions t ∷ []), length-append done (t ∷ []), n) refl, rw (by_token, s, by_meaning, ← fine) refl)

    go : (es : List Refused) →
        (call_offences functions done t ≡ [] →
        reads (each_offends (behind_offences functions) (call_of functions) (earlier ++ call_of functions t ∷ []) calls) y ts
        ≡ reads (each_offends (call_offences functions) (λ call. call) (done ++ t ∷ []) calls) y ts) → call_offences functions done t ≡ es →
        reads (es ++ each_offends (behind_offences functions) (call_of functions) (earlier ++ call_of functions t ∷ []) calls) y ts
        ≡ reads (es ++ each_offends (call_offences functions) (λ call. call) (done ++ t ∷ []) calls) y ts
    go [] ih e = ih e
    go (f ∷ fs) ih e = refl

pub calls_reads : (functions : List Function) (t : Tree script_calls) (ts : List Lexeme) → is_call ts ≡ false →
    calls_at functions [] (leaves script_calls t ++ ts) ≡ reads (calls_offences functions t) (calls_of functions t) ts
unfolding script_calls calls_at calls_offences calls_of spent_by front
calls_reads functions t ts h =
    all_reads is_call (call_at functions) refl (call_shorter functions) (leaves script_call) (behind_offences functions) (call_of functions) [] t ts
    (call_reads functions) h
    ∙ same_reads functions [] [] t (map (call_of functions) t) ts refl refl
