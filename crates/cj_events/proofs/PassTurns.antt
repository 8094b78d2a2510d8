-- The reader of passes, turn by turn.
use Rattle.std.proofs.Common.{◌≡◌, ℕ, ◌<◌, ◌≤◌, true, false, List, [], ◌∷◌, ◌++◌, length, Ok, Err, refl, arith}
use Rattle.std.specs.Prelude.{nat_le}
use Rattle.cj_ir.specs.declared.language.Guard.{Guard}
use Rattle.cj_ir.specs.declared.language.Label.{Label}
use Rattle.cj_draft.specs.declared.passes.Pass.{Pass}
use Rattle.cj_tokens.specs.Lexemes.{Lexeme, is_terminal}
use Rattle.cj_tokens.specs.Passing.{front, behind}
use Rattle.cj_tokens.specs.declared.refusal.Kind.TheVariants.{TooMany}
use Rattle.cj_tokens.specs.declared.refusal.Refused.{Refused}
use Rattle.cj_tokens.specs.declared.terminal.Terminal.TheVariants as terminal
use Rattle.cj_grammar.specs.Reading.{offence}
use Rattle.cj_script.proofs.Turns.{behind_within, Within, ok_within, err_within, judged_within, then_within, cond_within, all_stops, all_fails, all_goes}
use Rattle.cj_events.specs.Meaning.{label_of, label_offences}
use Rattle.cj_events.specs.Reading.{is_number, next_label, labels_at, is_comma, guard_at, next_guard, more_guards_at, guards_at, is_pass, anchors_at, assume_at}
use Rattle.cj_events.specs.Reading.{delay_at, inline_at, any_pass_at, pass_at, next_pass, passes_at}
use Rattle.cj_events.proofs.GuardTurns.{guard_within}
use Rattle.cj_events.proofs.LabelTurns.{label_within}
use Rattle.cj_events.proofs.ManyTurns.{all_within}

labels_within : (earlier : List Label) (ts : List Lexeme) → Within (List Label) (length ts) (labels_at earlier ts)
unfolding labels_at
labels_within earlier ts = all_within is_number next_label (λ before us. label_within (length before) us) earlier ts

more_guards_within : (earlier : List Guard) (ts : List Lexeme) → Within (List Guard) (length ts) (more_guards_at earlier ts)
unfolding more_guards_at
more_guards_within earlier ts = all_within is_comma next_guard (λ before us. widely (length before) us) earlier ts
  where
    widely : (n : ℕ) (us : List Lexeme) → Within Guard (length us) (guard_at n us)
    widely n us = record {
      within = λ y h. let l : length y.1 ≤ length (behind us) = (guard_within n us).within y h in let m : length (behind us)
          ≤ length us = behind_within us in omega arith;
    }

guards_within : (ts : List Lexeme) → Within (List Guard) (length ts) (guards_at ts)
unfolding guards_at
guards_within ts =
    let one : length (behind ts) ≤ length ts = behind_within ts in
    then_within (guard_at 0 ts) (length (behind ts)) (length ts) _ (guard_within 0 ts)
    (λ first fewer. record {
      within = λ y h. let l : length y.1 ≤ length first.1 = (more_guards_within (first.0 ∷ []) first.1).within y h in omega arith;
    })

anchors_within : (ts : List Lexeme) → Within Pass (length ts) (anchors_at ts)
unfolding anchors_at
anchors_within ts =
    then_within (labels_at [] ts) (length ts) (length ts) _ (labels_within [] ts) (λ places fewer. ok_within _ (length ts) places.1 fewer)

assume_within : (ts : List Lexeme) → Within Pass (length ts) (assume_at ts)
unfolding assume_at
assume_within ts =
    let one : length (behind ts) ≤ length ts = behind_within ts in
    judged_within (label_offences (front ts)) (label_of (front ts)) (length ts) _
    (then_within (guards_at (behind ts)) (length (behind ts)) (length ts) _ (guards_within (behind ts))
    (λ guards fewer. ok_within _ (length ts) guards.1 (omega arith)))

delay_within : (ts : List Lexeme) → Within Pass (length ts) (delay_at ts)
unfolding delay_at
delay_within ts =
    then_within (labels_at [] ts) (length ts) (length ts) _ (labels_within [] ts)
    (λ path fewer. then_within (guards_at path.1) (length path.1) (length ts) _ (guards_within path.1)
    (λ guards less. ok_within _ (length ts) guards.1 (omega arith)))

inline_within : (ts : List Lexeme) → Within Pass (length ts) (inline_at ts)
unfolding inline_at
inline_within ts =
    let one : length (behind ts) ≤ length ts = behind_within ts in
    judged_within (label_offences (front ts)) (label_of (front ts)) (length ts) _ (ok_within _ (length ts) (behind ts) one)

-- a pass takes its first word
any_within : (ts : List Lexeme) → Within Pass (length (behind ts)) (any_pass_at ts)
unfolding any_pass_at
any_within ts =
    let n : ℕ = length (behind ts) in
    cond_within (is_terminal terminal.Anchors (front ts)) n _ _ (anchors_within (behind ts))
    (cond_within (is_terminal terminal.Assume (front ts)) n _ _ (assume_within (behind ts))
    (cond_within (is_terminal terminal.Delay (front ts)) n _ _ (delay_within (behind ts))
    (cond_within (is_terminal terminal.Const (front ts)) n _ _ (ok_within _ n (behind ts) (omega arith)) (inline_within (behind ts)))))

pub pass_within : (earlier : ℕ) (ts : List Lexeme) → Within Pass (length (behind ts)) (pass_at earlier ts)
unfolding pass_at
pass_within earlier ts =
    cond_within (nat_le 256 earlier) (length (behind ts)) _ _ (err_within Pass (length (behind ts)) (offence (front ts) TooMany)) (any_within ts)

pass_taken : (ts : List Lexeme) → is_pass ts ≡ true → length (behind ts) < length ts
unfolding front behind
pass_taken [] h = cc
pass_taken (t ∷ ts) h = omega arith

pub pass_shorter : (earlier : ℕ) (ts : List Lexeme) (x : Pass × List Lexeme) → is_pass ts ≡ true → pass_at earlier ts ≡ Ok x → length x.1 < length ts
pass_shorter earlier ts x b h =
    let s : length (behind ts) < length ts = pass_taken ts b in
    let l : length x.1 ≤ length (behind ts) = (pass_within earlier ts).within x h in
    omega arith

pub next_shorter : (earlier : List Pass) (ts : List Lexeme) (x : Pass × List Lexeme) → is_pass ts ≡ true → next_pass earlier ts ≡ Ok x → length x.1 < length ts
next_shorter earlier ts x b h = pass_shorter (length earlier) ts x b h

pub passes_turn : (earlier : List Pass) (ts us : List Lexeme) (pass : Pass) → is_pass ts ≡ true → pass_at (length earlier) ts ≡ Ok (pass, us) →
    passes_at earlier ts ≡ passes_at (earlier ++ pass ∷ []) us
unfolding passes_at front
passes_turn earlier ts us pass b h = all_goes is_pass next_pass refl next_shorter earlier ts (pass, us) b h

pub passes_fail : (earlier : List Pass) (ts : List Lexeme) (e : Refused) → is_pass ts ≡ true → pass_at (length earlier) ts ≡ Err e →
    passes_at earlier ts ≡ Err e
unfolding passes_at front
passes_fail earlier ts e b h = all_fails is_pass next_pass refl next_shorter earlier ts e b h

pub passes_stop : (earlier : List Pass) (ts : List Lexeme) → is_pass ts ≡ false → passes_at earlier ts ≡ Ok (earlier, ts)
unfolding passes_at front
passes_stop earlier ts b = all_stops is_pass next_pass refl next_shorter earlier ts b

pub passes_within : (earlier : List Pass) (ts : List Lexeme) → Within (List Pass) (length ts) (passes_at earlier ts)
unfolding passes_at
passes_within earlier ts = all_within is_pass next_pass (λ before us. widely (length before) us) earlier ts
  where
    widely : (n : ℕ) (us : List Lexeme) → Within Pass (length us) (pass_at n us)
    widely n us = record {
      within = λ y h. let l : length y.1 ≤ length (behind us) = (pass_within n us).within y h in let m : length (behind us)
          ≤ length us = behind_within us in omega arith;
    }
