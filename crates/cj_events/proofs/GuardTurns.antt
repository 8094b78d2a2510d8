-- The reader of guards, turn by turn.
use Rattle.std.proofs.Common.{◌≡◌, ℕ, ◌<◌, ◌≤◌, true, false, List, [], ◌∷◌, ◌++◌, length, Ok, Err, refl, arith}
use Rattle.cj_ir.specs.declared.language.Guard.{Guard}
use Rattle.cj_ir.specs.declared.language.Guard.TheVariants.{Never}
use Rattle.cj_tokens.specs.Lexemes.{Lexeme, is_terminal}
use Rattle.cj_tokens.specs.Passing.{front, behind}
use Rattle.cj_tokens.specs.declared.refusal.Refused.{Refused}
use Rattle.cj_tokens.specs.declared.terminal.Terminal.TheVariants as terminal
use Rattle.cj_script.proofs.Turns.{behind_within, Within, ok_within, judged_within, cond_within, behind_shorter, all_stops, all_fails, all_goes}
use Rattle.cj_events.specs.Meaning.{register_of, ninth_offences, register_offences}
use Rattle.cj_events.specs.Reading.{is_comma, never_at, equation_at, guard_at, next_guard, more_guards_at}

never_within : (earlier : ℕ) (ts : List Lexeme) → Within Guard (length ts) (never_at earlier ts)
unfolding never_at
never_within earlier ts =
    judged_within (ninth_offences earlier (front ts)) Never (length ts) _ (ok_within Never (length ts) (behind ts) (behind_within ts))

equation_within : (earlier : ℕ) (ts : List Lexeme) → Within Guard (length ts) (equation_at earlier ts)
unfolding equation_at
equation_within earlier ts =
    let one : length (behind ts) ≤ length ts = behind_within ts in
    let two : length (behind (behind ts)) ≤ length (behind ts) = behind_within (behind ts) in
    let three : length (behind (behind (behind ts))) ≤ length (behind (behind ts)) = behind_within (behind (behind ts)) in
    judged_within (register_offences earlier (front ts)) (register_of (front ts)) (length ts) _
    (ok_within _ (length ts) (behind (behind (behind ts))) (omega arith))

-- a guard takes the mark before it
pub guard_within : (earlier : ℕ) (ts : List Lexeme) → Within Guard (length (behind ts)) (guard_at earlier ts)
unfolding guard_at
guard_within earlier ts =
    cond_within (is_terminal terminal.Never (front (behind ts))) (length (behind ts)) _ _ (never_within earlier (behind ts))
    (equation_within earlier (behind ts))

pub guard_shorter : (earlier : ℕ) (ts : List Lexeme) (x : Guard × List Lexeme) → is_comma ts ≡ true → guard_at earlier ts ≡ Ok x → length x.1 < length ts
unfolding front
guard_shorter earlier ts x b h =
    let s : length (behind ts) < length ts = behind_shorter terminal.Comma ts refl b in
    let l : length x.1 ≤ length (behind ts) = (guard_within earlier ts).within x h in
    omega arith

pub next_shorter : (earlier : List Guard) (ts : List Lexeme) (x : Guard × List Lexeme) → is_comma ts ≡ true → next_guard earlier ts ≡ Ok x →
    length x.1 < length ts
next_shorter earlier ts x b h = guard_shorter (length earlier) ts x b h

pub guards_turn : (earlier : List Guard) (ts us : List Lexeme) (guard : Guard) → is_comma ts ≡ true → guard_at (length earlier) ts ≡ Ok (guard, us) →
    more_guards_at earlier ts ≡ more_guards_at (earlier ++ guard ∷ []) us
unfolding more_guards_at front
guards_turn earlier ts us guard b h = all_goes is_comma next_guard refl next_shorter earlier ts (guard, us) b h

pub guards_fail : (earlier : List Guard) (ts : List Lexeme) (e : Refused) → is_comma ts ≡ true → guard_at (length earlier) ts ≡ Err e →
    more_guards_at earlier ts ≡ Err e
unfolding more_guards_at front
guards_fail earlier ts e b h = all_fails is_comma next_guard refl next_shorter earlier ts e b h

pub guards_stop : (earlier : List Guard) (ts : List Lexeme) → is_comma ts ≡ false → more_guards_at earlier ts ≡ Ok (earlier, ts)
unfolding more_guards_at front
guards_stop earlier ts b = all_stops is_comma next_guard refl next_shorter earlier ts b
