-- The reader of labels, turn by turn.
use Rattle.std.proofs.Common.{◌≡◌, ℕ, ◌<◌, ◌≤◌, true, false, List, [], ◌∷◌, ◌++◌, length, Ok, Err, refl, arith}
use Rattle.cj_ir.specs.declared.language.Label.{Label}
use Rattle.cj_tokens.specs.Lexemes.{Lexeme}
use Rattle.cj_tokens.specs.Passing.{front, behind}
use Rattle.cj_tokens.specs.declared.refusal.Refused.{Refused}
use Rattle.cj_tokens.specs.declared.terminal.Terminal.TheVariants as terminal
use Rattle.cj_script.proofs.Turns.{behind_within, Within, ok_within, judged_within, behind_shorter, all_stops, all_fails, all_goes}
use Rattle.cj_events.specs.Meaning.{label_of, listed_offences}
use Rattle.cj_events.specs.Reading.{is_number, label_at, next_label, labels_at}

pub label_within : (earlier : ℕ) (ts : List Lexeme) → Within Label (length ts) (label_at earlier ts)
unfolding label_at
label_within earlier ts =
    judged_within (listed_offences earlier (front ts)) (label_of (front ts)) (length ts) _
    (ok_within (label_of (front ts)) (length ts) (behind ts) (behind_within ts))

pub label_shorter : (earlier : ℕ) (ts : List Lexeme) (x : Label × List Lexeme) → is_number ts ≡ true → label_at earlier ts ≡ Ok x → length x.1 < length ts
unfolding label_at front
label_shorter earlier ts x b h =
    let s : length (behind ts) < length ts = behind_shorter terminal.Number ts refl b in
    let w : Within Label (length (behind ts)) (label_at earlier ts) =
    judged_within (listed_offences earlier (front ts)) (label_of (front ts)) (length (behind ts)) _
    (ok_within (label_of (front ts)) (length (behind ts)) (behind ts) (omega arith)) in
    let l : length x.1 ≤ length (behind ts) = w.within x h in
    omega arith

pub next_shorter : (earlier : List Label) (ts : List Lexeme) (x : Label × List Lexeme) → is_number ts ≡ true → next_label earlier ts ≡ Ok x →
    length x.1 < length ts
next_shorter earlier ts x b h = label_shorter (length earlier) ts x b h

pub labels_turn : (earlier : List Label) (ts us : List Lexeme) (label : Label) → is_number ts ≡ true → label_at (length earlier) ts ≡ Ok (label, us) →
    labels_at earlier ts ≡ labels_at (earlier ++ label ∷ []) us
unfolding labels_at front
labels_turn earlier ts us label b h = all_goes is_number next_label refl next_shorter earlier ts (label, us) b h

pub labels_fail : (earlier : List Label) (ts : List Lexeme) (e : Refused) → is_number ts ≡ true → label_at (length earlier) ts ≡ Err e →
    labels_at earlier ts ≡ Err e
unfolding labels_at front
labels_fail earlier ts e b h = all_fails is_number next_label refl next_shorter earlier ts e b h

pub labels_stop : (earlier : List Label) (ts : List Lexeme) → is_number ts ≡ false → labels_at earlier ts ≡ Ok (earlier, ts)
unfolding labels_at front
labels_stop earlier ts b = all_stops is_number next_label refl next_shorter earlier ts b
