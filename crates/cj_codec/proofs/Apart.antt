-- No spelling is a prefix of another.
use Rattle.std.proofs.Common.{◌≡◌, ℕ, List, ◌∷◌, ◌++◌, sym, ap, ◌∙◌}
use Rattle.std.specs.Prelude.{Some}
use Rattle.cj_draft.specs.declared.code.Code.{Code}
use Rattle.cj_spelling.specs.Spelling.{body_words, spelling}
use Rattle.cj_spelling.specs.Ranges.{IsInRange}
use Rattle.cj_spelling.specs.Values.{HasValues}
use Rattle.cj_spelling.specs.Formats.{Read}
use Rattle.cj_codec.specs.Reading.{body_at}
use Rattle.cj_spelling.proofs.Formats.{first_same, rest_same}
use Rattle.cj_codec.proofs.CodeFormats.{body_reads}

tails_same : (m n : ℕ) (v w : List ℕ) → m ∷ v ≡ n ∷ w → v ≡ w
tails_same m n v w e = cc

pub spellings_apart : (x y : Code) (a b : List ℕ) → IsInRange x → HasValues x → IsInRange y → HasValues y → spelling x ++ a ≡ spelling y ++ b →
    (x ≡ y) × (a ≡ b)
spellings_apart x y a b rx vx ry vy e =
    let bodies : body_words x ++ a ≡ body_words y ++ b = tails_same _ _ (body_words x ++ a) (body_words y ++ b) e in
    let same : ◌≡◌ {A = Read Code} (Some (x, a)) (Some (y, b)) = sym (body_reads x a (rx, vx)) ∙ ap body_at bodies ∙ body_reads y b (ry, vy) in
    (first_same x y a b same, rest_same x y a b same)
