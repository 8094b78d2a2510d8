-- What words spell.
use Rattle.std.specs.Prelude.{◌≡◌, ℕ, ◌<◌, ◌≤◌, List, length}
use Rattle.cj_spelling.specs.declared.codes.TheConstants.{MAX_WORDS}
use Rattle.cj_draft.specs.declared.code.Code.{Code}
use Rattle.cj_spelling.specs.declared.codes.EncodeError.{EncodeError}
use Rattle.cj_spelling.specs.declared.codes.EncodeError.TheVariants.{TooLarge, NoMemory}
use Rattle.cj_spelling.specs.Counting.{capped}
use Rattle.cj_spelling.specs.Spelling.{spelling}
use Rattle.cj_spelling.specs.Ranges.{IsInRange}
use Rattle.cj_spelling.specs.Values.{HasValues}

-- The words are the code's spelling, at most 65,536, and the code is in range.
pub record Spells (words : List ℕ) (code : Code) : Type 0 where
  pub spelled : words ≡ spelling code
  pub few_words : length words ≤ MAX_WORDS
  pub in_range : IsInRange code
  pub values : HasValues code

-- Why a code has no words: its spelling is longer than that. Want of memory may come where it is not.
abbrev pub EncodeFails : EncodeError → Code → Type 0
EncodeFails (TooLarge len) code = (MAX_WORDS < length (spelling code)) × (len ≡ capped (length (spelling code)))
EncodeFails NoMemory code = length (spelling code) ≤ MAX_WORDS
