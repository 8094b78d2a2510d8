-- What is asked of the codes that a versioned run enters, and when one map of codes has all of another.
use Rattle.std.specs.Prelude.{◌≡◌, ℕ, List, [], All, Some, None}
use Rattle.cj_ir.specs.declared.language.FunId.{FunId}
use Rattle.cj_ir.specs.declared.language.Program.{Program}
use Rattle.cj_draft.specs.declared.code.Code.{Code}
use Rattle.cj_draft.specs.Sound.{Sound}
use Rattle.cj_calls.specs.declared.report.Look.{Look}
use Rattle.cj_calls.specs.declared.report.Report.{Report}
use Rattle.cj_machine.specs.Versions.{Codes}

-- each code is sound for its function, whatever the arguments
abbrev pub SoundCodes : Program → Codes → Type 0
SoundCodes P codes =
    (f : FunId) (offset : ℕ) (code : Code) → codes f offset ≡ Some code → Sound P [] f code

-- no function has a version
unfoldable pub no_codes : Codes
no_codes f offset = None

-- the later map has all that the earlier had
abbrev pub Grows : Codes → Codes → Type 0
Grows codes later =
    (f : FunId) (offset : ℕ) (code : Code) → codes f offset ≡ Some code → later f offset ≡ Some code

-- each look found the base body
abbrev pub IsPlainTrail : List Look → Type 0
IsPlainTrail trail = All (λ look. look.offset ≡ 0) trail

-- nothing but base bodies ran: each turn is a base turn, and no Assume failed
pub record IsPlainReport (r : Report) : Type 0 where
  pub turns : r.turns ≡ r.base_turns
  pub fails : r.fails ≡ 0
  pub notes : r.notes ≡ []
