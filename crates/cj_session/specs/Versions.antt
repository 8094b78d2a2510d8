-- The versions that a session has read.
use Rattle.std.specs.Prelude.{◌≡◌, ℕ, Bool, ◌==◌, ◌&&◌, List, All, Option}
use Rattle.std.specs.Map.{lookup}
use Rattle.std.specs.Option.{option_map}
use Rattle.cj_ir.specs.declared.language.FunId.{FunId}
use Rattle.cj_ir.specs.declared.language.Program.{Program}
use Rattle.cj_draft.specs.Bodies.{Body}
use Rattle.cj_draft.specs.declared.code.Code.{Code}
use Rattle.cj_machine.specs.Versions.{Codes}
use Rattle.cj_machine.specs.CodeMaps.{SoundCodes}
use Rattle.cj_publish.specs.declared.view.View.{View}
use Rattle.cj_publish.specs.Fetched.{main_of, HasVersion}
use Rattle.cj_session.specs.declared.versions.Versions.{Versions}

abbrev pub Entry : Type 0
Entry = (ℕ × ℕ) × Body

abbrev pub code_of : Option Body → Option Code
code_of body = option_map (λ (b : Body). b.code) body

-- the key is that of the function's version at the offset
abbrev pub is_key : FunId → ℕ → ℕ × ℕ → Bool
is_key f offset k = (f.0 == k.0) && (offset == k.1)

-- the version of a function at an offset
unfoldable pub codes_in : List Entry → Codes
codes_in entries f offset = code_of (lookup (is_key f offset) entries)

abbrev pub IsWholeIn : View → Entry → Type 0
IsWholeIn v e = HasVersion v (main_of (record { 0 = e.0.0 })) e.0.1 e.1.code

-- the versions are of the program and sound, whatever the arguments, and the seat has read each of them whole
pub record EntriesKnown (P : Program) (v : View) (entries : List Entry) : Type 0 where
  pub programs : All (λ (e : Entry). e.1.program ≡ P) entries
  pub whole : All (IsWholeIn v) entries
  pub sound : SoundCodes P (codes_in entries)

abbrev pub AreKnown : Program → View → Versions → Type 0
AreKnown P v versions = EntriesKnown P v versions.map.entries
