-- One version of one function.
use Rattle.std.specs.Prelude.{◌≡◌, ℕ, [], Bool, true, false, ⊤, Option, Some, None, ◌==◌}
use Rattle.std.proofs.Common.{refl, sym, ap, subst}
use Rattle.std.proofs.lemmas.Option.{same_Some}
use Rattle.std.proofs.lemmas.Bool.{eqb-true}
use Rattle.cj_ir.specs.declared.language.FunId.{FunId}
use Rattle.cj_ir.specs.declared.language.Program.{Program}
use Rattle.cj_draft.specs.declared.code.Code.{Code}
use Rattle.cj_draft.specs.Bodies.{Body}
use Rattle.cj_draft.specs.Sound.{Sound}
use Rattle.cj_machine.specs.Versions.{Codes}
use Rattle.cj_machine.specs.CodeMaps.{SoundCodes}

unfoldable pub if_both : Bool → Bool → Code → Option Code
if_both true true code = Some code
if_both true false code = None
if_both false there code = None

-- its function has the code at that offset, and no other has any
unfoldable pub one_code : ℕ → Code → Codes
one_code offset code f at = if_both (f.0 == code.function.0) (at == offset) code

-- the version is one of the program's, whatever the arguments
pub record IsOneOf (P : Program) (version : Body) : Type 0 where
  pub program : version.program ≡ P
  pub sound : Sound P [] version.code.function version.code

abbrev IsNoCode : Option Code → Type 0
IsNoCode None = ⊤
IsNoCode (Some code) = ⊥

is_both : (own there : Bool) (code found : Code) → if_both own there code ≡ Some found → (own ≡ true) × (Some code ≡ Some found)
unfolding if_both
is_both true true code found e = (refl, e)
is_both true false code found e = absurd (subst IsNoCode e tt)
is_both false there code found e = absurd (subst IsNoCode e tt)

pub one_sound : (P : Program) (offset : ℕ) (version : Body) → IsOneOf P version → SoundCodes P (one_code offset version.code)
unfolding one_code
one_sound P offset version is f at found e =
    let parts = is_both (f.0 == version.code.function.0) (at == offset) version.code found e in
    let own : version.code.function ≡ f = ap (λ (n : ℕ). record { 0 = n }) (sym (eqb-true f.0 version.code.function.0 parts.0)) in
    subst (λ (c : Code). Sound P [] f c) (same_Some version.code found parts.1) (subst (λ (g : FunId). Sound P [] g version.code) own is.sound)
