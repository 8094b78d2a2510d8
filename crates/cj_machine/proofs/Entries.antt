-- Every way in which an entry comes out.
use Rattle.std.proofs.Common.{◌≡◌, ℕ, zero, suc, ◌==◌, Bool, true, false, List, Option, Some, None, refl}
use Rattle.std.specs.Prelude.{ℤ, if◌then◌else◌}
use Rattle.std.specs.Option.{option_and_then, option_map}
use Rattle.cj_ir.specs.declared.language.FunId.{FunId}
use Rattle.cj_ir.specs.declared.language.Program.{Program}
use Rattle.cj_base.specs.Machine.{entry_frame}
use Rattle.cj_draft.specs.declared.code.Code.{Code}
use Rattle.cj_calls.specs.declared.report.Look.{Look}
use Rattle.cj_activations.specs.Activations.{Active, InBase}
use Rattle.cj_machine.specs.Versions.{Codes, version_entry, entered_at, offset_told, entered}

-- nothing, the base body, or a version that the codes have
pub by_entry : (P : Program) (codes : Codes) (look : Option Look) (f : FunId) (args : List ℤ) (Q : Option Active → Type 0) → Q None →
    Q (Some (InBase (entry_frame P f args))) → ((offset : ℕ) (code : Code) → codes f offset ≡ Some code → Q (Some (version_entry f offset args code))) →
    Q (entered P codes look f args)
unfolding entered entered_at offset_told
by_entry P codes look f args Q none base version = by_look look
  where
    by_code : (n : ℕ) (o : Option Code) → codes f n ≡ o → Q (option_map (version_entry f n args) o)
    by_code n None e = none
    by_code n (Some code) e = version n code e

    by_offset : (n : ℕ) → Q (entered_at P codes f args n)
    by_offset zero = base
    by_offset (suc n) = by_code (suc n) (codes f (suc n)) refl

    by_name : (b : Bool) (n : ℕ) → Q (option_and_then (entered_at P codes f args) (if b then Some n else None))
    by_name true n = by_offset n
    by_name false n = none

    by_look : (l : Option Look) → Q (option_and_then (entered_at P codes f args) (option_and_then (offset_told f) l))
    by_look None = none
    by_look (Some l) = by_name (l.function.0 == f.0) l.offset
