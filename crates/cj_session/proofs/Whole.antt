-- What a session has read is among the versions that its seat has read whole.
use Rattle.std.proofs.Common.{◌≡◌, refl, sym, subst, ℕ, Bool, true, false, List, [], ◌∷◌, Option, Some, None, if◌then◌else◌}
use Rattle.std.specs.Prelude.{All}
use Rattle.cj_ir.specs.declared.language.FunId.{FunId}
use Rattle.cj_draft.specs.declared.code.Code.{Code}
use Rattle.cj_publish.specs.declared.view.View.{View}
use Rattle.cj_publish.specs.Plays.{IsReliable}
use Rattle.cj_publish.specs.Fetched.{main_of, HasVersion}
use Rattle.std.specs.Map.{lookup}
use Rattle.std.proofs.lemmas.Option.{same_Some}
use Rattle.std.proofs.lemmas.List.Elements.{All-head, All-tail}
use Rattle.cj_ir.specs.declared.language.Program.{Program}
use Rattle.cj_draft.specs.Bodies.{Body}
use Rattle.cj_machine.specs.CodeMaps.{Grows}
use Rattle.cj_session.specs.Versions.{Entry, code_of, is_key, codes_in, IsWholeIn, EntriesKnown}
use Rattle.cj_session.proofs.Map.{both}
use Rattle.cj_parts.specs.Known.{known_codes}
use Rattle.cj_parts.proofs.Known.{code_is}

found_whole : (v : View) (f : FunId) (offset : ℕ) (es : List Entry) (body : Body) → All (IsWholeIn v) es
    → lookup (is_key f offset) es ≡ Some body → HasVersion v (main_of f) offset body.code
found_whole v f offset [] body all found = absurd cc
found_whole v f offset (e ∷ es) body all found =
    by (is_key f offset e.0) refl found (found_whole v f offset es body (All-tail (IsWholeIn v) e es all))
  where
    by : (b : Bool) → is_key f offset e.0 ≡ b → (if b then Some e.1 else lookup (is_key f offset) es) ≡ Some body
        → (lookup (is_key f offset) es ≡ Some body → HasVersion v (main_of f) offset body.code)
        → HasVersion v (main_of f) offset body.code
    by true at here rest =
        let q = both f.0 e.0.0 offset e.0.1 at in
        let own : HasVersion v (main_of f) offset e.1.code =
        subst (λ (k : ℕ × ℕ). HasVersion v (main_of (record { 0 = k.0 })) k.1 e.1.code)
        (λ i. (sym q.0 i, sym q.1 i)) (All-head (IsWholeIn v) e es all) in
        subst (λ (d : Body). HasVersion v (main_of f) offset d.code) (same_Some e.1 body here) own
    by false at later rest = rest later

pub known_grow : (P : Program) (v : View) (es : List Entry) → EntriesKnown P v es → IsReliable v → Grows (codes_in es) (known_codes v)
unfolding codes_in
known_grow P v es h ok f offset code found = by (lookup (is_key f offset) es) refl found
  where
    by : (o : Option Body) → lookup (is_key f offset) es ≡ o → code_of o ≡ Some code
        → known_codes v f offset ≡ Some code
    by None at is = absurd cc
    by (Some body) at is =
        let whole : HasVersion v (main_of f) offset code =
        subst (λ (c : Code). HasVersion v (main_of f) offset c) (same_Some body.code code is)
        (found_whole v f offset es body h.whole at) in
        code_is v f offset code ok whole
