-- The versions of a session: what is found among them, and what one more changes.
use Rattle.std.proofs.Common.{◌≡◌, ◌∙◌, refl, sym, ap, subst, arith, ℕ, Bool, true, false, ◌&&◌, if◌then◌else◌}
use Rattle.std.proofs.Common.{List, [], ◌∷◌, ◌++◌, Option, Some, None}
use Rattle.std.specs.Prelude.{All, IsSome, ◌==◌}
use Rattle.std.specs.Map.{lookup}
use Rattle.std.proofs.lemmas.Option.{same_Some}
use Rattle.std.proofs.lemmas.Bool.Decides.{nat_tests}
use Rattle.std.proofs.lemmas.List.Elements.{All-head, All-tail, All-push}
use Rattle.cj_ir.specs.declared.language.FunId.{FunId}
use Rattle.cj_ir.specs.declared.language.Program.{Program}
use Rattle.cj_draft.specs.Bodies.{Body}
use Rattle.cj_draft.specs.declared.code.Code.{Code}
use Rattle.cj_draft.specs.Sound.{Sound}
use Rattle.cj_machine.specs.CodeMaps.{SoundCodes, Grows}
use Rattle.cj_publish.specs.declared.view.View.{View}
use Rattle.cj_session.specs.Versions.{Entry, code_of, is_key, codes_in, IsWholeIn, EntriesKnown}

abbrev Test : Type 0
Test = ℕ × ℕ → Bool

-- what holds of each version holds of the one that is found
found_has : (Q : Body → Type 0) (t : Test) (es : List Entry) (body : Body) → All (λ (e : Entry). Q e.1) es → lookup t es ≡ Some body → Q body
found_has Q t [] body all found = absurd cc
found_has Q t (e ∷ es) body all found = by (t e.0) found (found_has Q t es body (All-tail (λ (e : Entry). Q e.1) e es all))
  where
    by : (b : Bool) → (if b then Some e.1 else lookup t es) ≡ Some body → (lookup t es ≡ Some body → Q body) → Q body
    by true here rest = subst Q (same_Some e.1 body here) (All-head (λ (e : Entry). Q e.1) e es all)
    by false later rest = rest later

pub found_program : (P : Program) (t : Test) (es : List Entry) (body : Body) → All (λ (e : Entry). e.1.program ≡ P) es
    → lookup t es ≡ Some body → body.program ≡ P
found_program P t es body all found = found_has (λ body. body.program ≡ P) t es body all found

pub none_found : (t : Test) (es : List Entry) → IsSome (code_of (lookup t es)) → lookup t es ≡ None → ⊥
none_found t es some none =
    let never : false ≡ true = subst (λ (o : Option Code). IsSome o) (ap code_of none) some in
    absurd cc

-- one more, behind all others
kept : (t : Test) (es : List Entry) (e : Entry) (body : Body) → lookup t es ≡ Some body → lookup t (es ++ e ∷ []) ≡ Some body
kept t [] e body found = absurd cc
kept t (x ∷ es) e body found = by (t x.0) found (kept t es e body)
  where
    by : (b : Bool) → (if b then Some x.1 else lookup t es) ≡ Some body
        → (lookup t es ≡ Some body → lookup t (es ++ e ∷ []) ≡ Some body)
        → (if b then Some x.1 else lookup t (es ++ e ∷ [])) ≡ Some body
    by true here rest = here
    by false later rest = rest later

added : (t : Test) (es : List Entry) (e : Entry) → lookup t es ≡ None → lookup t (es ++ e ∷ []) ≡ (if t e.0 then Some e.1 else None)
added t [] e none = refl
added t (x ∷ es) e none = by (t x.0) none (added t es e)
  where
    by : (b : Bool) → (if b then Some x.1 else lookup t es) ≡ None
        → (lookup t es ≡ None → lookup t (es ++ e ∷ []) ≡ (if t e.0 then Some e.1 else None))
        → (if b then Some x.1 else lookup t (es ++ e ∷ [])) ≡ (if t e.0 then Some e.1 else None)
    by true here rest = absurd cc
    by false later rest = rest later

-- two tests of numbers that pass say that the numbers are equal
pub both : (a b c d : ℕ) → ((a == b) && (c == d)) ≡ true → (a ≡ b) × (c ≡ d)
both a b c d e = (grind (arith, nat_tests), grind (arith, nat_tests))

own : (f : FunId) (offset : ℕ) → is_key f offset (f.0, offset) ≡ true
own f offset = grind (arith, nat_tests)

pub more_grow : (es : List Entry) (e : Entry) → Grows (codes_in es) (codes_in (es ++ e ∷ []))
unfolding codes_in
more_grow es e f offset code found = by (lookup (is_key f offset) es) refl found
  where
    by : (o : Option Body) → lookup (is_key f offset) es ≡ o → code_of o ≡ Some code
        → codes_in (es ++ e ∷ []) f offset ≡ Some code
    by None at is = absurd cc
    by (Some body) at is = ap code_of (kept (is_key f offset) es e body at) ∙ is

pub more_found : (es : List Entry) (f : FunId) (offset : ℕ) (body : Body) → lookup (is_key f offset) es ≡ None
    → codes_in (es ++ ((f.0, offset), body) ∷ []) f offset ≡ Some body.code
unfolding codes_in
more_found es f offset body none =
    ap code_of
    (added (is_key f offset) es ((f.0, offset), body) none
    ∙ ap (λ b. if b then Some body else None) (own f offset))

pub more_known : (P : Program) (v : View) (es : List Entry) (f : FunId) (offset : ℕ) (body : Body) → EntriesKnown P v es
    → body.program ≡ P → IsWholeIn v ((f.0, offset), body) → Sound P [] f body.code
    → EntriesKnown P v (es ++ ((f.0, offset), body) ∷ [])
unfolding codes_in
more_known P v es f offset body h program whole sound = record {
  programs = All-push (λ (e : Entry). e.1.program ≡ P) es ((f.0, offset), body) h.programs program;
  whole = All-push (IsWholeIn v) es ((f.0, offset), body) h.whole whole;
  sound = all;
}
  where
    e : Entry
    e = ((f.0, offset), body)

    here : (g : FunId) (o : ℕ) (c : Code) (b : Bool) → is_key g o (f.0, offset) ≡ b
        → code_of (if b then Some body else None) ≡ Some c → Sound P [] g c
    here g o c true is found =
        let same : f ≡ g = ap (λ (n : ℕ). record { 0 = n }) (sym (both g.0 f.0 o offset is).0) in
        let that : Sound P [] f c = subst (λ (d : Code). Sound P [] f d) (same_Some body.code c found) sound in
        subst (λ (x : FunId). Sound P [] x c) same that
    here g o c false is found = absurd cc

    all : SoundCodes P (codes_in (es ++ e ∷ []))
    all g o c found = by (lookup (is_key g o) es) refl
      where
        by : (r : Option Body) → lookup (is_key g o) es ≡ r → Sound P [] g c
        by None at = here g o c (is_key g o (f.0, offset)) refl (ap code_of (sym (added (is_key g o) es e at)) ∙ found)
        by (Some b) at = h.sound g o c (ap code_of at ∙ (sym (ap code_of (kept (is_key g o) es e b at)) ∙ found))

pub missing : (es : List Entry) (f : FunId) (offset : ℕ) → codes_in es f offset ≡ None → lookup (is_key f offset) es ≡ None
unfolding codes_in
missing es f offset none = by (lookup (is_key f offset) es) none
  where
    by : (o : Option Body) → code_of o ≡ None → o ≡ None
    by None is = refl
    by (Some b) is = absurd cc
