-- The line at which a base frame stands.
use Rattle.std.proofs.Common.{◌≡◌, ◌∙◌, refl, sym, ap, ◌<◌, length, Option, Some, None}
use Rattle.std.specs.Prelude.{slice_get}
use Rattle.std.specs.Option.{option_map, option_and_then}
use Rattle.std.proofs.lemmas.Option.{slice_get_within}
use Rattle.cj_ir.specs.Program.{function_at, line_at}
use Rattle.cj_ir.specs.declared.language.FunId.{FunId}
use Rattle.cj_ir.specs.declared.language.Label.{Label}
use Rattle.cj_ir.specs.declared.language.Line.{Line}
use Rattle.cj_ir.specs.declared.language.Instr.{Instr}
use Rattle.cj_ir.specs.declared.language.Function.{Function}
use Rattle.cj_ir.specs.declared.language.Program.{Program}
use Rattle.cj_activations.specs.declared.windows.Position.TheVariants.{Base}
use Rattle.cj_activations.specs.Changes.{position_of}
use Rattle.cj_machine.specs.Versions.{State, Codes}
use Rattle.cj_engine.specs.Engines.{CanTurn}
use Rattle.cj_engine.proofs.Fitting.{IsBaseTop, base_top}

some_line : (o : Option Line) (i : Instr) → option_map (λ (l : Line). l.instr) o ≡ Some i → (x : Line) × (o ≡ Some x)
some_line None i e = let never : ⊥ = cc in absurd never
some_line (Some x) i e = (x, refl)

some_function : (label : Label) (o : Option Function) (i : Instr) →
    option_map (λ (l : Line). l.instr) (option_and_then (λ (g : Function). slice_get g.code label.0) o) ≡ Some i → (g : Function) × (o ≡ Some g)
some_function label None i e = let never : ⊥ = cc in absurd never
some_function label (Some g) i e = (g, refl)

module _ {P : Program} {codes : Codes} {s : State} {f : FunId} {label : Label} (can : CanTurn P codes s) (position : position_of s.stack.top
    ≡ Base f label) where
  here : IsBaseTop P s.stack.top f label
  here = base_top P codes s.base_turns s.stack.top f label position can.top

  pub function_inside : f.0 < length P.functions
  function_inside =
      let found = some_function label (function_at P f) here.instr here.at in
      slice_get_within P.functions f.0 found.0 found.1

  pub same_line : (body : Function) → function_at P f ≡ Some body → line_at P f label ≡ slice_get body.code label.0
  same_line body found = ap (option_and_then (λ (g : Function). slice_get g.code label.0)) found

  pub line_here : (body : Function) → function_at P f ≡ Some body → (x : Line) × (slice_get body.code label.0 ≡ Some x)
  line_here body found =
      let line = some_line (line_at P f label) here.instr here.at in
      (line.0, sym (same_line body found) ∙ line.1)
