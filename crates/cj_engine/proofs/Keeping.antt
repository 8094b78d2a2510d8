-- What a call keeps of a watch.
use Rattle.std.proofs.Common.{◌≡◌, ◌∙◌, refl, subst, sym}
use Rattle.cj_ir.specs.declared.language.Program.{Program}
use Rattle.cj_machine.specs.Versions.{Codes}
use Rattle.cj_machine.specs.CodeMaps.{Grows}
use Rattle.cj_engine.specs.Watching.{Keeps}
use Rattle.cj_machine.proofs.Growing.{grows_more}

module _ {W : Type 0} (program : W → Program) (codes : W → Codes) (stay : W → W → Type 0) (fit : W → Type 0) where
  pub keeps_none : (w : W) → stay w w → fit w → Keeps program codes stay fit w w
  keeps_none w stays ready = record { grows = λ f offset code found. found; same = refl; stays = stays; ready = ready }

  pub keeps_same : (a b : W) → codes b ≡ codes a → program b ≡ program a → stay a b → fit b → Keeps program codes stay fit a b
  keeps_same a b same own stays ready = record {
    grows = subst (λ (later : Codes). Grows (codes a) later) (sym same) (λ f offset code found. found);
    same = own;
    stays = stays;
    ready = ready;
  }

  pub keeps_then : (a b c : W) → (stay a b → stay b c → stay a c) → Keeps program codes stay fit a b → Keeps program codes stay fit b c →
      Keeps program codes stay fit a c
  keeps_then a b c on one two = record {
    grows = grows_more (codes a) (codes b) (codes c) one.grows two.grows;
    same = two.same ∙ one.same;
    stays = on one.stays two.stays;
    ready = two.ready;
  }
