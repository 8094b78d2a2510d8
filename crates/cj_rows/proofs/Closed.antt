-- A code whose names exist has edges within it, and where they go.
use Rattle.std.proofs.Common.{◌≡◌, ◌<◌, length, Some}
use Rattle.std.specs.Prelude.{All, Contains}
use Rattle.std.proofs.lemmas.List.Elements.{All-contains}
use Rattle.cj_ir.specs.declared.language.Label.{Label}
use Rattle.cj_ir.specs.declared.language.Program.{Program}
use Rattle.cj_draft.specs.declared.code.Place.{Place}
use Rattle.cj_draft.specs.declared.code.Code.{Code}
use Rattle.cj_draft.specs.Arrives.{place_at}
use Rattle.cj_draft.specs.WellNamed.{WellNamed, IsPlaceFine}
use Rattle.cj_ir.proofs.ListReads.{all_at}
use Rattle.cj_draft.proofs.Lists.{all_from}
use Rattle.cj_draft.proofs.EdgeLemmas.{successors_within}
use Rattle.cj_draft.specs.Edges.{successors}
use Rattle.cj_rows.specs.Edges.{IsClosed}

pub named_closed : (P : Program) (code : Code) → WellNamed P code → IsClosed code
named_closed P code named = record {
  entry = named.entry;
  edges = all_from (λ (p : Place). All (λ (y : Label). y.0 < length code.places) (successors p.instr)) code.places
      (λ i p at. successors_within P code.regs (length code.places) p.instr
      (all_at (IsPlaceFine P code.regs (length code.places)) code.places i p named.places at).instr);
}

pub edges_within : (code : Code) (x : Label) (place : Place) → IsClosed code → place_at code x ≡ Some place →
    All (λ next. next.0 < length code.places) (successors place.instr)
edges_within code x place closed at =
    all_at (λ (p : Place). All (λ (y : Label). y.0 < length code.places) (successors p.instr)) code.places x.0 place closed.edges at

pub next_within : (code : Code) (x : Label) (p : Place) (next : Label) → IsClosed code → place_at code x ≡ Some p → Contains (successors p.instr) next →
    next.0 < length code.places
next_within code x p next closed at c =
    All-contains (λ y. y.0 < length code.places) (successors p.instr) next (edges_within code x p closed at) c
