-- The tables of new numbers, and of where edges go, as they are filled.
use Rattle.std.proofs.Common.{◌≡◌, ℕ, ◌+◌, ◌<◌, Bool, List, [], ◌∷◌, ◌++◌, get_or, take, refl, ap, ◌∙◌}
use Rattle.std.specs.Prelude.{count_by}
use Rattle.std.proofs.lemmas.Option.{get_or_from_slice_get}
use Rattle.cj_ir.specs.declared.language.Label.{Label}
use Rattle.cj_draft.specs.declared.code.Code.{Code}
use Rattle.cj_rows.specs.Tables.{IsTable}
use Rattle.cj_rows.proofs.Tables.{numbered, table_more}
use Rattle.cj_passes.specs.Lowering.{passed, renumbered, led}

pub numbers_more : (kept : List Bool) (n number : ℕ) (labels : List Label) → IsTable (renumbered kept) n labels →
    number ≡ count_by (λ keeps. keeps) (take n kept) → IsTable (renumbered kept) (n + 1) (labels ++ numbered number ∷ [])
unfolding renumbered numbered
numbers_more kept n number labels t e =
    table_more (renumbered kept) n labels (numbered n) (numbered number) t refl (ap numbered e)

pub led_labels_more : (code : Code) (kept : List Bool) (numbers labels : List Label) (m n : ℕ) (to d : Label) → IsTable (renumbered kept) m numbers →
    to ≡ passed code (numbered n) → to.0 < m → IsTable (led code kept) n labels → IsTable (led code kept) (n + 1) (labels ++ get_or numbers to.0 d ∷ [])
unfolding numbered led
led_labels_more code kept numbers labels m n to d numbers_are e h t =
    table_more (led code kept) n labels (numbered n) (get_or numbers to.0 d) t refl
    (get_or_from_slice_get numbers to.0 (renumbered kept to) d (numbers_are.at to h) ∙ ap (renumbered kept) e)
