-- Reads of lists that are written.
use Rattle.std.proofs.Common.{◌≡◌, ℕ, ◌<◌, List, length, get_or, Some, sym, ap, ◌∙◌}
use Rattle.std.specs.Prelude.{slice_get}
use Rattle.std.proofs.lemmas.Option.{slice_get-get_or}
pub use Rattle.cj_ir.proofs.ListReads.{get-set_same, get-set_other, get-replicate, get-append_left, get-append_end, contains-at, at-contains}

-- an item that is read in a list that equals this one
pub get-read : {X : Type 0} (xs ys : List X) (i : ℕ) (x : X) → ys ≡ xs → i < length xs → x ≡ get_or ys i x → slice_get xs i ≡ Some x
get-read xs ys i x e h is = slice_get-get_or xs i x h ∙ ap (λ zs. Some (get_or zs i x)) (sym e) ∙ ap Some (sym is)
