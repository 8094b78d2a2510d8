-- Items of lists, as the proofs here use them.
use Rattle.std.proofs.Common.{◌≡◌, ℕ, List, [], ◌∷◌, ◌++◌, length, Some}
use Rattle.std.specs.Prelude.{slice_get, slice_index_or, All}
use Rattle.std.proofs.lemmas.Option.{slice_get-get_or}
use Rattle.std.proofs.lemmas.List.Elements.{All-nil, All-cons, All-head, All-tail}
use Rattle.cj_ir.proofs.ListReads.{all_at}
use Rattle.cj_ir.specs.declared.language.Label.{Label}
use Rattle.cj_ir.specs.declared.language.Program.{Program}
use Rattle.cj_draft.specs.declared.code.Place.{Place}
use Rattle.cj_draft.specs.declared.code.Code.{Code}
use Rattle.cj_draft.specs.Arrives.{place_at}
use Rattle.cj_draft.specs.WellNamed.{WellNamed, IsPlaceFine}

-- what holds of the item at each index holds of all
pub all_from : {X : Type 0} (P : X → Type 0) (xs : List X) → ((i : ℕ) (x : X) → slice_get xs i ≡ Some x → P x) → All P xs
all_from P xs h k d lt = h k (slice_index_or xs k d) (slice_get-get_or xs k d lt)

-- all that a place of a well-named code names exists
pub fine_of : (P : Program) (code : Code) → WellNamed P code → (x : Label) (p : Place) → place_at code x ≡ Some p →
    IsPlaceFine P code.regs (length code.places) p
fine_of P code named x p at = all_at (IsPlaceFine P code.regs (length code.places)) code.places x.0 p named.places at

-- what holds of all items of two lists holds of those of each
pub All-left : {X : Type 0} (P : X → Type 0) (xs ys : List X) → All P (xs ++ ys) → All P xs
All-left P [] ys h = All-nil P
All-left P (x ∷ xs) ys h = All-cons P x xs (All-head P x (xs ++ ys) h) (All-left P xs ys (All-tail P x (xs ++ ys) h))

pub All-right : {X : Type 0} (P : X → Type 0) (xs ys : List X) → All P (xs ++ ys) → All P ys
All-right P [] ys h = h
All-right P (x ∷ xs) ys h = All-right P xs ys (All-tail P x (xs ++ ys) h)
