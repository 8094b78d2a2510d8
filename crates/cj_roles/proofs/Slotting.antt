-- What comes of the roles in their slots.
use Rattle.std.proofs.Common.{◌≡◌, refl, sym, subst, ℕ, zero, suc, ◌<◌, List, [], ◌∷◌, length, arith}
use Rattle.std.specs.Prelude.{slice_index_or, All}
use Rattle.std.proofs.lemmas.List.Elements.{All-nil, All-cons}
use Rattle.std.specs.List.{AllZip}
use Rattle.cj_ir.specs.declared.script.ScriptCall.{ScriptCall}
use Rattle.cj_profile.specs.declared.profile.Profile.{Profile}
use Rattle.cj_publish.specs.declared.view.View.{View}
use Rattle.cj_publish.specs.declared.seats.CodeTable.{CodeTable}
use Rattle.cj_publish.specs.Seats.{view_of}
use Rattle.cj_publish.specs.Views.{given}
use Rattle.cj_roles.specs.declared.role.Role.{Role}
use Rattle.cj_roles.specs.declared.role.Slot.{Slot}
use Rattle.cj_roles.specs.declared.role.Slot.TheVariants.{Given, Ended, Lost}
use Rattle.cj_roles.specs.Roles.{RoleEnds}
use Rattle.cj_roles.specs.Slots.{SlotFits, IsFor, HasEnded, SlotEnds, SlotJoins}

fits_of : (t : CodeTable) (p : Profile) (v : View) (role : Role) (slot : Slot) → IsFor t p v role slot → SlotFits t p slot
fits_of t p v role (Given job) h = h.fits
fits_of t p v role (Ended done) h = h
fits_of t p v role Lost h = h

pub fits_at : (t : CodeTable) (p : Profile) (v : View) (roles : List Role) (slots : List Slot) → AllZip (IsFor t p v) roles slots
    → (i : ℕ) (slot : Slot) → i < length slots → slot ≡ slice_index_or slots i slot → SlotFits t p slot
fits_at t p v [] [] h i slot lt is = absurd (omega (arith, lt))
fits_at t p v [] (s ∷ slots) h i slot lt is = absurd h
fits_at t p v (r ∷ roles) [] h i slot lt is = absurd h
fits_at t p v (r ∷ roles) (s ∷ slots) h zero slot lt is = subst (SlotFits t p) (sym is) (fits_of t p v r s h.0)
fits_at t p v (r ∷ roles) (s ∷ slots) h (suc i) slot lt is = fits_at t p v roles slots h.1 i slot (omega (arith, lt)) is

module _ (calls : List ScriptCall) (t : CodeTable) (p : Profile) (v : View) where
  ends_of : (role : Role) (old new : Slot) → IsFor t p v role old → SlotEnds calls t p old new → HasEnded calls t p v role new
  ends_of role (Given job) (Given other) h k = k
  ends_of role (Given job) (Ended done) h k =
      subst (λ (r : Role). RoleEnds calls t p (given v) r done) h.role_is (subst (λ (u : View). RoleEnds calls t p u job.role done) h.view k)
  ends_of role (Given job) Lost h k = tt
  ends_of role (Ended done) new h k = absurd h
  ends_of role Lost new h k = absurd h

  pub all_end : (roles : List Role) (old new : List Slot) → AllZip (IsFor t p v) roles old → length new ≡ length old
      → ((i : ℕ) (d : Slot) → i < length old → SlotEnds calls t p (slice_index_or old i d) (slice_index_or new i d)) → AllZip (HasEnded calls t p v) roles new
  all_end [] [] [] h e each = tt
  all_end [] [] (n ∷ new) h e each = absurd (omega (arith, e))
  all_end [] (o ∷ old) new h e each = absurd h
  all_end (r ∷ roles) [] new h e each = absurd h
  all_end (r ∷ roles) (o ∷ old) [] h e each = absurd (omega (arith, e))
  all_end (r ∷ roles) (o ∷ old) (n ∷ new) h e each =
      (ends_of r o n h.0 (each 0 o (omega arith)), all_end roles old new h.1 (omega (arith, e)) (λ i d lt. each (suc i) d (omega (arith, lt))))

  joins_of : (role : Role) (slot : Slot) → HasEnded calls t p v role slot → SlotJoins t p slot
  joins_of role (Given job) h = absurd h
  joins_of role (Ended done) h = record { code = h.code; code_first = h.code_first; free = h.free; profile = h.profile; profile_first = h.profile_first }
  joins_of role Lost h = tt

  pub all_join : (roles : List Role) (slots : List Slot) → AllZip (HasEnded calls t p v) roles slots → All (SlotJoins t p) slots
  all_join [] [] h = All-nil (SlotJoins t p)
  all_join [] (s ∷ slots) h = absurd h
  all_join (r ∷ roles) [] h = absurd h
  all_join (r ∷ roles) (s ∷ slots) h = All-cons (SlotJoins t p) s slots (joins_of r s h.0) (all_join roles slots h.1)
