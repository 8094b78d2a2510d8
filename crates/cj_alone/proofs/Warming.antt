-- Setups, one by one.
use Rattle.std.proofs.Common.{◌≡◌, ◌∙◌, refl, sym, ap, subst, ℕ, ◌+◌, ◌<◌, ◌≤◌, List, [], ◌∷◌, ◌++◌, length, take, get_or, append_assoc}
use Rattle.std.proofs.lemmas.List.{take_more, take_all}
use Rattle.cj_ir.specs.declared.language.Program.{Program}
use Rattle.cj_ir.specs.declared.script.Setup.{Setup}
use Rattle.cj_ir.specs.declared.script.Setup.TheVariants.{Guess, Cold, Warm}
use Rattle.cj_profile.specs.declared.profile.ProfileSeat.{ProfileSeat}
use Rattle.cj_profile.specs.declared.view.Read.{Read}
use Rattle.cj_profile.specs.Seats as counts
use Rattle.cj_publish.specs.declared.seats.CodeSeat.{CodeSeat}
use Rattle.cj_publish.specs.Seats.{view_of}
use Rattle.cj_notes.specs.declared.notes.WorkNote.{WorkNote}
use Rattle.cj_notes.specs.Works.{Warmed}
use Rattle.cj_worker.specs.declared.worker.Worker.{Worker}
use Rattle.cj_worker.proofs.Turning.{stays_same, stays_on}
use Rattle.cj_worker.specs.Workers.{program_in, view_in, reads_in, IsReady, Stays}
use Rattle.cj_records.specs.Setups.{SetupPart, warm_lines}
use Rattle.cj_records.specs.Loops.{Prepared}
use Rattle.cj_records.proofs.Roles.{hint_push, warm_push, warm_skip}
use Rattle.cj_alone.specs.declared.seats.Seats.{Seats}
use Rattle.cj_alone.specs.Seats.{view_at, reads_at}
use Rattle.cj_alone.specs.Preparing.{HintsPart, WarmsUp, WarmedUp, HasWarmedUp}

-- a loop has come to one item more
one_more : {A : Type 0} (P : List A → Type 0) (xs : List A) (i : ℕ) (d : A) → i < length xs → P (take i xs ++ get_or xs i d ∷ []) → P (take (i + 1) xs)
one_more P xs i d within h = subst P (sym (take_more xs i d within)) h

-- one hint more
pub hints_more : (P : Program) (setups : List Setup) (i : ℕ) (d : Setup) (a b c : ProfileSeat) → i < length setups
    → counts.AddsPart (HintsPart P (take i setups)) a b → counts.AddsPart (SetupPart (get_or setups i d)) b c →
    counts.AddsPart (HintsPart P (take (i + 1) setups)) a c
hints_more P setups i d a b c within h k = one_more (λ (xs : List Setup). counts.AddsPart (HintsPart P xs) a c) setups i d within (
  h.0 ++ k.0,
  hint_push P (take i setups) (get_or setups i d) h.0 k.0 h.1 k.1,
  k.2 ∙ ap (λ (l : List Read). l ++ k.0) h.2
      ∙ append_assoc (counts.reads_of a) h.0 k.0,
)

-- ---- `warm` lines

module _ (a b : Worker) (before after : List WorkNote) where
  -- what one setup does to what was joined, and to the preparation
  joined_on : (s : Setup) → WarmsUp s a b before after → (view_in b).joined ≡ (view_in a).joined
  joined_on (Guess f param value) w = ap (λ (x : Worker). (view_in x).joined) w.0
  joined_on (Cold f label edge) w = ap (λ (x : Worker). (view_in x).joined) w.0
  joined_on (Warm f level) w = let made = w.2 in made.works.joined

  module _ (P : Program) (setups begun : List Setup) (h : Prepared P setups begun before (view_in a) (reads_in a)) where
    skip : (s : Setup) → warm_lines (s ∷ []) ≡ [] → (b ≡ a) × (after ≡ before) → Prepared P setups (begun ++ s ∷ []) after (view_in b) (reads_in b)
    skip s none rests =
        subst (λ (x : Worker). Prepared P setups (begun ++ s ∷ []) after (view_in x) (reads_in x)) (sym rests.0)
        (subst (λ (w : List WorkNote). Prepared P setups (begun ++ s ∷ []) w (view_in a) (reads_in a)) (sym rests.1)
        (warm_skip P setups begun before (view_in a) (reads_in a) h s none))

    prepared_on : (s : Setup) → program_in a ≡ P → WarmsUp s a b before after → Prepared P setups (begun ++ s ∷ []) after (view_in b) (reads_in b)
    unfolding warm_lines
    prepared_on (Guess f param value) e w = skip (Guess f param value) refl w
    prepared_on (Cold f label edge) e w = skip (Cold f label edge) refl w
    prepared_on (Warm f level) e w =
        let made : Warmed P (record { function = f; level = level }) w.0 (view_in a) (view_in b) (reads_in a) (reads_in b) =
        subst (λ (Q : Program). Warmed Q (record { function = f; level = level }) w.0 (view_in a) (view_in b) (reads_in a) (reads_in b)) e w.2 in
        subst (λ (l : List WorkNote). Prepared P setups (begun ++ Warm f level ∷ []) l (view_in b) (reads_in b)) (sym w.1)
        (warm_push P setups begun before (view_in a) (reads_in a) h f level w.0 (view_in b) (reads_in b) made)

-- no setup yet
pub warming_none : (a : Worker) (warm : List WorkNote) → IsReady a → warm ≡ [] → HasWarmedUp [] warm a a
warming_none a warm ready none = record {
  ready = ready;
  stays = stays_same a;
  joined = refl;
  warmed = λ (setups : List Setup) (p : Prepared (program_in a) setups [] [] (view_in a) (reads_in a)).
      subst (λ (l : List WorkNote). Prepared (program_in a) setups [] l (view_in a) (reads_in a)) (sym none) p;
}

-- one setup more
pub warming_more : (setups : List Setup) (i : ℕ) (d : Setup) (a b c : Worker) (before after : List WorkNote) → i < length setups
    → HasWarmedUp (take i setups) before a b → IsReady c → Stays b c → WarmsUp (get_or setups i d) b c before after →
    HasWarmedUp (take (i + 1) setups) after a c
warming_more setups i d a b c before after within h ready stays w = one_more (λ (xs : List Setup). HasWarmedUp xs after a c) setups i d within (record {
  ready = ready;
  stays = stays_on a b c h.stays stays;
  joined = joined_on b c before after (get_or setups i d) w ∙ h.joined;
  warmed = λ (all : List Setup) (p : Prepared (program_in a) all [] [] (view_in a) (reads_in a)).
      prepared_on b c before after (program_in a) all (take i setups) (h.warmed all p) (get_or setups i d) h.stays.checked w;
})

-- all setups are gone through, and the seats are handed back
pub warming_done : (P : Program) (setups : List Setup) (i : ℕ) (warm : List WorkNote) (a b : Worker) (s t : Seats) → length setups ≤ i → program_in a ≡ P
    → a.code_seat ≡ s.code → a.profile_seat ≡ s.profile → t.code ≡ b.code_seat → t.profile ≡ b.profile_seat
    → HasWarmedUp (take i setups) warm a b → WarmedUp P setups warm (view_at s) (reads_at s) (view_at t) (reads_at t)
warming_done P setups i warm a b s t all p code profile code' profile' h =
    subst (λ (x : CodeSeat). WarmedUp P setups warm (view_at s) (reads_at s) (view_of x) (reads_at t)) (sym code')
    (subst (λ (x : ProfileSeat). WarmedUp P setups warm (view_at s) (reads_at s) (view_in b) (counts.reads_of x)) (sym profile')
    (subst (λ (x : CodeSeat). WarmedUp P setups warm (view_of x) (reads_at s) (view_in b) (reads_in b)) code
    (subst (λ (x : ProfileSeat). WarmedUp P setups warm (view_in a) (counts.reads_of x) (view_in b) (reads_in b)) profile
    (subst (λ (Q : Program). WarmedUp Q setups warm (view_in a) (reads_in a) (view_in b) (reads_in b)) p
    (subst (λ (xs : List Setup). WarmedUp (program_in a) xs warm (view_in a) (reads_in a) (view_in b) (reads_in b)) (take_all i setups all) h.warmed)))))
