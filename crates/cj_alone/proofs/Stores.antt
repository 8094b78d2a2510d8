-- The store when the setups have acted, and when the calls are made.
use Rattle.std.proofs.Common.{◌≡◌, ◌∙◌, sym, ap, subst, ℕ, true, List, ◌++◌, length}
use Rattle.cj_ir.specs.declared.language.Program.{Program}
use Rattle.cj_ir.specs.declared.script.Setup.{Setup}
use Rattle.cj_base.specs.Run.{Begun}
use Rattle.cj_profile.specs.declared.profile.Profile.{Profile}
use Rattle.cj_profile.specs.declared.profile.ProfileSeat.{ProfileSeat}
use Rattle.cj_profile.specs.declared.view.Read.{Read}
use Rattle.cj_profile.specs.Seats as counts
use Rattle.cj_publish.specs.declared.seats.CodeTable.{CodeTable}
use Rattle.cj_publish.specs.declared.view.View.{View}
use Rattle.cj_publish.specs.Views.{fresh}
use Rattle.cj_publish.specs.Seats.{key_of, program_of, IsSole}
use Rattle.cj_notes.specs.declared.notes.WorkNote.{WorkNote}
use Rattle.cj_records.specs.declared.store.Store.{Store}
use Rattle.cj_records.specs.Loops.{Prepared, IsPrepared}
use Rattle.cj_records.specs.Versions.{IsWholeStore, AloneStands}
use Rattle.cj_records.proofs.Roles.{prepared_none}
use Rattle.cj_records.proofs.Published.{alone_at_first}
use Rattle.cj_records.proofs.Standing.{began_new}
use Rattle.cj_alone.specs.declared.seats.Seats.{Seats}
use Rattle.cj_alone.specs.declared.rounds.Progress.{Progress}
use Rattle.cj_alone.specs.Seats.{view_at, reads_at, IsFree, AreSame}
use Rattle.cj_alone.specs.Preparing.{HintsPart, WarmedUp}
use Rattle.cj_alone.specs.Rounds.{RoundsMade}

abbrev store_with : CodeTable → Profile → Seats → Store
store_with t p s = record { code = t; code_seat = s.code; profile = p; profile_seat = s.profile }

module _ (P : Program) (size : ℕ) (t : CodeTable) (p : Profile) (old new : Seats) (free : IsFree P t p new) (same : AreSame old new) where
  -- the same seats still are all that there are
  whole_later : IsWholeStore 0 size P (store_with t p old) → IsWholeStore 0 size P (store_with t p new)
  whole_later h = record {
    code = free.code;
    profile = free.profile;
    program = h.program;
    counted = h.counted;
    one_slot = h.one_slot;
    sized = h.sized;
    code_seat = record {
      first = same.code.first ∙ h.code_seat.first;
      splits = same.code.splits ∙ h.code_seat.splits;
      all_joined = ap length same.joined ∙ h.code_seat.all_joined;
    };
    profile_seat = record {
      first = same.profile.first ∙ h.profile_seat.first;
      splits = same.profile.splits ∙ h.profile_seat.splits;
      all_joined = ap length same.profile.joined ∙ h.profile_seat.all_joined;
    };
  }

  -- the setups have acted on new tables
  pub prepared_store : (setups : List Setup) (warm : List WorkNote) (first : ProfileSeat)
      → (program_of t ≡ P) × ((key_of t).size ≡ size) × ((key_of t).slots ≡ 1)
      → view_at old ≡ fresh (key_of t) → IsSole old.code → old.code.first ≡ true → old.code.splits ≡ 0
      → counts.IsNew true first → counts.IsSole first → counts.IsSame first old.profile →
      counts.AddsPart (HintsPart (counts.program_of p) setups) first old.profile
      → WarmedUp P setups warm (view_at old) (reads_at old) (view_at new) (reads_at new)
      → IsPrepared P size setups warm (record { code = t; code_seat = new.code; profile = p; profile_seat = new.profile })
  prepared_store setups warm first key is_fresh sole is_first whole begins sole_first hinted hints warmed =
      let made : reads_at old ≡ hints.0 = hints.2 ∙ ap (λ (l : List Read). l ++ hints.0) begins.reads in
      let set : HintsPart P setups (reads_at old) = subst (λ (Q : Program). HintsPart Q setups (reads_at old)) free.counted
      (subst (HintsPart (counts.program_of p) setups) (sym made) hints.1) in
      record {
        store = record {
          code = free.code;
          profile = free.profile;
          program = key.0;
          counted = free.counted;
          one_slot = key.2;
          sized = key.1;
          code_seat = record {
            first = same.code.first ∙ is_first;
            splits = same.code.splits ∙ whole;
            all_joined = ap length (same.joined ∙ ap (λ (v : View). v.joined) is_fresh);
          };
          profile_seat = record {
            first = same.profile.first ∙ hinted.first ∙ begins.is_first;
            splits = same.profile.splits ∙ hinted.splits ∙ begins.splits;
            all_joined = ap length (same.profile.joined ∙ hinted.joined ∙ begins.joined);
          };
        };
        profile_sole = same.profile.sole ∙ hinted.sole ∙ sole_first;
        free = free.free;
        prepared = warmed setups
            (prepared_none P setups (view_at old) (reads_at old) (ap (λ (v : View). v.taken) is_fresh)
            (ap (λ (v : View). v.outcomes) is_fresh) (ap (λ (v : View). v.lookups) is_fresh)
            (alone_at_first (view_at old) sole (ap (λ (v : View). v.regions) is_fresh)) set);
      }

-- the calls are made
pub alone_stands : (P : Program) (size : ℕ) (setups : List Setup) (calls : List Begun) (s : Store) (start done : Progress)
    → start.seats ≡ record { code = s.code_seat; profile = s.profile_seat } → IsPrepared P size setups start.work s
    → IsFree P s.code s.profile done.seats → AreSame start.seats done.seats → RoundsMade P calls start done
    → AloneStands P size setups calls done.reports done.work
    (record { code = s.code; code_seat = done.seats.code; profile = s.profile; profile_seat = done.seats.profile })
alone_stands P size setups calls s start done at h free same rounds =
    let seats : Seats = record { code = s.code_seat; profile = s.profile_seat } in
    let prepared : Prepared P setups setups start.work (view_at start.seats) (reads_at start.seats) =
    subst (λ (x : Seats). Prepared P setups setups start.work (view_at x) (reads_at x)) (sym at) h.prepared in
    let kept : AreSame seats done.seats = subst (λ (x : Seats). AreSame x done.seats) at same in
    let whole = whole_later P size s.code s.profile seats done.seats free kept h.store in
    record {
      store = whole;
      began = began_new 0 size P (store_with s.code s.profile done.seats) whole (kept.code.sole ∙ h.prepared.alone.sole) (kept.profile.sole ∙ h.profile_sole);
      shows = (rounds.shows setups prepared).shows;
    }
