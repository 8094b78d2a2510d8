-- What a caller and a worker come to.
use Rattle.std.proofs.Common.{◌≡◌, ◌∙◌, refl, sym, ap, subst, ℕ, false, None, List, [], ◌∷◌, ◌++◌, map}
use Rattle.std.specs.Prelude.{All}
use Rattle.cj_ir.specs.declared.script.ScriptCall.{ScriptCall}
use Rattle.cj_ir.specs.declared.language.Program.{Program}
use Rattle.cj_base.specs.Run.{Begun, begun}
use Rattle.cj_calls.specs.declared.report.Look.{Look}
use Rattle.cj_calls.specs.declared.report.Report.{Report}
use Rattle.cj_profile.specs.declared.profile.Profile.{Profile}
use Rattle.cj_profile.specs.declared.profile.ProfileSeat.{ProfileSeat}
use Rattle.cj_profile.specs.declared.layout.Word.TheVariants as word
use Rattle.cj_profile.specs.declared.view.Read.{Read}
use Rattle.cj_profile.specs.Reads.{add_one}
use Rattle.cj_profile.specs.Seats as counts
use Rattle.cj_publish.specs.declared.view.Key.{Key}
use Rattle.cj_publish.specs.declared.view.View.{View}
use Rattle.cj_publish.specs.declared.seats.CodeTable.{CodeTable}
use Rattle.cj_publish.specs.declared.seats.CodeSeat.{CodeSeat}
use Rattle.cj_publish.specs.Seats.{view_of, key_of, program_of, Belongs, IsSame}
use Rattle.cj_parts.proofs.Seats.{profile_same_on}
use Rattle.cj_notes.specs.declared.notes.WorkNote.{WorkNote}
use Rattle.cj_notes.specs.Waiting.{WorksOn, TurnsDone}
use Rattle.cj_records.specs.Loops.{IsSeen, CallsMade}
use Rattle.cj_records.specs.Records.{AreSplitOff}
use Rattle.cj_records.proofs.Roles.{calls_none}
use Rattle.cj_records.proofs.Standing.{caller_stands, worker_stands}
use Rattle.cj_records.specs.Chains.{share}
use Rattle.cj_session.specs.declared.session.Session.{Session}
use Rattle.cj_session.specs.Sessions as sessions
use Rattle.cj_worker.specs.declared.worker.Worker.{Worker}
use Rattle.cj_worker.specs.Workers as workers
use Rattle.cj_roles.specs.declared.role.Shared.{Shared}
use Rattle.cj_roles.specs.declared.role.RoleDone.{RoleDone}
use Rattle.cj_roles.specs.Calls.{RunsCalls}
use Rattle.cj_roles.specs.declared.role.Role.TheVariants as role
use Rattle.cj_roles.specs.Roles.{IsRun, AreNew, RoleEnds}

module _ (t : CodeTable) (p : Profile) (s : CodeSeat) (q : ProfileSeat) (new : AreNew t p s q) (one_slot : (key_of t).slots ≡ 1) where
  module _ (s' : CodeSeat) (q' : ProfileSeat) (code : Belongs t s') (same : IsSame s s') (joined : (view_of s').joined ≡ (view_of s).joined)
      (free : (view_of s').claim ≡ None) (counted : counts.IsSame q q') where
    split_off : AreSplitOff (program_of t) (key_of t).size s' q'
    split_off = record {
      over = record {
        live = code.live;
        program = ap (λ (k : Key). k.program) code.key;
        one_slot = ap (λ (k : Key). k.slots) code.key ∙ one_slot;
        sized = ap (λ (k : Key). k.size) code.key;
      };
      reliable = code.reliable;
      free = free;
      code_first = same.first ∙ new.code_first;
      code_joined = joined ∙ new.joined;
      profile_first = counted.first ∙ new.is_new.is_first;
      profile_joined = counted.joined ∙ new.is_new.joined;
    }

    module _ (calls : List ScriptCall) (profile : counts.Belongs p q') (done : RoleDone) (done_code : done.code_seat ≡ s') (done_profile : done.profile_seat
        ≡ q') where
      pub caller_ends : (first callers found : ℕ) (old : List Read) (taken : (view_of s').taken ≡ (view_of s).taken)
          (ended : (view_of s').outcomes ≡ (view_of s).outcomes)
          → ((floor : List Look) → CallsMade (program_of t) floor [] [] (view_of s) (counts.reads_of q) →
          CallsMade (program_of t) floor (map begun (share callers first calls)) done.reports.items (view_of s') old)
          → counts.reads_of q' ≡ old ++ add_one word.Finished found ∷ [] → done.work ≡ []
          → RoleEnds calls t p (view_of s) (role.Caller first callers) done
      caller_ends first callers found old taken ended runs reads none = record {
        code = subst (Belongs t) (sym done_code) code;
        code_first = ap (λ (x : CodeSeat). x.first) done_code ∙ same.first ∙ new.code_first;
        free = ap (λ (x : CodeSeat). (view_of x).claim) done_code ∙ free;
        profile = subst (counts.Belongs p) (sym done_profile) profile;
        profile_first = ap (λ (x : ProfileSeat). x.first) done_profile ∙ counted.first ∙ new.is_new.is_first;
        stands = λ (floor : List Look) (seen : All (IsSeen (view_of s)) floor). rw (done_code, done_profile, none)
            (caller_stands (program_of t) (key_of t).size floor (map begun (share callers first calls)) done.reports.items s' q' old found split_off
            (taken ∙ new.taken) (ended ∙ new.outcomes)
            (runs floor (calls_none (program_of t) floor (view_of s) (counts.reads_of q) seen new.lookups new.is_new.reads)) reads);
      }

      pub worker_ends : (callers : ℕ) → TurnsDone (program_of t) callers done.work (view_of s) (view_of s') (counts.reads_of q) (counts.reads_of q') →
          done.reports.items ≡ []
          → RoleEnds calls t p (view_of s) (role.Worker callers) done
      worker_ends callers turns none = record {
        code = subst (Belongs t) (sym done_code) code;
        code_first = ap (λ (x : CodeSeat). x.first) done_code ∙ same.first ∙ new.code_first;
        free = ap (λ (x : CodeSeat). (view_of x).claim) done_code ∙ free;
        profile = subst (counts.Belongs p) (sym done_profile) profile;
        profile_first = ap (λ (x : ProfileSeat). x.first) done_profile ∙ counted.first ∙ new.is_new.is_first;
        stands = λ (floor : List Look) (seen : All (IsSeen (view_of s)) floor). rw (done_code, done_profile, none)
            (worker_stands (program_of t) (key_of t).size callers done.work (view_of s) s' q' split_off new.lookups new.taken new.outcomes
            (subst (λ (rs : List Read). TurnsDone (program_of t) callers done.work (view_of s) (view_of s') rs (counts.reads_of q')) new.is_new.reads turns));
      }

module _ (shared : Shared) (run : IsRun shared) (s : CodeSeat) (q : ProfileSeat) (new : AreNew shared.code.now shared.profile.now s q) (done : RoleDone) where
  T : CodeTable
  T = shared.code.now

  -- a session has made the calls, and the profile was told that the caller has finished
  pub caller_done : (start last : Session)
      → (start.checked.now ≡ shared.checked.now) × (start.table.now ≡ shared.code.now) × (start.profile.now ≡ shared.profile.now)
      → (start.code_seat ≡ s) × (start.profile_seat ≡ q)
      → sessions.IsReady last → sessions.Stays start last
      → (q' : ProfileSeat) → counts.Belongs shared.profile.now q' → counts.IsSame last.profile_seat q' → (found : ℕ) →
      counts.Adds (add_one word.Finished found ∷ []) last.profile_seat q'
      → (first callers : ℕ) → done.code_seat ≡ last.code_seat → done.profile_seat ≡ q' → done.work ≡ []
      → RunsCalls (map begun (share callers first shared.calls.now)) done.reports.items start last
      → RoleEnds shared.calls.now shared.code.now shared.profile.now (view_of s) (role.Caller first callers) done
  unfolding T
  caller_done start last tables seats ready stays q' own counted found adds first callers at_code at_profile none runs =
      let code : Belongs T last.code_seat = subst (λ (t : CodeTable). Belongs t last.code_seat) (stays.table ∙ tables.1) ready.code in
      let same : IsSame s last.code_seat = subst (λ (x : CodeSeat). IsSame x last.code_seat) seats.0 stays.code_same in
      let joined : (view_of last.code_seat).joined ≡ (view_of s).joined = stays.joined ∙ ap (λ (x : CodeSeat). (view_of x).joined) seats.0 in
      let taken : (view_of last.code_seat).taken ≡ (view_of s).taken = stays.taken ∙ ap (λ (x : CodeSeat). (view_of x).taken) seats.0 in
      let ended : (view_of last.code_seat).outcomes ≡ (view_of s).outcomes = stays.outcomes ∙ ap (λ (x : CodeSeat). (view_of x).outcomes) seats.0 in
      let counted_on : counts.IsSame q q' = profile_same_on q last.profile_seat q'
      (subst (λ (x : ProfileSeat). counts.IsSame x last.profile_seat) seats.1 stays.profile_same) counted in
      let program : start.checked.now ≡ program_of T = tables.0 ∙ sym run.program in
      let cs : List Begun = map begun (share callers first shared.calls.now) in
      caller_ends T shared.profile.now s q new run.one_slot last.code_seat q' code same joined ready.free counted_on shared.calls.now own done at_code
      at_profile first callers found (counts.reads_of last.profile_seat) taken ended
      (λ (floor : List Look) (k : CallsMade (program_of T) floor [] [] (view_of s) (counts.reads_of q)).
      subst (λ (P : Program). CallsMade P floor cs done.reports.items (view_of last.code_seat) (counts.reads_of last.profile_seat)) program
      (runs floor (subst (λ (z : Program × CodeSeat × ProfileSeat). CallsMade z.0 floor [] [] (view_of z.1) (counts.reads_of z.2))
      (λ i. (sym program i, sym seats.0 i, sym seats.1 i)) k)))
      adds none

  -- a worker has worked until all callers have finished
  pub worker_done : (start last : Worker)
      → (start.checked.now ≡ shared.checked.now) × (start.table.now ≡ shared.code.now) × (start.profile.now ≡ shared.profile.now)
      → (start.code_seat ≡ s) × (start.profile_seat ≡ q)
      → workers.IsReady last → workers.Stays start last → WorksOn (workers.view_in start) (workers.view_in last)
      → (callers : ℕ) → TurnsDone (workers.program_in start) callers done.work (workers.view_in start) (workers.view_in last) (workers.reads_in start)
      (workers.reads_in last)
      → done.code_seat ≡ last.code_seat → done.profile_seat ≡ last.profile_seat → done.reports.items ≡ []
      → RoleEnds shared.calls.now shared.code.now shared.profile.now (view_of s) (role.Worker callers) done
  unfolding T
  worker_done start last tables seats ready stays on callers turns at_code at_profile none =
      let code : Belongs T last.code_seat = subst (λ (t : CodeTable). Belongs t last.code_seat) (stays.table ∙ tables.1) ready.code in
      let profile : counts.Belongs shared.profile.now last.profile_seat = subst (λ (p : Profile). counts.Belongs p last.profile_seat)
      (stays.profile ∙ tables.2) ready.profile in
      let same : IsSame s last.code_seat = subst (λ (x : CodeSeat). IsSame x last.code_seat) seats.0 stays.code_same in
      let joined : (view_of last.code_seat).joined ≡ (view_of s).joined = on.joined ∙ ap (λ (x : CodeSeat). (view_of x).joined) seats.0 in
      let counted : counts.IsSame q last.profile_seat = subst (λ (x : ProfileSeat). counts.IsSame x last.profile_seat) seats.1 stays.profile_same in
      let program : start.checked.now ≡ program_of T = tables.0 ∙ sym run.program in
      worker_ends T shared.profile.now s q new run.one_slot last.code_seat last.profile_seat code same joined ready.free counted shared.calls.now profile done
      at_code at_profile callers
      (subst (λ (z : Program × CodeSeat × ProfileSeat). TurnsDone z.0 callers done.work (view_of z.1) (view_of last.code_seat) (counts.reads_of z.2)
      (counts.reads_of last.profile_seat)) (λ i. (program i, seats.0 i, seats.1 i)) turns)
      none
