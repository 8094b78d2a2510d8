-- What a caller's calls do to its session.
use Rattle.std.specs.Prelude.{◌≡◌, ℕ, List, [], ◌∷◌, ◌++◌, IfOk}
use Rattle.cj_base.specs.Run.{Begun}
use Rattle.cj_calls.specs.declared.report.Look.{Look}
use Rattle.cj_calls.specs.declared.report.Report.{Report}
use Rattle.cj_parts.specs.Runs.{Ran}
use Rattle.cj_profile.specs.declared.profile.ProfileSeat.{ProfileSeat}
use Rattle.cj_profile.specs.declared.layout.Word.TheVariants as word
use Rattle.cj_profile.specs.Reads.{add_one}
use Rattle.cj_profile.specs.Seats as counts
use Rattle.cj_session.specs.declared.session.Session.{Session}
use Rattle.cj_session.specs.Sessions.{view_in, reads_in, IsReady, Stays}
use Rattle.cj_records.specs.Loops.{CallsMade}
use Rattle.cj_roles.specs.declared.caller.CallerDone.{CallerDone}

-- the session has run the call, and its report stands behind the others
pub record RunsCall (call : Begun) (before after : List Report) (a b : Session) : Type 0 where
  pub report : Report
  pub reports : after ≡ before ++ report ∷ []
  pub ran : Ran a.checked.now call report (view_in a) (view_in b) (reads_in a) (reads_in b)

-- whatever versions the session had seen, it has made just these calls since
abbrev pub RunsCalls : List Begun → List Report → Session → Session → Type 0
RunsCalls calls reports a b =
    (floor : List Look) → CallsMade a.checked.now floor [] [] (view_in a) (reads_in a) → CallsMade a.checked.now floor calls reports (view_in b) (reads_in b)

-- one step more: the caller is counted as finished
abbrev pub IsCounted : ProfileSeat → ProfileSeat → Type 0
IsCounted old new = (found : ℕ) × counts.Adds (add_one word.Finished found ∷ []) old new

-- Whatever came of the calls: the session went on so far, and then the caller was counted as finished, once. Where there was
-- memory, the session has made these calls.
pub record HasFinished (calls : List Begun) (a : Session) (done : CallerDone) : Type 0 where
  pub last : Session
  pub ready : IsReady last
  pub stays : Stays a last
  pub ran : IfOk done.answer (λ reports. RunsCalls calls reports.items a last)
  pub code : done.code_seat ≡ last.code_seat
  pub same : counts.IsSame last.profile_seat done.profile_seat
  pub counted : IsCounted last.profile_seat done.profile_seat
