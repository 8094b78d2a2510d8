-- The calls of a caller, one by one.
use Rattle.std.proofs.Common.{◌≡◌, ◌∙◌, refl, sym, ap, subst, ℕ, ◌+◌, ◌<◌, ◌≤◌, List, [], ◌∷◌, ◌++◌, map, length, drop, get_or, arith, append_assoc}
use Rattle.std.proofs.Common.{append-nil}
use Rattle.std.proofs.lemmas.List.{map_push, drop_all}
use Rattle.cj_ir.specs.declared.script.ScriptCall.{ScriptCall}
use Rattle.cj_ir.specs.declared.language.Program.{Program}
use Rattle.cj_base.specs.Run.{Begun, begun}
use Rattle.cj_calls.specs.declared.report.Look.{Look}
use Rattle.cj_calls.specs.declared.report.Report.{Report}
use Rattle.cj_parts.specs.Runs.{Ran}
use Rattle.cj_session.specs.declared.session.Session.{Session}
use Rattle.cj_session.specs.Sessions.{view_in, reads_in, IsReady, Stays}
use Rattle.cj_records.specs.Chains.{share}
use Rattle.cj_records.specs.Loops.{CallsMade}
use Rattle.cj_records.proofs.Roles.{calls_push}
use Rattle.cj_roles.specs.Calls.{RunsCall, RunsCalls}
use Rattle.cj_roles.proofs.Shares.{share_drop, share_next}

-- the calls that fall to the caller and stand before the one at that index have run
pub record RunsSome (calls : List ScriptCall) (callers first at : ℕ) (reports : List Report) (a b : Session) : Type 0 where
  pub so_far : List ScriptCall
  pub all : so_far ++ share callers 0 (drop at calls) ≡ share callers first calls
  pub runs : RunsCalls (map begun so_far) reports a b

module _ (calls : List ScriptCall) (callers first : ℕ) (a : Session) where
  pub runs_none : RunsSome calls callers first first [] a a
  runs_none = record { so_far = []; all = sym (share_drop callers first calls); runs = λ floor k. k }

  module _ (at : ℕ) (reports : List Report) (b : Session) (h : RunsSome calls callers first at reports a b) where
    pub runs_more : (call : ScriptCall) (after : List Report) (c : Session) → Stays a b → IsReady c → 0 < callers → at < length calls →
        call ≡ get_or calls at call
        → RunsCall (begun call) reports after b c → RunsSome calls callers first (at + callers) after a c
    runs_more call after c stays ready some lt is r =
        let P : Program = a.checked.now in
        let ran : Ran P (begun call) r.report (view_in b) (view_in c) (reads_in b) (reads_in c) =
        subst (λ (Q : Program). Ran Q (begun call) r.report (view_in b) (view_in c) (reads_in b) (reads_in c)) stays.checked r.ran in
        record {
          so_far = h.so_far ++ call ∷ [];
          all = append_assoc h.so_far (call ∷ []) (share callers 0 (drop (at + callers) calls))
              ∙ ap (λ l. h.so_far ++ l) (sym (share_next callers at calls call some lt is)) ∙ h.all;
          runs = λ (floor : List Look) (k : CallsMade P floor [] [] (view_in a) (reads_in a)).
              subst (λ (rs : List Report). CallsMade P floor (map begun (h.so_far ++ call ∷ [])) rs (view_in c) (reads_in c)) (sym r.reports)
              (subst (λ (cs : List Begun). CallsMade P floor cs (reports ++ r.report ∷ []) (view_in c) (reads_in c)) (sym (map_push begun h.so_far call))
              (calls_push P floor (map begun h.so_far) reports (begun call) r.report (view_in b) (view_in c) (reads_in b) (reads_in c)
              (h.runs floor k) ran ready.code.reliable));
        }

    pub runs_all : length calls ≤ at → RunsCalls (map begun (share callers first calls)) reports a b
    unfolding share
    runs_all le =
        let none : share callers 0 (drop at calls) ≡ [] = ap (share callers 0) (drop_all at calls le) in
        let same : h.so_far ≡ share callers first calls = sym (append-nil h.so_far) ∙ ap (λ l. h.so_far ++ l) (sym none) ∙ h.all in
        λ (floor : List Look) (k : CallsMade a.checked.now floor [] [] (view_in a) (reads_in a)).
        subst (λ (cs : List ScriptCall). CallsMade a.checked.now floor (map begun cs) reports (view_in b) (reads_in b)) same (h.runs floor k)
