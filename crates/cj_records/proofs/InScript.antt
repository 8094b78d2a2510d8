-- The records of all roles give the headline and V for the script, in script order.
use Rattle.std.proofs.Common.{◌≡◌, ◌∙◌, refl, sym, ap, subst, arith, ⊎_elim, ℕ, zero, suc, ◌+◌, ◌<◌, ◌≤◌, List, [], ◌∷◌, ◌++◌, map, replicate, length}
use Rattle.std.specs.Prelude.{All, ⊤}
use Rattle.std.specs.List.{AllZip}
use Rattle.std.proofs.lemmas.Bool.{cases_eq, cases_lt}
use Rattle.std.proofs.lemmas.List.Elements.{All-nil, All-cons, All-head, All-tail}
use Rattle.cj_ir.specs.declared.language.Program.{Program}
use Rattle.cj_ir.specs.declared.script.Setup.{Setup}
use Rattle.cj_base.specs.Run.{Begun}
use Rattle.cj_calls.specs.declared.report.Look.{Look}
use Rattle.cj_calls.specs.declared.report.Report.{Report}
use Rattle.cj_machine.specs.Versions.{Codes}
use Rattle.cj_profile.specs.declared.view.Read.{Read}
use Rattle.cj_publish.specs.Seats.{view_of}
use Rattle.cj_notes.specs.declared.notes.WorkNote.{WorkNote}
use Rattle.cj_records.specs.declared.store.Store.{Store}
use Rattle.cj_parts.specs.Known.{known_codes}
use Rattle.cj_parts.specs.Calls.{Stands, IsV}
use Rattle.cj_records.specs.Notes.{published_by}
use Rattle.cj_records.specs.Items.{ReadsInParts}
use Rattle.cj_records.specs.Records.{Role, Caller, Worker, Done, Answered, call_items, RoleRecord, IsRecord}
use Rattle.cj_records.specs.Chains.{flat, share, numbers_from, dealt}
use Rattle.cj_records.specs.Versions.{HasHeadline, AreV, roles_of, RolesStand, RunStands}
use Rattle.cj_records.proofs.Heads.{head_or, tail_of}
use Rattle.cj_records.proofs.Sharing.{AsLong, all_dealt}

-- a caller's reads hold that its reports are V's
pub calls_are_v : (P : Program) (codes : Codes) (answered : List Answered) (reads : List Read) → ReadsInParts P codes (call_items answered) reads →
    All (λ (a : Answered). IsV P codes a.call a.report) answered
unfolding call_items
calls_are_v P codes [] reads h = All-nil (λ (a : Answered). IsV P codes a.call a.report)
calls_are_v P codes (a ∷ more) reads h = All-cons (λ (a : Answered). IsV P codes a.call a.report) a more h.2.run (calls_are_v P codes more h.1 h.3)

zip_of : (R : Begun → Report → Type 0) (answered : List Answered) (calls : List Begun) (reports : List Report) →
    map (λ (a : Answered). a.call) answered ≡ calls → map (λ (a : Answered). a.report) answered ≡ reports →
    All (λ (a : Answered). R a.call a.report) answered → AllZip R calls reports
zip_of R answered calls reports e f h =
    subst (λ (cs : List Begun). AllZip R cs reports) e (subst (λ (rs : List Report). AllZip R (map (λ (a : Answered). a.call) answered) rs) f (all answered h))
  where
    all : (some : List Answered) → All (λ (a : Answered). R a.call a.report) some →
        AllZip R (map (λ (a : Answered). a.call) some) (map (λ (a : Answered). a.report) some)
    all [] h = tt
    all (a ∷ more) h = (All-head (λ (a : Answered). R a.call a.report) a more h, all more (All-tail (λ (a : Answered). R a.call a.report) a more h))

IsCons : {A : Type 0} → List A → Type 0
IsCons [] = ⊥
IsCons (x ∷ xs) = ⊤

module _ (P : Program) (codes : Codes) (c : ℕ) (floor : List Look) (chains : List (List Begun)) (answers : List (List Report)) where
  calls_at : ℕ → List Begun
  calls_at k = flat (share c k chains)

  reports_at : ℕ → List Report
  reports_at k = flat (share c k answers)

  abbrev AtShare : ℕ → Type 0
  AtShare k = AllZip (Stands P) (calls_at k) (reports_at k) × AllZip (IsV P codes) (calls_at k) (reports_at k)

  role_at : ℕ → Role
  role_at k = Caller (calls_at k) floor

  one : (d : Done) (k : ℕ) → d.role ≡ role_at k → d.reports ≡ reports_at k → IsRecord P codes d → AtShare k
  unfolding role_at
  one d k e f h =
      let r : RoleRecord P codes (Caller (calls_at k) floor) d = subst (λ (x : Role). RoleRecord P codes x d) e h in (
        zip_of (Stands P) r.answered (calls_at k) (reports_at k) r.are_calls (r.are_reports ∙ f) r.headline,
        zip_of (IsV P codes) r.answered (calls_at k) (reports_at k) r.are_calls (r.are_reports ∙ f) (calls_are_v P codes r.answered r.made r.in_parts),
      )

  each : (n k0 : ℕ) (roles : List Done) (rr : List Role) (ra : List (List Report))
      → map (λ (d : Done). d.role) roles ≡ map role_at (numbers_from k0 n) ++ rr
      → map (λ (d : Done). d.reports) roles ≡ map reports_at (numbers_from k0 n) ++ ra
      → All (IsRecord P codes) roles → (k : ℕ) → k0 ≤ k → k < k0 + n → AtShare k
  unfolding numbers_from IsCons head_or tail_of
  each zero k0 roles rr ra e f h k lo hi = absurd (omega (arith, lo, hi))
  each (suc n) k0 [] rr ra e f h k lo hi = absurd (subst IsCons (sym e) tt)
  each (suc n) k0 (d ∷ ds) rr ra e f h k lo hi = ⊎_elim
      (λ same. subst AtShare (sym same) (one d k0 (ap (head_or d.role) e) (ap (head_or d.reports) f) (All-head (IsRecord P codes) d ds h)))
      (λ ne. each n (k0 + 1) ds rr ra (ap tail_of e) (ap tail_of f) (All-tail (IsRecord P codes) d ds h) k
      (⊎_elim (λ z. absurd (ne (omega (arith, lo, z)))) (λ z. omega (arith, z)) (cases_lt k (k0 + 1))) (let b : k < k0 + suc n = hi in omega arith))
      (cases_eq k k0)

  map_twice : (ns : List ℕ) → map (λ (calls : List Begun). Caller calls floor) (map (λ k. flat (share c k chains)) ns) ≡ map role_at ns
  unfolding role_at calls_at
  map_twice [] = refl
  map_twice (n ∷ ns) = ap (λ (x : List Role). Caller (flat (share c n chains)) floor ∷ x) (map_twice ns)

  pub in_script : (workers : ℕ) (roles : List Done) → 0 < c → AllZip AsLong chains answers
      → map (λ (d : Done). d.role) roles ≡ roles_of (dealt c chains) floor workers
      → map (λ (d : Done). d.reports) roles ≡ dealt c answers ++ replicate workers []
      → All (IsRecord P codes) roles → HasHeadline P (flat chains) (flat answers) × AreV P codes (flat chains) (flat answers)
  unfolding roles_of dealt calls_at reports_at
  in_script workers roles some fit e f h =
      let rest = replicate workers (Worker (length (map (λ k. flat (share c k chains)) (numbers_from 0 c)))) in
      let at : (k : ℕ) → k < c →
      AtShare k = λ k lt. each c 0 roles rest (replicate workers []) (e ∙ ap (λ x. x ++ rest) (map_twice (numbers_from 0 c))) f h k (omega arith)
      (omega (arith, lt)) in (
        all_dealt (Stands P) c some chains answers fit (λ k lt. (at k lt).0),
        all_dealt (IsV P codes) c some chains answers fit (λ k lt. (at k lt).1),
      )

-- the clauses of `run C W`, and the headline
pub run_stands : (P : Program) (size callers workers : ℕ) (setups : List Setup) (chains : List (List Begun)) (answers : List (List Report))
    (work : List WorkNote) (s : Store)
    → 0 < callers → AllZip AsLong chains answers
    → RolesStand P size workers setups (dealt callers chains) (dealt callers answers) work s
    → HasHeadline P (flat chains) (flat answers) × RunStands P size callers workers setups chains (flat answers) work s
run_stands P size callers workers setups chains answers work s some fit h =
    let codes = known_codes (view_of s.code_seat) in
    let both = in_script P codes callers (published_by h.warm) chains answers workers h.roles some fit h.are_roles h.are_reports h.records in
    (both.0, record { answers = answers; fit = fit; are_reports = refl; roles = h; versions = both.1 })
