-- What records show of reports, notes and seats.
use Rattle.std.proofs.Common.{◌≡◌, ◌≢◌, ◌∙◌, refl, sym, ap, subst, arith, eq-eqb, ne_eqb, ℕ, ◌≤◌, ◌==◌, true, if◌then◌else◌}
use Rattle.std.proofs.Common.{List, [], ◌∷◌, ◌++◌, map, length, replicate, append-nil, append_assoc}
use Rattle.std.specs.Prelude.{Option, All, ℤ}
use Rattle.std.proofs.lemmas.List.Elements.{All-head, All-tail}
use Rattle.cj_ir.specs.declared.language.FunId.{FunId}
use Rattle.cj_ir.specs.declared.language.Label.{Label}
use Rattle.cj_ir.specs.declared.language.Edge.{Edge}
use Rattle.cj_ir.specs.declared.language.Edge.TheVariants.{Then, Else}
use Rattle.cj_ir.specs.declared.language.Guard.TheVariants.{Is}
use Rattle.cj_ir.specs.declared.language.Program.{Program}
use Rattle.cj_ir.specs.declared.script.Setup.{Setup}
use Rattle.cj_ir.specs.declared.script.Setup.TheVariants.{Guess, Cold}
use Rattle.cj_ir.specs.Values.{value_word}
use Rattle.cj_base.specs.Run.{Begun}
use Rattle.cj_draft.specs.declared.code.Code.{Code}
use Rattle.cj_draft.specs.declared.passes.Skipped.{Skipped}
use Rattle.cj_calls.specs.declared.report.Look.{Look}
use Rattle.cj_calls.specs.declared.report.Report.{Report}
use Rattle.cj_machine.specs.Versions.{Codes}
use Rattle.cj_profile.specs.declared.view.Read.{Read}
use Rattle.cj_profile.specs.declared.layout.Word.TheVariants as word
use Rattle.cj_profile.specs.declared.snapshot.Snapshot.{Snapshot}
use Rattle.cj_profile.specs.Reads.{store, load, add_one}
use Rattle.cj_profile.specs.Words.{number, other_edge}
use Rattle.cj_profile.specs.Starts.{left_in}
use Rattle.cj_profile.specs.Seats as counts
use Rattle.cj_plan.specs.Plan.{guard_of, is_cold}
use Rattle.cj_publish.specs.declared.view.Cell.{Cell}
use Rattle.cj_publish.specs.Seats.{view_of}
use Rattle.cj_parts.specs.Looks.{looked, looks_of, NeverFall, IsAbove, IsNewest}
use Rattle.cj_notes.specs.declared.notes.WorkNote.{WorkNote}
use Rattle.cj_notes.specs.declared.notes.WorkNote.TheVariants.{Published}
use Rattle.cj_records.specs.declared.store.Store.{Store}
use Rattle.cj_records.specs.Notes.{published, published_by, IsKnown}
use Rattle.cj_records.specs.Setups.{SetupPart}
use Rattle.cj_records.specs.Records.{Role, Caller, Worker, Done, CallerRecord, WorkerRecord, RoleRecord, IsRecord}
use Rattle.cj_records.specs.Versions.{IsWholeStore, Round, LooksNewest, RolesStand}

-- ---- setups

-- what a second store leaves in its word, and what it leaves of the first one's
left_last : (a b n x y : ℕ) → (if b == b then y else (if a == b then x else n)) ≡ y
left_last a b n x y = ap (λ t. if t then y else (if a == b then x else n)) (eq-eqb b b refl)

left_first : (a b n x y : ℕ) → b ≢ a → (if b == a then y else (if a == a then x else n)) ≡ x
left_first a b n x y other =
    ap (λ t. if t then y else (if a == a then x else n)) (ne_eqb b a other) ∙ ap (λ t. if t then x else n) (eq-eqb a a refl)

pub guess_is_guarded : (f : FunId) (param : ℕ) (value : ℤ) (rs : List Read) (m n : ℕ) → SetupPart (Guess f param value) rs
    → (left_in (number (word.Last f param)) m rs ≡ value_word value)
    × (guard_of param (record { last = value; agreed = left_in (number (word.Agreed f param)) n rs }) ≡ Is (record { 0 = param }) value ∷ [])
guess_is_guarded f param value rs m n h =
    let last = number (word.Last f param) in
    let agreed = number (word.Agreed f param) in (
      ap (left_in last m) h ∙ left_first last agreed m (value_word value) 4 (λ e. absurd (omega (arith, e))),
      ap (λ (k : ℕ). guard_of param (record { last = value; agreed = k })) (ap (left_in agreed n) h ∙ left_last last agreed n (value_word value) 4),
    )

pub cold_is_heeded : (f : FunId) (label : Label) (edge : Edge) (rs : List Read) (m n : ℕ) → SetupPart (Cold f label edge) rs
    → is_cold (left_in (number (word.Way f label edge)) m rs) (left_in (number (word.Way f label (other_edge edge))) n rs) ≡ true
cold_is_heeded f label edge rs m n h =
    let a = number (word.Way f label edge) in
    let b = number (word.Way f label (other_edge edge)) in
    let zero_times = ap (left_in a m) h ∙ left_first a b m 0 8 (apart edge) in
    let eight_times = ap (left_in b n) h ∙ left_last a b n 0 8 in
    ap (λ (k : ℕ). is_cold k (left_in b n rs)) zero_times ∙ ap (λ (k : ℕ). is_cold 0 k) eight_times
  where
    apart : (e : Edge) → number (word.Way f label (other_edge e)) ≢ number (word.Way f label e)
    apart Then is = absurd (omega (arith, is))
    apart Else is = absurd (omega (arith, is))

-- ---- looks

pub newest_at : (floor : List Look) (before : List Round) (r : Round) (after : List Round) → LooksNewest floor (before ++ r ∷ after)
    → All (IsNewest (floor ++ published_by (map (λ (x : Round). x.note) before))) r.report.looks
unfolding published_by
newest_at floor [] r after h = subst (λ (l : List Look). All (IsNewest l) r.report.looks) (sym (append-nil floor)) h.0
newest_at floor (x ∷ before) r after h =
    subst (λ (l : List Look). All (IsNewest l) r.report.looks) (append_assoc floor (published x.note) (published_by (map (λ (y : Round). y.note) before)))
    (newest_at (floor ++ published x.note) before r after h.1)

-- a role has looked up what its reports tell
looks_are : (P : Program) (codes : Codes) (role : Role) (d : Done) → RoleRecord P codes role d → d.looks ≡ looks_of d.reports
unfolding looks_of
looks_are P codes (Caller calls floor) d h = h.looks
looks_are P codes (Worker callers) d h = h.no_looks ∙ sym (ap looks_of h.no_reports)

all_looks : (P : Program) (codes : Codes) (roles : List Done) → All (IsRecord P codes) roles
    → map (λ (d : Done). map looked d.looks) roles ≡ map (λ (rs : List Report). map looked (looks_of rs)) (map (λ (d : Done). d.reports) roles)
all_looks P codes [] h = refl
all_looks P codes (d ∷ roles) h =
    let one : map looked d.looks ≡ map looked (looks_of d.reports) = ap (map looked) (looks_are P codes d.role d (All-head (IsRecord P codes) d roles h)) in
    let more = all_looks P codes roles (All-tail (IsRecord P codes) d roles h) in
    λ i. one i ∷ more i

pub joined_looks : (P : Program) (size workers : ℕ) (setups : List Setup) (groups : List (List Begun))
    (answers : List (List Report)) (work : List WorkNote) (s : Store) → RolesStand P size workers setups groups answers work s
    → (view_of s.code_seat).joined ≡ map (λ (rs : List Report). map looked (looks_of rs)) (answers ++ replicate workers [])
joined_looks P size workers setups groups answers work s h =
    h.joined.looks_joined ∙ all_looks P _ h.roles h.records ∙ ap (map (λ (rs : List Report). map looked (looks_of rs))) h.are_reports

pub caller_looks : (P : Program) (codes : Codes) (calls : List Begun) (floor : List Look) (d : Done) → RoleRecord P codes (Caller calls floor) d
    → All (IsAbove floor) (looks_of d.reports) × NeverFall (looks_of d.reports)
caller_looks P codes calls floor d h = (subst (All (IsAbove floor)) h.looks h.above, subst NeverFall h.looks h.rises)

-- ---- ends

pub worker_waits : (P : Program) (codes : Codes) (callers : ℕ) (d : Done) → RoleRecord P codes (Worker callers) d
    → (before : List Read) × (last : ℕ) × (callers ≤ last) × (d.reads ≡ before ++ load word.Finished last ∷ [])
worker_waits P codes callers d h = (_, h.last, h.finished, h.reads)

pub caller_tells : (P : Program) (codes : Codes) (calls : List Begun) (floor : List Look) (d : Done) → RoleRecord P codes (Caller calls floor) d
    → (before : List Read) × (found : ℕ) × (d.reads ≡ before ++ add_one word.Finished found ∷ [])
caller_tells P codes calls floor d h = (h.made, h.found, h.reads)

-- ---- notes and seats

pub known_there : (codes : Codes) (f : FunId) (level offset : ℕ) (s : Snapshot) (skipped : List (ℕ × Skipped)) (made : Option Code)
    → IsKnown codes (record { note = Published f level offset s skipped; code = made }) → codes f offset ≡ made
unfolding published
known_there codes f level offset s skipped made h =
    All-head (λ (look : Look). codes look.function look.offset ≡ made) (record { function = f; offset = offset }) [] h

pub none_left_out : (n size : ℕ) (P : Program) (s : Store) → IsWholeStore n size P s
    → (length (view_of s.code_seat).joined ≡ s.code_seat.splits) × (length (counts.joined_of s.profile_seat) ≡ s.profile_seat.splits)
none_left_out n size P s h = (h.code_seat.all_joined ∙ sym h.code_seat.splits, h.profile_seat.all_joined ∙ sym h.profile_seat.splits)
