-- A session that has gone through one mark.
use Rattle.std.proofs.Common.{◌≡◌, ◌∙◌, refl, sym, ap, subst, true, ℕ, ◌<◌, List, [], ◌∷◌, append-nil, map, inr, ⊎_elim, ℤ}
use Rattle.std.specs.Prelude.{IfOk, OnErr, Result, Ok, Err}
use Rattle.cj_ir.specs.declared.memory.NoMemory.{NoMemory}
use Rattle.std.proofs.lemmas.List.{map-append}
use Rattle.std.proofs.lemmas.List.Elements.{All-nil, All-push, All-weaker}
use Rattle.cj_ir.specs.declared.language.FunId.{FunId}
use Rattle.cj_ir.specs.declared.language.Program.{Program}
use Rattle.cj_machine.specs.Marks.{Mark, Entered}
use Rattle.cj_engine.specs.Watching.{TellsAtMost}
use Rattle.cj_profile.specs.Seats.{AddsPart}
use Rattle.cj_profile.specs.Seats as counts
use Rattle.cj_publish.specs.declared.seats.CodeSeat.{CodeSeat}
use Rattle.cj_publish.specs.declared.view.Cell.{Cell}
use Rattle.cj_publish.specs.declared.view.Region.{Region}
use Rattle.cj_publish.specs.declared.view.View.{View}
use Rattle.cj_publish.specs.Seats.{view_of, IsSame}
use Rattle.cj_publish.specs.Learns.{Learns, learns_nothing, learns_twice}
use Rattle.cj_publish.specs.Calls.{Grows}
use Rattle.cj_publish.specs.Plays.{region, Sees}
use Rattle.cj_publish.specs.Seen.{SeesNoMore}
use Rattle.cj_publish.specs.Views.{with_regions, with_region, with_look}
use Rattle.cj_publish.specs.Fetched.{main_of}
use Rattle.cj_parts.specs.Parts.{MarkPart}
use Rattle.cj_parts.specs.PartsLaws.{one_part}
use Rattle.cj_parts.specs.Looks.{IsNotOlder}
use Rattle.cj_parts.specs.Runs.{FindsNothingNew}
use Rattle.cj_parts.proofs.Finding.{finds_none, finds_one, finds_nothing, finds_twice}
use Rattle.cj_session.specs.declared.session.Session.{Session}
use Rattle.cj_session.specs.Versions.{Entry, IsWholeIn, codes_in, EntriesKnown}
use Rattle.cj_session.specs.Sessions.{view_in, entered_in, trail_of, look_of, Looks, LooksUp, Stays, Went}

-- ---- marks

-- a mark that looks nothing up
pub went_by : (a b : Session) (m : Mark) → entered_in (m ∷ []) ≡ [] → view_in b ≡ view_in a
    → AddsPart (MarkPart m) a.profile_seat b.profile_seat → Went a b (m ∷ [])
went_by a b m none same h = record {
  learns = subst (Learns (view_in a)) (sym same) (learns_nothing (view_in a));
  looks = [];
  once = sym none;
  trail = ap (λ (v : View). v.lookups) same ∙ sym (append-nil (view_in a).lookups);
  floor = All-nil (IsNotOlder (view_in a));
  alone = λ sole. subst (FindsNothingNew [] (view_in a)) (sym same) (finds_none (view_in a) sole);
  part = h.0;
  in_parts = one_part MarkPart m h.0 h.1;
  reads = h.2;
}

-- an entry looks one function up
pub went_in : (a b : Session) (f : FunId) (args : List ℤ) (offset : ℕ) → Looks (view_in a) (view_in b)
    → LooksUp f offset (view_in a) (view_in b) → AddsPart (MarkPart (Entered f args)) a.profile_seat b.profile_seat
    → Went a b (Entered f args ∷ [])
unfolding entered_in
went_in a b f args offset looks look h = record {
  learns = looks.learns;
  looks = record { function = f; offset = offset } ∷ [];
  once = refl;
  trail = look.0;
  floor = All-push (IsNotOlder (view_in a)) [] (record { function = f; offset = offset }) (All-nil (IsNotOlder (view_in a))) look.1;
  alone = λ sole. finds_one (view_in a) (view_in b) (record { function = f; offset = offset }) (looks.alone sole) sole look.2;
  part = h.0;
  in_parts = one_part MarkPart (Entered f args) h.0 h.1;
  reads = h.2;
}

-- whatever came of the lookup
pub went_found : (a b : Session) (f : FunId) (args : List ℤ) (result : Result ℕ NoMemory) → Looks (view_in a) (view_in b)
    → IfOk result (λ offset. LooksUp f offset (view_in a) (view_in b)) → OnErr result ((offset : ℕ) × LooksUp f offset (view_in a) (view_in b))
    → AddsPart (MarkPart (Entered f args)) a.profile_seat b.profile_seat → Went a b (Entered f args ∷ [])
went_found a b f args (Ok offset) looks look none h = went_in a b f args offset looks look h
went_found a b f args (Err e) looks look none h = went_in a b f args none.0 looks none.1 h

-- what holds whatever came of a call holds where it has a result
pub if_ok : {Q : Type 0} (result : Result ℕ NoMemory) → Q → IfOk result (λ offset. Q)
if_ok (Ok offset) q = q
if_ok (Err e) q = tt

-- where memory ran out after the lookup, the entry was told, and its look
pub told_found : (a b : Session) (f : FunId) (args : List ℤ) (result : Result ℕ NoMemory)
    → OnErr result ((offset : ℕ) × LooksUp f offset (view_in a) (view_in b)) → Went a b (Entered f args ∷ [])
    → OnErr result (TellsAtMost (Went a b) (trail_of a) (trail_of b) (Entered f args ∷ []))
told_found a b f args (Ok offset) look went = tt
told_found a b f args (Err e) look went = inr (record {
  function = f;
  args = args;
  offset = look.0;
  entry = refl;
  told = went;
  looked = ap (map look_of) look.1.0 ∙ map-append look_of (view_in a).lookups ((main_of f, look.0) ∷ []);
})

-- ---- what stays

pub looks_nothing : (v : View) → Looks v v
looks_nothing v = record { learns = learns_nothing v; claim = refl; taken = refl; outcomes = refl; joined = refl; alone = λ sole. finds_none v sole }

-- a lookup, where what it found is seen
pub looks_by_lookup : (v u w : View) (f : Cell) (r : ℕ) (x : Cell × ℕ) → Sees v f r u → w ≡ with_look u x → Learns v w → w.sole ≡ v.sole
    → (v.sole ≡ true → SeesNoMore v w) → Looks v w
looks_by_lookup v u w f r x sees e learns sole no_more = record {
  learns = learns;
  claim = ap (λ (y : View). y.claim) e ∙ same (λ (y : View). y.claim) (λ rs. refl);
  taken = ap (λ (y : View). y.taken) e ∙ same (λ (y : View). y.taken) (λ rs. refl);
  outcomes = ap (λ (y : View). y.outcomes) e ∙ same (λ (y : View). y.outcomes) (λ rs. refl);
  joined = ap (λ (y : View). y.joined) e ∙ same (λ (y : View). y.joined) (λ rs. refl);
  alone = finds_nothing v w sole no_more;
}
  where
    same : {A : Type 0} (field : View → A) → ((rs : List Region) → field (with_regions v rs) ≡ field v) → field u ≡ field v
    same field fits = ⊎_elim (λ z. ap field z.1) (λ (z : (n : ℕ) × (0 < r) × (r < v.key.size) × (u ≡ with_region v (region f r n []))).
        ap field z.3 ∙ fits (region f r z.0 [] ∷ v.regions)) sees

-- and then the version was read
pub looks_by_fetch : (u v w : View) → Looks u v → Grows v w → Learns v w → Looks u w
looks_by_fetch u v w h g learns = record {
  learns = learns_twice u v w h.learns learns;
  claim = g.claim ∙ h.claim;
  taken = g.taken ∙ h.taken;
  outcomes = g.outcomes ∙ h.outcomes;
  joined = g.joined ∙ h.joined;
  alone = λ sole. let first = h.alone sole in finds_twice [] [] u v w first (finds_nothing v w g.sole (λ _. g.no_more) first.sole);
}

-- the tables and the seats are the same, and the session has gone through these marks
pub stays_by : (a b : Session) (marks : List Mark) → b.checked.now ≡ a.checked.now → b.table.now ≡ a.table.now → b.profile.now ≡ a.profile.now
    → IsSame a.code_seat b.code_seat → counts.IsSame a.profile_seat b.profile_seat → Looks (view_in a) (view_in b) → Went a b marks → Stays a b
stays_by a b marks checked table profile code_same profile_same looks went = record {
  checked = checked;
  table = table;
  profile = profile;
  code_same = code_same;
  profile_same = profile_same;
  claim = looks.claim;
  taken = looks.taken;
  outcomes = looks.outcomes;
  joined = looks.joined;
  marks = marks;
  went = went;
}

-- a mark that changes the profile's seat alone
pub stays_beside : (a b : Session) (m : Mark) → b.checked.now ≡ a.checked.now → b.table.now ≡ a.table.now → b.profile.now ≡ a.profile.now
    → b.code_seat ≡ a.code_seat → counts.IsSame a.profile_seat b.profile_seat → Went a b (m ∷ []) → Stays a b
stays_beside a b m checked table profile seat profile_same went =
    stays_by a b (m ∷ []) checked table profile
    (subst (IsSame a.code_seat) (sym seat) (record { table = refl; first = refl; splits = refl; sole = refl })) profile_same
    (subst (λ (s : CodeSeat). Looks (view_in a) (view_of s)) (sym seat) (looks_nothing (view_in a))) went

-- ---- versions

pub none_known : (P : Program) (v : View) → EntriesKnown P v []
unfolding codes_in
none_known P v = record {
  programs = All-nil (λ (e : Entry). e.1.program ≡ P);
  whole = All-nil (IsWholeIn v);
  sound = λ f offset code found. absurd cc;
}

pub known_later : (P : Program) (v w : View) (es : List Entry) → Learns v w → EntriesKnown P v es → EntriesKnown P w es
known_later P v w es learns h = record {
  programs = h.programs;
  whole = All-weaker (IsWholeIn v) (IsWholeIn w) (λ e x. (x.0, learns.whole _ e.0.1 x.0 x.1, x.2)) es h.whole;
  sound = h.sound;
}
