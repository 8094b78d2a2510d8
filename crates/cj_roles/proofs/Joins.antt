-- Roles joined, one by one.
use Rattle.std.proofs.Common.{◌≡◌, ◌∙◌, refl, sym, ap, subst, ℕ, ◌+◌, List, [], ◌∷◌, ◌++◌, map, append_assoc, append-nil}
use Rattle.std.specs.Prelude.{All}
use Rattle.std.specs.List.{AllZip}
use Rattle.std.proofs.lemmas.List.{map_push}
use Rattle.cj_ir.specs.declared.language.Program.{Program}
use Rattle.cj_ir.specs.declared.script.ScriptCall.{ScriptCall}
use Rattle.cj_ir.specs.declared.script.Setup.{Setup}
use Rattle.cj_calls.specs.declared.report.Look.{Look}
use Rattle.cj_calls.specs.declared.report.Report.{Report}
use Rattle.cj_profile.specs.declared.view.Read.{Read}
use Rattle.cj_profile.specs.Seats as counts
use Rattle.cj_publish.specs.declared.view.View.{View}
use Rattle.cj_publish.specs.Seats.{view_of, key_of, program_of, Belongs, IsSame}
use Rattle.cj_publish.specs.Views.{given, joined_view}
use Rattle.cj_parts.proofs.Seats.{code_same_on}
use Rattle.cj_notes.specs.declared.notes.WorkNote.{WorkNote}
use Rattle.cj_records.specs.declared.store.Store.{Store}
use Rattle.cj_records.specs.Records as record_of
use Rattle.cj_records.specs.Loops.{IsSeen}
use Rattle.cj_records.specs.Versions.{Joined, work_of}
use Rattle.cj_records.proofs.Joins.{join_push}
use Rattle.cj_roles.specs.declared.role.Role.{Role}
use Rattle.cj_roles.specs.declared.role.RoleDone.{RoleDone}
use Rattle.cj_roles.specs.declared.role.Slot.{Slot}
use Rattle.cj_roles.specs.declared.role.Slot.TheVariants.{Given, Ended, Lost}
use Rattle.cj_roles.specs.declared.joining.Answers.{Answers}
use Rattle.cj_roles.specs.Roles.{role_of, RoleEnds}
use Rattle.cj_roles.specs.Slots.{HasEnded}
use Rattle.cj_roles.specs.Joined.{CanJoin, IsSameStore, TakesIn, JoinsSlot, HasJoined, JoinsRoles, IsJoining, JoinsAll}

zip_none : {A B : Type 0} (R : A → B → Type 0) (xs : List A) → AllZip R xs [] → xs ≡ []
zip_none R [] h = refl
zip_none R (x ∷ xs) h = absurd h

-- the last of the items
zip_last : {A B : Type 0} (R : A → B → Type 0) (xs : List A) (ys : List B) (y : B) → AllZip R xs (ys ++ y ∷ []) →
    (front : List A) × (x : A) × (xs ≡ front ++ x ∷ []) × AllZip R front ys × R x y
zip_last R [] [] y h = absurd h
zip_last R [] (z ∷ ys) y h = absurd h
zip_last R (x ∷ xs) [] y h = ([], x, ap (λ l. x ∷ l) (zip_none R xs h.1), tt, h.0)
zip_last R (x ∷ xs) (z ∷ ys) y h = let q = zip_last R xs ys y h.1 in (x ∷ q.0, q.1, ap (λ l. x ∷ l) q.2, (h.0, q.3), q.4)

pub each_itself : {A : Type 0} (xs : List A) → map (λ x. x) xs ≡ xs
each_itself [] = refl
each_itself (x ∷ xs) = ap (λ l. x ∷ l) (each_itself xs)

work_push : (roles : List record_of.Done) (d : record_of.Done) → work_of (roles ++ d ∷ []) ≡ work_of roles ++ d.work
unfolding work_of
work_push [] d = append-nil d.work
work_push (x ∷ xs) d = ap (λ (y : List WorkNote). x.work ++ y) (work_push xs d) ∙ sym (append_assoc x.work (work_of xs) d.work)

same_store : (a : Store) → IsSameStore a a
same_store a = record {
  code_table = refl;
  profile_table = refl;
  code = record { table = refl; first = refl; splits = refl; sole = refl };
  profile_first =
      refl;
  profile_splits = refl;
}

same_on : (a b c : Store) → IsSameStore a b → IsSameStore b c → IsSameStore a c
same_on a b c g h = record {
  code_table = h.code_table ∙ g.code_table;
  profile_table = h.profile_table ∙ g.profile_table;
  code = code_same_on a.code_seat b.code_seat c.code_seat g.code h.code;
  profile_first = h.profile_first ∙ g.profile_first;
  profile_splits = h.profile_splits ∙ g.profile_splits;
}

module _ (warm : List WorkNote) (a : Store) where
  -- no role yet
  pub joining_none : (answers : Answers) → CanJoin a → answers.piles.items ≡ [] → answers.work ≡ warm → IsJoining [] warm a answers a
  unfolding work_of
  joining_none answers can none is = record {
    can = can;
    same = same_store a;
    joins = λ calls v roles setups floor zip seen j. record {
      ended = [];
      are_roles = ap (map (role_of calls floor)) (sym (zip_none (HasEnded calls a.code a.profile v) roles zip));
      are_reports = ap (map (λ pile. pile.items)) (sym none);
      are_notes = is ∙ sym (append-nil warm);
      joined = j;
    };
  }

  -- one role more
  module _ (P : Program) (size : ℕ) (setups : List Setup) (calls : List ScriptCall) (floor : List Look) (roles : List Role) (role : Role)
      (b c : Store) (before after : Answers) (done : RoleDone)
      (h : HasJoined P size setups warm (map (role_of calls floor) roles) before b)
      (r : record_of.RoleStands P size (role_of calls floor role) done.reports.items done.work done.code_seat done.profile_seat)
      (takes : TakesIn b done.code_seat done.profile_seat c)
      (piles : after.piles.items ≡ before.piles.items ++ done.reports ∷ []) (work : after.work ≡ before.work ++ done.work) where
    d : record_of.Done
    d = record { role = role_of calls floor role; reports = done.reports.items; work = done.work; looks = r.looks; reads = counts.reads_of done.profile_seat }

    has_joined : HasJoined P size setups warm (map (role_of calls floor) (roles ++ role ∷ [])) after c
    unfolding d
    has_joined =
        let more = join_push P size setups warm h.ended (view_of b.code_seat) (counts.reads_of b.profile_seat) (counts.joined_of b.profile_seat)
        (role_of calls floor role) done.reports.items done.work done.code_seat done.profile_seat h.joined r in
        record {
          ended = h.ended ++ d ∷ [];
          are_roles = map_push (λ (x : record_of.Done). x.role) h.ended d ∙ ap (λ l. l ++ role_of calls floor role ∷ []) h.are_roles
              ∙ sym (map_push (role_of calls floor) roles role);
          are_reports = map_push (λ (x : record_of.Done). x.reports) h.ended d ∙ ap (λ l. l ++ done.reports.items ∷ []) h.are_reports
              ∙ sym (map_push (λ pile. pile.items) before.piles.items done.reports) ∙ ap (map (λ pile. pile.items)) (sym piles);
          are_notes = work ∙ ap (λ l. l ++ done.work) h.are_notes ∙ append_assoc warm (work_of h.ended) done.work
              ∙ ap (λ l. warm ++ l) (sym (work_push h.ended d));
          joined = subst (λ (v : View). Joined P size setups warm (h.ended ++ d ∷ []) v (counts.reads_of c.profile_seat) (counts.joined_of c.profile_seat))
              (sym takes.view)
              (subst (λ (rs : List Read). Joined P size setups warm (h.ended ++ d ∷ []) (joined_view (view_of b.code_seat) (view_of done.code_seat)) rs
              (counts.joined_of c.profile_seat)) (sym takes.reads)
              (subst (λ (rss : List (List Read)). Joined P size setups warm (h.ended ++ d ∷ []) (joined_view (view_of b.code_seat) (view_of done.code_seat))
              (counts.reads_of b.profile_seat) rss) (sym takes.joined) more));
        }

  pub joining_more : (slots : List Slot) (slot : Slot) (b c : Store) (before after : Answers) → IsJoining slots warm a before b →
      JoinsSlot slot b before c after → IsJoining (slots ++ slot ∷ []) warm a after c
  joining_more slots slot b c before after h s = record {
    can = s.takes.can;
    same = same_on a b c h.same s.takes.same;
    joins = λ calls v roles setups floor zip seen j.
        let q = zip_last (HasEnded calls a.code a.profile v) roles slots slot zip in
        let ends : RoleEnds calls a.code a.profile (given v) q.1 s.done = subst (HasEnded calls a.code a.profile v q.1) s.is_done q.4 in
        subst (λ (rs : List Role). HasJoined (program_of a.code) (key_of a.code).size setups warm (map (role_of calls floor) rs) after c) (sym q.2)
        (has_joined (program_of a.code) (key_of a.code).size setups calls floor q.0 q.1 b c before after s.done (h.joins calls v q.0 setups floor q.3 seen j)
        (ends.stands floor seen) s.takes s.piles s.work);
  }

  -- what the seat knows is confirmed
  pub joins_all : (slots : List Slot) (b c : Store) (answers : Answers) → IsJoining slots warm a answers b
      → Belongs c.code c.code_seat → c.code ≡ b.code → c.profile ≡ b.profile → c.profile_seat ≡ b.profile_seat → IsSame b.code_seat c.code_seat →
      view_of c.code_seat ≡ view_of b.code_seat
      → JoinsAll slots warm a answers c
  joins_all slots b c answers h own table profile seat same view = record {
    code = own;
    profile = rw (profile, seat) h.can.profile;
    same = record {
      code_table = table ∙ h.same.code_table;
      profile_table = profile ∙ h.same.profile_table;
      code = code_same_on a.code_seat b.code_seat c.code_seat h.same.code same;
      profile_first = rw seat h.same.profile_first;
      profile_splits = rw seat h.same.profile_splits;
    };
    joins = λ calls v roles setups floor zip seen j. let k = h.joins calls v roles setups floor zip seen j in record {
      ended = k.ended;
      are_roles = k.are_roles;
      are_reports = k.are_reports;
      are_notes = k.are_notes;
      joined = rw (view, seat) k.joined;
    };
  }
