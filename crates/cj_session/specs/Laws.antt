-- What a run asks of its watch.
use Rattle.std.proofs.Common.{◌≡◌, ◌∙◌, refl, sym, ap, subst, ℕ, ◌≤◌, List, [], ◌∷◌, ◌++◌, map, append-nil, append_assoc}
use Rattle.std.proofs.lemmas.List.{map-append}
use Rattle.std.proofs.lemmas.List.Elements.{All-nil, All-append, All-weaker}
use Rattle.cj_ir.specs.declared.language.FunId.{FunId}
use Rattle.cj_calls.specs.declared.report.Look.{Look}
use Rattle.cj_machine.specs.CodeMaps.{SoundCodes}
use Rattle.cj_machine.specs.Marks.{Mark, Entered, Branched, FailedIn}
use Rattle.cj_publish.specs.declared.view.View.{View}
use Rattle.cj_publish.specs.Learns.{Learns, learns_nothing, learns_twice}
use Rattle.cj_parts.specs.Parts.{MarkPart}
use Rattle.cj_parts.specs.PartsLaws.{parts_append}
use Rattle.cj_parts.specs.Looks.{looked, IsNotOlder}
use Rattle.cj_parts.proofs.Finding.{finds_none, finds_twice}
use Rattle.cj_parts.proofs.Seats.{code_same, code_same_on, profile_same, profile_same_on}
use Rattle.cj_session.specs.declared.session.Session.{Session}
use Rattle.cj_session.specs.Sessions.{codes_of, view_in, reads_in, entered_in, IsReady, Stays, Went}

-- ---- what was gone through

entered_append : (ms ns : List Mark) → entered_in (ms ++ ns) ≡ entered_in ms ++ entered_in ns
unfolding entered_in
entered_append [] ns = refl
entered_append (Entered f args ∷ ms) ns = ap (λ (l : List FunId). f ∷ l) (entered_append ms ns)
entered_append (Branched f label edge ∷ ms) ns = entered_append ms ns
entered_append (FailedIn f ∷ ms) ns = entered_append ms ns

pub went_nowhere : (s : Session) → Went s s []
unfolding entered_in
went_nowhere s = record {
  learns = learns_nothing (view_in s);
  looks = [];
  once = refl;
  trail = sym (append-nil (view_in s).lookups);
  floor = All-nil (IsNotOlder (view_in s));
  alone = λ sole. finds_none (view_in s) sole;
  part = [];
  in_parts = refl;
  reads = sym (append-nil (reads_in s));
}

-- what is no older than a later view is no older than this one
older_before : (v w : View) → Learns v w → (look : Look) → IsNotOlder w look → IsNotOlder v look
older_before v w learns look old x m e =
    let y = learns.seen x.cell x.offset (x, m, refl, refl) in
    subst (λ (n : ℕ). n ≤ look.offset) y.3 (old y.0 y.1 (y.2 ∙ e))

pub went_on : (a b c : Session) (ms ns : List Mark) → Went a b ms → Went b c ns → Went a c (ms ++ ns)
went_on a b c ms ns h k = record {
  learns = learns_twice (view_in a) (view_in b) (view_in c) h.learns k.learns;
  looks = h.looks ++ k.looks;
  once = map-append (λ (look : Look). look.function) h.looks k.looks ∙ (λ i. h.once i ++ k.once i) ∙ sym (entered_append ms ns);
  trail =
      k.trail
      ∙ (ap (λ l. l ++ map looked k.looks) h.trail
      ∙ append_assoc (view_in a).lookups (map looked h.looks) (map looked k.looks)
      ∙ ap (λ l. (view_in a).lookups ++ l) (sym (map-append looked h.looks k.looks)));
  floor = All-append (IsNotOlder (view_in a)) h.looks k.looks h.floor
      (All-weaker (IsNotOlder (view_in b)) (IsNotOlder (view_in a)) (older_before (view_in a) (view_in b) h.learns) k.looks k.floor);
  alone = λ sole. let first = h.alone sole in finds_twice h.looks k.looks (view_in a) (view_in b) (view_in c) first (k.alone first.sole);
  part = h.part ++ k.part;
  in_parts = parts_append MarkPart ms ns h.part k.part h.in_parts k.in_parts;
  reads = k.reads ∙ (ap (λ l. l ++ k.part) h.reads ∙ append_assoc (reads_in a) h.part k.part);
}

-- ---- what stays

pub stays_same : (s : Session) → Stays s s
stays_same s = record {
  checked = refl;
  table = refl;
  profile = refl;
  code_same = code_same s.code_seat;
  profile_same = profile_same s.profile_seat;
  claim = refl;
  taken = refl;
  outcomes = refl;
  joined = refl;
  marks = [];
  went = went_nowhere s;
}

pub stays_on : (a b c : Session) → Stays a b → Stays b c → Stays a c
stays_on a b c g h = record {
  checked = h.checked ∙ g.checked;
  table = h.table ∙ g.table;
  profile = h.profile ∙ g.profile;
  code_same = code_same_on a.code_seat b.code_seat c.code_seat g.code_same h.code_same;
  profile_same = profile_same_on a.profile_seat b.profile_seat c.profile_seat g.profile_same h.profile_same;
  claim = h.claim ∙ g.claim;
  taken = h.taken ∙ g.taken;
  outcomes = h.outcomes ∙ g.outcomes;
  joined = h.joined ∙ g.joined;
  marks = g.marks ++ h.marks;
  went = went_on a b c g.marks h.marks g.went h.went;
}

-- the codes that are known are sound
pub session_sound : (s : Session) → IsReady s → SoundCodes s.checked.now (codes_of s)
session_sound s ready = ready.known.sound
