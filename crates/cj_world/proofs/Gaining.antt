-- What runs gain by turns: looks that find current versions.
use Rattle.std.proofs.Common.{◌≡◌, ◌∙◌, refl, sym, ap, ℕ, zero, suc, Bool, true, false, List, [], ◌∷◌, ◌++◌, length, drop, append-nil, append_assoc}
use Rattle.std.proofs.Common.{if◌then◌else◌}
use Rattle.std.specs.Prelude.{nat_lt, ⊤}
use Rattle.std.proofs.lemmas.List.{drop_at}
use Rattle.cj_ir.specs.declared.language.Program.{Program}
use Rattle.cj_calls.specs.declared.report.Look.{Look}
use Rattle.cj_machine.specs.Versions.{State, Codes, Progress, Continues, Finishes, Undefined}
use Rattle.cj_machine.specs.Marks.{Mark, Entered, Branched, FailedIn, turn_marks}
use Rattle.cj_world.specs.Worlds.{Run, offset_of, look_at, looks_of, turned, turned_by, one_turn, turns}

-- each look finds its function's current version
abbrev pub AreCurrent : List ℕ → List Look → Type 0
AreCurrent current [] = ⊤
AreCurrent current (look ∷ looks) = (look.offset ≡ offset_of current look.function) × AreCurrent current looks

pub looks_are_current : (current : List ℕ) (marks : List Mark) → AreCurrent current (looks_of current marks)
unfolding looks_of look_at
looks_are_current current [] = tt
looks_are_current current (Entered f args ∷ marks) = (refl, looks_are_current current marks)
looks_are_current current (Branched f label edge ∷ marks) = looks_are_current current marks
looks_are_current current (FailedIn f ∷ marks) = looks_are_current current marks

both_current : (current : List ℕ) (one two : List Look) → AreCurrent current one → AreCurrent current two → AreCurrent current (one ++ two)
both_current current [] two a b = b
both_current current (look ∷ one) two a b = (a.0, both_current current one two a.1 b)

-- a run of the same call with more looks
pub record Gained (current : List ℕ) (before after : Run) : Type 0 where
  pub more : List Look
  pub fresh : AreCurrent current more
  pub looks : after.looks ≡ before.looks ++ more
  pub call : after.call ≡ before.call

gained_nothing : (current : List ℕ) (run : Run) → Gained current run run
gained_nothing current run = record { more = []; fresh = tt; looks = sym (append-nil run.looks); call = refl }

gained_on : (current : List ℕ) (a b c : Run) → Gained current a b → Gained current b c → Gained current a c
gained_on current a b c one two = record {
  more = one.more ++ two.more;
  fresh = both_current current one.more two.more one.fresh two.fresh;
  looks = two.looks ∙ ap (λ looks. looks ++ two.more) one.looks ∙ append_assoc a.looks one.more two.more;
  call = two.call ∙ one.call;
}

module _ (P : Program) (codes : Codes) (current : List ℕ) where
  turned_gains : (run : Run) (s : State) (b : Bool) → Gained current run (if b then turned P codes current run s else run)
  unfolding turned
  turned_gains run s true = record {
    more = looks_of current (turn_marks P codes s);
    fresh = looks_are_current current (turn_marks P codes s);
    looks = refl;
    call = refl;
  }
  turned_gains run s false = gained_nothing current run

  by_gains : (run : Run) (progress : Progress) → Gained current run (turned_by P codes current run progress)
  unfolding turned_by
  by_gains run (Continues s) = turned_gains run s (nat_lt s.turns run.call.limit)
  by_gains run (Finishes end s) = gained_nothing current run
  by_gains run Undefined = gained_nothing current run

  pub turns_gain : (n : ℕ) (run : Run) → Gained current run (turns P codes current n run)
  unfolding turns one_turn
  turns_gain zero run = gained_nothing current run
  turns_gain (suc n) run =
      let before = turns P codes current n run in
      gained_on current run before (one_turn P codes current before) (turns_gain n run) (by_gains before before.progress)

-- the looks that were gained
pub dropped : (current : List ℕ) (before after : Run) (g : Gained current before after) → drop (length before.looks) after.looks ≡ g.more
dropped current before after g =
    ap (λ looks. drop (length before.looks) looks) g.looks ∙ drop_at before.looks g.more (length before.looks) refl
