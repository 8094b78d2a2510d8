-- A run, turn by turn.
use Rattle.std.proofs.Common.{◌≡◌, ◌≢◌, ◌∙◌, ap, subst, refl, ℕ, zero, suc, ◌+◌, ◌-◌, ◌<◌, ◌≤◌, ◌⊎◌, ⊎_elim, inl, inr, List, [], ℤ, length, add-one, append-nil}
use Rattle.std.proofs.Common.{arith}
use Rattle.std.specs.Prelude.{⊤}
use Rattle.std.proofs.lemmas.Bool.{cases_lt}
use Rattle.cj_ir.specs.WellFormed.{IsWellFormed, Takes}
use Rattle.cj_ir.specs.declared.language.Program.{Program}
use Rattle.cj_base.specs.declared.machine.End.{End}
use Rattle.cj_base.specs.declared.machine.End.TheVariants.{Returned, Failed, Address, Divide, TurnLimit}
use Rattle.cj_base.specs.declared.machine.Turned.TheVariants.{Running, Ended}
use Rattle.cj_base.specs.declared.calls.Outcome as calls
use Rattle.cj_base.specs.Machine.{Config, Outcome, Goes, Ends, Stuck, turn_of}
use Rattle.cj_base.specs.Turning.{Makes}
use Rattle.cj_base.specs.Run.{Begun, start_of, Run, Going, Over, Lost, ran, one_more, base_run, EndStands}
use Rattle.cj_base.specs.Fits.{Fits, FitsAfter}
use Rattle.cj_base.specs.Whole.{IsOutcomeOf, IsWhole}
use Rattle.cj_base.proofs.FitsLemmas.{start_fits, turn_fits}

-- the run after one turn more
pub run_next : (P : Program) (call : Begun) (n : ℕ) (printed : List ℤ) (c : Config) → base_run P call n ≡ Going printed c →
    base_run P call (n + 1) ≡ ran printed (n + 1) (turn_of P c)
unfolding base_run one_more
run_next P call n printed c h = rw add-one (ap (one_more P (suc n)) h)

pub run_starts : (P : Program) (call : Begun) (printed : List ℤ) (c : Config) → printed ≡ [] → c ≡ start_of P call → base_run P call 0 ≡ Going printed c
unfolding base_run
run_starts P call printed c e h = rw (e, h) refl

goes_on : (o : Outcome) (c c' : Config) (printed printed' : List ℤ) (n : ℕ) → Makes o Running c c' printed printed' → ran printed n o ≡ Going printed' c'
unfolding ran
goes_on (Goes more d) c c' printed printed' n made = rw (made.leaves, made.prints) refl
goes_on (Ends end) c c' printed printed' n made = let e = made.answers in cc
goes_on Stuck c c' printed printed' n made = let e = made.answers in cc

ends : (o : Outcome) (c c' : Config) (printed printed' : List ℤ) (end : End) (n : ℕ) → Makes o (Ended end) c c' printed printed' →
    ran printed n o ≡ Over printed' end n
unfolding ran
ends (Goes more d) c c' printed printed' end n made = let e = made.answers in cc
ends (Ends other) c c' printed printed' end n made =
    let same : other ≡ end = let e = made.answers in cc in
    let prints : printed' ≡ printed = made.prints ∙ append-nil printed in
    rw (same, prints) refl
ends Stuck c c' printed printed' end n made = let e = made.answers in cc

pub run_goes_on : (P : Program) (call : Begun) (n : ℕ) (c c' : Config) (printed printed' : List ℤ) → base_run P call n ≡ Going printed c →
    Makes (turn_of P c) Running c c' printed printed' → base_run P call (n + 1) ≡ Going printed' c'
run_goes_on P call n c c' printed printed' before made =
    run_next P call n printed c before ∙ goes_on (turn_of P c) c c' printed printed' (n + 1) made

pub run_ends : (P : Program) (call : Begun) (n : ℕ) (c c' : Config) (printed printed' : List ℤ) (end : End) → base_run P call n ≡ Going printed c →
    Makes (turn_of P c) (Ended end) c c' printed printed' → EndStands P call (n + 1) printed' end
run_ends P call n c c' printed printed' end before made =
    run_next P call n printed c before ∙ ends (turn_of P c) c c' printed printed' end (n + 1) made

-- A run that is over stays over.

over_next : (P : Program) (call : Begun) (n k : ℕ) (printed : List ℤ) (end : End) → base_run P call n ≡ Over printed end k →
    base_run P call (suc n) ≡ Over printed end k
unfolding base_run one_more
over_next P call n k printed end h = ap (one_more P (suc n)) h

over_more : (P : Program) (call : Begun) (n k d : ℕ) (printed : List ℤ) (end : End) → base_run P call n ≡ Over printed end k →
    base_run P call (d + n) ≡ Over printed end k
over_more P call n k zero printed end h = let e : 0 + n ≡ n = omega arith in rw e h
over_more P call n k (suc d) printed end h =
    let e : suc d + n ≡ suc (d + n) = omega arith in
    rw e (over_next P call (d + n) k printed end (over_more P call n k d printed end h))

pub over_stays : (P : Program) (call : Begun) (n m k : ℕ) (printed : List ℤ) (end : End) → base_run P call n ≡ Over printed end k → n ≤ m →
    base_run P call m ≡ Over printed end k
over_stays P call n m k printed end h le =
    let e : m - n + n ≡ m = omega arith in
    rw e at (over_more P call n k (m - n) printed end h)

-- a run that goes on after m turns did not end with one of them
pub going_before : (P : Program) (call : Begun) (m n k : ℕ) (printed p : List ℤ) (c : Config) (end : End) → base_run P call m ≡ Going p c →
    base_run P call n ≡ Over printed end k → m < n
going_before P call m n k printed p c end going over =
    ⊎_elim (λ lt. lt) (λ le. let same = over_stays P call n m k printed end over le in cc) (cases_lt m n)

-- a run has one end
pub one_end : (P : Program) (call : Begun) (n m t u : ℕ) (printed p : List ℤ) (end e : End) → base_run P call n ≡ Over printed end t →
    base_run P call m ≡ Over p e u → (printed ≡ p) × (end ≡ e) × (t ≡ u)
one_end P call n m t u printed p end e h k = ⊎_elim
    (λ (lt : n < m).
    let le : n ≤ m = omega arith in
    let same = over_stays P call n m t printed end h le in
    (cc, cc, cc))
    (λ le. let same = over_stays P call m n u p e k le in (cc, cc, cc)) (cases_lt n m)

-- it ends once
pub ends_once : (P : Program) (call : Begun) (n m : ℕ) (printed p : List ℤ) (end e : End) → EndStands P call n printed end → EndStands P call m p e →
    (n ≡ m) × (printed ≡ p) × (end ≡ e)
ends_once P call n m printed p end e h k =
    let same = one_end P call n m n m printed p end e h k in
    (same.2, same.0, same.1)

-- What the run up to the limit gives is all that there is.
limit_or_not : (end : End) → (end ≡ TurnLimit) ⊎ (end ≢ TurnLimit)
limit_or_not (Returned v) = inr (λ e. cc)
limit_or_not (Failed f l) = inr (λ e. cc)
limit_or_not (Address a) = inr (λ e. cc)
limit_or_not Divide = inr (λ e. cc)
limit_or_not TurnLimit = inl refl

pub whole_of : (P : Program) (call : Begun) (o : calls.Outcome) → IsOutcomeOf P call o → IsWhole P call o
whole_of P call o is n printed end stands within = ⊎_elim
    (λ limit.
    let going = is.limited limit in
    let before = going_before P call o.turns n n printed o.printed going.1.0 end going.1.1 stands in
    let at : o.turns ≡ call.limit = going.0 in
    absurd (omega arith))
    (λ not. ends_once P call o.turns n o.printed printed o.end end (is.ended not).0 stands) (limit_or_not o.end)

-- an outcome with an end that a turn made
pub ended_outcome : (P : Program) (call : Begun) (n turns : ℕ) (c c' : Config) (printed printed' : List ℤ) (end : End) → base_run P call n ≡ Going printed c →
    Makes (turn_of P c) (Ended end) c c' printed printed' → Ended end ≢ Ended TurnLimit → turns ≡ n + 1 → n < call.limit →
    IsOutcomeOf P call (record { printed = printed'; end = end; turns = turns })
ended_outcome P call n turns c c' printed printed' end before made not at within =
    let stands = run_ends P call n c c' printed printed' end before made in
    record {
      ended = λ _. (rw at stands, omega arith);
      limited = λ limit. absurd (not (ap Ended limit));
      within = omega arith;
    }

-- an outcome at the limit
pub limit_outcome : (P : Program) (call : Begun) (printed : List ℤ) (n : ℕ) (c : Config) → base_run P call n ≡ Going printed c → n ≡ call.limit →
    IsOutcomeOf P call (record { printed = printed; end = TurnLimit; turns = n })
limit_outcome P call printed n c going at = record {
  ended = λ not. absurd (not refl);
  limited = λ _. (at, (c, going));
  within = omega arith;
}

-- Each configuration of a run fits, and no run is lost.
abbrev pub FitsRun : Program → Run → Type 0
FitsRun P (Going printed c) = Fits P c
FitsRun P (Over printed end turns) = ⊤
FitsRun P Lost = ⊥

ran_fits : (P : Program) (printed : List ℤ) (n : ℕ) (o : Outcome) → FitsAfter P o → FitsRun P (ran printed n o)
unfolding ran
ran_fits P printed n (Goes more c) fits = fits
ran_fits P printed n (Ends end) fits = tt
ran_fits P printed n Stuck fits = fits

more_fits : (P : Program) (n : ℕ) (r : Run) → IsWellFormed P → FitsRun P r → FitsRun P (one_more P n r)
unfolding one_more
more_fits P n (Going printed c) formed fits = ran_fits P printed n (turn_of P c) (turn_fits P c.stack c.memory formed fits)
more_fits P n (Over printed end turns) formed fits = tt
more_fits P n Lost formed fits = fits

pub run_fits : (P : Program) (call : Begun) → IsWellFormed P → Takes P.functions call.function (length call.args) → (n : ℕ) → FitsRun P (base_run P call n)
unfolding base_run
run_fits P call formed takes zero = start_fits P call formed takes
run_fits P call formed takes (suc n) = more_fits P (suc n) (base_run P call n) formed (run_fits P call formed takes n)

pub run_not_lost : (P : Program) (r : Run) → FitsRun P r → r ≢ Lost
run_not_lost P r fits = λ e. subst (FitsRun P) e fits

pub run_fits_at : (P : Program) (r : Run) (printed : List ℤ) (c : Config) → FitsRun P r → r ≡ Going printed c → Fits P c
run_fits_at P r printed c fits e = subst (FitsRun P) e fits
