-- The pairs of the place on top.
use Rattle.std.proofs.Common.{◌≡◌, ℕ, suc, ◌+◌, ◌-◌, ◌<◌, ◌≤◌, List, [], ◌++◌, sym, ap, ◌∙◌, subst, arith, append-nil, ⊎_elim, eq-or-lt_of_le}
use Rattle.std.specs.Prelude.{ℤ}
use Rattle.cj_ir.specs.declared.language.Label.{Label}
use Rattle.cj_ir.specs.declared.language.Program.{Program}
use Rattle.cj_base.specs.declared.machine.Waiting.{Waiting}
use Rattle.cj_base.specs.Machine.{Stack, over, On}
use Rattle.cj_base.specs.Same.{Same}
use Rattle.cj_base.specs.Run.{Begun, base_run, RunAt, SilentAt}
use Rattle.cj_base.proofs.Segments.{run_same, run_silent}
use Rattle.cj_draft.specs.declared.instructions.VInstr.{VInstr}
use Rattle.cj_draft.specs.declared.instructions.VInstr.TheVariants.{Nop, Op, Move, Cond, Call, Return, Print, Load, Store, Fail, Assume, Anchor}
use Rattle.cj_draft.specs.declared.code.Back.{Back}
use Rattle.cj_draft.specs.declared.code.Place.{Place}
use Rattle.cj_draft.specs.Points.{frames_of}
use Rattle.cj_draft.specs.Effects.{VersionEffect, Plain, version_effect}
use Rattle.cj_draft.specs.Sound.{pair_of, IsOwn, IsSilentIn, IsCarried}
use Rattle.cj_activations.specs.Activations.{Stacked}
use Rattle.cj_machine.specs.Versions.{State, counted}
use Rattle.cj_machine.specs.Stands.{BackStands}

-- a pair of number 0 with the frames of the run's stack
pub own_back : (P : Program) (call : Begun) (s : State) (below : List Waiting) (place : Place) (regs : List ℤ) (stack : Stack) (pair : Back) →
    RunAt P call s.base_turns s.printed (over stack below) s.memory → Same P stack (frames_of P place.point regs) → s.entries ≤ s.base_turns + 1 →
    IsOwn P place regs pair → BackStands P call s below regs pair
own_back P call s below place regs stack pair run same used own =
    let none = own.0 in
    let e : s.base_turns ≡ s.base_turns - pair.turns = omega arith in
    let here = run_same P call s.base_turns s.printed stack (frames_of P place.point regs) below s.memory run same in
    let there = subst (λ x. RunAt P call s.base_turns s.printed (over x below) s.memory) (sym own.1) here in
    record {
      within = omega arith;
      run = subst (λ n. RunAt P call n s.printed (over (frames_of P pair.point regs) below) s.memory) e there;
      silent = λ i l u. absurd (omega arith);
      entries = omega arith;
    }

-- the registers, memory and prints of an effect that goes on
regs_after : VersionEffect → List ℤ
regs_after (Plain (On next regs m printed)) = regs
regs_after e = []

memory_after : VersionEffect → List ℤ
memory_after (Plain (On next regs m printed)) = m
memory_after e = []

printed_after : VersionEffect → List ℤ
printed_after (Plain (On next regs m printed)) = printed
printed_after e = []

pub silent_keeps : (i : VInstr) (regs m : List ℤ) (next : Label) (regs' m' printed : List ℤ) → IsSilentIn i →
    version_effect i regs m ≡ Plain (On next regs' m' printed) → (regs ≡ regs') × (m ≡ m') × ([] ≡ printed)
unfolding IsSilentIn version_effect regs_after memory_after printed_after
silent_keeps (Nop n) regs m next regs' m' printed s e = (ap regs_after e, ap memory_after e, ap printed_after e)
silent_keeps (Cond t a b) regs m next regs' m' printed s e = (ap regs_after e, ap memory_after e, ap printed_after e)
silent_keeps (Op d x n) regs m next regs' m' printed s e = absurd s
silent_keeps (Move ps n) regs m next regs' m' printed s e = absurd s
silent_keeps (Call d f args n) regs m next regs' m' printed s e = absurd s
silent_keeps (Return x) regs m next regs' m' printed s e = absurd s
silent_keeps (Print x n) regs m next regs' m' printed s e = absurd s
silent_keeps (Load d x n) regs m next regs' m' printed s e = absurd s
silent_keeps (Store x y n) regs m next regs' m' printed s e = absurd s
silent_keeps (Fail f l) regs m next regs' m' printed s e = absurd s
silent_keeps (Assume g b t n) regs m next regs' m' printed s e = absurd s
silent_keeps (Anchor b t n) regs m next regs' m' printed s e = absurd s

-- the turns since a pair's frames, with one silent turn more
more_silent : (P : Program) (call : Begun) (b j : ℕ) → ((i : ℕ) → b - j ≤ i → i < b → SilentAt P (base_run P call i)) → SilentAt P (base_run P call b) →
    (k i : ℕ) → k ≡ suc j → b + 1 - k ≤ i → i < b + 1 → SilentAt P (base_run P call i)
more_silent P call b j old here k i e l u =
    let le : i ≤ b = omega arith in
    ⊎_elim (λ eq. subst (λ n. SilentAt P (base_run P call n)) (sym eq) here) (λ lt. let low : b - j ≤ i = omega arith in old i low lt) (eq-or-lt_of_le le)

-- a pair that a silent turn carries on
pub carried_back : (P : Program) (call : Begun) (s : State) (below : List Waiting) (from : Place) (regs m printed : List ℤ) (stack : Stacked) (entries : ℕ)
    (pair : Back) (carried : IsCarried P from regs pair) → RunAt P call s.base_turns s.printed (over (frames_of P from.point regs) below) s.memory →
    s.memory ≡ m → [] ≡ printed → entries ≤ s.entries → BackStands P call s below regs (pair_of carried.before pair.point) →
    BackStands P call (counted s stack m printed entries) below regs pair
unfolding counted over
carried_back P call s below from regs m printed stack entries pair carried run same_memory no_prints used b =
    let t = carried.turns in
    let w = b.within in
    let en = b.entries in
    let frames = frames_of P pair.point regs in
    let n : s.base_turns + 1 - pair.turns ≡ s.base_turns - carried.before = omega arith in
    let prints : s.printed ≡ s.printed ++ printed = sym (append-nil s.printed) ∙ ap (λ x. s.printed ++ x) no_prints in
    let r1 = subst (λ k. RunAt P call k s.printed (over frames below) s.memory) (sym n) b.run in
    let r2 = subst (λ x. RunAt P call (s.base_turns + 1 - pair.turns) x (over frames below) s.memory) prints r1 in
    let r3 = subst (λ x. RunAt P call (s.base_turns + 1 - pair.turns) (s.printed ++ printed) (over frames below) x) same_memory r2 in
    let here = run_silent P call s.base_turns s.printed (over (frames_of P from.point regs) below) s.memory run carried.base in
    record {
      within = omega arith;
      run = r3;
      silent = λ i l u. more_silent P call s.base_turns carried.before b.silent here pair.turns i t l u;
      entries = omega arith;
    }
