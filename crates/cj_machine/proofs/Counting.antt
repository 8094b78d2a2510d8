-- The counts that a state keeps.
use Rattle.std.proofs.Common.{◌≡◌, ℕ, suc, ◌+◌, ◌*◌, ◌≤◌, List, [], ◌∷◌, ◌++◌, map, refl, ap, arith}
use Rattle.std.specs.Prelude.{ℤ}
use Rattle.cj_ir.specs.declared.language.Label.{Label}
use Rattle.cj_base.specs.declared.machine.Waiting.{Waiting}
use Rattle.cj_base.specs.Machine.{Stack}
use Rattle.cj_base.specs.Run.{Begun}
use Rattle.cj_activations.specs.Activations.{VersionFrame, Active, InVersion, Paused, BaseWaits, Stacked}
use Rattle.cj_machine.specs.Versions.{State, moved_to, counted, passed, rebuilt}
use Rattle.cj_machine.specs.VersionRuns.{first_state}
use Rattle.cj_machine.specs.Stands.{versions_on_top, versions_waiting, CountsStand}

-- a turn that counts a base turn
pub counts_on : (s : State) (since row : ℕ) (stack : Stacked) (m printed : List ℤ) (entries : ℕ) → CountsStand s since row → entries ≤ s.entries + 1 →
    versions_on_top stack.top + versions_waiting stack.waiting + s.entries ≤ versions_on_top s.stack.top + versions_waiting s.stack.waiting + entries →
    CountsStand (counted s stack m printed entries) 0 8
unfolding counted
counts_on s since row stack m printed entries c used versions =
    let h1 = c.entries in
    let h2 = c.versions in
    let h3 = c.in_a_row in
    let h4 = c.turns in
    let h5 = c.base_turns in
    record { base_turns = omega arith; entries = omega arith; versions = omega arith; in_a_row = omega arith; turns = omega arith }

-- an Assume that goes on
pub counts_pass : (s : State) (since row : ℕ) (v : VersionFrame) (next : Label) → s.stack.top ≡ InVersion v → CountsStand s since (suc row) →
    CountsStand (passed s v next) (suc since) row
unfolding passed moved_to versions_on_top
counts_pass s since row v next top c =
    let h1 = c.entries in
    let h2 = c.versions in
    let h3 = c.in_a_row in
    let h4 = c.turns in
    let h5 = c.base_turns in
    let one = ap versions_on_top top in
    record { base_turns = omega arith; entries = omega arith; versions = omega arith; in_a_row = omega arith; turns = omega arith }

base_frames_waiting : (frames : List Waiting) (others : List Paused) → versions_waiting (map BaseWaits frames ++ others) ≡ versions_waiting others
unfolding versions_waiting
base_frames_waiting [] others = refl
base_frames_waiting (w ∷ frames) others = base_frames_waiting frames others

-- an Assume that fails
pub counts_fail : (s : State) (since row : ℕ) (v : VersionFrame) (back : ℕ) (frames : Stack) → s.stack.top ≡ InVersion v → back ≤ 4 → back ≤ s.base_turns →
    back + s.entries ≤ s.base_turns + 1 → CountsStand s since (suc row) → CountsStand (rebuilt s back frames) (suc since) 0
unfolding rebuilt versions_on_top
counts_fail s since row v back frames top four within used c =
    let h1 = c.entries in
    let h2 = c.versions in
    let h3 = c.in_a_row in
    let h4 = c.turns in
    let h5 = c.base_turns in
    let one = ap versions_on_top top in
    let none = base_frames_waiting frames.waiting s.stack.waiting in
    record { base_turns = omega arith; entries = omega arith; versions = omega arith; in_a_row = omega arith; turns = omega arith }

pub counts_first : (call : Begun) (top : Active) → versions_on_top top ≤ 1 → CountsStand (first_state call top) 0 8
unfolding first_state versions_waiting
counts_first call top one =
    record { base_turns = omega arith; entries = omega arith; versions = omega arith; in_a_row = omega arith; turns = omega arith }

-- the bound of 45, for a state and for the turn that ends its run
pub counts_bound : (s : State) (since row : ℕ) → CountsStand s since row → s.turns + 1 ≤ 45 * (s.base_turns + 1)
counts_bound s since row c =
    let h1 = c.entries in
    let h2 = c.versions in
    let h3 = c.in_a_row in
    let h4 = c.turns in
    let h5 = c.base_turns in
    omega arith

-- No count passes the turns: base turns and fails are at most the turns, and looks used at most one more.
pub counts_within : (s : State) (since row : ℕ) → CountsStand s since row → (s.base_turns ≤ s.turns) × (s.fails ≤ s.turns + 1) × (s.entries ≤ s.turns + 1)
counts_within s since row c =
    let h1 = c.entries in
    let h2 = c.versions in
    let h3 = c.base_turns in
    (omega arith, omega arith, omega arith)
