-- What holds where no condition is against an Assume.
use Rattle.std.proofs.Common.{◌≡◌, ℕ, ◌+◌, ◌≤◌, List, length, Option, Some, None, refl, sym}
use Rattle.std.proofs.lemmas.Option.{same_Some, none-some}
use Rattle.cj_ir.specs.declared.language.Label.{Label}
use Rattle.cj_ir.specs.declared.language.Guard.{Guard}
use Rattle.cj_draft.specs.declared.points.Point.{Point}
use Rattle.cj_draft.specs.declared.instructions.VInstr.{VInstr}
use Rattle.cj_draft.specs.declared.instructions.VInstr.TheVariants.{Nop, Op, Move, Cond, Call, Return, Print, Load, Store, Fail, Assume, Anchor}
use Rattle.cj_draft.specs.declared.code.Place.{Place}
use Rattle.cj_draft.specs.declared.code.Code.{Code}
use Rattle.cj_draft.specs.declared.passes.Skipped.TheVariants.{NoPlace, NotAnchor}
use Rattle.cj_draft.specs.Arrives.{place_at}
use Rattle.cj_rows.specs.Rows.{fresh_row, anchor_next}
use Rattle.cj_rows.specs.Rooms.{room_offence}
use Rattle.cj_rows.specs.Guards.{register_offence, guards_offence}
use Rattle.cj_rows.proofs.Room.{has_room}
use Rattle.cj_rows.proofs.GuardConditions.{no_offence, few_guards}
use Rattle.cj_assume.specs.ImmediateAssume.{guard_count, count_in, guards_at, full_offence, offence_after, offence_at, assume_offence}

-- ---- what stands where no condition is against an Assume

-- the Anchor
pub record CanAssume (code : Code) (anchor : Label) (guards : List Guard) : Type 0 where
  pub place : Place
  pub at : place_at code anchor ≡ Some place
  pub number : ℕ
  pub target : Point
  pub next : Label
  pub instr : place.instr ≡ Anchor number target next
  pub registers : register_offence code.regs guards ≡ None
  pub full : full_offence code anchor (length guards) (guards_at code next) ≡ None

pub can_assume : (code : Code) (anchor : Label) (guards : List Guard) → assume_offence code anchor guards ≡ None → CanAssume code anchor guards
unfolding assume_offence offence_at offence_after anchor_next
can_assume code a gs none = by_place (place_at code a) refl none
  where
    other : offence_after code a gs None ≡ None → CanAssume code a gs
    other e = absurd (none-some (NotAnchor a) (sym e))

    by_instr : (p : Place) → place_at code a ≡ Some p → (i : VInstr) → p.instr ≡ i → offence_after code a gs (anchor_next i) ≡ None → CanAssume code a gs
    by_instr p at (Anchor b t n) is e =
        let h = no_offence (register_offence code.regs gs) (full_offence code a (length gs) (guards_at code n)) e in
        record { place = p; at = at; number = b; target = t; next = n; instr = is; registers = h.0; full = h.1 }
    by_instr p at (Assume g b t n) is e = other e
    by_instr p at (Nop n) is e = other e
    by_instr p at (Op d x n) is e = other e
    by_instr p at (Move ps n) is e = other e
    by_instr p at (Cond t x y) is e = other e
    by_instr p at (Call d f args n) is e = other e
    by_instr p at (Return v) is e = other e
    by_instr p at (Print v n) is e = other e
    by_instr p at (Load d x n) is e = other e
    by_instr p at (Store x y n) is e = other e
    by_instr p at (Fail f l) is e = other e

    by_place : (o : Option Place) → place_at code a ≡ o → offence_at code a gs o ≡ None → CanAssume code a gs
    by_place None at e = absurd (none-some (NoPlace a) (sym e))
    by_place (Some p) at e = by_instr p at p.instr refl e

-- the Assume that has so many guards
pub record HasAssume (code : Code) (label : Label) (count : ℕ) : Type 0 where
  pub place : Place
  pub at : place_at code label ≡ Some place
  pub guards : List Guard
  pub number : ℕ
  pub target : Point
  pub next : Label
  pub instr : place.instr ≡ Assume guards number target next
  pub count_is : length guards ≡ count

pub has_assume : (code : Code) (label : Label) (count : ℕ) → guards_at code label ≡ Some count → HasAssume code label count
unfolding guards_at count_in guard_count
has_assume code l count e = by_place (place_at code l) refl e
  where
    other : None ≡ Some count → HasAssume code l count
    other e = absurd (none-some count e)

    by_instr : (p : Place) → place_at code l ≡ Some p → (i : VInstr) → p.instr ≡ i → guard_count i ≡ Some count → HasAssume code l count
    by_instr p at (Assume g b t n) is e =
        record { place = p; at = at; guards = g; number = b; target = t; next = n; instr = is; count_is = same_Some (length g) count e }
    by_instr p at (Anchor b t n) is e = other e
    by_instr p at (Nop n) is e = other e
    by_instr p at (Op d x n) is e = other e
    by_instr p at (Move ps n) is e = other e
    by_instr p at (Cond t x y) is e = other e
    by_instr p at (Call d f args n) is e = other e
    by_instr p at (Return v) is e = other e
    by_instr p at (Print v n) is e = other e
    by_instr p at (Load d x n) is e = other e
    by_instr p at (Store x y n) is e = other e
    by_instr p at (Fail f k) is e = other e

    by_place : (o : Option Place) → place_at code l ≡ o → count_in o ≡ Some count → HasAssume code l count
    by_place None at e = other e
    by_place (Some p) at e = by_instr p at p.instr refl e

pub room_for_more : (code : Code) (anchor : Label) (count own : ℕ) → full_offence code anchor count (Some own) ≡ None → own + count ≤ 8
unfolding full_offence
room_for_more code anchor count own e = few_guards (own + count) e

-- for a fresh Assume
pub record HasRoom (code : Code) (anchor : Label) (count : ℕ) : Type 0 where
  pub guards : count ≤ 8
  pub row : fresh_row code anchor ≤ 8
  pub labels : length code.places + 1 ≤ 512

pub room_for_fresh : (code : Code) (anchor : Label) (count : ℕ) → full_offence code anchor count None ≡ None → HasRoom code anchor count
unfolding full_offence
room_for_fresh code anchor count e =
    let h = no_offence (guards_offence count) (room_offence (fresh_row code anchor) (length code.places + 1)) e in
    let room = has_room (fresh_row code anchor) (length code.places + 1) h.1 in
    record { guards = few_guards count h.0; row = room.0; labels = room.1 }
