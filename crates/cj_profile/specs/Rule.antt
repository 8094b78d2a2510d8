-- The rule of a profile's words, which holds between any two steps: asked levels are 0 to 3. It says nothing of counts,
-- but that the only seat there ever was has itself made whatever stands in the words, which were 0 at first.
use Rattle.std.specs.Prelude.{◌≡◌, ℕ, ◌+◌, ◌%◌, ◌^◌, ◌<◌, ◌≤◌, ◌==◌, max, Bool, true, false, Option, Some, None, [], ◌∷◌, ◌++◌, length, slice_index}
use Rattle.std.specs.Prelude.{if◌then◌else◌}
use mathlib.Core.Option.{some}
use lib.ListN.{get_elem?}
use Rattle.atomic_table.specs.Table.{State, Me, Step}
use Rattle.cj_ir.specs.declared.language.FunId.{FunId}
use Rattle.cj_ir.specs.declared.language.Program.{Program}
use Rattle.cj_profile.specs.Words.{number, word_count}
use Rattle.cj_profile.specs.Starts.{left_in, Finds}
use Rattle.cj_profile.specs.declared.layout.Word.TheVariants.{Asked}
use Rattle.cj_profile.specs.declared.view.Read.{Read}
use Rattle.cj_profile.specs.declared.view.View.{View}

-- there is no other seat, and each word is what the steps of this one made of 0
abbrev pub IsSoleIn : {S : Type 0} → State S View → View → Type 0
IsSoleIn s v = (length s.views ≡ 1) × ((i : ℕ) → i < length s.words → slice_index s.words i ≡ left_in i 0 v.reads)

-- The view that a joined seat leaves names no program.
pub record Ruled {S : Type 0} (p : Program) (s : State S View) : Type 0 where
  pub sized : length s.words ≡ word_count p
  pub asked : (f : FunId) → f.0 < length p.functions → slice_index s.words (number (Asked f)) ≤ 3
  pub views : (j : ℕ) (v : View) → get_elem? s.views j ≡ some v → v.live ≡ true → v.program ≡ p
  pub sole : (j : ℕ) (v : View) → get_elem? s.views j ≡ some v → v.sole ≡ true → IsSoleIn s v

-- the view of the first seat, of one from which another was split off, of that other, of one that took in another, and of
-- that other
abbrev pub fresh : Program → View
fresh p = record { live = true; sole = true; program = p; reads = []; joined = []; splits = 0 }

abbrev pub shared : View → View
shared v = record v { sole = false; splits = v.splits + 1 }

abbrev pub given : View → View
given v = record v { sole = false; reads = []; joined = []; splits = 0 }

abbrev pub joined_view : View → View → View
joined_view v w = record v { joined = v.joined ++ w.reads ∷ w.joined; splits = v.splits + w.splits }

abbrev pub spent_view : View
spent_view = record { live = false; sole = false; program = record { functions = [] }; reads = []; joined = []; splits = 0 }

-- a step appends its entry to the seat's reads
pub record Follows (v w : View) (r : Read) : Type 0 where
  pub live : w.live ≡ v.live
  pub sole : w.sole ≡ v.sole
  pub program : w.program ≡ v.program
  pub reads : w.reads ≡ v.reads ++ r ∷ []
  pub joined : w.joined ≡ v.joined
  pub splits : w.splits ≡ v.splits

-- the only seat finds what its own steps have left
abbrev pub FindsOwn : {S : Type 0} → Step S → Me S View → Option ℕ → Type 0
FindsOwn st m found = m.0.sole ≡ true → st.word < word_count m.0.program → Finds m.0.reads st.word found

-- the seat keeps how many seats were split off it; off one that is not the first there were none
pub record IsCounted (v : View) (first : Bool) (splits : ℕ) : Type 0 where
  pub count : v.splits ≡ splits
  pub later : first ≡ false → splits ≡ 0

-- The kinds of step.

abbrev pub Entry : {S : Type 0} → Step S → Me S View → Option ℕ → ℕ → Me S View → Type 0
Entry st m found left m' = Follows m.0 m'.0 (record { word = st.word; found = found; left = left }) × (m'.1 ≡ m.1)

abbrev pub loaded : {S : Type 0} → Step S → Me S View → ℕ → Me S View → Type 0
loaded st m r m' =
    Entry st m (Some r) r m' × ((f : FunId) → f.0 < length m.0.program.functions → st.word ≡ number (Asked f) → r ≤ 3) × FindsOwn st m (Some r)

abbrev pub stored : {S : Type 0} → Step S → Me S View → ℕ → Me S View → Type 0
stored st m r m' = Entry st m None st.first m'

abbrev pub added : {S : Type 0} → Step S → Me S View → ℕ → Me S View → Type 0
added st m r m' = Entry st m (Some r) ((r + st.first) % 2 ^ 64) m' × FindsOwn st m (Some r)

abbrev pub raised : {S : Type 0} → Step S → Me S View → ℕ → Me S View → Type 0
raised st m r m' = Entry st m (Some r) (max r st.first) m' × FindsOwn st m (Some r)

abbrev pub exchanged : {S : Type 0} → Step S → Me S View → ℕ → Me S View → Type 0
exchanged st m r m' = Entry st m (Some r) (if r == st.first then st.second else r) m' × FindsOwn st m (Some r)
