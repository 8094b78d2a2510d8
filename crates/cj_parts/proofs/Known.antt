-- What R, the map of the regions that a seat has read whole, has.
use Rattle.std.proofs.Common.{◌≡◌, ◌∙◌, refl, sym, ap, arith, inl, inr, ⊎_elim, ℕ, Bool, true, false, if◌then◌else◌, ◌&&◌}
use Rattle.std.proofs.Common.{List, [], ◌∷◌, length, Option, Some, None}
use Rattle.std.specs.Prelude.{◌==◌}
use Rattle.std.specs.Option.{option_and_then}
use Rattle.std.proofs.lemmas.Bool.Decides.{nat_tests}
use Rattle.cj_ir.specs.declared.language.FunId.{FunId}
use Rattle.cj_draft.specs.declared.code.Code.{Code}
use Rattle.cj_codec.specs.Reading.{decoded}
use Rattle.cj_codec.proofs.CodeFormats.{decoded_exactly}
use Rattle.cj_machine.specs.Versions.{Codes}
use Rattle.cj_machine.specs.CodeMaps.{Grows}
use Rattle.cj_publish.specs.declared.view.Cell.{Cell}
use Rattle.cj_publish.specs.declared.view.Region.{Region}
use Rattle.cj_publish.specs.declared.view.View.{View}
use Rattle.cj_publish.specs.Words.{Has}
use Rattle.cj_publish.specs.Plays.{IsReliable}
use Rattle.cj_publish.specs.Calls.{ReadWhole}
use Rattle.cj_publish.specs.Fetched.{main_of, HasVersion}
use Rattle.cj_publish.specs.Learns.{Learns}
use Rattle.cj_parts.specs.Known.{is_whole_at, words_at, known_codes, AreIn}

four : (a b c d e f g h : ℕ) → ((a == b) && ((c == d) && ((e == f) && (g == h)))) ≡ true → (a ≡ b) × (c ≡ d) × (e ≡ f) × (g ≡ h)
four a b c d e f g h is = (grind (arith, nat_tests), grind (arith, nat_tests), grind (arith, nat_tests), grind (arith, nat_tests))

all_four : (a b c d e f g h : ℕ) → a ≡ b → c ≡ d → e ≡ f → g ≡ h → ((a == b) && ((c == d) && ((e == f) && (g == h)))) ≡ true
all_four a b c d e f g h p q r s = grind (arith, nat_tests)

-- a whole region is found, or another one at the same offset
pub first_whole : (c : Cell) (offset : ℕ) (rs : List Region) (x : Region) → Has rs x → is_whole_at c offset x ≡ true
    → (y : Region) × Has rs y × (y.offset ≡ offset) × (length y.read ≡ y.len) × (words_at c offset rs ≡ Some y.read)
unfolding words_at
first_whole c offset [] x here is = absurd here
first_whole c offset (r ∷ rs) x here is = by (is_whole_at c offset r) refl (first_whole c offset rs x)
  where
    Later : Type 0
    Later =
        Has rs x → is_whole_at c offset x ≡ true → (y : Region) × Has rs y × (y.offset ≡ offset) × (length y.read ≡ y.len)
        × (words_at c offset rs ≡ Some y.read)

    Found : Type 0
    Found =
        (y : Region) × Has (r ∷ rs) y × (y.offset ≡ offset) × (length y.read ≡ y.len)
        × ((if is_whole_at c offset r then Some r.read else words_at c offset rs) ≡ Some y.read)

    by : (b : Bool) → is_whole_at c offset r ≡ b → Later → Found
    by true at later =
        let q = four r.cell.function.0 c.function.0 r.cell.slot c.slot r.offset offset (length r.read) r.len at in
        (r, inl refl, q.2, q.3, ap (λ (b : Bool). if b then Some r.read else words_at c offset rs) at)
    by false at later = ⊎_elim
        (λ (e : r ≡ x). let never : false ≡ true = sym at ∙ (ap (is_whole_at c offset) e ∙ is) in absurd cc)
        (λ (t : Has rs x). let q = later t is in (q.0, inr q.1, q.2, q.3, ap (λ (b : Bool). if b then Some r.read else words_at c offset rs) at ∙ q.4))
        here

-- a version that was read whole is the one that the map has
pub code_is : (v : View) (f : FunId) (offset : ℕ) (code : Code) → IsReliable v → HasVersion v (main_of f) offset code → known_codes v f offset ≡ Some code
unfolding known_codes
code_is v f offset code ok h =
    let x : Region = h.1.0 in
    let cell = h.1.2 in
    let at = h.1.3 in
    let len = h.1.4 in
    let read = h.1.5 in
    let count : length x.read ≡ length h.0 = ap length read in
    let whole : length x.read ≡ x.len = omega arith in
    let is = all_four x.cell.function.0 f.0 x.cell.slot 0 x.offset offset (length x.read) x.len
    (ap (λ (c : Cell). c.function.0) cell) (ap (λ (c : Cell). c.slot) cell) at whole in
    let y = first_whole (main_of f) offset v.regions x h.1.1 is in
    let same = (ok.sound.agree x y.0 h.1.1 y.1 (at ∙ sym y.2)).1 whole y.3 in
    ap (option_and_then decoded) (y.4 ∙ ap (λ (ws : List ℕ). Some ws) (sym same ∙ read)) ∙ (decoded_exactly h.0 (decoded h.0) refl code).1 h.2

-- and the map has no other
found_at : (c : Cell) (offset : ℕ) (rs : List Region) (words : List ℕ) → words_at c offset rs ≡ Some words
    → (x : Region) × Has rs x × (is_whole_at c offset x ≡ true) × (x.read ≡ words)
unfolding words_at
found_at c offset [] words e = let never : None ≡ Some words = e in absurd cc
found_at c offset (r ∷ rs) words e = by (is_whole_at c offset r) refl e (found_at c offset rs words)
  where
    by : (b : Bool) → is_whole_at c offset r ≡ b → (if b then Some r.read else words_at c offset rs) ≡ Some words
        → (words_at c offset rs ≡ Some words → (x : Region) × Has rs x × (is_whole_at c offset x ≡ true) × (x.read ≡ words))
        → (x : Region) × Has (r ∷ rs) x × (is_whole_at c offset x ≡ true) × (x.read ≡ words)
    by true at here rest = (r, inl refl, at, cc)
    by false at later rest = let q = rest later in (q.0, inr q.1, q.2, q.3)

-- the cell with these parts
cell_is : (x : Region) (f : FunId) → x.cell.function.0 ≡ f.0 → x.cell.slot ≡ 0 → x.cell ≡ main_of f
cell_is x f e s = λ i. record { function = record { 0 = e i }; slot = s i }

pub known_in : (v : View) → AreIn v (known_codes v)
unfolding known_codes
known_in v f offset code e = by (words_at (main_of f) offset v.regions) refl e
  where
    by : (o : Option (List ℕ)) → words_at (main_of f) offset v.regions ≡ o → option_and_then decoded o ≡ Some code → HasVersion v (main_of f) offset code
    by None at is = let never : None ≡ Some code = is in absurd cc
    by (Some words) at is =
        let q = found_at (main_of f) offset v.regions words at in
        let x : Region = q.0 in
        let p = four x.cell.function.0 f.0 x.cell.slot 0 x.offset offset (length x.read) x.len q.2 in
        let count : length x.read ≡ length words = ap length q.3 in
        let whole = p.3 in
        let whole : ReadWhole v (main_of f) offset words = (x, q.1, cell_is x f p.0 p.1, p.2, sym whole ∙ count, q.3) in
        (words, whole, (decoded_exactly words (decoded words) refl code).0 is)

-- codes that were read whole are among those of every later view
pub in_later : (v w : View) (codes : Codes) → Learns v w → AreIn v codes → AreIn w codes
in_later v w codes g h f offset code e = let x = h f offset code e in (x.0, g.whole (main_of f) offset x.0 x.1, x.2)

pub in_known : (v : View) (codes : Codes) → IsReliable v → AreIn v codes → Grows codes (known_codes v)
in_known v codes ok h f offset code e = code_is v f offset code ok (h f offset code e)

pub codes_grow : (v w : View) → Learns v w → IsReliable w → Grows (known_codes v) (known_codes w)
codes_grow v w g ok = in_known w (known_codes v) ok (in_later v w (known_codes v) g (known_in v))
