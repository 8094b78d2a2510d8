-- The steps of a run tell its marks, and the levels that they ask for.
use Rattle.std.proofs.Common.{◌≡◌, ◌≢◌, ◌∙◌, refl, sym, ap, subst, arith, ne_eqb, ℕ, ◌+◌, ◌≤◌, ◌==◌, if◌then◌else◌, Option, Some, None, ℤ}
use Rattle.std.proofs.Common.{List, [], ◌∷◌, ◌++◌, length, append-nil, append_assoc, length-append}
use Rattle.std.specs.List.{AllZip}
use Rattle.cj_ir.specs.declared.language.FunId.{FunId}
use Rattle.cj_profile.specs.declared.view.Read.{Read}
use Rattle.cj_profile.specs.declared.layout.Word.TheVariants as word
use Rattle.cj_profile.specs.Reads.{add_one, raise, EnteredPart}
use Rattle.cj_machine.specs.Marks.{Mark, Entered, Branched, FailedIn}
use Rattle.cj_parts.specs.Parts.{InParts, Among, level_at_calls, level_at_fails, AskPart, MarkPart, Counts}

-- ---- in order

among_behind : {A : Type 0} (xs before ys : List A) → Among xs ys → Among xs (before ++ ys)
among_behind [] before ys h = tt
among_behind (x ∷ xs) before ys h =
    (before ++ h.0, h.1, ap (λ (l : List _). before ++ l) h.2 ∙ sym (append_assoc before h.0 (x ∷ h.1)), h.3)

among_short : {A : Type 0} (xs ys : List A) → Among xs ys → length xs ≤ length ys
among_short [] ys h = omega arith
among_short (x ∷ xs) ys h =
    let whole = ap length h.2 ∙ length-append h.0 (x ∷ h.1) in
    let rest = among_short xs h.1 h.3 in
    omega arith

-- as many as there are, in order, are all
pub among_all : {A : Type 0} (xs ys : List A) → Among xs ys → length ys ≤ length xs → xs ≡ ys
among_all [] [] h few = refl
among_all [] (y ∷ ys) h few = absurd (omega (arith, few))
among_all {A} (x ∷ xs) ys h few = by h.0 h.2 (among_all xs h.1 h.3)
  where
    by : (before : List A) → ys ≡ before ++ x ∷ h.1 → (length h.1 ≤ length xs → xs ≡ h.1) → x ∷ xs ≡ ys
    by [] e rest = ap (λ (l : List A). x ∷ l) (rest (let whole = ap length e in omega arith)) ∙ sym e
    by (b ∷ before) e rest =
        let whole : length ys ≡ length (b ∷ before) + length (x ∷ h.1) = ap length e ∙ length-append (b ∷ before) (x ∷ h.1) in
        let short = among_short xs h.1 h.3 in
        absurd (omega arith)

-- ---- each mark is counted

first_step : (m : Mark) (rs : List Read) → MarkPart m rs → (r : Read) × (rest : List Read) × Counts m r × (rs ≡ r ∷ rest)
first_step (Entered f args) rs h =
    (add_one (word.Calls f) h.0, h.3.0 ++ h.2, (h.0, refl), h.5 ∙ ap (λ (l : List Read). l ++ h.2) h.3.2)
first_step (Branched f label edge) rs h = (add_one (word.Way f label edge) h.0, [], (h.0, refl), h.1)
first_step (FailedIn f) rs h = (add_one (word.Failures f) h.0, h.1, (h.0, refl), h.3)

pub all_counted : (marks : List Mark) (rs : List Read) → InParts MarkPart marks rs
    → (counts : List Read) × AllZip Counts marks counts × Among counts rs
all_counted [] rs h = ([], tt, tt)
all_counted (m ∷ marks) rs h =
    let one = first_step m h.0 h.2 in
    let more = all_counted marks h.1 h.3 in
    (one.0 ∷ more.0, (one.2, more.1), ([], one.1 ++ h.1, h.4 ∙ ap (λ (l : List Read). l ++ h.1) one.3, among_behind more.0 one.1 h.1 more.2))

-- ---- the levels

at_count : (found n : ℕ) (some rest : Option ℕ) → found ≢ n → (if found == n then some else rest) ≡ rest
at_count found n some rest other = ap (λ b. if b then some else rest) (ne_eqb found n other)

module _ (f : FunId) (args : List ℤ) (rs : List Read) (h : MarkPart (Entered f args) rs) where
  asks : (level n : ℕ) → level_at_calls n ≡ Some level → h.0 ≡ n → (asked : ℕ) × (rs ≡ h.1 ++ raise (word.Asked f) asked level ∷ [])
  asks level n at e =
      let k : AskPart f (Some level) h.2 = subst (λ (o : Option ℕ). AskPart f o h.2) (ap level_at_calls e ∙ at) h.4 in
      (k.0, h.5 ∙ ap (λ (l : List Read). h.1 ++ l) k.1)

  pub entry_asks : (found : ℕ) × (counts : List Read) × EnteredPart f args found counts
      × (found + 1 ≡ 8 → (asked : ℕ) × (rs ≡ counts ++ raise (word.Asked f) asked 1 ∷ []))
      × (found + 1 ≡ 64 → (asked : ℕ) × (rs ≡ counts ++ raise (word.Asked f) asked 2 ∷ []))
      × (found + 1 ≢ 8 → found + 1 ≢ 64 → rs ≡ counts)
  unfolding level_at_calls
  entry_asks = (
    h.0,
    h.1,
    h.3,
    λ e. asks 1 7 refl (omega (arith, e)),
    λ e. asks 2 63 refl (omega (arith, e)),
    λ one two.
        let none : level_at_calls h.0 ≡ None = at_count h.0 7 (Some 1) (if h.0 == 63 then Some 2 else None) (λ e. one (omega (arith, e)))
        ∙ at_count h.0 63 (Some 2) None (λ e. two (omega (arith, e))) in
        let empty : h.2 ≡ [] = subst (λ (o : Option ℕ). AskPart f o h.2) none h.4 in
        h.5 ∙ ap (λ (l : List Read). h.1 ++ l) empty ∙ append-nil h.1,
  )

module _ (f : FunId) (rs : List Read) (h : MarkPart (FailedIn f) rs) where
  pub failure_asks : (found : ℕ)
      × (found + 1 ≡ 3 → (asked : ℕ) × (rs ≡ add_one (word.Failures f) found ∷ raise (word.Asked f) asked 3 ∷ []))
      × (found + 1 ≢ 3 → rs ≡ add_one (word.Failures f) found ∷ [])
  unfolding level_at_fails
  failure_asks = (
    h.0,
    λ e.
        let two : h.0 ≡ 2 = omega (arith, e) in
        let k : AskPart f (Some 3) h.1 = subst (λ (n : ℕ). AskPart f (level_at_fails n) h.1) two h.2 in
        (k.0, h.3 ∙ ap (λ (l : List Read). add_one (word.Failures f) h.0 ∷ l) k.1),
    λ other.
        let none : level_at_fails h.0 ≡ None = at_count h.0 2 (Some 3) None (λ e. other (omega (arith, e))) in
        let empty : h.1 ≡ [] = subst (λ (o : Option ℕ). AskPart f o h.1) none h.2 in
        h.3 ∙ ap (λ (l : List Read). add_one (word.Failures f) h.0 ∷ l) empty,
  )
