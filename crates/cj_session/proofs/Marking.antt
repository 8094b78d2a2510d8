-- The part of a mark: what was counted, and the level that the count asks for.
use Rattle.std.proofs.Common.{◌≡◌, ◌≢◌, ◌∙◌, refl, sym, ap, subst, arith, if◌then◌else◌}
use Rattle.std.proofs.Common.{ℕ, suc, ◌+◌, ◌%◌, ◌^◌, ◌<◌, ◌==◌, eq-eqb, ne_eqb, ℤ}
use Rattle.std.proofs.Common.{List, [], ◌∷◌, ◌++◌, append-nil, append_assoc, Option, Some, None}
use Rattle.cj_ir.specs.declared.language.FunId.{FunId}
use Rattle.cj_profile.specs.declared.view.Read.{Read}
use Rattle.cj_profile.specs.declared.layout.Word.TheVariants as word
use Rattle.cj_profile.specs.declared.profile.ProfileSeat.{ProfileSeat}
use Rattle.cj_profile.specs.Reads.{add_one, raise, EnteredPart}
use Rattle.cj_profile.specs.Seats.{reads_of, Adds, AddsPart}
use Rattle.cj_machine.specs.Marks.{Entered, FailedIn}
use Rattle.cj_parts.specs.Parts.{level_at_calls, level_at_fails, AskPart, MarkPart}

-- the value found before a count
before : (found count n : ℕ) → found < 2 ^ 64 → count ≡ (found + 1) % 2 ^ 64 → n < 1000 → count ≡ suc n → found ≡ n
before found count n low is small at = omega arith

after : (found count n : ℕ) → found < 2 ^ 64 → count ≡ (found + 1) % 2 ^ 64 → n < 1000 → count ≢ suc n → found ≢ n
after found count n low is small other e = other (omega arith)

level_some : (found n : ℕ) (rest : Option ℕ) (level : ℕ) → found ≡ n → (if found == n then Some level else rest) ≡ Some level
level_some found n rest level e = ap (λ b. if b then Some level else rest) (eq-eqb found n e)

level_rest : (found n : ℕ) (rest : Option ℕ) (level : ℕ) → found ≢ n → (if found == n then Some level else rest) ≡ rest
level_rest found n rest level e = ap (λ b. if b then Some level else rest) (ne_eqb found n e)

one_asked : (f : FunId) (level asked : ℕ) (at : Option ℕ) → at ≡ Some level → AskPart f at (raise (word.Asked f) asked level ∷ [])
one_asked f level asked at e = subst (λ (o : Option ℕ). AskPart f o (raise (word.Asked f) asked level ∷ [])) (sym e) (asked, refl)

none_asked : (f : FunId) (at : Option ℕ) → at ≡ None → AskPart f at []
none_asked f at e = subst (λ (o : Option ℕ). AskPart f o []) (sym e) refl

-- the seat asked for a level of the function
abbrev Asks : FunId → ℕ → ProfileSeat → ProfileSeat → Type 0
Asks f level old new = (found : ℕ) × (found < 2 ^ 64) × Adds (raise (word.Asked f) found level ∷ []) old new

module _ (f : FunId) (args : List ℤ) (old mid : ProfileSeat) (count : ℕ)
    (h : (found : ℕ) × (found < 2 ^ 64) × (count ≡ (found + 1) % 2 ^ 64) × AddsPart (EnteredPart f args found) old mid) where
  at_level : (level : ℕ) → level_at_calls h.0 ≡ Some level → (new : ProfileSeat) → Asks f level mid new
      → AddsPart (MarkPart (Entered f args)) old new
  at_level level is new k =
      let ask : List Read = raise (word.Asked f) k.0 level ∷ [] in
      let part = h.3 in
      let reads : reads_of new ≡ reads_of old ++ (part.0 ++ ask) =
      k.2 ∙ (ap (λ l. l ++ ask) part.2 ∙ append_assoc (reads_of old) part.0 ask) in
      (part.0 ++ ask, (h.0, part.0, ask, part.1, one_asked f level k.0 (level_at_calls h.0) is, refl), reads)

  pub entered_asks_one : (new : ProfileSeat) → count ≡ 8 → Asks f 1 mid new → AddsPart (MarkPart (Entered f args)) old new
  unfolding level_at_calls
  entered_asks_one new is k =
      let seven : h.0 ≡ 7 = before h.0 count 7 h.1 h.2 (omega arith) is in
      at_level 1 (level_some h.0 7 (if h.0 == 63 then Some 2 else None) 1 seven) new k

  pub entered_asks_two : (new : ProfileSeat) → count ≢ 8 → count ≡ 64 → Asks f 2 mid new
      → AddsPart (MarkPart (Entered f args)) old new
  unfolding level_at_calls
  entered_asks_two new other is k =
      let not_seven : h.0 ≢ 7 = after h.0 count 7 h.1 h.2 (omega arith) other in
      let last : h.0 ≡ 63 = before h.0 count 63 h.1 h.2 (omega arith) is in
      at_level 2 (level_rest h.0 7 (if h.0 == 63 then Some 2 else None) 1 not_seven ∙ level_some h.0 63 None 2 last) new k

  pub entered_asks_none : count ≢ 8 → count ≢ 64 → AddsPart (MarkPart (Entered f args)) old mid
  unfolding level_at_calls
  entered_asks_none one two =
      let not_seven : h.0 ≢ 7 = after h.0 count 7 h.1 h.2 (omega arith) one in
      let not_last : h.0 ≢ 63 = after h.0 count 63 h.1 h.2 (omega arith) two in
      let none : level_at_calls h.0 ≡ None =
      level_rest h.0 7 (if h.0 == 63 then Some 2 else None) 1 not_seven ∙ level_rest h.0 63 None 2 not_last in
      let part = h.3 in
      (part.0, (h.0, part.0, [], part.1, none_asked f (level_at_calls h.0) none, sym (append-nil part.0)), part.2)

module _ (f : FunId) (old mid : ProfileSeat) (count : ℕ)
    (h : (found : ℕ) × (found < 2 ^ 64) × (count ≡ (found + 1) % 2 ^ 64) × Adds (add_one (word.Failures f) found ∷ []) old mid) where
  pub failed_asks : (new : ProfileSeat) → count ≡ 3 → Asks f 3 mid new → AddsPart (MarkPart (FailedIn f)) old new
  unfolding level_at_fails
  failed_asks new is k =
      let ask : List Read = raise (word.Asked f) k.0 3 ∷ [] in
      let level : level_at_fails h.0 ≡ Some 3 = level_some h.0 2 None 3 (before h.0 count 2 h.1 h.2 (omega arith) is) in
      let counted : List Read = add_one (word.Failures f) h.0 ∷ [] in
      let reads : reads_of new ≡ reads_of old ++ (add_one (word.Failures f) h.0 ∷ ask) =
      k.2 ∙ (ap (λ l. l ++ ask) h.3 ∙ append_assoc (reads_of old) counted ask) in
      (add_one (word.Failures f) h.0 ∷ ask, (h.0, ask, one_asked f 3 k.0 (level_at_fails h.0) level, refl), reads)

  pub failed_asks_none : count ≢ 3 → AddsPart (MarkPart (FailedIn f)) old mid
  unfolding level_at_fails
  failed_asks_none other =
      let none : level_at_fails h.0 ≡ None = level_rest h.0 2 None 3 (after h.0 count 2 h.1 h.2 (omega arith) other) in
      (add_one (word.Failures f) h.0 ∷ [], (h.0, [], none_asked f (level_at_fails h.0) none, refl), h.3)
