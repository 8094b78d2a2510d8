-- Items that differ, told one after the other.
use Rattle.std.proofs.Common.{subst, sym, List, [], ◌∷◌, ◌++◌, All, append-nil, append_assoc, arith}
use Rattle.std.specs.Prelude.{◌≢◌, ⊤}
use Rattle.std.proofs.lemmas.List.Elements.{All-get_or}
use Rattle.std.proofs.lemmas.List.Quantifiers.{all_pairs_push}
use Rattle.cj_ir.specs.WellFormed.{AllDifferBy}

-- none of the items has the key of an earlier one
abbrev pub AreNewBy : {A B : Type 0} → (A → B) → List A → List A → Type 0
AreNewBy key earlier [] = ⊤
AreNewBy key earlier (x ∷ xs) = All (λ other. key other ≢ key x) earlier × AreNewBy key (earlier ++ x ∷ []) xs

behind : {A B : Type 0} (key : A → B) (earlier xs : List A) → AllDifferBy key earlier → AreNewBy key earlier xs → AllDifferBy key (earlier ++ xs)
behind {A} key earlier [] before new = subst (λ (zs : List A). AllDifferBy key zs) (sym (append-nil earlier)) before
behind {A} key earlier (x ∷ xs) before new =
    let P : A → Type 0 = λ other. key other ≢ key x in
    let more : AllDifferBy key (earlier ++ x ∷ []) = all_pairs_push (λ (a b : A). key a ≢ key b) earlier x before
    (λ k d below. All-get_or P earlier k d below new.0) in
    subst (λ (zs : List A). AllDifferBy key zs) (append_assoc earlier (x ∷ []) xs) (behind key (earlier ++ x ∷ []) xs more new.1)

none_differ : {A B : Type 0} (key : A → B) → AllDifferBy {A = A} key []
none_differ key i j d before below = absurd (omega arith)

-- then all of them differ
pub differing : {A B : Type 0} (key : A → B) (xs : List A) → AreNewBy key [] xs → AllDifferBy key xs
differing key xs new = behind key [] xs (none_differ key) new
