-- The steps of the loops over assignments and guards.
use Rattle.std.proofs.Common.{◌≡◌, ℕ, ◌+◌, ◌<◌, ◌≤◌, Bool, true, false, List, [], ◌∷◌, length, drop, get_or, Option, Some, None, refl, sym, ap, ◌∙◌, arith}
use Rattle.std.specs.Prelude.{ℤ, All, slice_set}
use Rattle.std.proofs.lemmas.List.{drop_all}
use Rattle.cj_ir.specs.declared.language.Guard.{Guard}
use Rattle.cj_draft.specs.declared.instructions.Pair.{Pair}
use Rattle.cj_const.specs.Knowledge.{Knowledge, with_known, known, known_value}
use Rattle.cj_const.specs.Flow.{after_move, with_guard, with_guards}
use Rattle.cj_const.specs.Search.{arrived}
use Rattle.cj_const.proofs.Rows.{drop-at, known_after}

pub move-more : (row items made new : List (Option ℤ)) (pairs : List Pair) (i : ℕ) (d : Pair) (now : Option ℤ) (all : Knowledge) → i < length pairs →
    All (λ pair. pair.dest.0 < length row) pairs → length made ≡ length row → new ≡ slice_set made (get_or pairs i d).dest.0 now →
    now ≡ known_value (known items) (get_or pairs i d).value → items ≡ row → after_move (known row) (drop i pairs) (known made) ≡ all →
    after_move (known row) (drop (i + 1) pairs) (known new) ≡ all
unfolding after_move
move-more row items made new pairs i d now all h within width set value same left =
    let k : Knowledge = known row in
    let pair : Pair = get_or pairs i d in
    let inside : pair.dest.0 < length made = omega (arith, within i d h, width) in
    let is : known new ≡ with_known (known made) pair.dest.0 (known_value k pair.value) = known_after made new pair.dest.0 now set inside
    ∙ ap (with_known (known made) pair.dest.0) (value ∙ ap (λ (xs : List (Option ℤ)). known_value (known xs) pair.value) same) in
    ap (after_move k (drop (i + 1) pairs)) is
    ∙ sym (ap (λ (ps : List Pair). after_move k ps (known made)) (drop-at pairs i d h))
    ∙ left

pub move-all : (k : Knowledge) (pairs : List Pair) (i : ℕ) (now all : Knowledge) → length pairs ≤ i → after_move k (drop i pairs) now ≡ all → now ≡ all
unfolding after_move
move-all k pairs i now all h left = sym (ap (λ (ps : List Pair). after_move k ps now) (drop_all i pairs h)) ∙ left

pub guards-none : (guards : List Guard) → with_guards guards None ≡ None
unfolding with_guards
guards-none [] = refl
guards-none (guard ∷ guards) = guards-none guards

guard-next : (guards : List Guard) (i : ℕ) (d : Guard) (k : Knowledge) (all : Option Knowledge) → i < length guards →
    with_guards (drop i guards) (Some k) ≡ all → with_guards (drop (i + 1) guards) (with_guard (get_or guards i d) k) ≡ all
unfolding with_guards
guard-next guards i d k all h left = sym (ap (λ (gs : List Guard). with_guards gs (Some k)) (drop-at guards i d h)) ∙ left

pub guard-more : (guards : List Guard) (i : ℕ) (d : Guard) (k : Knowledge) (row : List (Option ℤ)) (holds : Bool) (all : Option Knowledge) →
    i < length guards → holds ≡ true → arrived holds row ≡ with_guard (get_or guards i d) k → with_guards (drop i guards) (Some k) ≡ all →
    with_guards (drop (i + 1) guards) (Some (known row)) ≡ all
guard-more guards i d k row holds all h e is left =
    ap (with_guards (drop (i + 1) guards)) (sym (ap (λ b. arrived b row) e) ∙ is) ∙ guard-next guards i d k all h left

pub guard-fails : (guards : List Guard) (i : ℕ) (d : Guard) (k : Knowledge) (row : List (Option ℤ)) (holds : Bool) (all : Option Knowledge) →
    i < length guards → holds ≡ false → arrived holds row ≡ with_guard (get_or guards i d) k → with_guards (drop i guards) (Some k) ≡ all → None ≡ all
guard-fails guards i d k row holds all h e is left =
    sym (guards-none (drop (i + 1) guards))
    ∙ ap (with_guards (drop (i + 1) guards)) (sym (ap (λ b. arrived b row) e) ∙ is)
    ∙ guard-next guards i d k all h left

pub guards-all : (guards : List Guard) (i : ℕ) (known all : Option Knowledge) → length guards ≤ i → with_guards (drop i guards) known ≡ all → known ≡ all
unfolding with_guards
guards-all guards i known all h left = sym (ap (λ (gs : List Guard). with_guards gs known) (drop_all i guards h)) ∙ left
