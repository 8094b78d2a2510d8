-- What is found among the keywords.
use Rattle.std.proofs.Common.{◌≡◌, ◌<◌, ◌≤◌, ℕ, ◌+◌, Bool, true, false, cond, List, [], ◌∷◌, length, get_or, refl, sym, ◌∙◌, arith}
use Rattle.std.specs.Prelude.{◌&&◌, ◌||◌, not, nat_eq, Option, None, Some, is_some}
use Rattle.std.proofs.lemmas.Bool.{not-true, and_parts}
use Rattle.std.specs.List.{list_any, list_all, position_from, enumerate_from, filter}
use Rattle.std.specs.Str.{bytes_eq}
use Rattle.cj_ir.specs.Texts.{keywords, keyword_place, is_keyword, begins_with, keywords_from, place_of}

-- a word stands among those that begin as it does where it stands among all
beginning_places : (b : ℕ) (bs : List ℕ) (n : ℕ) (ws : List (List ℕ)) →
    place_of (filter (λ e. begins_with b e.1) (enumerate_from n ws)) (b ∷ bs) ≡ position_from (λ w. bytes_eq w (b ∷ bs)) n ws
beginning_places b bs n [] = refl
beginning_places b bs n ([] ∷ ws) = beginning_places b bs (n + 1) ws
beginning_places b bs n ((c ∷ cs) ∷ ws) = go (nat_eq c b) refl (beginning_places b bs (n + 1) ws)
  where
    rest : List (ℕ × List ℕ)
    rest = filter (λ e. begins_with b e.1) (enumerate_from (n + 1) ws)

    go : (v : Bool) → nat_eq c b ≡ v → place_of rest (b ∷ bs) ≡ position_from (λ w. bytes_eq w (b ∷ bs)) (n + 1) ws →
        place_of (cond v ((n, c ∷ cs) ∷ rest) rest) (b ∷ bs) ≡ position_from (λ w. bytes_eq w (b ∷ bs)) n ((c ∷ cs) ∷ ws)
    go true e i = rw i refl
    go false e i = rw e i

pub first_places : (word : List ℕ) → 1 ≤ length word → place_of (keywords_from (get_or word 0 0)) word ≡ keyword_place word
unfolding keywords_from keyword_place
first_places [] h = absurd (omega arith)
first_places (b ∷ bs) h = beginning_places b bs 0 keywords

found_in : (test : List ℕ → Bool) (n : ℕ) (ws : List (List ℕ)) → is_some (position_from test n ws) ≡ list_any test ws
found_in test n [] = refl
found_in test n (w ∷ ws) = go (test w) (found_in test (n + 1) ws)
  where
    go : (v : Bool) → is_some (position_from test (n + 1) ws) ≡ list_any test ws → is_some (cond v (Some n) (position_from test (n + 1) ws))
        ≡ (v || list_any test ws)
    go true i = refl
    go false i = i

pub keyword_has_place : (word : List ℕ) → is_some (keyword_place word) ≡ is_keyword word
unfolding keyword_place
keyword_has_place word = found_in (λ w. bytes_eq w word) 0 keywords

-- the byte begins no keyword
abbrev pub begins_none : ℕ → List (ℕ × List ℕ) → Bool
begins_none b table = list_all (λ e. not (begins_with b e.1)) table

pub none_beginning : (b : ℕ) (table : List (ℕ × List ℕ)) → begins_none b table ≡ true → filter (λ e. begins_with b e.1) table ≡ []
none_beginning b [] h = refl
none_beginning b (e ∷ es) h =
    let p : (not (begins_with b e.1) ≡ true) × (begins_none b es ≡ true) = and_parts (not (begins_with b e.1)) (begins_none b es) h in
    rw (not-true (begins_with b e.1) p.0) (none_beginning b es p.1)
