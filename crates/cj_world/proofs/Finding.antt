-- The versions of a cache: what is found among them, and what one more changes.
use Rattle.std.proofs.Common.{◌≡◌, ◌≢◌, ◌∙◌, refl, sym, ap, subst, arith, inl, inr, eq-eqb, ℕ, zero, suc, ◌<◌, Bool, true, false, List, [], ◌∷◌, ◌++◌, map}
use Rattle.std.proofs.Common.{length, get_or, set, replicate, Option, Some, None, if◌then◌else◌}
use Rattle.std.specs.Prelude.{All, IsSome, ◌==◌, ◌⊎◌, slice_set}
use Rattle.std.specs.Option.{option_map, option_and_then}
use Rattle.std.specs.Map.{lookup}
use Rattle.std.proofs.lemmas.Option.{same_Some}
use Rattle.std.proofs.lemmas.Bool.Decides.{nat_tests}
use Rattle.std.proofs.lemmas.List.Elements.{All-nil, All-head, All-tail, All-push}
use Rattle.std.proofs.lemmas.List.{map-append, length-set, length-replicate}
use Rattle.indexmap.specs.IndexMap.{insert_entry}
use Rattle.cj_ir.specs.declared.language.FunId.{FunId}
use Rattle.cj_ir.specs.declared.language.Program.{Program}
use Rattle.cj_draft.specs.Bodies.{Body}
use Rattle.cj_draft.specs.declared.code.Code.{Code}
use Rattle.cj_draft.specs.Sound.{Sound}
use Rattle.cj_machine.specs.CodeMaps.{SoundCodes, Grows}
use Rattle.cj_world.specs.Worlds.{Made, code_at, own_code, codes_in, offset_of}
use Rattle.cj_world.specs.Caches.{made_of, AreVersions}

-- ---- what a map has at an offset

code_of : Option Body → Option Code
code_of body = option_map (λ (b : Body). b.code) body

both_ways : (b : Bool) (body : Body) (rest : Option Body) → (if b then Some body.code else code_of rest) ≡ code_of (if b then Some body else rest)
unfolding code_of
both_ways true body rest = refl
both_ways false body rest = refl

code_looked_up : (entries : List (ℕ × Body)) (offset : ℕ) → code_at (map made_of entries) offset ≡ code_of (lookup (λ (k : ℕ). offset == k) entries)
unfolding code_at made_of code_of
code_looked_up [] offset = refl
code_looked_up (entry ∷ entries) offset =
    ap (λ rest. if offset == entry.0 then Some entry.1.code else rest) (code_looked_up entries offset)
    ∙ both_ways (offset == entry.0) entry.1 (lookup (λ (k : ℕ). offset == k) entries)

-- what is found is the code that the function has there
own_found : (f : FunId) (code : Code) (b : Bool) → IsSome (if b then Some code else None) → (if b then Some code else None) ≡ Some code
own_found f code true some = refl
own_found f code false some = let never : false ≡ true = some in cc

pub version_found : (entries : List (ℕ × Body)) (f : FunId) (offset : ℕ) (body : Body) → IsSome (codes_in (map made_of entries) f offset) →
    lookup (λ (k : ℕ). offset == k) entries ≡ Some body → codes_in (map made_of entries) f offset ≡ Some body.code
unfolding codes_in code_of own_code
version_found entries f offset body some found =
    let at : code_at (map made_of entries) offset ≡ Some body.code = code_looked_up entries offset ∙ ap code_of found in
    let own : codes_in (map made_of entries) f offset ≡ own_code f body.code = ap (option_and_then (own_code f)) at in
    own ∙ own_found f body.code (body.code.function.0 == f.0) (subst (λ (o : Option Code). IsSome o) own some)

pub version_missing : (entries : List (ℕ × Body)) (f : FunId) (offset : ℕ) → IsSome (codes_in (map made_of entries) f offset) →
    lookup (λ (k : ℕ). offset == k) entries ≡ None → ⊥
unfolding codes_in code_of
version_missing entries f offset some missing =
    let at : code_at (map made_of entries) offset ≡ None = code_looked_up entries offset ∙ ap code_of missing in
    let none : codes_in (map made_of entries) f offset ≡ None = ap (option_and_then (own_code f)) at in
    let never : false ≡ true = subst (λ (o : Option Code). IsSome o) none some in
    absurd cc

-- what holds of each version holds of the one that is found
found_has : (Q : Body → Type 0) (entries : List (ℕ × Body)) (offset : ℕ) (body : Body) → All (λ entry. Q entry.1) entries →
    lookup (λ (k : ℕ). offset == k) entries ≡ Some body → Q body
found_has Q [] offset body all found = absurd cc
found_has Q (entry ∷ entries) offset body all found =
    by (offset == entry.0) found (found_has Q entries offset body (All-tail (λ (e : ℕ × Body). Q e.1) entry entries all))
  where
    by : (b : Bool) → (if b then Some entry.1 else lookup (λ (k : ℕ). offset == k) entries) ≡ Some body →
        (lookup (λ (k : ℕ). offset == k) entries ≡ Some body → Q body) → Q body
    by true here rest = subst Q (same_Some entry.1 body here) (All-head (λ (e : ℕ × Body). Q e.1) entry entries all)
    by false later rest = rest later

pub found_program : (P : Program) (entries : List (ℕ × Body)) (offset : ℕ) (body : Body) → All (λ entry. entry.1.program ≡ P) entries →
    lookup (λ (k : ℕ). offset == k) entries ≡ Some body → body.program ≡ P
found_program P entries offset body all found = found_has (λ body. body.program ≡ P) entries offset body all found

-- an offset behind all others is new
pub nothing_there : (entries : List (ℕ × Body)) (offset : ℕ) → All (λ made. made.offset < offset) (map made_of entries) →
    lookup (λ (k : ℕ). offset == k) entries ≡ None
unfolding made_of
nothing_there [] offset before = refl
nothing_there (entry ∷ entries) offset before =
    let Q : Made → Type 0 = λ made. made.offset < offset in
    let low : entry.0 < offset = All-head Q (made_of entry) (map made_of entries) before in
    let other : (offset == entry.0) ≡ false = grind (arith, nat_tests) in
    ap (λ b. if b then Some entry.1 else lookup (λ (k : ℕ). offset == k) entries) other
    ∙ nothing_there entries offset (All-tail Q (made_of entry) (map made_of entries) before)

-- ---- one version more

module _ (offset : ℕ) (code : Code) where
  last : Made
  last = record { offset = offset; code = code }

  -- an offset that had a code has it still
  code_kept : (made : List Made) (o : ℕ) (c : Code) → code_at made o ≡ Some c → code_at (made ++ last ∷ []) o ≡ Some c
  unfolding code_at
  code_kept [] o c found = absurd cc
  code_kept (m ∷ made) o c found = by (o == m.offset) found (code_kept made o c)
    where
      by : (b : Bool) → (if b then Some m.code else code_at made o) ≡ Some c → (code_at made o ≡ Some c → code_at (made ++ last ∷ []) o ≡ Some c) →
          (if b then Some m.code else code_at (made ++ last ∷ []) o) ≡ Some c
      by true here rest = here
      by false later rest = rest later

  -- one that had none has the last one's, if any
  code_added : (made : List Made) (o : ℕ) → code_at made o ≡ None → code_at (made ++ last ∷ []) o ≡ (if o == offset then Some code else None)
  unfolding code_at last
  code_added [] o none = refl
  code_added (m ∷ made) o none = by (o == m.offset) none (code_added made o)
    where
      by : (b : Bool) → (if b then Some m.code else code_at made o) ≡ None →
          (code_at made o ≡ None → code_at (made ++ last ∷ []) o ≡ (if o == offset then Some code else None)) →
          (if b then Some m.code else code_at (made ++ last ∷ []) o) ≡ (if o == offset then Some code else None)
      by true here rest = absurd cc
      by false later rest = rest later

  pub codes_grow : (made : List Made) → Grows (codes_in made) (codes_in (made ++ record { offset = offset; code = code } ∷ []))
  unfolding codes_in last
  codes_grow made f o c found = by (code_at made o) refl found
    where
      by : (there : Option Code) → code_at made o ≡ there → option_and_then (own_code f) there ≡ Some c → codes_in (made ++ last ∷ []) f o ≡ Some c
      by None at none = absurd cc
      by (Some d) at own = ap (option_and_then (own_code f)) (code_kept made o d at) ∙ own

  own_sound : (P : Program) (f : FunId) (c : Code) (b : Bool) → (code.function.0 == f.0) ≡ b → Sound P [] code.function code →
      (if b then Some code else None) ≡ Some c → Sound P [] f c
  own_sound P f c true same sound found =
      let number : code.function.0 ≡ f.0 = grind (arith, nat_tests) in
      let function : code.function ≡ f = ap (λ (n : ℕ). record { 0 = n }) number in
      subst (λ (g : FunId). Sound P [] g c) function (subst (λ (d : Code). Sound P [] code.function d) (same_Some code c found) sound)
  own_sound P f c false same sound found = absurd cc

  pub more_sound : (P : Program) (made : List Made) → SoundCodes P (codes_in made) → Sound P [] code.function code →
      SoundCodes P (codes_in (made ++ record { offset = offset; code = code } ∷ []))
  unfolding codes_in own_code last
  more_sound P made sound own f o c found = by (code_at made o) refl
    where
      here : (b : Bool) → option_and_then (own_code f) (if b then Some code else None) ≡ Some c → Sound P [] f c
      here true e = own_sound P f c (code.function.0 == f.0) refl own e
      here false e = absurd cc

      by : (there : Option Code) → code_at made o ≡ there → Sound P [] f c
      by None at = here (o == offset) (ap (option_and_then (own_code f)) (sym (code_added made o at)) ∙ found)
      by (Some d) at =
          sound f o c (ap (option_and_then (own_code f)) (at ∙ sym (code_kept made o d at)) ∙ found)

  -- its function has it
  own_there : (f : FunId) → code.function.0 ≡ f.0 → own_code f code ≡ Some code
  unfolding own_code
  own_there f same = ap (λ b. if b then Some code else None) (eq-eqb code.function.0 f.0 same)

  none_there : (made : List Made) → All (λ m. m.offset < offset) made → code_at made offset ≡ None
  unfolding code_at
  none_there [] before = refl
  none_there (m ∷ made) before =
      let low : m.offset < offset = All-head (λ (m : Made). m.offset < offset) m made before in
      let other : (offset == m.offset) ≡ false = grind (arith, nat_tests) in
      ap (λ b. if b then Some m.code else code_at made offset) other
      ∙ none_there made (All-tail (λ (m : Made). m.offset < offset) m made before)

  added_found : (made : List Made) (f : FunId) → All (λ m. m.offset < offset) made → code.function.0 ≡ f.0 → codes_in (made ++ last ∷ []) f offset ≡ Some code
  unfolding codes_in
  added_found made f before same =
      let at : code_at (made ++ last ∷ []) offset ≡ Some code =
      code_added made offset (none_there made before) ∙ ap (λ b. if b then Some code else None) (eq-eqb offset offset refl) in
      ap (option_and_then (own_code f)) at ∙ own_there f same

  -- where a number was set
  set_cases : (xs : List ℕ) (i k : ℕ) → ((i ≡ k) × (get_or (set xs i offset) k 0 ≡ offset)) ⊎ (get_or (set xs i offset) k 0 ≡ get_or xs k 0)
  set_cases [] i k = inr refl
  set_cases (x ∷ xs) zero zero = inl (refl, refl)
  set_cases (x ∷ xs) zero (suc k) = inr refl
  set_cases (x ∷ xs) (suc i) zero = inr refl
  set_cases (x ∷ xs) (suc i) (suc k) = next (set_cases xs i k)
    where
      next : ((i ≡ k) × (get_or (set xs i offset) k 0 ≡ offset)) ⊎ (get_or (set xs i offset) k 0 ≡ get_or xs k 0) →
          ((suc i ≡ suc k) × (get_or (set xs i offset) k 0 ≡ offset)) ⊎ (get_or (set xs i offset) k 0 ≡ get_or xs k 0)
      next (inl same) = inl (ap suc same.0, same.1)
      next (inr other) = inr other

  pub more_found : (made : List Made) (current : List ℕ) → All (λ m. m.offset < offset) made →
      ((f : FunId) → offset_of current f ≢ 0 → IsSome (codes_in made f (offset_of current f))) → (f : FunId) →
      offset_of (slice_set current code.function.0 offset) f ≢ 0 →
      IsSome (codes_in (made ++ record { offset = offset; code = code } ∷ []) f (offset_of (slice_set current code.function.0 offset) f))
  unfolding last
  more_found made current before found f some = by (set_cases current code.function.0 f.0)
    where
      kept : (there : Option Code) → codes_in made f (offset_of current f) ≡ there → IsSome there →
          IsSome (codes_in (made ++ last ∷ []) f (offset_of current f))
      kept None e never = let no : false ≡ true = never in absurd cc
      kept (Some c) e s = subst (λ (o : Option Code). IsSome o) (sym (codes_grow made f (offset_of current f) c e)) s

      by : ((code.function.0 ≡ f.0) × (offset_of (slice_set current code.function.0 offset) f ≡ offset))
          ⊎ (offset_of (slice_set current code.function.0 offset) f ≡ offset_of current f) →
          IsSome (codes_in (made ++ last ∷ []) f (offset_of (slice_set current code.function.0 offset) f))
      by (inl same) =
          subst (λ (o : ℕ). IsSome (codes_in (made ++ last ∷ []) f o)) (sym same.1)
          (subst (λ (o : Option Code). IsSome o) (sym (added_found made f before same.0)) refl)
      by (inr other) =
          let had : offset_of current f ≢ 0 = λ zero. some (other ∙ zero) in
          subst (λ (o : ℕ). IsSome (codes_in (made ++ last ∷ []) f o)) (sym other) (kept (codes_in made f (offset_of current f)) refl (found f had))

-- ---- the versions of a cache

pub zeros : (n k : ℕ) → get_or {A = ℕ} (replicate n 0) k 0 ≡ 0
zeros zero k = refl
zeros (suc n) zero = refl
zeros (suc n) (suc k) = zeros n k

pub first_versions : (P : Program) (entries : List (ℕ × Body)) (current : List ℕ) → entries ≡ [] → current ≡ replicate {A = ℕ} (length P.functions) 0 →
    AreVersions P entries current
unfolding codes_in code_at
first_versions P entries current none all =
    subst (λ (es : List (ℕ × Body)). AreVersions P es current) (sym none) (subst (λ (c : List ℕ). AreVersions P [] c) (sym all) first)
  where
    first : AreVersions P [] (replicate (length P.functions) 0)
    first = record {
      programs = All-nil (λ (entry : ℕ × Body). entry.1.program ≡ P);
      sound = λ f o c found. absurd (cc);
      all = let none : ℕ = 0 in length-replicate (length P.functions) none;
      found = λ f some. absurd (some (zeros (length P.functions) f.0));
    }

pub more_versions : (P : Program) (entries : List (ℕ × Body)) (current : List ℕ) (offset : ℕ) (body : Body) → AreVersions P entries current →
    All (λ made. made.offset < offset) (map made_of entries) → body.program ≡ P → Sound P [] body.code.function body.code →
    AreVersions P (entries ++ (offset, body) ∷ []) (slice_set current body.code.function.0 offset)
unfolding made_of
more_versions P entries current offset body had before program sound =
    let same : map made_of (entries ++ (offset, body) ∷ []) ≡ map made_of entries ++ record { offset = offset; code = body.code }
    ∷ [] = map-append made_of entries ((offset, body) ∷ []) in
    record {
      programs = All-push (λ (entry : ℕ × Body). entry.1.program ≡ P) entries (offset, body) had.programs program;
      sound = subst (λ (ms : List Made). SoundCodes P (codes_in ms)) (sym same) (more_sound offset body.code P (map made_of entries) had.sound sound);
      all = length-set current body.code.function.0 offset ∙ had.all;
      found = λ f some. subst (λ (ms : List Made). IsSome (codes_in ms f (offset_of (slice_set current body.code.function.0 offset) f))) (sym same)
          (more_found offset body.code (map made_of entries) current before had.found f some);
    }

-- a new offset goes last
pub entries_more : (entries : List (ℕ × Body)) (offset : ℕ) (body : Body) → lookup (λ (k : ℕ). offset == k) entries ≡ None →
    insert_entry (λ (j k : ℕ). j == k) entries offset body ≡ entries ++ (offset, body) ∷ []
entries_more [] offset body none = refl
entries_more (entry ∷ entries) offset body none = by (offset == entry.0) none (entries_more entries offset body)
  where
    by : (b : Bool) → (if b then Some entry.1 else lookup (λ (k : ℕ). offset == k) entries) ≡ None →
        (lookup (λ (k : ℕ). offset == k) entries ≡ None → insert_entry (λ (j k : ℕ). j == k) entries offset body ≡ entries ++ (offset, body) ∷ []) →
        (if b then (entry.0, body) ∷ entries else entry ∷ insert_entry (λ (j k : ℕ). j == k) entries offset body) ≡ entry ∷ (entries ++ (offset, body) ∷ [])
    by true here rest = absurd cc
    by false later rest = ap (λ more. entry ∷ more) (rest later)
