-- What contracts see of the code cache.
use Rattle.std.proofs.Common.{◌≡◌, ◌≢◌, ◌∙◌, refl, sym, ap, ℕ, List, [], ◌∷◌, ◌++◌, map, length, append-nil, append_assoc}
use Rattle.std.specs.Prelude.{All, IsSome}
use Rattle.cj_ir.specs.declared.language.Edge.{Edge}
use Rattle.cj_ir.specs.declared.language.FunId.{FunId}
use Rattle.cj_ir.specs.declared.language.Label.{Label}
use Rattle.cj_ir.specs.declared.language.Program.{Program}
use Rattle.cj_draft.specs.Bodies.{Body}
use Rattle.cj_machine.specs.Marks.{Mark, Entered, Branched, FailedIn}
use Rattle.cj_machine.specs.CodeMaps.{SoundCodes}
use Rattle.cj_world.specs.declared.cache.Cache.{Cache}
use Rattle.cj_world.specs.Worlds.{Made, codes_in, offset_of, look_at, looks_of}

unfoldable pub made_of : ℕ × Body → Made
made_of entry = record { offset = entry.0; code = entry.1.code }

-- the versions, in the order in which they were published
unfoldable pub made_in : Cache → List Made
made_in cache = map made_of cache.versions.entries

-- The versions are of the program and sound, whatever the arguments. Each function has a current version or none.
pub record AreVersions (P : Program) (entries : List (ℕ × Body)) (current : List ℕ) : Type 0 where
  pub programs : All (λ entry. entry.1.program ≡ P) entries
  pub sound : SoundCodes P (codes_in (map made_of entries))
  pub all : length current ≡ length P.functions
  pub found : (f : FunId) → offset_of current f ≢ 0 → IsSome (codes_in (map made_of entries) f (offset_of current f))

abbrev pub IsReady : Cache → Type 0
IsReady cache = AreVersions cache.checked.now cache.versions.entries cache.current

-- nothing but looks were added
pub record Stays (cache after : Cache) : Type 0 where
  pub checked : after.checked.now ≡ cache.checked.now
  pub versions : after.versions.entries ≡ cache.versions.entries
  pub current : after.current ≡ cache.current

-- the looks of those marks were added
pub record Went (cache after : Cache) (marks : List Mark) : Type 0 where
  pub trail : after.trail ≡ cache.trail ++ looks_of cache.current marks
  pub current : after.current ≡ cache.current

-- ---- what the engine asks of a watch

pub cache_sound : (cache : Cache) → IsReady cache → SoundCodes cache.checked.now (codes_in (made_in cache))
unfolding made_in
cache_sound cache ready = ready.sound

pub looks_of-append : (current : List ℕ) (ms ns : List Mark) → looks_of current (ms ++ ns) ≡ looks_of current ms ++ looks_of current ns
unfolding looks_of
looks_of-append current [] ns = refl
looks_of-append current (Entered f args ∷ ms) ns = ap (λ ls. look_at current f ∷ ls) (looks_of-append current ms ns)
looks_of-append current (Branched f label edge ∷ ms) ns = looks_of-append current ms ns
looks_of-append current (FailedIn f ∷ ms) ns = looks_of-append current ms ns

pub went_nowhere : (cache : Cache) → Went cache cache []
unfolding looks_of
went_nowhere cache = record { trail = sym (append-nil cache.trail); current = refl }

pub went_by_failing : (cache : Cache) (f : FunId) → Went cache cache (FailedIn f ∷ [])
unfolding looks_of
went_by_failing cache f = record { trail = sym (append-nil cache.trail); current = refl }

pub went_by_branching : (cache : Cache) (f : FunId) (label : Label) (edge : Edge) → Went cache cache (Branched f label edge ∷ [])
unfolding looks_of
went_by_branching cache f label edge = record { trail = sym (append-nil cache.trail); current = refl }

pub went_on : (a b c : Cache) (ms ns : List Mark) → Went a b ms → Went b c ns → Went a c (ms ++ ns)
went_on a b c ms ns one two = record {
  trail =
      two.trail
      ∙ ap (λ ls. ls ++ looks_of b.current ns) one.trail
      ∙ ap (λ current. (a.trail ++ looks_of a.current ms) ++ looks_of current ns) one.current
      ∙ append_assoc a.trail (looks_of a.current ms) (looks_of a.current ns)
      ∙ ap (λ ls. a.trail ++ ls) (sym (looks_of-append a.current ms ns));
  current = two.current ∙ one.current;
}

pub stays_same : (cache : Cache) → Stays cache cache
stays_same cache = record { checked = refl; versions = refl; current = refl }

pub stays_on : (a b c : Cache) → Stays a b → Stays b c → Stays a c
stays_on a b c one two = record {
  checked = two.checked ∙ one.checked;
  versions = two.versions ∙ one.versions;
  current = two.current ∙ one.current;
}
