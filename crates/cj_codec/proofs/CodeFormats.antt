-- The format of codes behind their lengths, and what is decoded.
use Rattle.std.proofs.Common.{◌≡◌, ℕ, suc, ◌<◌, ◌≤◌, List, [], ◌∷◌, ◌++◌, length, refl, sym, ap, ◌∙◌, subst, arith}
use Rattle.std.specs.Prelude.{Option, Some, None, Bool, true, false, cond, nat_lt, nat_le, ◌==◌, All}
use Rattle.std.specs.List.{flat_map}
use Rattle.std.proofs.lemmas.List.{append-nil}
use Rattle.std.proofs.lemmas.Bool.{ltb-true, lt-ltb, leb-true, le-leb, eqb-true, eq-eqb}
use Rattle.std.proofs.Math.Logic.{◌↔◌}
use Rattle.cj_ir.specs.declared.language.FunId.{FunId}
use Rattle.cj_draft.specs.declared.code.Code.{Code}
use Rattle.cj_spelling.specs.Spelling.{place_words, body_words, spelling}
use Rattle.cj_spelling.specs.Ranges.{IsPlaceInRange, IsInRange}
use Rattle.cj_spelling.specs.Values.{HasPlaceValues, HasValues}
use Rattle.cj_spelling.specs.Spells.{Spells}
use Rattle.cj_spelling.specs.Formats.{◌>>=◌, made, word_at, at_most_at, each_at}
use Rattle.cj_codec.specs.Reading.{function_at, place_at, limits_of, code_of, places_at, code_at, body_at, whole, decoded}
use Rattle.cj_spelling.proofs.Formats.{bound, made_from, each_from, each_to, at_most_format, word_from, kind_from}
use Rattle.cj_codec.proofs.OperandFormats.{function_format}
use Rattle.cj_codec.proofs.PointFormats.{all_both, all_first, all_second}
use Rattle.cj_codec.proofs.PlaceFormats.{InPlace, place_format}

-- ---- codes behind the format's number

abbrev pub InCode : Code → Type 0
InCode code = IsInRange code × HasValues code

abbrev places_words : Code → List ℕ
places_words code = flat_map place_words code.places

abbrev head_words : Code → List ℕ → List ℕ
head_words code more = code.function.0 ∷ code.regs ∷ code.entry.0 ∷ length code.places ∷ more

-- what stands behind a test that holds
tested : {X : Type 0} (test : Bool) (r : Option X) (x : X) → cond test r None ≡ Some x → (test ≡ true) × (r ≡ Some x)
tested true r x e = (refl, e)
tested false r x e = cc

places_reads : (code : Code) (rest : List ℕ) → InCode code → places_at code.function code.regs code.entry.0 (length code.places) (places_words code ++ rest)
    ≡ Some (code, rest)
unfolding places_at
places_reads code rest h =
    let limits = limits_of code.regs (length code.places) in
    let within = all_both (IsPlaceInRange code.regs (length code.places)) HasPlaceValues code.places h.0.places h.1 in
    let read = each_to (place_format limits) code.places rest within in
    rw (lt-ltb code.entry.0 (length code.places) h.0.entry) (ap (made (code_of code.function code.regs code.entry.0)) read)

code_reads : (code : Code) (rest : List ℕ) → InCode code → code_at (head_words code (places_words code ++ rest)) ≡ Some (code, rest)
unfolding code_at
code_reads code rest h =
    let more = places_words code ++ rest in
    rw (
      function_format.reads code.function (code.regs ∷ code.entry.0 ∷ length code.places ∷ more) h.0.function,
      (at_most_format 128).reads code.regs (code.entry.0 ∷ length code.places ∷ more) h.0.few_regs,
      (at_most_format 512).reads (length code.places) more h.0.few_places,
    ) (places_reads code rest h)

record Behind (f : FunId) (regs entry labels : ℕ) (ws : List ℕ) (code : Code) (rest : List ℕ) : Type 0 where
  function : code.function ≡ f
  regs_are : code.regs ≡ regs
  entry_is : code.entry.0 ≡ entry
  count : length code.places ≡ labels
  entry_within : code.entry.0 < length code.places
  places : All (InPlace (limits_of code.regs (length code.places))) code.places
  spelled : ws ≡ places_words code ++ rest

places_spells : (f : FunId) (regs entry labels : ℕ) (ws : List ℕ) (code : Code) (rest : List ℕ) → places_at f regs entry labels ws ≡ Some (code, rest) →
    Behind f regs entry labels ws code rest
unfolding places_at
places_spells f regs entry labels ws code rest e =
    let t = tested (nat_lt entry labels) (made (code_of f regs entry) (each_at (place_at (limits_of regs labels)) labels [] ws)) (code, rest) e in
    let m = made_from (code_of f regs entry) (each_at (place_at (limits_of regs labels)) labels [] ws) code rest t.1 in
    let h = each_from (place_format (limits_of regs labels)) labels ws m.from rest m.read in
    let below : entry < labels = ltb-true entry labels t.0 in
    let made_code : Behind f regs entry labels ws (code_of f regs entry m.from) rest = record {
      function = refl;
      regs_are = refl;
      entry_is = refl;
      count = h.count;
      entry_within = subst (λ (n : ℕ). entry < n) (sym h.count) below;
      places = subst (λ (n : ℕ). All (InPlace (limits_of regs n)) m.from) (sym h.count) h.within;
      spelled = h.spelled;
    } in
    subst (λ (x : Code). Behind f regs entry labels ws x rest) m.is made_code

headed : (ws second third fourth fifth more : List ℕ) (f : FunId) (regs entry labels : ℕ) (code : Code) → ws ≡ f.0 ∷ second → second ≡ regs ∷ third →
    third ≡ entry ∷ fourth → fourth ≡ labels ∷ fifth → fifth ≡ more → code.function ≡ f → code.regs ≡ regs → code.entry.0 ≡ entry →
    length code.places ≡ labels → ws ≡ head_words code more
headed ws second third fourth fifth more f regs entry labels code e1 e2 e3 e4 e5 function regs_are entry_is count =
    rw (e1, e2, e3, e4, e5, function, regs_are, entry_is, count) refl

ranged : (f : FunId) (regs labels : ℕ) (code : Code) → code.function ≡ f → code.regs ≡ regs → length code.places ≡ labels → f.0 < 64 → regs ≤ 128 →
    labels ≤ 512 → code.entry.0 < length code.places → All (InPlace (limits_of code.regs (length code.places))) code.places → IsInRange code
ranged f regs labels code function regs_are count f_low regs_low labels_low entry places = record {
  function = subst (λ (x : FunId). x.0 < 64) (sym function) f_low;
  few_regs = omega arith;
  few_places = omega arith;
  entry = entry;
  places = all_first (IsPlaceInRange code.regs (length code.places)) HasPlaceValues code.places places;
}

code_spells : (ws : List ℕ) (code : Code) (rest : List ℕ) → code_at ws ≡ Some (code, rest) → InCode code × (ws ≡ head_words code (places_words code ++ rest))
unfolding code_at
code_spells ws code rest e =
    let f = bound (function_at ws)
    (λ f. at_most_at 128 f.1 >>= λ regs. word_at regs.1 >>= λ entry. at_most_at 512 entry.1 >>= λ labels. places_at f.0 regs.0 entry.0 labels.0 labels.1)
    (code, rest) e in
    let regs = bound (at_most_at 128 f.from.1)
    (λ regs. word_at regs.1 >>= λ entry. at_most_at 512 entry.1 >>= λ labels. places_at f.from.0 regs.0 entry.0 labels.0 labels.1) (code, rest) f.then in
    let entry = bound (word_at regs.from.1) (λ entry. at_most_at 512 entry.1 >>= λ labels. places_at f.from.0 regs.from.0 entry.0 labels.0 labels.1)
    (code, rest) regs.then in
    let labels = bound (at_most_at 512 entry.from.1) (λ labels. places_at f.from.0 regs.from.0 entry.from.0 labels.0 labels.1) (code, rest) entry.then in
    let h = places_spells f.from.0 regs.from.0 entry.from.0 labels.from.0 labels.from.1 code rest labels.then in
    let sf = function_format.spells ws f.from.0 f.from.1 f.is in
    let sr = (at_most_format 128).spells f.from.1 regs.from.0 regs.from.1 regs.is in
    let se = word_from regs.from.1 entry.from.0 entry.from.1 entry.is in
    let sl = (at_most_format 512).spells entry.from.1 labels.from.0 labels.from.1 labels.is in
    let fine = ranged f.from.0 regs.from.0 labels.from.0 code h.function h.regs_are h.count sf.0 sr.0 sl.0 h.entry_within h.places in
    let values = all_second (IsPlaceInRange code.regs (length code.places)) HasPlaceValues code.places h.places in
    let words = headed ws f.from.1 regs.from.1 entry.from.1 labels.from.1 (places_words code ++ rest) f.from.0 regs.from.0 entry.from.0 labels.from.0 code sf.1
    sr.1 se sl.1 h.spelled h.function h.regs_are h.entry_is h.count in
    ((fine, values), words)

pub body_reads : (code : Code) (rest : List ℕ) → InCode code → body_at (body_words code ++ rest) ≡ Some (code, rest)
unfolding body_at
body_reads code rest h = code_reads code rest h

body_spells : (ws : List ℕ) (code : Code) (rest : List ℕ) → body_at ws ≡ Some (code, rest) → InCode code × (ws ≡ body_words code ++ rest)
unfolding body_at
body_spells ws code rest e =
    let k = kind_from (λ format more. cond (format == 1) (code_at more) None) ws code rest e in
    let t = tested (k.kind == 1) (code_at k.more) (code, rest) k.then in
    let s = code_spells k.more code rest t.1 in
    (s.0, k.is ∙ rw (eqb-true k.kind 1 t.0, s.1) refl)

pub body_in_range : (ws : List ℕ) (code : Code) (rest : List ℕ) → body_at ws ≡ Some (code, rest) → IsInRange code
body_in_range ws code rest e = (body_spells ws code rest e).0.0

-- ---- all the words

whole_from : (read : Code × List ℕ) (code : Code) → whole read ≡ Some code → read ≡ (code, [])
whole_from (found, []) code e = let same : found ≡ code = cc in ap (λ (x : Code). (x, [])) same
whole_from (found, w ∷ ws) code e = cc

decoded_spells : (ws : List ℕ) (code : Code) → decoded ws ≡ Some code → Spells ws code
unfolding decoded
decoded_spells ws code e =
    let few = tested (nat_le (length ws) 65536) (word_at ws >>= λ len. cond (len.0 == length ws) (body_at len.1 >>= whole) None) code e in
    let len = bound (word_at ws) (λ len. cond (len.0 == length ws) (body_at len.1 >>= whole) None) code few.1 in
    let t = tested (len.from.0 == length ws) (body_at len.from.1 >>= whole) code len.then in
    let read = bound (body_at len.from.1) whole code t.1 in
    let end = whole_from read.from code read.then in
    let s = body_spells len.from.1 code [] (read.is ∙ ap Some end) in
    let front = word_from ws len.from.0 len.from.1 len.is in
    let tail : len.from.1 ≡ body_words code = s.1 ∙ append-nil (body_words code) in
    let count : len.from.0 ≡ suc (length (body_words code)) = eqb-true len.from.0 (length ws) t.0 ∙ ap length front
    ∙ ap (λ (w : List ℕ). suc (length w)) tail in
    record {
      spelled = front ∙ rw (count, tail) refl;
      few_words = leb-true (length ws) 65536 few.0;
      in_range = s.0.0;
      values = s.0.1;
    }

decoded_reads : (ws : List ℕ) (code : Code) → Spells ws code → decoded ws ≡ Some code
unfolding decoded
decoded_reads ws code h =
    let few : nat_le (length (spelling code)) 65536
    ≡ true = le-leb (length (spelling code)) 65536 (subst (λ (w : List ℕ). length w ≤ 65536) h.spelled h.few_words) in
    let body : body_at (body_words code) ≡ Some (code, []) = rw (append-nil (body_words code)) at (body_reads code [] (h.in_range, h.values)) in
    rw (h.spelled, few, eq-eqb (suc (length (body_words code))) (suc (length (body_words code))) refl, body) refl

pub decoded_exactly : (ws : List ℕ) (found : Option Code) → decoded ws ≡ found → (code : Code) → (found ≡ Some code) ↔ Spells ws code
decoded_exactly ws found e code = (λ is. decoded_spells ws code (e ∙ is), λ h. sym e ∙ decoded_reads ws code h)
