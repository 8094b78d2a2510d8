-- The formats of facts, backs and places.
use Rattle.std.proofs.Common.{◌≡◌, ℕ, ◌<◌, List, [], ◌++◌, map, refl, ap, subst}
use Rattle.std.specs.Prelude.{Some, All}
use Rattle.std.specs.List.Sorted.{IsStrictlyIncreasing}
use Rattle.cj_draft.specs.WellNamed.{AreFactsFine, HasFineFacts}
use Rattle.cj_draft.specs.declared.facts.Fact.{Fact}
use Rattle.cj_draft.specs.declared.facts.Facts.{Facts}
use Rattle.cj_draft.specs.declared.facts.Facts.TheVariants.{Unreached, Known}
use Rattle.cj_draft.specs.declared.code.Back.{Back}
use Rattle.cj_draft.specs.declared.code.Place.{Place}
use Rattle.cj_codec.specs.declared.reader.Limits.{Limits}
use Rattle.cj_spelling.specs.Spelling.{counted, fact_words, facts_words, back_words, place_words}
use Rattle.cj_spelling.specs.Ranges.{IsBackInRange, IsPlaceInRange}
use Rattle.cj_spelling.specs.Values.{IsValue, HasFactValue, HasFactsValues, HasBackValues, HasPlaceValues}
use Rattle.cj_spelling.specs.Formats.{made}
use Rattle.cj_codec.specs.Reading.{fact_of, fact_at, rise_from, known_at, facts_by, facts_at, back_of, back_at, place_of, place_at}
use Rattle.cj_spelling.proofs.Formats.{IsFormat, made_from, only_format, same_format, word_format, at_most_format, two_reads, two_spells, four_reads}
use Rattle.cj_spelling.proofs.Formats.{four_spells, counted_format, kind_from, by_kind, nothing_read, kinded, first_same, rest_same}
use Rattle.cj_codec.proofs.OperandFormats.{reg_format, value_format}
use Rattle.cj_codec.proofs.PointFormats.{all_both, all_first, all_second, point_format}
use Rattle.cj_codec.proofs.InstrFormats.{instr_format}
use Rattle.cj_codec.proofs.Differing.{rise_sound, rise_complete}

-- ---- facts

abbrev InFact : Limits → Fact → Type 0
InFact limits fact = (fact.reg.0 < limits.regs) × IsValue fact.value

fact_format : (limits : Limits) → IsFormat (InFact limits) fact_words (fact_at limits)
unfolding fact_at
fact_format limits = record {
  reads = λ fact rest h. two_reads fact_of (reg_format limits) value_format fact.reg fact.value rest h.0 h.1;
  spells = λ ws fact rest e.
      let h = two_spells fact_of (reg_format limits) value_format ws fact rest e in
      subst (λ (x : Fact). InFact limits x × (ws ≡ fact_words x ++ rest)) h.is ((h.in_a, h.in_b), h.spelled);
}

abbrev Increasing : List Fact → Type 0
Increasing facts = IsStrictlyIncreasing (map (λ fact. fact.reg.0) facts)

abbrev InKnown : Limits → List Fact → Type 0
InKnown limits facts = AreFactsFine limits.regs facts × All HasFactValue facts

abbrev ReadKnown : Limits → List Fact → Type 0
ReadKnown limits facts = (Unit {0} × All (InFact limits) facts) × Increasing facts

to_known : (limits : Limits) (facts : List Fact) → ReadKnown limits facts → InKnown limits facts
to_known limits facts h =
    let fine : AreFactsFine limits.regs facts = record { registers = λ k d lt. (h.0.1 k d lt).0; increasing = h.1 } in
    (fine, λ k d lt. (h.0.1 k d lt).1)

from_known : (limits : Limits) (facts : List Fact) → InKnown limits facts → ReadKnown limits facts
from_known limits facts h = ((tt, λ k d lt. (h.0.registers k d lt, h.1 k d lt)), h.0.increasing)

known_format : (limits : Limits) → IsFormat (InKnown limits) (counted fact_words) (known_at limits)
unfolding known_at
known_format limits =
    same_format (InKnown limits) (to_known limits) (from_known limits)
    (only_format Increasing (rise_from 0) rise_sound rise_complete (counted_format word_format (fact_format limits)))

abbrev pub InFacts : Limits → Facts → Type 0
InFacts limits facts = HasFineFacts limits.regs facts × HasFactsValues facts

facts_reads : (limits : Limits) (facts : Facts) (rest : List ℕ) → InFacts limits facts → facts_at limits (facts_words facts ++ rest) ≡ Some (facts, rest)
unfolding facts_at
facts_reads limits Unreached rest h = refl
facts_reads limits (Known facts) rest h = ap (made Known) ((known_format limits).reads facts rest h)

facts_spells : (limits : Limits) (ws : List ℕ) (facts : Facts) (rest : List ℕ) → facts_at limits ws ≡ Some (facts, rest) →
    InFacts limits facts × (ws ≡ facts_words facts ++ rest)
unfolding facts_at
facts_spells limits ws facts rest e =
    let k = kind_from (facts_by limits) ws facts rest e in
    let unreached : k.kind ≡ 0 → Some (Unreached, k.more) ≡ Some (facts, rest) → InFacts limits facts × (ws ≡ facts_words facts ++ rest) = λ is h.
    kinded (InFacts limits) facts_words 0 ws k.kind k.more facts rest Unreached [] k.is is (first_same Unreached facts k.more rest h) (tt, tt)
    (rest_same Unreached facts k.more rest h) refl in
    by_kind k.kind 0 _ _ (facts, rest) unreached
    (by_kind k.kind 1 _ _ (facts, rest) (λ is h.
    let m = made_from Known (known_at limits k.more) facts rest h in
    let s = (known_format limits).spells k.more m.from rest m.read in
    kinded (InFacts limits) facts_words 1 ws k.kind k.more facts rest (Known m.from) (counted fact_words m.from) k.is is m.is s.0 s.1 refl)
    (λ h. nothing_read (facts, rest) h)) k.then

facts_format : (limits : Limits) → IsFormat (InFacts limits) facts_words (facts_at limits)
facts_format limits = record { reads = facts_reads limits; spells = facts_spells limits }

-- ---- backs

abbrev InBack : Limits → Back → Type 0
InBack limits pair = IsBackInRange limits.regs pair × HasBackValues pair

back_format : (limits : Limits) → IsFormat (InBack limits) back_words (back_at limits)
unfolding back_at
back_format limits = record {
  reads = λ pair rest h. two_reads back_of (at_most_format 4) (point_format limits) pair.turns pair.point rest h.0.few_turns (h.0.point, h.1);
  spells = λ ws pair rest e.
      let h = two_spells back_of (at_most_format 4) (point_format limits) ws pair rest e in
      let fine : IsBackInRange limits.regs (back_of h.a h.b) = record { few_turns = h.in_a; point = h.in_b.0 } in
      subst (λ (x : Back). InBack limits x × (ws ≡ back_words x ++ rest)) h.is ((fine, h.in_b.1), h.spelled);
}

-- ---- places

abbrev pub InPlace : Limits → Place → Type 0
InPlace limits place = IsPlaceInRange limits.regs limits.labels place × HasPlaceValues place

pub place_format : (limits : Limits) → IsFormat (InPlace limits) place_words (place_at limits)
unfolding place_at
place_format limits = record {
  reads = λ place rest h.
      four_reads place_of (instr_format limits) (point_format limits) (facts_format limits) (counted_format word_format (back_format limits)) place.instr
      place.point place.facts place.backs rest
      (h.0.instr, h.1.instr) (h.0.point, h.1.point) (h.0.facts, h.1.facts)
      (tt, all_both (IsBackInRange limits.regs) HasBackValues place.backs h.0.backs h.1.backs);
  spells = λ ws place rest e.
      let h = four_spells place_of (instr_format limits) (point_format limits) (facts_format limits) (counted_format word_format (back_format limits)) ws place
      rest e in
      let fine : IsPlaceInRange limits.regs limits.labels (place_of h.a h.b h.c h.d) = record {
        instr = h.in_a.0;
        point = h.in_b.0;
        facts = h.in_c.0;
        backs = all_first (IsBackInRange limits.regs) HasBackValues h.d h.in_d.1;
      } in
      let values : HasPlaceValues (place_of h.a h.b h.c h.d) = record {
        instr = h.in_a.1;
        point = h.in_b.1;
        facts = h.in_c.1;
        backs = all_second (IsBackInRange limits.regs) HasBackValues h.d h.in_d.1;
      } in
      subst (λ (x : Place). InPlace limits x × (ws ≡ place_words x ++ rest)) h.is ((fine, values), h.spelled);
}
