-- The causes of a worker's notes, from what the calls of the code table say.
use Rattle.std.proofs.Common.{◌≡◌, ◌⊎◌, ◌∙◌, refl, sym, ap, subst, arith, le_refl, ℕ, ◌+◌, ◌≤◌, ◌<◌, List, [], ◌∷◌, ◌++◌, append-nil, length, Some, None}
use Rattle.std.proofs.lemmas.Option.{same_Some}
use Rattle.cj_ir.specs.declared.language.FunId.{FunId}
use Rattle.cj_ir.specs.declared.language.Program.{Program}
use Rattle.cj_draft.specs.declared.code.Code.{Code}
use Rattle.cj_draft.specs.declared.passes.Skipped.{Skipped}
use Rattle.cj_spelling.specs.Spells.{Spells, EncodeFails}
use Rattle.cj_spelling.specs.declared.codes.EncodeError.TheVariants as encode
use Rattle.cj_profile.specs.declared.snapshot.Snapshot.{Snapshot}
use Rattle.cj_publish.specs.declared.view.Cell.{Cell}
use Rattle.cj_publish.specs.declared.view.Claim.{Claim}
use Rattle.cj_publish.specs.declared.view.Region.{Region}
use Rattle.cj_publish.specs.declared.view.Key.{Key}
use Rattle.cj_publish.specs.declared.view.View.{View}
use Rattle.cj_publish.specs.declared.publishing.Claim.TheVariants as answer
use Rattle.cj_publish.specs.declared.publishing.Published.TheVariants as how
use Rattle.cj_publish.specs.Calls.{Claims, Fills, Publishes}
use Rattle.cj_publish.specs.Plays.{with_claim}
use Rattle.cj_publish.specs.Fetched.{main_of}
use Rattle.cj_publish.specs.Seen.{IsAmong, SeenAt, SeesNoMore}
use Rattle.cj_publish.specs.Learns.{Learns}
use Rattle.cj_notes.specs.declared.notes.WorkNote.TheVariants.{Published, Older, Full, TooLarge, NoneAsked, Taken}
use Rattle.cj_notes.specs.Jobs.{job, IsMadeFor}
use Rattle.cj_notes.specs.Causes.{IsSpellable, word_count, claims, words_in, claimed_by}
use Rattle.cj_publish.specs.Views.{Outcomes}
use Rattle.cj_notes.specs.Standing.{outcome_of}
use Rattle.cj_notes.specs.Works.{Worked}
use Rattle.cj_publish.specs.Learns.{learns_nothing, learns_twice}
use Rattle.cj_publish.specs.Learns.{learns_more}

count_of : (words : List ℕ) (code : Code) → Spells words code → length words ≡ word_count code
count_of words code h = ap length h.spelled

spellable : (words : List ℕ) (code : Code) → Spells words code → IsSpellable code
spellable words code h = subst (λ (n : ℕ). n ≤ 65536) (count_of words code h) h.few_words

-- nothing was to be done, or nothing is left to do
pub idle : (P : Program) (v : View) → v.claim ≡ None → Worked P (record { note = NoneAsked; code = None }) v v
unfolding claims claimed_by outcome_of
idle P v none = record {
  learns = learns_nothing v;
  claim = none;
  joined = refl;
  lookups = refl;
  cause = record { has_code = refl; shown = tt };
  fresh = tt;
  taken = omega arith;
  outcomes = sym (append-nil v.outcomes);
  alone = λ sole. (sole, λ f o x. x);
}

pub late : (P : Program) (f : FunId) (found : ℕ) (v : View) → v.claim ≡ None → Worked P (record { note = Taken f found; code = None }) v v
unfolding claims claimed_by outcome_of
late P f found v none = record {
  learns = learns_nothing v;
  claim = none;
  joined = refl;
  lookups = refl;
  cause = record { has_code = refl; shown = tt };
  fresh = tt;
  taken = omega arith;
  outcomes = sym (append-nil v.outcomes);
  alone = λ sole. (sole, λ f o x. x);
}

module _ (P : Program) (f : FunId) (level : ℕ) (s : Snapshot) (code : Code) (skips : List (ℕ × Skipped)) (made : IsMadeFor P (job f level s) code skips) where
  -- the spelling is too long, and nothing was done
  pub too_large : (v : View) (len : ℕ) → v.claim ≡ None → EncodeFails (encode.TooLarge len) code
      → Worked P (record { note = TooLarge f level len s; code = Some code }) v v
  unfolding claims claimed_by outcome_of
  too_large v len none long = record {
    learns = learns_nothing v;
    claim = none;
    joined = refl;
    lookups = refl;
    cause = record { has_code = ((skips, made), long); shown = tt };
    fresh = tt;
    taken = omega arith;
    outcomes = sym (append-nil v.outcomes);
    alone = λ sole. (sole, λ f o x. x);
  }

  module _ (words : List ℕ) (spells : Spells words code) where
    -- there was no room
    pub no_room : (v w : View) (next need : ℕ) → Learns v w → v.claim ≡ None → Claims v (length words) (answer.Full next need) w
        → Worked P (record { note = Full f level next need s; code = Some code }) v w
    unfolding claims claimed_by outcome_of
    no_room v w next need g none h =
        let at : w.next ≡ next = ap (λ (x : View). x.next) h.0 in
        record {
          learns = g;
          claim = ap (λ (x : View). x.claim) h.0 ∙ none;
          joined = ap (λ (x : View). x.joined) h.0;
          lookups = ap (λ (x : View). x.lookups) h.0;
          cause = record {
            has_code = ((skips, made), spellable words code spells, h.2 ∙ count_of words code spells);
            shown = (subst (λ (k : Key). k.size < next + need) (sym (ap (λ (x : View). x.key) h.0)) h.3, omega arith);
          };
          fresh = sym at;
          taken = let e : w.taken ≡ v.taken = ap (λ (x : View). x.taken) h.0 in omega arith;
          outcomes = ap (λ (x : View). x.outcomes) h.0 ∙ sym (append-nil v.outcomes);
          alone = λ sole. (ap (λ (x : View). x.sole) h.0 ∙ sole, subst (SeesNoMore v) (sym h.0) (λ f o x. x));
        }

    module _ (v a b w : View) (offset : ℕ) (g : Learns v a) (k : Learns b w) (claimed : Claims v (length words) (answer.Claimed offset) a)
        (filled : Fills a words b) where
      claim_a : a.claim ≡ Some (record { offset = offset; len = length words; written = [] })
      claim_a = ap (λ (x : View). x.claim) claimed.0

      b_is : b ≡ with_claim a (Some (record { offset = offset; len = length words; written = words }))
      b_is = filled (record { offset = offset; len = length words; written = [] }) claim_a

      claim_is : (c : Claim) → b.claim ≡ Some c → c ≡ record { offset = offset; len = length words; written = words }
      claim_is c e = same_Some c (record { offset = offset; len = length words; written = words }) (sym e ∙ ap (λ (x : View). x.claim) b_is)

      taken_b : b.taken ≡ v.taken + word_count code
      taken_b = ap (λ (x : View). x.taken) b_is ∙ ap (λ (x : View). x.taken) claimed.0 ∙ ap (λ (n : ℕ). v.taken + n) (count_of words code spells)

      joined_b : b.joined ≡ v.joined
      joined_b = ap (λ (x : View). x.joined) b_is ∙ ap (λ (x : View). x.joined) claimed.0

      lookups_b : b.lookups ≡ v.lookups
      lookups_b = ap (λ (x : View). x.lookups) b_is ∙ ap (λ (x : View). x.lookups) claimed.0

      outcomes_b : b.outcomes ≡ v.outcomes
      outcomes_b = ap (λ (x : View). x.outcomes) b_is ∙ ap (λ (x : View). x.outcomes) claimed.0

      sole_b : b.sole ≡ v.sole
      sole_b = ap (λ (x : View). x.sole) b_is ∙ ap (λ (x : View). x.sole) claimed.0

      regions_b : b.regions ≡ v.regions
      regions_b = ap (λ (x : View). x.regions) b_is ∙ ap (λ (x : View). x.regions) claimed.0

      learned : Learns v w
      learned =
          let full : Claim = record { offset = offset; len = length words; written = words } in
          learns_twice v a w g (learns_twice a b w (subst (Learns a) (sym b_is) (learns_more a (with_claim a (Some full)) refl refl (le_refl a.next)
          (λ x h. h))) k)

      -- the claim was published
      pub at_last : (o : ℕ) → Publishes b (main_of f) (how.Published o) w → Worked P (record { note = Published f level o s skips; code = Some code }) v w
      unfolding claims claimed_by words_in outcome_of
      at_last o h =
          let c : Claim = h.0 in
          let is = claim_is c h.1 in
          let o_is : o ≡ offset = h.2 ∙ ap (λ (x : Claim). x.offset) is in
          let gains = h.3 in
          record {
            learns = learned;
            claim = h.4;
            joined = gains.joined ∙ joined_b;
            lookups = gains.lookups ∙ lookups_b;
            cause = record {
              has_code = (made, spellable words code spells);
              shown = (words, (_, h.5, refl, sym h.2, ap (λ (x : Claim). x.len) is, ap (λ (x : Claim). x.written) is), spells);
            };
            fresh = subst (λ (n : ℕ). v.next ≤ n) (sym o_is) claimed.1;
            taken = gains.taken ∙ taken_b;
            outcomes = h.6 ∙ ap (λ (os : Outcomes). os ++ (main_of f, how.Published o) ∷ []) outcomes_b;
            alone = λ sole. (
              gains.sole ∙ sole_b ∙ sole,
              subst (λ (rs : List Region). (g : Cell) (p : ℕ) → SeenAt w g p → IsAmong rs g p ⊎ ((g ≡ main_of f) × (p ≡ o))) regions_b (h.7 (sole_b ∙ sole)),
            );
          }

      -- a newer one was found
      pub too_late : (mine found : ℕ) → Publishes b (main_of f) (how.Older mine found) w
          → Worked P (record { note = Older f level mine found s; code = Some code }) v w
      unfolding claims claimed_by words_in outcome_of
      too_late mine found h =
          let c : Claim = h.0 in
          let is = claim_is c h.1 in
          let mine_is : mine ≡ offset = h.2 ∙ ap (λ (x : Claim). x.offset) is in
          let gains = h.4 in
          record {
            learns = learned;
            claim = h.5;
            joined = gains.joined ∙ joined_b;
            lookups = gains.lookups ∙ lookups_b;
            cause = record {
              has_code = ((skips, made), spellable words code spells, h.3);
              shown = h.6;
            };
            fresh = subst (λ (n : ℕ). v.next ≤ n) (sym mine_is) claimed.1;
            taken = gains.taken ∙ taken_b;
            outcomes = h.7 ∙ ap (λ (os : Outcomes). os ++ (main_of f, how.Older mine found) ∷ []) outcomes_b;
            alone = λ sole. absurd (h.8 (sole_b ∙ sole));
          }
