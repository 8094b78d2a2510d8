-- What runs find at the only seat that there ever was.
use Rattle.std.proofs.Common.{◌≡◌, ◌∙◌, ℕ, true, List, [], ◌∷◌, ◌++◌, inl, inr, ⊎_elim}
use Rattle.std.specs.Prelude.{All}
use Rattle.std.proofs.lemmas.Bool.{cases_eq}
use Rattle.std.proofs.lemmas.List.Elements.{All-nil, All-push, All-append, All-weaker}
use Rattle.cj_ir.specs.declared.language.FunId.{FunId}
use Rattle.cj_calls.specs.declared.report.Look.{Look}
use Rattle.cj_publish.specs.declared.view.View.{View}
use Rattle.cj_publish.specs.Plays.{FindsSeen}
use Rattle.cj_publish.specs.Seen.{SeesNoMore}
use Rattle.cj_publish.specs.Fetched.{main_of}
use Rattle.cj_parts.specs.Looks.{IsSeen, FoundIn}
use Rattle.cj_parts.specs.Runs.{FindsNothingNew}

pub finds_none : (v : View) → v.sole ≡ true → FindsNothingNew [] v v
finds_none v sole = record { sole = sole; seen = λ f o x. x; found = All-nil (FoundIn v) }

pub finds_nothing : (v w : View) → w.sole ≡ v.sole → (v.sole ≡ true → SeesNoMore v w) → v.sole ≡ true → FindsNothingNew [] v w
finds_nothing v w same seen sole = record { sole = same ∙ sole; seen = seen sole; found = All-nil (FoundIn v) }

found_before : (v w : View) → SeesNoMore v w → (look : Look) → FoundIn w look → FoundIn v look
found_before v w g look (inl none) = inl none
found_before v w g look (inr seen) = inr (g (main_of look.function) look.offset seen)

pub finds_twice : (xs ys : List Look) (u v w : View) → FindsNothingNew xs u v → FindsNothingNew ys v w → FindsNothingNew (xs ++ ys) u w
finds_twice xs ys u v w g h = record {
  sole = h.sole;
  seen = λ f o x. g.seen f o (h.seen f o x);
  found = All-append (FoundIn u) xs ys g.found (All-weaker (FoundIn v) (FoundIn u) (found_before u v g.seen) ys h.found);
}

-- one look that found nothing, or what was seen
pub finds_one : (v w : View) (look : Look) → FindsNothingNew [] v w → v.sole ≡ true → FindsSeen v (main_of look.function) look.offset
    → FindsNothingNew (look ∷ []) v w
finds_one v w look h sole finds = record {
  sole = h.sole;
  seen = h.seen;
  found = All-push (FoundIn v) [] look h.found (⊎_elim (λ (none : look.offset ≡ 0). inl none) (λ some. inr (finds sole some)) (cases_eq look.offset 0));
}
