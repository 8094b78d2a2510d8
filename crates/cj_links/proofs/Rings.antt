-- What a ring of waiting labels keeps.
use Rattle.std.proofs.Common.{◌≡◌, ◌≢◌, ℕ, suc, ◌+◌, ◌-◌, ◌%◌, ◌<◌, Bool, true, false, List, [], ◌∷◌, ◌++◌, length, get_or, replicate, Some, refl, sym, ap, ◌∙◌}
use Rattle.std.proofs.Common.{subst, ⊎_elim, arith, length-append, length-set}
use Rattle.std.specs.Prelude.{slice_get, slice_set, Contains, AllPairs}
use Rattle.std.proofs.lemmas.Option.{same_Some, slice_get-get_or, slice_get_within}
use Rattle.std.proofs.lemmas.List.{length-replicate}
use Rattle.std.proofs.lemmas.List.Quantifiers.{all_pairs_push}
use Rattle.std.proofs.lemmas.List.Elements.{All-nil, All-push, All-head, All-tail, Contains-get_or, Contains-append_left, Contains-append_right}
use Rattle.std.proofs.lemmas.List.Elements.{Contains-append_cases, Contains-push_cases, Contains-push}
use Rattle.std.proofs.lemmas.Bool.{cases_eq}
use Rattle.cj_ir.specs.declared.language.Label.{Label}
use Rattle.cj_links.specs.Waiting.{waiting, IsOrderly}
use Rattle.cj_links.specs.Slots.{window, AreMarked, IsRing}
use Rattle.cj_ir.proofs.ListReads.{get-set_same, get-set_other, contains-at}
use Rattle.cj_ir.proofs.Marks.{count-none, count-set, count-unset, count-below, no_mark}
use Rattle.cj_ir.proofs.Members.{contains-none, contains-one}
use Rattle.cj_ir.proofs.Labels.{same_label}
use Rattle.cj_links.proofs.Windows.{length-window, window_after_put, window_before_take, mod_within}
use Rattle.cj_links.proofs.Members.{once-head}

-- ---- none waits

none_marked : (n : ℕ) → AreMarked [] (replicate n false)
none_marked n = record {
  number = sym (count-none n);
  marked = λ x c. absurd (contains-none x c);
  listed = λ x e. absurd (no_mark n x.0 e);
}

pub none_orderly : (n : ℕ) → IsOrderly (waiting n [])
none_orderly n = record {
  few = omega arith;
  within = All-nil (λ (x : Label). x.0 < n);
  once = λ i j d lt within. absurd (omega arith);
}

pub ring_begins : (n : ℕ) (x : Label) → IsRing (replicate n x) 0 0 (replicate n false)
ring_begins n x = record {
  start = omega arith;
  few = omega arith;
  lengths = length-replicate n false ∙ sym (length-replicate n x);
  marks_of = none_marked n;
  orderly = none_orderly (length (replicate n x));
}

-- ---- one label more

marked_more : (list : List Label) (marks : List Bool) (x : Label) → AreMarked list marks → slice_get marks x.0 ≡ Some false →
    AreMarked (list ++ x ∷ []) (slice_set marks x.0 true)
marked_more list marks x m at = record {
  number = length-append list (x ∷ []) ∙ ap (λ n. n + 1) m.number ∙ sym (count-set marks x.0 at);
  listed = λ y e. ⊎_elim
      (λ same. subst (Contains (list ++ x ∷ [])) (sym (same_label y x same)) (Contains-push list x))
      (λ other. Contains-append_left list (x ∷ []) y (m.listed y (sym (get-set_other marks x.0 y.0 true other) ∙ e)))
      (cases_eq y.0 x.0);
  marked = λ y c. ⊎_elim
      (λ old. still y (m.marked y old))
      (λ new. subst (λ z. slice_get (slice_set marks x.0 true) z.0 ≡ Some true) new (get-set_same marks x.0 true within))
      (Contains-push_cases list x y c);
}
  where
    within : x.0 < length marks
    within = slice_get_within marks x.0 false at

    still : (y : Label) → slice_get marks y.0 ≡ Some true → slice_get (slice_set marks x.0 true) y.0 ≡ Some true
    still y e = ⊎_elim
        (λ same. subst (λ z. slice_get (slice_set marks x.0 true) z ≡ Some true) (sym same) (get-set_same marks x.0 true within))
        (λ other. get-set_other marks x.0 y.0 true other ∙ e)
        (cases_eq y.0 x.0)

pub not_marked : (list : List Label) (marks : List Bool) (x : Label) → AreMarked list marks → slice_get marks x.0 ≡ Some false → Contains list x → ⊥
not_marked list marks x m at c =
    let f : true ≡ false = same_Some true false (sym (m.marked x c) ∙ at) in cc

orderly_more : (n : ℕ) (list : List Label) (x : Label) → IsOrderly (waiting n list) → length list < n → x.0 < n → (Contains list x → ⊥) →
    IsOrderly (waiting n (list ++ x ∷ []))
orderly_more n list x o room within new = record {
  few = omega (arith, length-append list (x ∷ []));
  within = All-push (λ (y : Label). y.0 < n) list x o.within within;
  once = all_pairs_push (λ (one other : Label). one ≢ other) list x o.once (λ k d lt e. new (subst (Contains list) e (Contains-get_or list k d lt)));
}

pub ring_has_room : (slots : List Label) (k n : ℕ) (marks : List Bool) (x : Label) → IsRing slots k n marks → slice_get marks x.0 ≡ Some false →
    (n < length slots) × (k < length slots)
ring_has_room slots k n marks x r at =
    let within = slice_get_within marks x.0 false at in
    let some : k < length slots = omega (arith, r.lengths, r.start) in
    let len = length-window (length slots) k n slots some r.few refl in
    let below = count-below marks x.0 at in
    (omega (arith, r.marks_of.number, r.lengths), some)

pub ring_list_more : (slots : List Label) (k n : ℕ) (marks : List Bool) (x : Label) → IsRing slots k n marks → slice_get marks x.0 ≡ Some false →
    window k (n + 1) (slice_set slots ((k + n) % length slots) x) ≡ window k n slots ++ x ∷ []
ring_list_more slots k n marks x r at =
    let room = ring_has_room slots k n marks x r at in
    window_after_put (length slots) k n slots room.1 r.few refl x room.0

pub ring_more : (slots : List Label) (k n : ℕ) (marks : List Bool) (x : Label) → IsRing slots k n marks → slice_get marks x.0 ≡ Some false →
    IsRing (slice_set slots ((k + n) % length slots) x) k (n + 1) (slice_set marks x.0 true)
ring_more slots k n marks x r at =
    let at_end = (k + n) % length slots in
    let room = ring_has_room slots k n marks x r at in
    let within : x.0 < length slots = omega (arith, slice_get_within marks x.0 false at, r.lengths) in
    let same = ring_list_more slots k n marks x r at in
    let size = length-set slots at_end x in
    let len : length (window k n slots) ≡ n = length-window (length slots) k n slots room.1 r.few refl in
    let orderly = orderly_more (length slots) (window k n slots) x r.orderly (omega (arith, len, room.0)) within
    (not_marked (window k n slots) marks x r.marks_of at) in
    record {
      start = omega (arith, r.start, size);
      few = omega (arith, room.0, size);
      lengths = length-set marks x.0 true ∙ r.lengths ∙ sym size;
      marks_of = subst (λ list. AreMarked list (slice_set marks x.0 true)) (sym same) (marked_more (window k n slots) marks x r.marks_of at);
      orderly = subst (λ m. IsOrderly (waiting m (window k (n + 1) (slice_set slots at_end x)))) (sym size)
          (subst (λ list. IsOrderly (waiting (length slots) list)) (sym same) orderly);
    }

-- ---- the longest waiting label goes

marked_less : (list : List Label) (marks : List Bool) (x : Label) → AllPairs (λ one other. one ≢ other) (x ∷ list) → AreMarked (x ∷ list) marks →
    AreMarked list (slice_set marks x.0 false)
marked_less list marks x once m = record {
  number = let n = m.number in omega (arith, count-unset marks x.0 at);
  listed = λ y e. ⊎_elim
      (λ same. absurd (unmarked (ap (λ z. slice_get (slice_set marks x.0 false) z) (sym same) ∙ e)))
      (λ other. ⊎_elim
      (λ head. absurd (other (ap (λ (z : Label). z.0) (sym (contains-one x y head)))))
      (λ rest. rest)
      (Contains-append_cases (x ∷ []) list y (m.listed y (sym (get-set_other marks x.0 y.0 false other) ∙ e))))
      (cases_eq y.0 x.0);
  marked = λ y c. get-set_other marks x.0 y.0 false (λ same. once-head x list once (subst (Contains list) (same_label y x same) c))
      ∙ m.marked y (Contains-append_right (x ∷ []) list y c);
}
  where
    at : slice_get marks x.0 ≡ Some true
    at = m.marked x (contains-at (x ∷ list) 0 x refl)

    unmarked : slice_get (slice_set marks x.0 false) x.0 ≡ Some true → ⊥
    unmarked e =
        let f : false ≡ true = same_Some false true (sym (get-set_same marks x.0 false (slice_get_within marks x.0 true at)) ∙ e) in cc

orderly_less : (n : ℕ) (x : Label) (list : List Label) → IsOrderly (waiting n (x ∷ list)) → IsOrderly (waiting n list)
orderly_less n x list o = record {
  few = let h = o.few in omega arith;
  within = All-tail (λ (y : Label). y.0 < n) x list o.within;
  once = λ i j d lt within. o.once (suc i) (suc j) d (omega arith) (omega arith);
}

pub ring_start : (slots : List Label) (k n : ℕ) (marks : List Bool) → IsRing slots k n marks → 0 < n → k < length slots
ring_start slots k n marks r some = omega (arith, r.start, r.few)

pub ring_list_less : (slots : List Label) (k n : ℕ) (marks : List Bool) (x : Label) → IsRing slots k n marks → 0 < n → slice_get slots k ≡ Some x →
    window k n slots ≡ x ∷ window ((k + 1) % length slots) (n - 1) slots
ring_list_less slots k n marks x r some at =
    let start = ring_start slots k n marks r some in
    let split = window_before_take (length slots) k n slots start r.few refl x some in
    let here : get_or slots k x ≡ x = same_Some (get_or slots k x) x (sym (slice_get-get_or slots k x start) ∙ at) in
    split ∙ ap (λ y. y ∷ window ((k + 1) % length slots) (n - 1) slots) here

pub ring_less : (slots : List Label) (k n : ℕ) (marks : List Bool) (x : Label) → IsRing slots k n marks → 0 < n → slice_get slots k ≡ Some x →
    IsRing slots ((k + 1) % length slots) (n - 1) (slice_set marks x.0 false)
ring_less slots k n marks x r some at =
    let start = ring_start slots k n marks r some in
    let rest = window ((k + 1) % length slots) (n - 1) slots in
    let same = ring_list_less slots k n marks x r some at in
    let orderly = subst (λ list. IsOrderly (waiting (length slots) list)) same r.orderly in
    record {
      start = mod_within (length slots) (k + 1) (omega arith);
      few = omega (arith, r.few);
      lengths = length-set marks x.0 false ∙ r.lengths;
      marks_of = marked_less rest marks x orderly.once (subst (λ list. AreMarked list marks) same r.marks_of);
      orderly = orderly_less (length slots) x rest orderly;
    }

pub ring_within : (slots : List Label) (k n : ℕ) (marks : List Bool) (x : Label) → IsRing slots k n marks → 0 < n → slice_get slots k ≡ Some x →
    x.0 < length slots
ring_within slots k n marks x r some at =
    let same = ring_list_less slots k n marks x r some at in
    let orderly = subst (λ list. IsOrderly (waiting (length slots) list)) same r.orderly in
    All-head (λ (y : Label). y.0 < length slots) x (window ((k + 1) % length slots) (n - 1) slots) orderly.within

-- ---- marks that are read

pub mark_within : (slots : List Label) (k n : ℕ) (marks : List Bool) (x labels : ℕ) → IsRing slots k n marks → length slots ≡ labels → x < labels →
    x < length marks
mark_within slots k n marks x labels r e h = omega (arith, r.lengths)

pub mark_read : (marks read : List Bool) (x : ℕ) (mark : Bool) → read ≡ marks → x < length marks → get_or read x false ≡ mark → slice_get marks x ≡ Some mark
mark_read marks read x mark e within is = slice_get-get_or marks x false within ∙ ap Some (ap (λ (ms : List Bool). get_or ms x false) (sym e) ∙ is)
