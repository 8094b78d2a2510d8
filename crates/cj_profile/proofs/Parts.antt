-- The parts of a call, made one after the other.
use Rattle.std.proofs.Common.{◌≡◌, ℕ, zero, suc, ◌+◌, List, [], ◌∷◌, ◌++◌, length, ℤ, refl, sym, ap, ◌∙◌, subst, append_assoc, append-nil, arith}
use Rattle.cj_ir.specs.declared.language.FunId.{FunId}
use Rattle.cj_profile.specs.declared.view.Read.{Read}
use Rattle.cj_ir.specs.declared.language.Label.{Label}
use Rattle.cj_ir.specs.declared.language.Edge.TheVariants.{Then, Else}
use Rattle.cj_profile.specs.declared.layout.Word.TheVariants.{Last, Agreed, Way}
use Rattle.cj_profile.specs.declared.snapshot.ParamNote.{ParamNote}
use Rattle.cj_profile.specs.declared.snapshot.EdgeNote.{EdgeNote}
use Rattle.cj_ir.specs.Values.{value_word}
use Rattle.std.specs.Prelude.{All}
use Rattle.std.proofs.lemmas.List.Elements.{All-nil, All-cons, All-append}
use Rattle.cj_profile.specs.Reads.{load, Keeps, ParamPart, ParamsPart}
use Rattle.cj_profile.specs.Snapshots.{param_loads, edge_loads, each_loads}
use Rattle.cj_profile.specs.Seats.{Adds, AddsPart}
use Rattle.cj_profile.specs.declared.profile.ProfileSeat.{ProfileSeat}
use Rattle.cj_profile.proofs.Adding.{adds_on, keeps_on}

-- one more argument at the end
pub params_push : (f : FunId) (k : ℕ) (args : List ℤ) (arg : ℤ) (rs part : List Read) → ParamsPart f k args rs → ParamPart f (k + length args) arg part →
    ParamsPart f k (args ++ arg ∷ []) (rs ++ part)
params_push f k [] arg rs part h one =
    let z : k + zero ≡ k = omega arith in
    (part, [], subst (λ n. ParamPart f n arg part) z one, refl, ap (λ xs. xs ++ part) h ∙ sym (append-nil part))
params_push f k (a ∷ args) arg rs part h one =
    let z : k + suc (length args) ≡ suc k + length args = omega arith in (
      h.0,
      h.1 ++ part,
      h.2,
      params_push f (suc k) args arg h.1 part h.3 (subst (λ n. ParamPart f n arg part) z one),
      ap (λ xs. xs ++ part) h.4
          ∙ append_assoc h.0 h.1 part,
    )

-- ---- the notes of a snapshot

module _ {N : Type 0} (loads : ℕ → N → List Read) where
  -- one more note at the end
  loads_push : (k : ℕ) (notes : List N) (note : N) → each_loads loads k (notes ++ note ∷ []) ≡ each_loads loads k notes ++ loads (k + length notes) note
  loads_push k [] note = let z : k ≡ k + zero = omega arith in append-nil (loads k note) ∙ ap (λ n. loads n note) z
  loads_push k (x ∷ notes) note =
      let z : suc k + length notes ≡ k + suc (length notes) = omega arith in
      ap (λ rs. loads k x ++ rs) (loads_push (suc k) notes note ∙ ap (λ n. each_loads loads (suc k) notes ++ loads n note) z)
      ∙ sym (append_assoc (loads k x) (each_loads loads (suc k) notes) (loads (k + suc (length notes)) note))

  pub note_more : (a b c : ProfileSeat) (notes longer : List N) (note : N) → longer ≡ notes ++ note ∷ [] → Adds (each_loads loads 0 notes) a b →
      Adds (loads (length notes) note) b c → Adds (each_loads loads 0 longer) a c
  note_more a b c notes longer note pushed before one =
      let z : 0 + length notes ≡ length notes = omega arith in
      let all : each_loads loads 0 longer ≡ each_loads loads 0 notes ++ loads (length notes) note = ap (each_loads loads 0) pushed
      ∙ (loads_push 0 notes note ∙ ap (λ n. each_loads loads 0 notes ++ loads n note) z) in
      subst (λ rs. Adds rs a c) (sym all) (adds_on a b c (each_loads loads 0 notes) (loads (length notes) note) before one)

  module _ (keeps : (k : ℕ) (note : N) → All Keeps (loads k note)) where
    loads_keep : (k : ℕ) (notes : List N) → All Keeps (each_loads loads k notes)
    loads_keep k [] = All-nil Keeps
    loads_keep k (x ∷ notes) = All-append Keeps (loads k x) (each_loads loads (suc k) notes) (keeps k x) (loads_keep (suc k) notes)

    pub notes_keep : (a b : ProfileSeat) (notes : List N) → Adds (each_loads loads 0 notes) a b → AddsPart (All Keeps) a b
    notes_keep a b notes adds = (each_loads loads 0 notes, loads_keep 0 notes, adds)

    -- where there was no memory for the last note
    pub note_keeps : (a b c : ProfileSeat) (notes : List N) (k : ℕ) (note : N) → Adds (each_loads loads 0 notes) a b → Adds (loads k note) b c →
        AddsPart (All Keeps) a c
    note_keeps a b c notes k note before one = keeps_on a b c (notes_keep a b notes before) (loads k note, keeps k note, one)

-- loads leave the words as they are
pub param_keeps : (f : FunId) (k : ℕ) (note : ParamNote) → All Keeps (param_loads f k note)
param_keeps f k x =
    All-cons Keeps (load (Last f k) (value_word x.last)) (load (Agreed f k) x.agreed ∷ []) refl
    (All-cons Keeps (load (Agreed f k) x.agreed) [] refl (All-nil Keeps))

pub edge_keeps : (f : FunId) (k : ℕ) (note : EdgeNote) → All Keeps (edge_loads f k note)
edge_keeps f k x =
    let label : Label = record { 0 = k } in
    All-cons Keeps (load (Way f label Then) x.then_count) (load (Way f label Else) x.else_count ∷ []) refl
    (All-cons Keeps (load (Way f label Else) x.else_count) [] refl (All-nil Keeps))
