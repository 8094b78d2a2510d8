-- Calls one after the other.
use Rattle.std.proofs.Common.{◌≡◌, ℕ, ◌<◌, true, Option, List, [], ◌∷◌, ◌++◌, All, refl, sym, ap, ◌∙◌, subst, append_assoc}
use Rattle.std.proofs.lemmas.List.Elements.{All-nil, All-cons, All-append}
use Rattle.cj_profile.specs.declared.layout.Word.{Word}
use Rattle.cj_ir.specs.declared.language.Program.{Program}
use Rattle.cj_profile.specs.declared.profile.Profile.{Profile}
use Rattle.cj_profile.specs.declared.profile.ProfileSeat.{ProfileSeat}
use Rattle.cj_profile.specs.declared.view.Read.{Read}
use Rattle.cj_profile.specs.Reads.{load, Keeps}
use Rattle.cj_profile.specs.Words.{word_count}
use Rattle.cj_profile.specs.Starts.{Finds, FromZeros}
use Rattle.cj_profile.specs.Rule.{Follows}
use Rattle.cj_profile.proofs.Starting.{starts_more}
use Rattle.cj_profile.specs.Seats.{program_of, view_of, reads_of, Belongs, IsSole, IsSame, Adds, AddsPart}

pub adds_on : (a b c : ProfileSeat) (p q : List Read) → Adds p a b → Adds q b c → Adds (p ++ q) a c
adds_on a b c p q first then = then ∙ (ap (λ rs. rs ++ q) first ∙ append_assoc (reads_of a) p q)

pub same_on : (a b c : ProfileSeat) → IsSame a b → IsSame b c → IsSame a c
same_on a b c first then = record {
  first = then.first ∙ first.first;
  sole = then.sole ∙ first.sole;
  splits = then.splits ∙ first.splits;
  joined = then.joined
      ∙ first.joined;
}

pub keeps_on : (a b c : ProfileSeat) → AddsPart (All Keeps) a b → AddsPart (All Keeps) b c → AddsPart (All Keeps) a c
keeps_on a b c first then = (first.0 ++ then.0, All-append Keeps first.0 then.0 first.1 then.1, adds_on a b c first.0 then.0 first.2 then.2)

pub load_keeps : (a b : ProfileSeat) (w : Word) (n : ℕ) → Adds (load w n ∷ []) a b → AddsPart (All Keeps) a b
load_keeps a b w n e = (load w n ∷ [], All-cons Keeps (load w n) [] refl (All-nil Keeps), e)

-- a seat belongs to the profile as before when it has made a step
pub belongs_on : (t : Profile) (a b : ProfileSeat) (i : ℕ) (found : Option ℕ) (left : ℕ) → i < word_count (program_of t) → Belongs t a →
    b.seat.table_id ≡ a.seat.table_id
    → Follows (view_of a) (view_of b) (record { word = i; found = found; left = left }) →
    (IsSole a → i < word_count (view_of a).program → Finds (reads_of a) i found) → Belongs t b
belongs_on t a b i found left within own table step told = record {
  table = table ∙ own.table;
  live = step.live ∙ own.live;
  program = step.program ∙ own.program;
  starts = λ only.
      let was : IsSole a = sym step.sole ∙ only in
      let inside : i < word_count (view_of a).program = subst (λ (p : Program). i < word_count p) (sym own.program) within in
      subst FromZeros (sym step.reads) (starts_more (reads_of a) (record { word = i; found = found; left = left }) (own.starts was) (told was inside));
}
