-- Tokens with what stands before each of them.
use Rattle.std.specs.Prelude.{ℕ, List, [], ◌∷◌, ◌++◌, flat_map, codes}
use Rattle.cj_printer.specs.declared.pieces.Gap.{Gap}
use Rattle.cj_printer.specs.declared.pieces.Gap.TheVariants.{Glued, Blank, Feed}

pub record Piece : Type 0 where
  pub gap : Gap
  pub text : List ℕ

-- nothing, one blank, or a line feed
abbrev pub gap_text : Gap → List ℕ
gap_text Glued = []
gap_text Blank = 32 ∷ []
gap_text Feed = 10 ∷ []

abbrev pub piece_text : Piece → List ℕ
piece_text p = gap_text p.gap ++ p.text

abbrev pub pieces_text : List Piece → List ℕ
pieces_text pieces = flat_map piece_text pieces

abbrev pub glued : List ℕ → Piece
glued text = record { gap = Glued; text = text }

abbrev pub blank : List ℕ → Piece
blank text = record { gap = Blank; text = text }

abbrev pub feed : List ℕ → Piece
feed text = record { gap = Feed; text = text }

-- texts between commas: `a, b, c`
abbrev pub after_comma : List ℕ → List Piece
after_comma text = glued (codes ",") ∷ blank text ∷ []

abbrev pub listed : List (List ℕ) → List Piece
listed [] = []
listed (text ∷ more) = glued text ∷ flat_map after_comma more
