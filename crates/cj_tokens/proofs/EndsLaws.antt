-- The tokens of a text have one end.
use Rattle.std.proofs.Common.{◌≡◌, ℕ, zero, suc, ◌+◌, ◌-◌, Bool, true, false, cond, List, [], ◌∷◌, map, refl, ap}
use Rattle.std.specs.List.{prefix_len}
use Rattle.cj_tokens.specs.Bytes.{is_blank, is_line_feed, is_hash, is_in_line}
use Rattle.cj_tokens.specs.Ends.{HasOneEnd}
use Rattle.cj_tokens.specs.Lexemes.{is_terminal}
use Rattle.cj_tokens.specs.Scan.{Item, items, item_of, size_of, next_line, lexeme_in}
use Rattle.cj_tokens.specs.Spellings.{lexeme_of, terminal_of}
use Rattle.cj_tokens.specs.declared.terminal.Terminal.TheVariants.{End}
use Rattle.cj_tokens.proofs.Found.{token_not_end}

-- the end of no bytes
end_is : (line : ℕ) → is_terminal End (lexeme_of line []) ≡ true
unfolding lexeme_of terminal_of
end_is line = refl

end_alone : (line at : ℕ) → HasOneEnd (map lexeme_in (item_of line at [] 0 ∷ []))
end_alone line at = record { body = []; last = lexeme_of line []; all = refl; is_end = end_is line; once = refl }

more : (t : Item) (ts : List Item) → is_terminal End t.lexeme ≡ false → HasOneEnd (map lexeme_in ts) → HasOneEnd (map lexeme_in (t ∷ ts))
more t ts n h = record { body = t.lexeme ∷ h.body; last = h.last; all = ap (λ xs. t.lexeme ∷ xs) h.all; is_end = h.is_end; once = rw n h.once }

choose : (c : Bool) (xs ys : List Item) → HasOneEnd (map lexeme_in xs) → HasOneEnd (map lexeme_in ys) → HasOneEnd (map lexeme_in (cond c xs ys))
choose true xs ys f g = f
choose false xs ys f g = g

pub one_end : (skip line at : ℕ) (bytes : List ℕ) → HasOneEnd (map lexeme_in (items skip line at bytes))
unfolding items
one_end zero line at [] = end_alone line at
one_end (suc skip) line at [] = end_alone line at
one_end (suc skip) line at (b ∷ bs) = one_end skip line (at + 1) bs
one_end zero line at (b ∷ bs) =
    choose (is_line_feed b) _ _ (one_end 0 (next_line line) (at + 1) bs)
    (choose (is_blank b) _ _ (one_end 0 line (at + 1) bs)
    (choose (is_hash b) _ _ (one_end (prefix_len is_in_line bs) line (at + 1) bs)
    (more (item_of line at (b ∷ bs) (size_of (b ∷ bs))) _ (token_not_end line b bs) (one_end (size_of (b ∷ bs) - 1) line (at + 1) bs))))
