-- Lists that stand place by place do so with the last first.
use Rattle.std.proofs.Common.{sym, subst, List, [], ◌∷◌, ◌++◌}
use Rattle.std.specs.Prelude.{reverse}
use Rattle.std.specs.List.{AllZip}
use Rattle.std.proofs.lemmas.List.{reverse-append, reverse-reverse}
use Rattle.cj_ir.proofs.Zips.{AllZip-push}

pub zip_reverse : {A B : Type 0} (R : A → B → Type 0) (xs : List A) (ys : List B) → AllZip R xs ys → AllZip R (reverse xs) (reverse ys)
zip_reverse R [] [] h = h
zip_reverse R [] (y ∷ ys) h = absurd h
zip_reverse R (x ∷ xs) [] h = absurd h
zip_reverse {A} {B} R (x ∷ xs) (y ∷ ys) h =
    let last = AllZip-push R (reverse xs) (reverse ys) x y (zip_reverse R xs ys h.1) h.0 in
    let right = subst (AllZip R (reverse xs ++ x ∷ [])) (sym (reverse-append (y ∷ []) ys)) last in
    subst (λ (zs : List A). AllZip R zs (reverse (y ∷ ys))) (sym (reverse-append (x ∷ []) xs)) right

pub zip_turned : {A B : Type 0} (R : A → B → Type 0) (xs : List A) (ys : List B) → AllZip R (reverse xs) ys → AllZip R xs (reverse ys)
zip_turned {A} {B} R xs ys h = subst (λ (zs : List A). AllZip R zs (reverse ys)) (reverse-reverse xs) (zip_reverse R (reverse xs) ys h)
