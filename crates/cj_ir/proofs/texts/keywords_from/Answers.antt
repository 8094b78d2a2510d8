use Rattle.std.proofs.Common.{◌≡◌, ℕ, true, false, refl, sym, arith}
use Rattle.std.proofs.lemmas.Bool.Decides.{nat_tests}
use Rattle.std.specs.Prelude.{nat_eq}
use Rattle.std.specs.List.{enumerate_from}
use Rattle.cj_ir.specs.Texts.{keywords, keywords_from}
use Rattle.cj_ir.proofs.Keywords.{none_beginning, begins_none}
use Rattle.cj_ir.proofs.texts.keywords_from.Goals as goal

pub returns-in-97 : goal.returns-in-97
unfolding keywords_from
returns-in-97 c = rw c.in-97.is refl

pub returns-in-98 : goal.returns-in-98
unfolding keywords_from
returns-in-98 c = rw c.in-98.is refl

pub returns-in-99 : goal.returns-in-99
unfolding keywords_from
returns-in-99 c = rw c.in-99.is refl

pub returns-in-100 : goal.returns-in-100
unfolding keywords_from
returns-in-100 c = rw c.in-100.is refl

pub returns-in-101 : goal.returns-in-101
unfolding keywords_from
returns-in-101 c = rw c.in-101.is refl

pub returns-in-102 : goal.returns-in-102
unfolding keywords_from
returns-in-102 c = rw c.in-102.is refl

pub returns-in-103 : goal.returns-in-103
unfolding keywords_from
returns-in-103 c = rw c.in-103.is refl

pub returns-in-105 : goal.returns-in-105
unfolding keywords_from
returns-in-105 c = rw c.in-105.is refl

pub returns-in-107 : goal.returns-in-107
unfolding keywords_from
returns-in-107 c = rw c.in-107.is refl

pub returns-in-108 : goal.returns-in-108
unfolding keywords_from
returns-in-108 c = rw c.in-108.is refl

pub returns-in-109 : goal.returns-in-109
unfolding keywords_from
returns-in-109 c = rw c.in-109.is refl

pub returns-in-110 : goal.returns-in-110
unfolding keywords_from
returns-in-110 c = rw c.in-110.is refl

pub returns-in-111 : goal.returns-in-111
unfolding keywords_from
returns-in-111 c = rw c.in-111.is refl

pub returns-in-112 : goal.returns-in-112
unfolding keywords_from
returns-in-112 c = rw c.in-112.is refl

pub returns-in-114 : goal.returns-in-114
unfolding keywords_from
returns-in-114 c = rw c.in-114.is refl

pub returns-in-115 : goal.returns-in-115
unfolding keywords_from
returns-in-115 c = rw c.in-115.is refl

pub returns-in-116 : goal.returns-in-116
unfolding keywords_from
returns-in-116 c = rw c.in-116.is refl

pub returns-in-119 : goal.returns-in-119
unfolding keywords_from
returns-in-119 c = rw c.in-119.is refl

pub returns-in_default : goal.returns-in_default
unfolding keywords_from
returns-in_default c =
    sym (none_beginning c.args.first (enumerate_from 0 keywords) (none c.args.first
    (grind (arith, nat_tests)) (grind (arith, nat_tests)) (grind (arith, nat_tests)) (grind (arith, nat_tests)) (grind (arith, nat_tests))
    (grind (arith, nat_tests)) (grind (arith, nat_tests)) (grind (arith, nat_tests)) (grind (arith, nat_tests)) (grind (arith, nat_tests))
    (grind (arith, nat_tests)) (grind (arith, nat_tests)) (grind (arith, nat_tests)) (grind (arith, nat_tests)) (grind (arith, nat_tests))
    (grind (arith, nat_tests)) (grind (arith, nat_tests)) (grind (arith, nat_tests))))
  where
    none : (b : ℕ) →
        nat_eq 97 b ≡ false → nat_eq 98 b ≡ false → nat_eq 99 b ≡ false → nat_eq 100 b ≡ false → nat_eq 101 b ≡ false → nat_eq 102 b ≡ false →
        nat_eq 103 b ≡ false → nat_eq 105 b ≡ false → nat_eq 107 b ≡ false → nat_eq 108 b ≡ false → nat_eq 109 b ≡ false → nat_eq 110 b ≡ false →
        nat_eq 111 b ≡ false → nat_eq 112 b ≡ false → nat_eq 114 b ≡ false → nat_eq 115 b ≡ false → nat_eq 116 b ≡ false → nat_eq 119 b ≡ false →
        begins_none b (enumerate_from 0 keywords) ≡ true
    none b n97 n98 n99 n100 n101 n102 n103 n105 n107 n108 n109 n110 n111 n112 n114 n115 n116 n119 =
        rw (n97, n98, n99, n100, n101, n102, n103, n105, n107, n108, n109, n110, n111, n112, n114, n115, n116, n119) refl
