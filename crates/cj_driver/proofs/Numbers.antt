-- What the digits of a word write.
use Rattle.std.proofs.Common.{rules, arith, ◌≡◌, refl, ap, sym, ◌∙◌, ℕ, ◌<◌, ◌≤◌, ◌^◌, ◌&&◌, true, List, [], ◌∷◌, length, Some, None, Result, Ok, Err}
use Rattle.std.specs.Char.{is_ascii_digit}
use Rattle.std.specs.List.{list_all}
use Rattle.std.specs.Str.{all_ascii_digits}
use Rattle.std.specs.Str.Parse.{ParsesUnsigned}
use Rattle.std.proofs.lemmas.Bool.Decides.{nat_tests}
use Rattle.std.proofs.lemmas.Str.Parse.{parse_gives, digits_value_short}
use Rattle.cj_tokens.specs.Spellings.{value}
use Rattle.cj_tokens.proofs.Again.{value_is_numeral}
use Rattle.cj_driver.specs.Commands.{is_bench_number, bench_of}
use Rattle.cj_driver.specs.declared.command.Command.TheVariants.{Bench}

digits_all : (bytes : List ℕ) → list_all is_ascii_digit bytes ≡ all_ascii_digits bytes
digits_all [] = refl
digits_all (byte ∷ bytes) = ap (λ rest. is_ascii_digit byte && rest) (digits_all bytes)

-- up to six digits are read as a u32
read_as : {E : Type 0} (bytes : List ℕ) (answer : Result ℕ E) → list_all is_ascii_digit bytes ≡ true → 0 < length bytes → length bytes ≤ 6 →
    ParsesUnsigned 32 10 bytes answer → answer ≡ Ok (value 0 bytes)
read_as bytes answer digits some short parses =
    let all : all_ascii_digits bytes ≡ true = sym (digits_all bytes) ∙ digits in
    let small : value 0 bytes < 10 ^ 6 = digits_value_short value_is_numeral bytes 6 all short in
    parse_gives value_is_numeral 32 bytes answer parses all some (omega (arith, small))

bench_value : {E : Type 0} (bytes : List ℕ) (answer : Result ℕ E) → is_bench_number bytes ≡ true → ParsesUnsigned 32 10 bytes answer →
    answer ≡ Ok (value 0 bytes)
bench_value bytes answer is parses =
    let digits : list_all is_ascii_digit bytes ≡ true = search (rules, is) in
    let some : 0 < length bytes = grind (arith, nat_tests, is) in
    let short : length bytes ≤ 6 = grind (arith, nat_tests, is) in
    read_as bytes answer digits some short parses

-- the bench of the number that was read
pub bench_read : {E : Type 0} (bytes : List ℕ) (answer : Result ℕ E) (number : ℕ) → is_bench_number bytes ≡ true → ParsesUnsigned 32 10 bytes answer →
    answer ≡ Ok number → Some (Bench number) ≡ bench_of bytes
unfolding bench_of
bench_read bytes answer number is parses read =
    let same : Ok (value 0 bytes) ≡ Ok number = sym (bench_value bytes answer is parses) ∙ read in
    let e : value 0 bytes ≡ number = cc in
    rw (is, e) refl

-- a number is read
pub bench_unread : {E : Type 0} (bytes : List ℕ) (answer : Result ℕ E) (error : E) → is_bench_number bytes ≡ true → ParsesUnsigned 32 10 bytes answer →
    answer ≡ Err error → None ≡ bench_of bytes
bench_unread bytes answer error is parses read =
    let never : Ok (value 0 bytes) ≡ Err error = sym (bench_value bytes answer is parses) ∙ read in cc
