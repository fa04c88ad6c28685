-- A key's digits, as `parse` reads them.
use Rattle.std.proofs.Common.{◌≡◌, ℕ, ◌^◌, ◌<◌, List, length, true, arith, rules, Some, None, Result, Ok, Err}
use Rattle.std.specs.Char.{is_ascii_digit}
use Rattle.std.specs.List.{list_all}
use Rattle.std.specs.Result.{result_ok}
use Rattle.std.specs.Str.Parse.{digits_value, ParsesUnsigned}
use Rattle.std.proofs.lemmas.Str.Parse.{IsNumeralModel, IsDigitsTest, numerals_by_value, parse_digits}
use Rattle.std.proofs.lemmas.Bool.Decides.{nat_tests}
use Rattle.request_wire.specs.Request.{is_digits, number_of}

-- the test and the value that `parse` reads are those of the specification
digits_test : IsDigitsTest (λ ds. list_all is_ascii_digit ds ≡ true)
digits_test = search rules

digits_model : IsNumeralModel (λ ds. list_all is_ascii_digit ds ≡ true) (digits_value 10)
digits_model = numerals_by_value _ digits_test

fits_some : (text : List ℕ) (n : ℕ) → (0 < length text) × (digits_value 10 text < 2 ^ 32) → n ≡ digits_value 10 text → Some n ≡ number_of text
fits_some text n h e = grind (arith, nat_tests)

fits_none : (text : List ℕ) → ((0 < length text) × (digits_value 10 text < 2 ^ 32) → ⊥) → None ≡ number_of text
fits_none text h = grind (arith, nat_tests)

pub number_of-parsed : {E : Type 0} (text : List ℕ) (r : Result ℕ E) → ParsesUnsigned 32 10 text r → is_digits text ≡ true → result_ok r ≡ number_of text
number_of-parsed {E} text (Ok n) h p = let k = parse_digits digits_model {E = E} 32 text (Ok n) h p in fits_some text n k.0 k.1
number_of-parsed {E} text (Err e) h p = fits_none text (parse_digits digits_model {E = E} 32 text (Err e) h p)

pub ruleset parsing = (number_of-parsed)
