-- Numbers in decimal.
use Rattle.std.proofs.Common.{◌≡◌, ℕ, ◌-◌, ◌+◌, ◌*◌, ◌<◌, ◌≤◌, ◌^◌, false, List, [], ◌∷◌, refl, sym, ◌∙◌, arith, drop, get_or, length, drop-cons, add-one}
use Rattle.std.specs.Prelude.{nat_lt}
use Rattle.std.proofs.lemmas.Bool.{le-ltb}
use Rattle.script_lexer.specs.Spellings.{number_from}

-- further digits never make a number smaller
pub number_grows : (n : ℕ) (ds : List ℕ) → n ≤ number_from n ds
number_grows n [] = omega arith
number_grows n (d ∷ ds) = omega (arith, number_grows (10 * n + (d - 48)) ds)

-- one digit further
pub number_step : (n i : ℕ) (ds : List ℕ) → i < length ds → number_from n (drop i ds) ≡ number_from (10 * n + (get_or ds i 0 - 48)) (drop (i + 1) ds)
number_step n i ds lt = rw (add-one, drop-cons ds i 0) refl

-- a number that is too great after a digit is too great
pub too_large : (first value i : ℕ) (ds : List ℕ) → i < length ds → number_from value (drop i ds) ≡ number_from first ds → 2 ^ 63 ≤ 10 * value + (get_or ds i 0 - 48) → nat_lt (number_from first ds) (2 ^ 63) ≡ false
too_large first value i ds lt e large =
    le-ltb _ _ (omega (arith, sym e ∙ e, number_step value i ds lt ∙ refl, e, number_grows (10 * value + (get_or ds i 0 - 48)) (drop (i + 1) ds)))
