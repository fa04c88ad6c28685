-- Sums of balances fit 128 bits.
use Rattle.std.proofs.Common.{◌≡◌, ℕ, ◌+◌, ◌*◌, ◌<◌, ℤ, pos, neg_ℤ, ◌+ℤ◌, ◌≤ℤ◌, arith}
use Rattle.std.proofs.lemmas.Int.{ints}
use mir.Val.{SFits}
use mir.Syntax.{w128}

pub balance-fits : (b : ℤ) → neg_ℤ (pos 9223372036854775808) ≤ℤ b → b ≤ℤ pos 9223372036854775808 → SFits w128 b
balance-fits b low high = omega (arith, ints, low, high)

-- a sum of at most 64 of them
pub sum-fits : (s b : ℤ) (k : ℕ) → k < 64 → s ≤ℤ pos (k * 9223372036854775808) → neg_ℤ (pos (k * 9223372036854775808)) ≤ℤ s → neg_ℤ (pos 9223372036854775808) ≤ℤ b → b ≤ℤ pos 9223372036854775808 → SFits w128 (s +ℤ b)
sum-fits s b k few below above low high = omega (arith, ints, few, below, above, low, high)

pub sum-below : (s b : ℤ) (k : ℕ) → s ≤ℤ pos (k * 9223372036854775808) → b ≤ℤ pos 9223372036854775808 → (s +ℤ b) ≤ℤ pos ((k + 1) * 9223372036854775808)
sum-below s b k below high = omega (arith, ints, below, high)

pub sum-above : (s b : ℤ) (k : ℕ) → neg_ℤ (pos (k * 9223372036854775808)) ≤ℤ s → neg_ℤ (pos 9223372036854775808) ≤ℤ b → neg_ℤ (pos ((k + 1) * 9223372036854775808)) ≤ℤ (s +ℤ b)
sum-above s b k above low = omega (arith, ints, above, low)
