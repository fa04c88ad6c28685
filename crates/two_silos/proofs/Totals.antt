-- A sum of balances.
use Rattle.std.proofs.Common.{◌≡◌, ℕ, suc, ◌+◌, ◌-◌, ◌*◌, ◌%◌, ◌<◌, ◌≤◌, sym, ap, ◌∙◌, arith}
use Rattle.std.specs.Prelude.{ℤ, pos, neg_ℤ, ◌+ℤ◌, ◌≤ℤ◌}
use Rattle.std.proofs.lemmas.Int.{ints}
use mir.Val.{SFits}
use mir.Syntax.{w128}
use Rattle.two_silos.specs.World.{World, balance_in}
use Rattle.two_silos.specs.GeneratedEvents.{account}
use Rattle.two_silos.specs.Summaries.{or_zero, sum_from}

-- a balance fits
pub balance-fits : (b : ℤ) → neg_ℤ (pos 9223372036854775808) ≤ℤ b → b ≤ℤ pos 9223372036854775808 → SFits w128 b
balance-fits b low high = omega (arith, ints, low, high)

-- a sum of at most 64 of them fits
pub sum-fits : (s b : ℤ) (k : ℕ) → k < 64 → s ≤ℤ pos (k * 9223372036854775808) → neg_ℤ (pos (k * 9223372036854775808)) ≤ℤ s → neg_ℤ (pos 9223372036854775808) ≤ℤ b → b ≤ℤ pos 9223372036854775808 → SFits w128 (s +ℤ b)
sum-fits s b k few below above low high = omega (arith, ints, few, below, above, low, high)

pub sum-below : (s b : ℤ) (k : ℕ) → s ≤ℤ pos (k * 9223372036854775808) → b ≤ℤ pos 9223372036854775808 → (s +ℤ b) ≤ℤ pos ((k + 1) * 9223372036854775808)
sum-below s b k below high = omega (arith, ints, below, high)

pub sum-above : (s b : ℤ) (k : ℕ) → neg_ℤ (pos (k * 9223372036854775808)) ≤ℤ s → neg_ℤ (pos 9223372036854775808) ≤ℤ b → neg_ℤ (pos ((k + 1) * 9223372036854775808)) ≤ℤ (s +ℤ b)
sum-above s b k above low = omega (arith, ints, above, low)

-- nothing is added
pub zero-plus : (x : ℤ) → pos 0 +ℤ x ≡ x
zero-plus x = omega (arith, ints)

-- one more balance is added
pub sum_on : (w : World) (n i : ℕ) (sum next all : ℤ) → i < n → next ≡ sum +ℤ or_zero (balance_in w.nodes (i % 2) (account i)) → sum +ℤ sum_from w i (n - i) ≡ all → next +ℤ sum_from w (i + 1) (n - (i + 1)) ≡ all
sum_on w n i sum next all h here so_far =
    let one : n - i ≡ suc (n - (i + 1)) = omega (arith, h) in
    let with_one : sum +ℤ (or_zero (balance_in w.nodes (i % 2) (account i)) +ℤ sum_from w (i + 1) (n - (i + 1))) ≡ all = ap (λ k. sum +ℤ sum_from w i k) (sym one) ∙ so_far in
    omega (arith, ints, here, with_one)

-- none is left to add
pub sum_all : (w : World) (n i : ℕ) (sum all : ℤ) → n ≤ i → sum +ℤ sum_from w i (n - i) ≡ all → sum ≡ all
sum_all w n i sum all h so_far =
    let none : n - i ≡ 0 = omega (arith, h) in
    let with_none : sum +ℤ pos 0 ≡ all = ap (λ k. sum +ℤ sum_from w i k) (sym none) ∙ so_far in
    omega (arith, ints, with_none)
