-- The grains that came so far are there, in their order.
use Rattle.std.proofs.Common.{◌≡◌, map}
use Rattle.base_types.proofs.stores.Store.grains.Given as goal

abbrev pub invariant-loop-grain : goal.invariant-loop-grain
invariant-loop-grain l = l.grains.items ≡ map (λ b. b.now) l.yielded
