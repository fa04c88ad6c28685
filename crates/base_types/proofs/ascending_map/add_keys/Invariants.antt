-- The keys that came so far were added.
use Rattle.std.proofs.Common.{◌≡◌, ◌++◌, map}
use Rattle.base_types.proofs.ascending_map.add_keys.Given as goal

abbrev pub invariant-loop-key : goal.invariant-loop-key
invariant-loop-key g l = l.keys.items ≡ l.initial.keys.items ++ map (λ b. b.now) l.yielded
