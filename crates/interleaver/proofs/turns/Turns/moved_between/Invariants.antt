use Rattle.std.proofs.Common.{◌≡◌, ◌<◌, ◌≤◌, ℕ, Some}
use Rattle.unit_carrier.specs.CarriedUnits.{unit_at}
use Rattle.interleaver.proofs.turns.Turns.moved_between.Given as goal

abbrev pub invariant-loop-index : goal.invariant-loop-index
invariant-loop-index l = record {
  low : l.from ≤ l.index;
  others : (i : ℕ) → l.from ≤ i → i < l.index → l.self.moved ≡ Some (unit_at l.self.agents.list.items i) → ⊥;
}
