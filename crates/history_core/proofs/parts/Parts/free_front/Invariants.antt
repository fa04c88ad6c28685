use Rattle.std.proofs.Common.{◌≡◌, ◌+◌, drop, map}
use Rattle.open_batch.specs.Members.{effect_in}
use Rattle.history_core.specs.UnitsWithoutLocks.{front_by}
use Rattle.history_core.proofs.parts.Parts.free_front.Given as goal

abbrev pub invariant-loop-member : goal.invariant-loop-member
invariant-loop-member l = record {
  rest : l.size + front_by l.self (map effect_in (drop l.member-index l.members)) ≡ front_by l.self (map effect_in l.members);
  is : l.size ≡ l.member-index;
}
