use Rattle.std.proofs.Common.{◌≡◌, ◌∷◌, drop}
use Rattle.silo_nodes.specs.Coordinators.{is_unanimous}
use Rattle.silo_nodes.proofs.parts.has_all.Given as goal

abbrev pub invariant-loop-part : goal.invariant-loop-part
invariant-loop-part l = is_unanimous (drop l.part-index l.pending.parts) (l.from ∷ l.pending.yes) ≡ is_unanimous l.pending.parts (l.from ∷ l.pending.yes)
