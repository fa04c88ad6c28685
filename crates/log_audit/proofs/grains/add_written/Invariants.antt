use Rattle.std.proofs.Common.{◌≡◌, map, drop}
use Rattle.log_audit.specs.WrittenGrains.{grains_added}
use Rattle.log_audit.proofs.grains.add_written.Given as goal

abbrev pub invariant-loop-one : goal.invariant-loop-one
invariant-loop-one l = grains_added l.grains.keys (map (λ w. w.grain) (drop l.one-index l.writes)) ≡ grains_added l.fn.grains.keys (map (λ w. w.grain) l.writes)
