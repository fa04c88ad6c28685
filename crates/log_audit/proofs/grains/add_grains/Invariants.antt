use Rattle.std.proofs.Common.{◌≡◌, drop}
use Rattle.log_audit.specs.WrittenGrains.{grains_recorded, grains_added}
use Rattle.log_audit.proofs.grains.add_grains.Given as goal

abbrev pub invariant-loop-entry : goal.invariant-loop-entry
invariant-loop-entry l = grains_added l.grains.keys (grains_recorded (drop l.entry-index l.records)) ≡ grains_added l.fn.grains.keys (grains_recorded l.records)
