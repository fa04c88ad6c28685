use Rattle.std.proofs.Common.{map}
use Rattle.batch_disk.specs.Writers.{voted_by}
use Rattle.batch_disk.specs.Records.{AreRecordsFor}
use Rattle.batch_disk.proofs.records.records_of.Given as goal

abbrev pub invariant-loop-effect : goal.invariant-loop-effect
invariant-loop-effect l = record { made : AreRecordsFor (map voted_by l.kept) l.yielded l.records }
