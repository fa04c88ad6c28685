use Rattle.std.proofs.Common.{map, take}
use Rattle.batch_disk.specs.Writers.{voted_by}
use Rattle.batch_disk.specs.Records.{HavePlaces}
use Rattle.batch_disk.proofs.records.places_of.Given as goal

abbrev pub invariant-loop-write : goal.invariant-loop-write
invariant-loop-write l = record { placed : HavePlaces (map voted_by l.kept) l.unit (take l.write-index l.writes) l.made }
