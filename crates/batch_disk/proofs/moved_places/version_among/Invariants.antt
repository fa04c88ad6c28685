use Rattle.std.proofs.Common.{◌≡◌, map, drop}
use Rattle.batch_disk.specs.Writers.{voted_by}
use Rattle.batch_disk.specs.MovedPlaces.{version_among}
use Rattle.batch_disk.proofs.moved_places.version_among.Given as goal

abbrev pub invariant-loop-version : goal.invariant-loop-version
invariant-loop-version l = record { rest : version_among l.unit l.grain (map voted_by (drop l.version-index l.kept)) ≡ version_among l.unit l.grain (map voted_by l.kept) }
