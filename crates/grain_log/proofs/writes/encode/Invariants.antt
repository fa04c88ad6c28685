use Rattle.std.proofs.Common.{◌≡◌, take}
use Rattle.std.specs.List.{AllByRecursion}
use Rattle.field_codec.specs.declared.formats.Format.TheVariants.{Two}
use Rattle.field_codec.specs.Spelling.{VersionFits}
use Rattle.grain_log.specs.Places.{spelling_of_versions, places_from}
use Rattle.grain_log.proofs.writes.encode.Given as goal

abbrev pub invariant-loop-version : goal.invariant-loop-version
invariant-loop-version l = record {
  spelled : l.bytes.items ≡ spelling_of_versions (take l.version-index l.versions);
  placed : l.places ≡ places_from l.at (take l.version-index l.versions);
  fitting : AllByRecursion (VersionFits Two) (take l.version-index l.versions);
}
