-- The grains that a log names.
use Rattle.std.specs.Prelude.{List, [], ◌∷◌, ◌++◌, map}
use Rattle.std.specs.List.{flat_map}
use Rattle.base_types.specs.declared.calls.GrainId.{GrainId}
use Rattle.commit_log.specs.declared.records.CommitRecord.{CommitRecord}
use Rattle.log_reading.specs.Entries.{BodyEntry, Recorded, Upgraded}
use Rattle.log_reading.specs.Blocks.{LogRead, records_read}
use Rattle.log_reading.specs.Versions.{ascending_with}

-- the grains that records wrote, in the log's order
abbrev pub grains_recorded : List CommitRecord → List GrainId
grains_recorded records = flat_map (λ r. map (λ w. w.grain) r.writes) records

-- those of what a block says
abbrev pub grains_said : BodyEntry → List GrainId
grains_said (Recorded records) = grains_recorded records
grains_said (Upgraded p) = []

-- those of its beginning, and then those
abbrev pub grains_of_log : LogRead → List GrainId
grains_of_log log = map (λ w. w.grain) log.base.writes ++ grains_recorded (records_read log.entries)

-- these grains, one after another, among others that ascend
abbrev pub grains_added : List GrainId → List GrainId → List GrainId
grains_added kept [] = kept
grains_added kept (g ∷ gs) = grains_added (ascending_with g kept) gs
