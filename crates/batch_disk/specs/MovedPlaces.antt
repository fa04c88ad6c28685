-- Where the grains' last versions stand once a batch is sealed.
use Rattle.std.specs.Prelude.{ℕ, true, if◌then◌else◌, List, [], ◌∷◌, Option, Some, None}
use Rattle.base_types.specs.declared.calls.GrainId.{GrainId}
use Rattle.base_types.specs.declared.calls.UnitNo.{UnitNo}
use Rattle.base_types.specs.declared.calls.Value.{Value}
use Rattle.base_types.specs.declared.places.Placed.{Placed}
use Rattle.base_types.specs.declared.stores.Place.{Place}
use Rattle.base_types.specs.declared.stores.Version.{Version}
use Rattle.host_trait.specs.Files.{same_grain}
use Rattle.commit_log.specs.declared.records.Written.{Written}
use Rattle.commit_log.specs.declared.records.CommitRecord.{CommitRecord}
use Rattle.commit_log.specs.declared.gate.Sealing.{Sealing}
use Rattle.commit_log.specs.declared.gate.Sealing.TheVariants.{Sealed, NotSealed, InDoubt}
use Rattle.promise_spec.specs.Records.{Commit}
use Rattle.batch_disk.specs.ImagesAtRest.{Voted}
use Rattle.batch_disk.specs.KeptPlaces.{version_of}
use Rattle.batch_disk.specs.Records.{is_version}

-- a version of this run at its place, written under the program of this number
abbrev pub placed_new : ℕ → Place → Version → Placed
placed_new number place version = record { place = place; program = number; is_new = true; known = record { version = version } }

-- ---- by the states that the units wrote

-- where a grain's last version stands once these states of a unit count, at the places that its record names
abbrev pub placed_by_states : ℕ → UnitNo → List Written → List (List Value) → GrainId → Option Placed → Option Placed
placed_by_states number unit [] states g old = old
placed_by_states number unit (w ∷ ws) [] g old = old
placed_by_states number unit (w ∷ ws) (state ∷ states) g old =
    placed_by_states number unit ws states g (if same_grain w.grain g then Some (placed_new number w.place (record { unit = unit; state = state })) else old)

-- once these units count
abbrev pub placed_by_commits : ℕ → List Commit → GrainId → Option Placed → Option Placed
placed_by_commits number [] g old = old
placed_by_commits number (c ∷ cs) g old = placed_by_commits number cs g (placed_by_states number c.logged.unit c.logged.writes c.states g old)

-- after a seal of these units was answered: only a sealed batch moves places
abbrev pub place_after : ℕ → Sealing → List Commit → GrainId → Option Placed → Option Placed
place_after number (Sealed next) batch g old = placed_by_commits number batch g old
place_after number NotSealed batch g old = old
place_after number InDoubt batch g old = old

-- ---- by the versions that the votes kept

-- a unit's version of a grain among those that were voted
abbrev pub version_among : UnitNo → GrainId → List Voted → Option Voted
version_among unit grain [] = None
version_among unit grain (v ∷ vs) = if is_version unit grain v then Some v else version_among unit grain vs

-- a version that a vote kept is the last one, where there is such a version
abbrev pub moved_to : ℕ → Option Voted → Option Placed → Option Placed
moved_to number None old = old
moved_to number (Some v) old = Some (placed_new number v.write.place (version_of v))

-- where a grain's last version stands once a unit's version of this grain counts
abbrev pub moved_by_write : ℕ → List Voted → UnitNo → GrainId → GrainId → Option Placed → Option Placed
moved_by_write number kept unit grain g old = if same_grain grain g then moved_to number (version_among unit grain kept) old else old

-- once what a unit's record names counts
abbrev pub moved_by_writes : ℕ → List Voted → UnitNo → List Written → GrainId → Option Placed → Option Placed
moved_by_writes number kept unit [] g old = old
moved_by_writes number kept unit (w ∷ ws) g old = moved_by_writes number kept unit ws g (moved_by_write number kept unit w.grain g old)

-- once these records count
abbrev pub moved_by_records : ℕ → List Voted → List CommitRecord → GrainId → Option Placed → Option Placed
moved_by_records number kept [] g old = old
moved_by_records number kept (r ∷ rs) g old = moved_by_records number kept rs g (moved_by_writes number kept r.unit r.writes g old)
