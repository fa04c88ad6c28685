-- Where the last version of each grain stands, as a run goes on, and what its loads rest on.
use Rattle.std.specs.Prelude.{◌≡◌, true, false, List, Option, Some, None, ◌++◌, ⊤}
use Rattle.base_types.specs.Places.{placed_in}
use Rattle.base_types.specs.declared.places.Placed.{Placed}
use Rattle.base_types.specs.declared.stores.Version.{Version}
use Rattle.host_trait.specs.World.{Disk}
use Rattle.core_model.specs.CoreState.{GrainId, nobody, Member, Value}
use Rattle.core_model.specs.LegalRuns.{Run, begins, ends}
use Rattle.core_model.specs.SerialOrder.{AllLoadsTrue}
use Rattle.promise_spec.specs.Entries.{initial_states}
use Rattle.promise_spec.specs.Programs.{shape_in}
use Rattle.promise_spec.specs.Journals.{commits_of}
use Rattle.batch_disk.specs.ImagesAtRest.{Voted}
use Rattle.batch_disk.specs.KeptPlaces.{PlacesStand}
use Rattle.batch_disk.specs.LastVersions.{version_told}
use Rattle.batch_disk.specs.Writers.{kept_of}
use Rattle.batch_disk.specs.declared.writer.BatchWriter.{BatchWriter}
use Rattle.settler_rules.specs.Votes.{IsOfVote}
use Rattle.run_books.specs.Beginnings.{Outset}
use Rattle.run_books.specs.Books.{Books}
use Rattle.run_books.specs.LastVersions.{last_own}

-- the grain's place is that of this version of the run's own; where the run has none, the place is none of its own
abbrev pub IsPlacedAs : Option Version → Option Placed → Type 0
IsPlacedAs None None = ⊤
IsPlacedAs None (Some p) = p.is_new ≡ false
IsPlacedAs (Some v) None = ⊥
IsPlacedAs (Some v) (Some p) = (p.is_new ≡ true) × (p.known.version ≡ v)

-- A grain without a place had its type's initial fields where the run began; at a place that is none of the run's own stands the state
-- that the grain had then.
abbrev pub IsOfOpening : List Value → List Value → Option Placed → Type 0
IsOfOpening initial began None = began ≡ initial
IsOfOpening initial began (Some p) = p.is_new ≡ false → p.known.version.state ≡ began

-- what is loaded by a place: the version that is told of there; without a place the type's initial fields, which are nobody's
abbrev pub loaded_by : List Value → Option Placed → Version
loaded_by initial None = record { unit = nobody; state = initial }
loaded_by initial (Some p) = version_told p

-- what is loaded of a grain by the place that the writer knows
abbrev pub load_by : Outset → BatchWriter → GrainId → Version
load_by o writer g = loaded_by (initial_states o.program g) (placed_in writer.places g)

-- the versions that the writer keeps are those of votes of the core's batches
abbrev pub AreOfVotes : Run → BatchWriter → Type 0
AreOfVotes r writer = (v : Voted) → Member v (kept_of writer) → IsOfVote (ends r) writer.batch v.unit v.write.grain v.state

-- What is kept is of the core's votes, and what is kept the places of stands there. Each grain's place is that of its last version by the
-- books' records, and before them it is what the grain had where the run began. So each grain that was brought into memory had its last
-- committed version.
pub record KeepsVersions (o : Outset) (b : Books) (r : Run) (writer : BatchWriter) (disk : Disk) : Type 0 where
  pub votes : AreOfVotes r writer
  pub stand : PlacesStand o.live (shape_in o.program) writer disk
  pub own : (g : GrainId) → IsPlacedAs (last_own g (commits_of (b.said ++ b.unsaid))) (placed_in writer.places g)
  pub opened : (g : GrainId) → IsOfOpening (initial_states o.program g) (r.opening g) (placed_in writer.places g)
  pub loads : AllLoadsTrue r.opening (begins r) r.events
