-- What the settler does to the host and to what it keeps of the disk, by the event that it makes of it. The slot of its writer is
-- the first that each is told.
use Rattle.std.proofs.Common.{inl, inr}
use Rattle.std.specs.Prelude.{◌≡◌, ◌⊎◌, ℕ, List, [], Bool, true, false, Option, Some, None, Ok, slice_get, IsTrue}
use Rattle.base_types.specs.Places.{placed_in}
use Rattle.base_types.specs.declared.calls.GrainId.{GrainId}
use Rattle.base_types.specs.declared.calls.Value.{Value}
use Rattle.base_types.specs.declared.shapes.Shape.{Shape}
use Rattle.base_types.specs.declared.shapes.TypeShape.{TypeShape}
use Rattle.base_types.specs.declared.places.Placed.{Placed}
use Rattle.base_types.specs.declared.stores.Version.{Version}
use Rattle.base_types.specs.declared.entries.Entry.{Entry}
use Rattle.cell_model.specs.Units.{nobody}
use Rattle.host_trait.specs.declared.channels.Channel.{Channel}
use Rattle.host_trait.specs.declared.channels.Channel.TheVariants.{Output}
use Rattle.host_trait.specs.Faults.{NoneFailed, FailedOn}
use Rattle.host_trait.specs.World.{World, Emitted as IsAppended, IsEmitted}
use Rattle.host_trait.specs.Runs.{OnlyAsked}
use Rattle.commit_log.specs.declared.gate.Sealing.{Sealing}
use Rattle.request_wire.specs.Reply.{reply_line}
use Rattle.core_model.specs.CoreState.{CoreState}
use Rattle.core_model.specs.declared.effects.Effect.{Effect}
use Rattle.core_model.specs.declared.events.CoreEvent.{CoreEvent}
use Rattle.core_model.specs.declared.events.CoreEvent.TheVariants.{Vote, Sealed, NotSealed, Doubt, Emitted, Load}
use Rattle.core_model.specs.Settler.{versions_to_write, to_commit}
use Rattle.promise_spec.specs.Records.{Commit}
use Rattle.batch_disk.specs.Writers.{voted_of}
use Rattle.batch_disk.specs.Records.{commits_by, AreRecordsFor, IsSealable}
use Rattle.batch_disk.specs.Seals.{SealsWork}
use Rattle.batch_disk.specs.VoteAnswers.{VotesOn}
use Rattle.batch_disk.specs.KeptPlaces.{PlacesStand}
use Rattle.batch_disk.specs.LastVersions.{version_told, ReadsLast}
use Rattle.batch_disk.specs.declared.records.SealWork.{SealWork}
use Rattle.batch_disk.specs.declared.writer.BatchWriter.{BatchWriter}
use Rattle.settler_rules.specs.Entries.{IsEntryInRange}
use Rattle.settle_loop.specs.ShownWork.{event_of}

-- the initial fields of a type, none where there is no type
abbrev pub type_initial : Option TypeShape → List Value
type_initial None = []
type_initial (Some type) = type.initial

-- those of a grain's type
abbrev pub initial_in : Shape → GrainId → List Value
initial_in shape g = type_initial (slice_get shape.types g.kind)

-- what is brought into memory of a grain of which this was read: where it has no version, its type's initial fields, which are
-- nobody's
abbrev pub version_loaded : Shape → GrainId → Option Version → Version
version_loaded shape g None = record { unit = nobody; state = initial_in shape g }
version_loaded shape g (Some version) = version

-- what is to be brought into memory of a grain whose last version is there
abbrev pub version_due : Shape → GrainId → Option Placed → Version
version_due shape g None = record { unit = nobody; state = initial_in shape g }
version_due shape g (Some p) = version_told p

module _ {H : Type 0} (tells : Bool) (world : H → World) (faults : H → Channel → ℕ) where
  -- no host call was made, and nothing that is kept of the disk changed
  pub record MakesNoCall (before after : BatchWriter) (old new : H) : Type 0 where
    pub host : new ≡ old
    pub writer : after ≡ before

  -- The records of these units were to be sealed, and the event is what that answered.
  pub record SealsUnits (live n : ℕ) (e : CoreEvent) (effects : List Effect) (before after : BatchWriter) (old new : H) : Type 0 where
    pub sure : before.in_doubt ≡ false
    pub answer : Sealing
    pub event : e ≡ event_of n answer
    pub work : SealWork
    pub records : AreRecordsFor (voted_of n before) effects work.records
    pub sealable : IsSealable before work
    pub leaves : SealsWork tells world faults live work answer before after old new

  -- An earlier seal was left in doubt: the same is told without a host call.
  pub record DoubtsAgain (before after : BatchWriter) (old new : H) : Type 0 where
    pub unsure : before.in_doubt ≡ true
    pub none : MakesNoCall before after old new

  -- what becomes of the output: it is longer by the entry's line, or, for a quiet settler, as it was
  abbrev pub HasLine : Bool → Shape → Entry → H → H → Type 0
  HasLine true shape entry old new = new ≡ old
  HasLine false shape entry old new = NoneFailed (faults old) (faults new) × (IsTrue tells → IsEmitted (reply_line shape entry) (world old) (world new))

  -- The next entry's line is written.
  pub record WritesEntry (quiet : Bool) (shape : Shape) (w : CoreState) (before after : BatchWriter) (old new : H) : Type 0 where
    pub entry : Entry
    pub range : IsEntryInRange entry
    pub next : slice_get w.manager.settled w.manager.emitted ≡ Some entry
    pub line : HasLine quiet shape entry old new
    pub writer : after ≡ before

  -- The output failed, and has a first part of the next entry's line.
  pub record CutsEntry (quiet : Bool) (shape : Shape) (w : CoreState) (before after : BatchWriter) (old new : H) : Type 0 where
    pub loud : quiet ≡ false
    pub entry : Entry
    pub range : IsEntryInRange entry
    pub next : slice_get w.manager.settled w.manager.emitted ≡ Some entry
    pub part : IsTrue tells → (length_of : ℕ) × IsAppended length_of (reply_line shape entry) (world old) (world new)
    pub fault : FailedOn Output (faults old) (faults new)
    pub writer : after ≡ before

  -- A grain's last version was read, and this is brought into memory of it. Where the versions stand at their places it is the one
  -- that is kept.
  pub record LoadsGrain (live : ℕ) (shape : Shape) (g : GrainId) (loaded : Version) (before after : BatchWriter) (old new : H) : Type 0 where
    pub read : Option Version
    pub reads : ReadsLast tells world faults live shape g before old new (Ok read)
    pub loads : loaded ≡ version_loaded shape g read
    pub told : IsTrue tells → PlacesStand live shape before (world old).disk → loaded ≡ version_due shape g (placed_in before.places g)
    pub calm : NoneFailed (faults old) (faults new)
    pub asked : IsTrue tells → OnlyAsked (world old) (world new)
    pub writer : after ≡ before

  -- What was done to the host where the step makes this event: the host calls that belong to it, and no others.
  abbrev pub DoesFor : ℕ → CoreEvent → Bool → Shape → CoreState → BatchWriter → BatchWriter → H → H → Type 0
  DoesFor live (Vote n g said) quiet shape w before after old new = VotesOn tells world faults live n g said (versions_to_write w w.manager.batch g) before after old new
  DoesFor live (Sealed n) quiet shape w before after old new = SealsUnits live n (Sealed n) (to_commit w w.manager.batch) before after old new
  DoesFor live (NotSealed n) quiet shape w before after old new = SealsUnits live n (NotSealed n) (to_commit w w.manager.batch) before after old new
  DoesFor live (Doubt n) quiet shape w before after old new = SealsUnits live n (Doubt n) (to_commit w w.manager.batch) before after old new ⊎ DoubtsAgain before after old new
  DoesFor live Emitted quiet shape w before after old new = WritesEntry quiet shape w before after old new
  DoesFor live (Load g u state) quiet shape w before after old new = LoadsGrain live shape g (record { unit = u; state = state }) before after old new
  DoesFor live _ quiet shape w before after old new = MakesNoCall before after old new

  -- the batch that was to be sealed, as its records were made: none by any other event
  abbrev pub batch_made : (live : ℕ) (e : CoreEvent) (quiet : Bool) (shape : Shape) (w : CoreState) (before after : BatchWriter) (old new : H) → DoesFor live e quiet shape w before after old new → List Commit
  batch_made live (Sealed n) quiet shape w before after old new does = commits_by (to_commit w w.manager.batch) does.work.records
  batch_made live (NotSealed n) quiet shape w before after old new does = commits_by (to_commit w w.manager.batch) does.work.records
  batch_made live (Doubt n) quiet shape w before after old new (inl does) = commits_by (to_commit w w.manager.batch) does.work.records
  batch_made live (Doubt n) quiet shape w before after old new (inr does) = []
  batch_made live _ quiet shape w before after old new does = []
