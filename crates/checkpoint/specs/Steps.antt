-- What the steps of `compact` do to the files of the slot that isn't live.
use Rattle.std.specs.Prelude.{◌≡◌, ◌≢◌, ◌⊎◌, ℕ, ◌<◌, ◌≤◌, List, [], length, take, slice_index}
use Rattle.base_types.specs.declared.calls.GrainId.{GrainId}
use Rattle.host_trait.specs.declared.channels.FileId.{FileId}
use Rattle.host_trait.specs.declared.channels.FileId.TheVariants.{Manager, Grain}
use Rattle.host_trait.specs.Disk.{FileState, MayLeave, Tears, settled}
use Rattle.host_trait.specs.World.{World, Moment, Passes, Arrives, moment_of}
use Rattle.host_trait.specs.Runs.{RunsOnFile, OnlyAsked}

-- the bytes are what they were
abbrev pub Stays : List ℕ → List ℕ → Type 0
Stays old new = new ≡ old

-- the first byte is what it was
abbrev pub KeepsGate : List ℕ → List ℕ → Type 0
KeepsGate old new = take 1 new ≡ take 1 old

-- the bytes may be any
abbrev pub MayBeAny : List ℕ → List ℕ → Type 0
MayBeAny old new = Unit {0}

-- nothing is pending in a file that reads as long as a header and a gate
abbrev pub LastsIfLong : FileState → Type 0
LastsIfLong file = 16 ≤ length file.seen → file ≡ settled file.seen

-- A manager file's header gate has to be closed: the file reads as empty; or nothing of it is pending, and it is too short for a
-- header, or its gate is open.
abbrev pub HasToClose : FileState → Type 0
HasToClose file = (file.seen ≡ []) ⊎ ((file ≡ settled file.seen) × ((length file.seen < 16) ⊎ (slice_index file.seen 0 ≡ 1)))

-- A slot's manager file was looked at, and then its header gate was closed, where it had to be.
pub record ClosesGate (slot : ℕ) (old new : World) : Type 0 where
  pub mid : World
  pub looked : RunsOnFile (Manager slot) Stays 1 old mid
  pub here : MayLeave (mid.disk (Manager slot)) (mid.disk (Manager slot)).seen
  pub closed : OnlyAsked mid new ⊎ (HasToClose (mid.disk (Manager slot)) × RunsOnFile (Manager slot) (Tears 0 1) 1 mid new)

-- nothing was emitted, and only files of this slot's grains are otherwise than they were
pub record IsInCopying (slot : ℕ) (old : World) (m : Moment) : Type 0 where
  pub output : m.output ≡ old.output
  pub others : (file : FileId) → ((grain : GrainId) → file ≢ Grain slot grain) → m.disk file ≡ old.disk file

-- at each moment, and no input was taken
pub record OnlyCopies (slot : ℕ) (old new : World) : Type 0 where
  pub input : new.input ≡ old.input
  pub now : IsInCopying slot old (moment_of new)
  pub moments : Passes (IsInCopying slot old) old.past new.past
  pub clock : Arrives old new
