-- What a vote on a grain leaves of the host, of the disk and of what is kept, by its answer. The slot of the writer is the first that
-- each is told.
use Rattle.std.specs.Prelude.{◌≡◌, ◌++◌, ℕ, List, length, Bool, true, false, IsTrue}
use Rattle.base_types.specs.declared.calls.GrainId.{GrainId}
use Rattle.base_types.specs.declared.shapes.Shape.{Shape}
use Rattle.base_types.specs.declared.stores.Version.{Version}
use Rattle.host_trait.specs.declared.channels.Channel.{Channel}
use Rattle.host_trait.specs.declared.channels.Channel.TheVariants.{File}
use Rattle.host_trait.specs.declared.channels.FileId.TheVariants.{Grain}
use Rattle.host_trait.specs.Disk.{Tears}
use Rattle.host_trait.specs.Faults.{NoneFailed, FailedOn}
use Rattle.host_trait.specs.World.{World, Passes}
use Rattle.host_trait.specs.Runs.{RunsOnFile}
use Rattle.grain_log.specs.Places.{spelling_of_versions, WroteVersions}
use Rattle.promise_spec.specs.Entries.{Log}
use Rattle.batch_disk.specs.ImagesAtRest.{NotAmong, AreOfType, voted_from}
use Rattle.batch_disk.specs.KeptPlaces.{PlacesStand}
use Rattle.batch_disk.specs.Moments.{KeepsLog}
use Rattle.batch_disk.specs.Writers.{file_end, voted_of, KeepsDisk, HasSameEnds}
use Rattle.batch_disk.specs.declared.writer.BatchWriter.{BatchWriter}

-- a vote of no is the grain's file's fault, and with a vote of yes nothing failed
abbrev pub HasVoteCause : ℕ → GrainId → Bool → (Channel → ℕ) → (Channel → ℕ) → Type 0
HasVoteCause live g true old new = NoneFailed old new
HasVoteCause live g false old new = FailedOn (File (Grain live g)) old new

-- what is kept after a vote: with a vote of yes these versions too
abbrev pub KeepsVotes : Bool → ℕ → GrainId → List Version → BatchWriter → BatchWriter → Type 0
KeepsVotes true n g versions before after = voted_of n after ≡ voted_of n before ++ voted_from g (file_end before g) versions
KeepsVotes false n g versions before after = voted_of n after ≡ voted_of n before

-- What the images keep while a grain's versions are written, and after it: the log that they had, and the places. What stands at the
-- places that are kept stands there after it too, with these versions where they are kept.
pub record KeepsImages (live n : ℕ) (g : GrainId) (versions : List Version) (before after : BatchWriter) (old new : World) : Type 0 where
  pub still : (shape : Shape) (head : List ℕ) (log : Log) (bodies : List (List ℕ)) → NotAmong g (voted_of n before)
      → KeepsDisk live shape head log bodies before old.disk → Passes (KeepsLog live head log old) old.past new.past
  pub keeps : (shape : Shape) (head : List ℕ) (log : Log) (bodies : List (List ℕ)) → NotAmong g (voted_of n before)
      → AreOfType shape g versions → KeepsDisk live shape head log bodies before old.disk → KeepsDisk live shape head log bodies after new.disk
  pub placed : (shape : Shape) → NotAmong g (voted_of n before) → AreOfType shape g versions → PlacesStand live shape before old.disk → PlacesStand live shape after new.disk

module _ {H : Type 0} (tells : Bool) (world : H → World) (faults : H → Channel → ℕ) where
  -- A grain's versions were to be written at its file's end, by one write and one sync, and the vote is what that answered. No other
  -- file and no output changes, and what is kept is this batch's.
  pub record VotesOn (live n : ℕ) (g : GrainId) (said : Bool) (versions : List Version) (before after : BatchWriter) (old new : H) : Type 0 where
    pub cause : HasVoteCause live g said (faults old) (faults new)
    pub run : IsTrue tells → RunsOnFile (Grain live g) (Tears (file_end before g) (length (spelling_of_versions versions))) 1 (world old) (world new)
    pub there : IsTrue tells → said ≡ true → WroteVersions (Grain live g) (file_end before g) versions (world old) (world new)
    pub kept : KeepsVotes said n g versions before after
    pub batch : after.batch ≡ n
    pub same : HasSameEnds before after
    pub images : IsTrue tells → KeepsImages live n g versions before after (world old) (world new)

  -- There was no memory to write them: the host holds what it held.
  pub record LacksRoom (live n : ℕ) (g : GrainId) (versions : List Version) (before after : BatchWriter) (old new : H) : Type 0 where
    pub calm : NoneFailed (faults old) (faults new)
    pub world_is : IsTrue tells → world new ≡ world old
    pub kept : voted_of n after ≡ voted_of n before
    pub batch : after.batch ≡ n
    pub same : HasSameEnds before after
    pub images : IsTrue tells → KeepsImages live n g versions before after (world old) (world new)
