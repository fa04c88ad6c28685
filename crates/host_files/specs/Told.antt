-- What the folder's calls do to what the system holds.
use Rattle.std.specs.Prelude.{◌≡◌, ◌≢◌, ◌+◌, Bool, false, IsTrue}
use Rattle.host_trait.specs.declared.channels.FileId.{FileId}
use Rattle.host_trait.specs.Files.{name_of}
use Rattle.host_trait.specs.World.{Synced}
use Rattle.system_calls.specs.System.{System}
use Rattle.host_files.specs.declared.table.Asked.{Asked}
use Rattle.host_files.specs.UnfailingCalls.{IsInPlace}

-- All is as it was, but for which entries last.
pub record SameButEntries (old new : System) : Type 0 where
  pub world : new.world ≡ old.world
  pub doubtful : new.is_doubtful ≡ old.is_doubtful

-- A sync of a file, which is counted where it succeeds. Where it fails, a sync of this file may have been refused, and of no other.
pub record SyncsFile (file : FileId) (ok : Bool) (old new : System) : Type 0 where
  pub synced : Synced file ok old.world new.world
  pub count : IsTrue ok → new.world.syncs ≡ old.world.syncs + 1
  pub others : (f : FileId) → f ≢ file → new.is_doubtful f ≡ old.is_doubtful f
  pub calm : IsTrue ok → new.is_doubtful file ≡ old.is_doubtful file

-- What is said of a file that is asked is true: this is its name; it is a regular file where it was seen to have bytes; and where no sync
-- of it is known to have failed, none was refused.
pub record IsRightlyAsked (tells : Bool) (is_regular : FileId → Bool) (system : System) (asked : Asked) : Type 0 where
  pub name : asked.name.now ≡ name_of asked.file
  pub had : IsTrue tells → IsTrue asked.had_bytes → IsTrue (is_regular asked.file)
  pub calm : IsTrue tells → asked.is_lost ≡ false → system.is_doubtful asked.file ≡ false

-- By what is said of the file that is asked, and as the system has it, nothing stands in the way of the call.
abbrev pub IsUnhindered : (FileId → Bool) → System → Asked → Type 0
IsUnhindered is_regular system asked = IsInPlace asked.is_lost asked.had_bytes (is_regular asked.file) (system.world.disk asked.file).seen
