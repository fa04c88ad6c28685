-- What `create` does to a folder, at each moment and at its end.
use Rattle.std.specs.Prelude.{◌≡◌, ◌≢◌, ◌⊎◌, ℕ, ◌≤◌, List, [], take}
use Rattle.host_trait.specs.declared.channels.FileId.{FileId}
use Rattle.host_trait.specs.declared.channels.FileId.TheVariants.{Manager}
use Rattle.host_trait.specs.Disk.{FileState, settled}
use Rattle.host_trait.specs.World.{World, Moment, Image, Disk, IsImage, Passes, PassesTwice, moment_of}
use Rattle.silo_spec.specs.Silos.{manager, program_file, HasProgram, IsNewSilo, new_header}
use Rattle.silo_spec.specs.Slots.{IsLive}
use Rattle.silo_spec.specs.Moments.{IsAsAtEntry, IsUntouched}

-- an image that is a silo is such a silo, in slot 0
abbrev pub IsNewIfSilo : (List ℕ → Type 0) → List ℕ → Image → Type 0
IsNewIfSilo magic text image = (live : ℕ) → IsLive magic live image → (live ≡ 0) × IsNewSilo text image

-- the two files of a new silo: nothing is pending in them
pub record IsMade (text : List ℕ) (disk : Disk) : Type 0 where
  pub log_lasts : disk manager ≡ settled (disk manager).seen
  pub header : take 16 (disk manager).seen ≡ new_header
  pub program_lasts : disk program_file ≡ settled (disk program_file).seen
  pub program : HasProgram text (disk program_file).seen

-- a file is as it was, or what was read of it lasts now
abbrev pub IsLookedAt : FileState → FileState → Type 0
IsLookedAt old new = (new ≡ old) ⊎ (new ≡ settled old.seen)

-- the output and all files but these two are as they were, but that the other manager file was looked at too
pub record IsBeside (old : World) (m : Moment) : Type 0 where
  pub output : m.output ≡ old.output
  pub other : IsLookedAt (old.disk (Manager 1)) (m.disk (Manager 1))
  pub others : (file : FileId) → file ≢ manager → file ≢ Manager 1 → file ≢ program_file → m.disk file ≡ old.disk file

-- at each moment, and the input too
pub record StaysBeside (old new : World) : Type 0 where
  pub input : new.input ≡ old.input
  pub moments : Passes (IsBeside old) old.past new.past
  pub now : IsBeside old (moment_of new)

-- each image is no silo, or a silo of this program with an empty log
abbrev pub IsNewAt : (List ℕ → Type 0) → List ℕ → Moment → Type 0
IsNewAt magic text m = (image : Image) → IsImage m.disk image → IsNewIfSilo magic text image

-- A moment before each manager file that reads with bytes was synced: something is pending in one of them still, and nothing
-- was written.
pub record IsEarly (old : World) (m : Moment) : Type 0 where
  pub slot : ℕ
  pub low : slot ≤ 1
  pub bytes : (old.disk (Manager slot)).seen ≢ []
  pub pending : m.disk (Manager slot) ≢ settled (m.disk (Manager slot)).seen
  pub unwritten : IsAsAtEntry old m

-- The manager files that read with bytes were synced, which is done first. From the first moment on at which nothing is pending
-- in them, which is the return of the last of these syncs at the latest, each moment has P.
pub record FromFirstSync (P : Moment → Type 0) (old new : World) : Type 0 where
  pub moments : PassesTwice (IsEarly old) P old.past new.past
  pub now : P (moment_of new)

-- How far a call came, where no manager file that reads too short is a silo's: nothing was written at all, or these syncs have
-- succeeded, and from then on each image that is a silo is one of this program with an empty log.
abbrev pub CameThisFar : (List ℕ → Type 0) → List ℕ → World → World → Type 0
CameThisFar magic text old new = IsUntouched old new ⊎ FromFirstSync (IsNewAt magic text) old new
