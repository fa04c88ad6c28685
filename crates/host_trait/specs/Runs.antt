-- What a run of host calls on one file does, at each moment and at its end.
use Rattle.std.specs.Prelude.{◌≡◌, ◌≢◌, ◌⊎◌, ℕ, ◌+◌, ◌≤◌, List}
use Rattle.host_trait.specs.declared.channels.FileId.{FileId}
use Rattle.host_trait.specs.Disk.{FileState, MayLeave, Pends}
use Rattle.host_trait.specs.World.{World, Moment, Disk, Image, IsImage, Passes, Arrives, moment_of}

-- each outcome of a crash is an earlier outcome, changed as R says
abbrev pub Follows : (List ℕ → List ℕ → Type 0) → FileState → FileState → Type 0
Follows R old new = (after : List ℕ) → MayLeave new after → (before : List ℕ) × MayLeave old before × R before after

-- At this moment the output and all other files are as in the old world, and each outcome of a crash in this file is
-- an outcome of then, changed as R says.
pub record ChangesFile (file : FileId) (R : List ℕ → List ℕ → Type 0) (old : World) (now : Moment) : Type 0 where
  pub output : now.output ≡ old.output
  pub others : (f : FileId) → f ≢ file → now.disk f ≡ old.disk f
  pub crash : Follows R (old.disk file) (now.disk file)

-- A run of calls that changed this file alone, with at most so many syncs: each moment was such, the last of them is now, and
-- what a read gives has changed as R says too.
pub record RunsOnFile (file : FileId) (R : List ℕ → List ℕ → Type 0) (most : ℕ) (old new : World) : Type 0 where
  pub input : new.input ≡ old.input
  pub counted : old.syncs ≤ new.syncs
  pub syncs : new.syncs ≤ old.syncs + most
  pub seen : R (old.disk file).seen (new.disk file).seen
  pub now : ChangesFile file R old (moment_of new)
  pub moments : Passes (ChangesFile file R old) old.past new.past
  pub clock : Arrives old new

-- a run of calls that only asked: each moment showed what the old world showed
pub record OnlyAsked (old new : World) : Type 0 where
  pub input : new.input ≡ old.input
  pub output : new.output ≡ old.output
  pub disk : new.disk ≡ old.disk
  pub syncs : new.syncs ≡ old.syncs
  pub moments : Passes (λ m. m ≡ moment_of old) old.past new.past

-- What a write that failed, or whose sync failed, has left: it never began, and all is as it was at each moment; or its range is
-- pending still.
abbrev pub HasFailedWrite : FileId → ℕ → ℕ → World → World → Type 0
HasFailedWrite file at n old new = OnlyAsked old new ⊎ Pends at n (old.disk file) (new.disk file)

-- an image that differs in one file alone from one of before, and there as R says
pub record ComesFrom (file : FileId) (R : List ℕ → List ℕ → Type 0) (old : Disk) (image : Image) : Type 0 where
  pub from : Image
  pub possible : IsImage old from
  pub others : (f : FileId) → f ≢ file → image f ≡ from f
  pub changed : R (from file) (image file)
