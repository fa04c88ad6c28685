-- What a host holds, where it tells, and the moments of its clock.
use Rattle.std.specs.Prelude.{◌≡◌, ◌≢◌, ◌⊎◌, ℕ, ◌+◌, ◌-◌, ◌<◌, ◌≤◌, min, Bool, false, if◌then◌else◌, IsTrue, List, [], ◌∷◌, ◌++◌, length, take, drop, fold}
use Rattle.std.specs.List.{AllByRecursion}
use Rattle.host_trait.specs.declared.channels.FileId.{FileId}
use Rattle.host_trait.specs.Disk.{FileState, MayLeave, Wrote, after_sync, settled}
use Rattle.host_trait.specs.Files.{same_file}

-- the state of every file
abbrev pub Disk : Type 0
Disk = FileId → FileState

-- the bytes of every file; a file that isn't there has none
abbrev pub Image : Type 0
Image = FileId → List ℕ

-- a crash may leave this image
abbrev pub IsImage : Disk → Image → Type 0
IsImage disk image = (file : FileId) → MayLeave (disk file) (image file)

-- an image with other bytes in one file
abbrev pub with_bytes : Image → FileId → List ℕ → Image
with_bytes image file bytes f = if same_file file f then bytes else image f

-- A moment of the clock is a host call: the output by the call's end, and the files, whose images are those that a
-- crash within the call or just after it may leave. (Inside a sync they are those of the moment before.)
pub record Moment : Type 0 where
  pub output : List ℕ
  pub disk : Disk

-- the input that is left, the output so far, the files, how many syncs were asked, and the moments so far, the oldest first
pub record World : Type 0 where
  pub input : List ℕ
  pub output : List ℕ
  pub disk : Disk
  pub syncs : ℕ
  pub past : List Moment

-- the moment that is now
abbrev pub moment_of : World → Moment
moment_of w = record { output = w.output; disk = w.disk }

-- the moments from the old past to the new one, each of which has P
pub record Passes (P : Moment → Type 0) (old new : List Moment) : Type 0 where
  pub more : List Moment
  pub past : new ≡ old ++ more
  pub each : AllByRecursion P more

-- two runs of moments, one after the other: the early ones have P, the late ones Q
pub record PassesTwice (P Q : Moment → Type 0) (old new : List Moment) : Type 0 where
  pub turn : List Moment
  pub early : Passes P old turn
  pub late : Passes Q turn new

-- A call is one moment. One that leaves what a moment shows as it was may be none.
abbrev pub Ticks : World → World → Type 0
Ticks old new = (new.past ≡ old.past ++ moment_of new ∷ []) ⊎ ((new.past ≡ old.past) × (moment_of new ≡ moment_of old))

-- the last of these moments, or the one before them where there is none
abbrev pub last_of : Moment → List Moment → Moment
last_of before moments = fold (λ earlier later. later) before moments

-- The clock goes on to now: the moments of after are those of before and more, and the last of these is the one that is now.
pub record Arrives (old new : World) : Type 0 where
  pub more : List Moment
  pub past : new.past ≡ old.past ++ more
  pub last : last_of (moment_of old) more ≡ moment_of new

-- a call that changed nothing
pub record Asked (old new : World) : Type 0 where
  pub input : new.input ≡ old.input
  pub output : new.output ≡ old.output
  pub disk : new.disk ≡ old.disk
  pub syncs : new.syncs ≡ old.syncs
  pub past : Ticks old new

-- this many input bytes were moved to the front of `into`, and none only at the end or where there is no room
pub record Pulled (n : ℕ) (into : List ℕ) (old new : World) : Type 0 where
  pub bytes : take n into ≡ take n old.input
  pub count : n ≤ length old.input
  pub end : n ≡ 0 → 0 < length into → old.input ≡ []
  pub input : new.input ≡ drop n old.input
  pub output : new.output ≡ old.output
  pub disk : new.disk ≡ old.disk
  pub syncs : new.syncs ≡ old.syncs
  pub past : Ticks old new

-- the first n of the bytes were appended to the output
pub record Emitted (n : ℕ) (bytes : List ℕ) (old new : World) : Type 0 where
  pub count : n ≤ length bytes
  pub input : new.input ≡ old.input
  pub output : new.output ≡ old.output ++ take n bytes
  pub disk : new.disk ≡ old.disk
  pub syncs : new.syncs ≡ old.syncs
  pub past : Ticks old new

-- n bytes were moved to the front of the slice: the file's from this offset on, and fewer than asked only at its end
pub record Filled (n at : ℕ) (file old new : List ℕ) : Type 0 where
  pub count : n ≡ min (length old) (length file - at)
  pub bytes : new ≡ take n (drop at file) ++ drop n old

-- a write of n bytes to this file, whether it succeeded or not
pub record Written (file : FileId) (at n : ℕ) (old new : World) : Type 0 where
  pub state : Wrote at n (old.disk file) (new.disk file)
  pub others : (f : FileId) → f ≢ file → new.disk f ≡ old.disk f
  pub input : new.input ≡ old.input
  pub output : new.output ≡ old.output
  pub syncs : new.syncs ≡ old.syncs
  pub past : Ticks old new

-- a sync of this file, which succeeded or not; it was asked for once at most
pub record Synced (file : FileId) (ok : Bool) (old new : World) : Type 0 where
  pub state : new.disk file ≡ after_sync ok (old.disk file)
  pub others : (f : FileId) → f ≢ file → new.disk f ≡ old.disk f
  pub input : new.input ≡ old.input
  pub output : new.output ≡ old.output
  pub counted : old.syncs ≤ new.syncs
  pub once : new.syncs ≤ old.syncs + 1
  pub past : Ticks old new

-- all of the bytes were appended to the output
abbrev pub IsEmitted : List ℕ → World → World → Type 0
IsEmitted bytes old new = Emitted (length bytes) bytes old new

-- what a host that doesn't tell may be said to hold
abbrev pub empty_world : World
empty_world = record { input = []; output = []; disk = λ file. settled []; syncs = 0; past = [] }

-- a host that doesn't tell owes nothing of what it holds
pub untold : {A : Type 0} → IsTrue false → A
untold told = absurd (cc told)
