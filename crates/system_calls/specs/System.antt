-- What the operating system holds of a folder and of the standard streams, and what its calls do.
use Rattle.std.specs.Prelude.{◌≡◌, ◌≢◌, ◌⊎◌, ℕ, zero, suc, ◌+◌, ◌^◌, ◌<◌, ◌≤◌, Bool, false, IsTrue, List, [], ◌∷◌, ◌++◌, length, take, drop}
use Rattle.host_trait.specs.declared.channels.FileId.{FileId}
use Rattle.host_trait.specs.Disk.{FileState, MayLeave, Tears, Pends, overlaid}
use Rattle.host_trait.specs.World.{World, Moment, Written, Synced, moment_of}

-- The streams and the files' bytes with the moments so far; for which files the folder's entry lasts; of which files a sync was
-- refused; and whether a sync of the folder was. A file whose entry doesn't last has no bytes that last either.
pub record System : Type 0 where
  pub world : World
  pub is_entered : FileId → Bool
  pub is_doubtful : FileId → Bool
  pub has_lost : Bool

-- What a crash may leave under a file's name: nothing where its entry doesn't last, or what the disk model says.
abbrev pub MayBeFound : System → FileId → List ℕ → Type 0
MayBeFound system file bytes = ((system.is_entered file ≡ false) × (bytes ≡ [])) ⊎ MayLeave (system.world.disk file) bytes

-- no sync was refused so far
pub record NoSyncRefused (system : System) : Type 0 where
  pub files : (file : FileId) → system.is_doubtful file ≡ false
  pub folder : system.has_lost ≡ false

-- no file has bytes
abbrev pub HasNoBytes : System → Type 0
HasNoBytes system = (file : FileId) → (system.world.disk file).seen ≡ []

-- the entries, and what is known of syncs, are as they were
pub record SameEntries (old new : System) : Type 0 where
  pub entered : new.is_entered ≡ old.is_entered
  pub doubtful : new.is_doubtful ≡ old.is_doubtful
  pub lost : new.has_lost ≡ old.has_lost

-- this file may have been made, so that its entry may not last
pub record MakesFile (file : FileId) (old new : System) : Type 0 where
  pub world : new.world ≡ old.world
  pub others : (f : FileId) → f ≢ file → new.is_entered f ≡ old.is_entered f
  pub doubtful : new.is_doubtful ≡ old.is_doubtful
  pub lost : new.has_lost ≡ old.has_lost

-- a sync of the folder: all entries last after one that succeeds
pub record EntersAll (ok : Bool) (old new : System) : Type 0 where
  pub world : new.world ≡ old.world
  pub entered : IsTrue ok → (f : FileId) → IsTrue (new.is_entered f)
  pub calm : IsTrue ok → new.has_lost ≡ old.has_lost
  pub stays : (f : FileId) → IsTrue (old.is_entered f) → IsTrue (new.is_entered f)
  pub doubtful : new.is_doubtful ≡ old.is_doubtful

-- a sync of a file's bytes
pub record SyncsData (file : FileId) (ok : Bool) (old new : System) : Type 0 where
  pub synced : Synced file ok old.world new.world
  pub count : IsTrue ok → new.world.syncs ≡ old.world.syncs + 1
  pub entered : new.is_entered ≡ old.is_entered
  pub lost : new.has_lost ≡ old.has_lost
  pub others : (f : FileId) → f ≢ file → new.is_doubtful f ≡ old.is_doubtful f
  pub calm : IsTrue ok → new.is_doubtful file ≡ old.is_doubtful file

-- n bytes of a file, those from this place on behind the offset, were moved into the slice from that place on, and none only at
-- the file's end
pub record IsReadPart (n from at : ℕ) (file old new : List ℕ) : Type 0 where
  pub within : 0 < n → at + from + n ≤ length file
  pub small : 0 < n → at + from + n < 2 ^ 63
  pub end : n ≡ 0 → from < length old → length file ≤ at + from
  pub bytes : new ≡ take from old ++ (take n (drop (at + from) file) ++ drop (from + n) old)

-- What a call does to the clock: it is a moment of its own where it begins something, and where it goes on with what an earlier
-- one began, it is of that one's moment.
abbrev pub KeepsTime : ℕ → World → World → Type 0
KeepsTime zero old new = new.past ≡ old.past ++ moment_of new ∷ []
KeepsTime (suc from) old new = (before : List Moment) → old.past ≡ before ++ moment_of old ∷ [] → new.past ≡ before ++ moment_of new ∷ []

-- n more bytes were appended to the output, those from this place on
pub record AppendsPart (n from : ℕ) (bytes : List ℕ) (old new : System) : Type 0 where
  pub input : new.world.input ≡ old.world.input
  pub output : new.world.output ≡ old.world.output ++ take n (drop from bytes)
  pub disk : new.world.disk ≡ old.world.disk
  pub syncs : new.world.syncs ≡ old.world.syncs
  pub past : 0 < n → KeepsTime from old.world new.world
  pub none : n ≡ 0 → new ≡ old
  pub entries : SameEntries old new

-- this range is the last that is pending
pub record IsLastPending (at size : ℕ) (file : FileState) : Type 0 where
  pub before : List (ℕ × ℕ)
  pub ranges : file.ranges ≡ (at, size) ∷ before
  pub longest : at + size ≤ file.longest

-- A write of so many bytes at this offset may go on at this place of its own: the file reaches up to there, and behind the write's
-- begin its range is pending.
pub record MayWriteOn (from at size : ℕ) (file : FileState) : Type 0 where
  pub reach : at + from ≤ length file.seen
  pub pending : 0 < from → IsLastPending at size file

-- what a write leaves as it was: all other files, the streams, and the entries
pub record SameBeside (file : FileId) (old new : System) : Type 0 where
  pub others : (f : FileId) → f ≢ file → new.world.disk f ≡ old.world.disk f
  pub input : new.world.input ≡ old.world.input
  pub output : new.world.output ≡ old.world.output
  pub syncs : new.world.syncs ≡ old.world.syncs
  pub entries : SameEntries old new

-- the range of a write is pending: it is one more where the write begins, and is known already where it goes on
abbrev pub PendsFrom : ℕ → ℕ → ℕ → FileState → FileState → Type 0
PendsFrom zero at size old new = Pends at size old new
PendsFrom (suc from) at size old new = (new.base ≡ old.base) × (new.ranges ≡ old.ranges) × (new.longest ≡ old.longest)

-- a part of this length begins a write of these bytes: one of no bytes does so where there are none
abbrev pub Begins : ℕ → List ℕ → Type 0
Begins n bytes = n ≡ 0 → length bytes ≡ 0

-- of this write n more bytes were written, those from this place on
pub record WritesPart (n from : ℕ) (file : FileId) (at : ℕ) (bytes : List ℕ) (old new : System) : Type 0 where
  pub beside : SameBeside file old new
  pub pends : Begins n bytes → PendsFrom from at (length bytes) (old.world.disk file) (new.world.disk file)
  pub seen : (new.world.disk file).seen ≡ overlaid (old.world.disk file).seen (at + from) (take n (drop from bytes))
  pub past : Begins n bytes → KeepsTime from old.world new.world
  pub none : n ≡ 0 → 0 < length bytes → new ≡ old

-- Of a write that goes on, some part failed: any bytes may be seen in its range. One that begins has failed, or never began.
abbrev pub TearsFrom : ℕ → FileId → ℕ → ℕ → System → System → Type 0
TearsFrom zero file at size old new = Written file at size old.world new.world
TearsFrom (suc from) file at size old new = PendsFrom (suc from) at size (old.world.disk file) (new.world.disk file)
    × Tears at size (old.world.disk file).seen (new.world.disk file).seen
    × KeepsTime (suc from) old.world new.world

-- a part of a write was refused
pub record FailsPart (from : ℕ) (file : FileId) (at size : ℕ) (old new : System) : Type 0 where
  pub beside : SameBeside file old new
  pub torn : TearsFrom from file at size old new
