-- The files that a host in memory keeps, as a list.
use Rattle.std.specs.Prelude.{◌≡◌, ℕ, ◌<◌, Bool, true, false, if◌then◌else◌, IsTrue, Option, Some, None, List, [], ◌∷◌, length, take, slice_index_or}
use Rattle.host_trait.specs.declared.channels.FileId.{FileId}
use Rattle.host_trait.specs.Files.{same_file}
use Rattle.host_memory.specs.declared.files.Stored.{Stored}

-- what is kept of a file: the first entry of its name
abbrev pub stored_in : List Stored → FileId → Option Stored
stored_in [] file = None
stored_in (stored ∷ files) file = if same_file stored.file file then Some stored else stored_in files file

-- there is an entry
abbrev pub is_stored : Option Stored → Bool
is_stored None = false
is_stored (Some stored) = true

-- the bytes of an entry, none where there is no entry
abbrev pub bytes_of : Option Stored → List ℕ
bytes_of None = []
bytes_of (Some stored) = stored.bytes.items

-- whether an entry's file was ever written
abbrev pub written_of : Option Stored → Bool
written_of None = false
written_of (Some stored) = stored.written

-- how often calls on an entry's file have failed, 0 where there is no entry
abbrev pub faults_of : Option Stored → ℕ
faults_of None = 0
faults_of (Some stored) = stored.faults

-- whether a file is in the list, its bytes, whether it was ever written, and how often its calls have failed
abbrev pub is_kept : List Stored → FileId → Bool
is_kept files file = is_stored (stored_in files file)

-- the bytes of a file, none where it isn't in the list
abbrev pub bytes_in : List Stored → FileId → List ℕ
bytes_in files file = bytes_of (stored_in files file)

-- whether a file was ever written
abbrev pub written_in : List Stored → FileId → Bool
written_in files file = written_of (stored_in files file)

-- how often calls on a file have failed
abbrev pub faults_in : List Stored → FileId → ℕ
faults_in files file = faults_of (stored_in files file)

-- the first entry of this file is there
pub record IsAt (files : List Stored) (file : FileId) (i : ℕ) : Type 0 where
  pub within : i < length files
  pub first : stored_in (take i files) file ≡ None
  pub here : (d : Stored) → (slice_index_or files i d).file ≡ file

-- each file that was in the list is in it still
abbrev pub StaysKept : List Stored → List Stored → Type 0
StaysKept old new = (file : FileId) → IsTrue (is_kept old file) → IsTrue (is_kept new file)

-- no file's bytes have changed, and none was written
abbrev pub SameBytes : List Stored → List Stored → Type 0
SameBytes old new = (file : FileId) → (bytes_in new file ≡ bytes_in old file) × (written_in new file ≡ written_in old file)

-- calls on each file have failed as often as before
abbrev pub SameFaults : List Stored → List Stored → Type 0
SameFaults old new = (file : FileId) → faults_in new file ≡ faults_in old file
