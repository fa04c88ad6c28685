-- Bytes of files that were read ahead, and what they say of the files.
use Rattle.std.specs.Prelude.{◌≡◌, ◌⊎◌, ◌+◌, ◌<◌, ◌≤◌, ℕ, IsTrue, Some, List, ◌++◌, length, take, drop, All}
use Rattle.std.specs.Option.{ForSome}
use Rattle.host_trait.specs.declared.channels.FileId.{FileId}
use Rattle.host_trait.specs.World.{Disk}
use Rattle.host_files.specs.declared.windows.Window.{Window}
use Rattle.host_files.specs.declared.windows.Measured.{Measured}
use Rattle.host_files.specs.declared.windows.Windows.{Windows}

-- So many bytes of a file, from this offset on, were moved into the front of a slice: at least so many, or up to the file's end.
pub record TookSome (count least at : ℕ) (file old new : List ℕ) : Type 0 where
  pub within : 0 < count → at + count ≤ length file
  pub end : count < least → length file ≤ at + count
  pub bytes : new ≡ take count (drop at file) ++ drop count old

-- What a window says of a file is so: its bytes are the file's from there on, and the file ends behind them where it says so.
pub record ShowsFile (window : Window) (file : List ℕ) : Type 0 where
  pub within : 0 < window.count → window.from + window.count ≤ length file
  pub end : IsTrue window.is_last → length file ≤ window.from + window.count
  pub bytes : take window.count window.bytes.items ≡ take window.count (drop window.from file)

-- what a window says of its file is so, where it has one
abbrev pub IsTrueOf : Disk → Window → Type 0
IsTrueOf disk window = ForSome window.file (λ file. ShowsFile window (disk file).seen)

-- The window is of this file, and reaches so many bytes from this offset on, or up to the file's end.
pub record Reaches (file : FileId) (at size : ℕ) (window : Window) : Type 0 where
  pub own : window.file ≡ Some file
  pub begins : window.from ≤ at
  pub ends : (at + size ≤ window.from + window.count) ⊎ IsTrue window.is_last

-- a length that was seen is the file's
abbrev pub IsMeasured : Disk → Measured → Type 0
IsMeasured disk measured = measured.length ≡ length (disk measured.file).seen

-- where what windows say is believed, it is so
pub record AreTrueOf (disk : Disk) (windows : Windows) : Type 0 where
  pub shown : IsTrue windows.are_true → All (IsTrueOf disk) windows.all.items
  pub measured : IsTrue windows.are_true → ForSome windows.measured (IsMeasured disk)
