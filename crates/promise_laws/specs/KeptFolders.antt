-- What a call leaves of a folder: a sound one, and one of the same program.
use Rattle.std.specs.Prelude.{◌≡◌, ◌⊎◌}
use Rattle.host_trait.specs.World.{Disk, Image, IsImage}
use Rattle.promise_spec.specs.Programs.{Program, IsChecked}
use Rattle.promise_spec.specs.Entries.{Log, standing_of}
use Rattle.promise_spec.specs.Logs.{HasLog}
use Rattle.promise_spec.specs.Loads.{bank_text}
use Rattle.promise_spec.specs.Courses.{Observed, seen_at_entry}
use Rattle.promise_spec.specs.Images.{IsSoundFolder}

-- over a sound folder the call leaves a sound one
abbrev pub LeavesSound : Observed → Type 0
LeavesSound r = IsSoundFolder r.old → IsSoundFolder r.new

-- the log of each image after has the base of the log of each image before that begins at its position
abbrev pub KeepsBases : Disk → Disk → Type 0
KeepsBases old new = (one two : Image) (a b : Log) → IsImage old one → IsImage new two → HasLog one a → HasLog two b
    → a.base.count ≡ b.base.count → a.base ≡ b.base

-- the log is that of an image at entry, or that which the files read as, or begins with the program in force at the end of that
abbrev pub HasSameProgram : Observed → Log → Type 0
HasSameProgram r after =
    ((entry : Image) × IsImage r.old.disk entry × HasLog entry after)
    ⊎ ((read : Log) × HasLog (seen_at_entry r) read × ((after ≡ read) ⊎ (after.base.program ≡ (standing_of read).program)))

-- the program of a load's silo
pub record IsBank (bank : Program) : Type 0 where
  pub checked : IsChecked bank
  pub text : bank.text ≡ bank_text
