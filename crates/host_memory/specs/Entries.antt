-- What a call makes of the entry of its file.
use Rattle.std.specs.Prelude.{◌≡◌, ℕ, ◌≤◌, true, List}
use Rattle.host_trait.specs.Disk.{overlaid}
use Rattle.host_trait.specs.Faults.{Rose}
use Rattle.host_memory.specs.declared.files.Stored.{Stored}

-- what is kept of a file is as it was
pub record IsSame (old new : Stored) : Type 0 where
  pub file : new.file ≡ old.file
  pub bytes : new.bytes.items ≡ old.bytes.items
  pub written : new.written ≡ old.written
  pub faults : new.faults ≡ old.faults

-- one fault more
pub record IsRaised (old new : Stored) : Type 0 where
  pub file : new.file ≡ old.file
  pub bytes : new.bytes.items ≡ old.bytes.items
  pub written : new.written ≡ old.written
  pub rose : Rose old.faults new.faults
  pub later : old.faults ≤ new.faults

-- these bytes were written over those of a file from a place on; nothing else of it has changed
pub record IsOverwritten (at : ℕ) (over : List ℕ) (old new : Stored) : Type 0 where
  pub file : new.file ≡ old.file
  pub bytes : new.bytes.items ≡ overlaid old.bytes.items at over
  pub written : new.written ≡ true
  pub faults : new.faults ≡ old.faults

-- a file has these bytes in place of its own; nothing else of it has changed
pub record IsReplaced (other : List ℕ) (old new : Stored) : Type 0 where
  pub file : new.file ≡ old.file
  pub bytes : new.bytes.items ≡ other
  pub written : new.written ≡ true
  pub faults : new.faults ≡ old.faults
