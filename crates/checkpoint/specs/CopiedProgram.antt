-- The program file of the live slot, copied into the other one.
use Rattle.std.specs.Prelude.{◌≡◌, ℕ, ◌-◌, List, ◌++◌, length, Ok}
use Rattle.std.specs.Int.{w32, to_le_bytes}
use Rattle.host_trait.specs.declared.channels.FileId.TheVariants.{Program as ProgramFile}
use Rattle.host_trait.specs.Disk.{overlaid, settled}
use Rattle.host_trait.specs.World.{Disk}
use Rattle.program_file.specs.Files.{text_in_file}

-- The text of the live slot's program file was written into the other slot's, its length before it, and nothing of that is pending.
pub record HasCopiedText (live : ℕ) (old new : Disk) : Type 0 where
  pub text : List ℕ
  pub from : text_in_file (old (ProgramFile live)).seen ≡ Ok text
  pub to : new (ProgramFile (1 - live)) ≡ settled (overlaid (old (ProgramFile (1 - live))).seen 0 (to_le_bytes w32 (length text) ++ text))
