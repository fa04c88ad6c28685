-- The greatest session of a log, which a checkpoint says in its place.
use Rattle.std.specs.Prelude.{◌≡◌, ℕ, ◌-◌, List, Ok}
use Rattle.host_trait.specs.declared.channels.FileId.TheVariants.{Manager, Program as ProgramFile}
use Rattle.host_trait.specs.World.{World, Image, IsImage}
use Rattle.field_codec.specs.declared.formats.Format.TheVariants.{Two}
use Rattle.gate_block.specs.Log.{bodies_of}
use Rattle.commit_log.specs.declared.records.CheckpointHead.{CheckpointHead}
use Rattle.commit_log.specs.declared.records.Written.{Written}
use Rattle.log_reading.specs.Sessions.{session_in_file}
use Rattle.log_reading.specs.Steps.{seen_in}
use Rattle.script_tree.specs.Programs.{ProgramTree}
use Rattle.program_file.specs.Files.{program_in_file}
use Rattle.promise_spec.specs.Programs.{Program}
use Rattle.promise_spec.specs.Entries.{Log, checkpointed}
use Rattle.promise_spec.specs.Openings.{Reads, opened_as}
use Rattle.checkpoint.specs.declared.compaction.Next.{Next}
use Rattle.checkpoint.specs.Pieces.{piece_bodies}
use Rattle.checkpoint.specs.NextGeneration.{MayFill, HasNextSilo}

-- The log of a manager file is the pieces of a checkpoint, and each says this session.
pub record SaysSession (session : ℕ) (file : List ℕ) : Type 0 where
  pub head : CheckpointHead
  pub front : List (List Written)
  pub last : List Written
  pub says : head.session ≡ session
  pub bodies : bodies_of file ≡ piece_bodies head front last

-- The other slot is filled: with whatever log it could be, each image has it there as a checkpoint, of the next generation, and that
-- says the session that was given.
pub record HasFilled (next : Next) (programs : List ProgramTree) (old new : World) : Type 0 where
  pub done : (p : Program) (log : Log) → MayFill next programs p log old → HasNextSilo next.live next.generation (checkpointed log) new.disk
  pub session : (image : Image) → IsImage new.disk image → SaysSession next.head.session (image (Manager (1 - next.live)))

-- Where the folder read as a silo, the other slot's checkpoint says in each image the greatest session of the log that was read.
abbrev pub KeepsSession : World → World → Type 0
KeepsSession old new =
    (live : ℕ) (log : Log) (first : Program) → opened_as (seen_in old.disk) ≡ Reads live log → program_in_file (seen_in old.disk (ProgramFile live)) ≡ Ok first → (image : Image) → IsImage new.disk image
    → SaysSession (session_in_file Two first (seen_in old.disk (Manager live))) (image (Manager (1 - live)))
