-- What the next generation of a silo of format 1 is made of, as `migrate` copies it.
use Rattle.std.specs.Prelude.{◌≡◌, ℕ, ◌+◌, true, Some, None, Ok}
use Rattle.std.specs.Ordering.{eq_by_cmp}
use Rattle.std.specs.Set.{is_member}
use Rattle.base_types.specs.declared.calls.GrainId.{GrainId}
use Rattle.base_types.specs.Places.{has_seat}
use Rattle.base_types.specs.Stores.{grain_cmp, end_in}
use Rattle.host_trait.specs.declared.channels.FileId.TheVariants.{Manager, Program as ProgramFile}
use Rattle.host_trait.specs.World.{World}
use Rattle.field_codec.specs.declared.formats.Format.TheVariants.{One}
use Rattle.gate_block.specs.Log.{IsWhole}
use Rattle.log_reading.specs.Blocks.{LogRead, log_in_file}
use Rattle.log_reading.specs.Steps.{seen_in}
use Rattle.log_reading.specs.Sums.{end_after}
use Rattle.log_reading.specs.Versions.{named_in, named_by_grain}
use Rattle.program_file.specs.Files.{program_in_file}
use Rattle.silo_opening.specs.declared.opened_silo.Opened.{Opened}
use Rattle.silo_spec.specs.Slots.{generation, ShowsSilos}
use Rattle.promise_spec.specs.Programs.{Program}
use Rattle.promise_spec.specs.Entries.{Log}
use Rattle.promise_spec.specs.Logs.{IsMagic}
use Rattle.promise_spec.specs.EitherSlot.{IsCompactable}
use Rattle.checkpoint.specs.declared.migration.OldSilo.{OldSilo}
use Rattle.checkpoint.specs.CopiedFiles.{AreEndsWithin}
use Rattle.checkpoint.specs.NextGeneration.{HasGone}

-- What is copied of an opened silo: its live slot and its ends, and the grains that have a place or room for one; the copy gets the next
-- generation.
pub record IsOldOf (o : Opened) (old : OldSilo) : Type 0 where
  pub live : old.live ≡ o.slot
  pub generation_is : old.generation ≡ o.generation + 1
  pub ends : old.ends ≡ o.ends
  pub grains : (grain : GrainId) → is_member (eq_by_cmp grain_cmp) old.grains grain ≡ has_seat o.places grain

-- The live slot's files can be read whole: its program file has a program, its log ends at a closed gate, and each end lies in its
-- grain's file.
pub record CanBeCopied (old : OldSilo) (w : World) : Type 0 where
  pub program : Program
  pub first : program_in_file (seen_in w.disk (ProgramFile old.live)) ≡ Ok program
  pub whole : IsWhole (seen_in w.disk (Manager old.live))
  pub within : AreEndsWithin old.live old.ends w.disk

-- What is copied is what the log reads as: the ends are the greatest of the places that it names in each grain's file, and the grains
-- are those that have one.
pub record IsCopiedFrom (old : OldSilo) (w : World) : Type 0 where
  pub program : Program
  pub first : program_in_file (seen_in w.disk (ProgramFile old.live)) ≡ Ok program
  pub read : LogRead
  pub read_as : log_in_file One program (seen_in w.disk (Manager old.live)) ≡ Ok read
  pub ends : (grain : GrainId) → end_in old.ends grain ≡ end_after None (named_by_grain (named_in read)) grain
  pub listed : (grain : GrainId) (end : ℕ) → end_in old.ends grain ≡ Some end → is_member (eq_by_cmp grain_cmp) old.grains grain ≡ true
  pub generation_is : old.generation ≡ generation (seen_in w.disk (Manager old.live)) + 1

-- Where the other slot's files may be filled so: each image has this log in the live slot, in format 1.
pub record MayCopy (old : OldSilo) (log : Log) (w : World) : Type 0 where
  pub made : IsCopiedFrom old w
  pub can : IsCompactable One old.live log w
  pub shown : ShowsSilos IsMagic w.disk

-- of whichever log it is, the other slot is filled so far with the very same one
abbrev pub CopiesOtherSlot : OldSilo → World → World → Type 0
CopiesOtherSlot old before after = (log : Log) → MayCopy old log before → HasGone One old.live log log before after
