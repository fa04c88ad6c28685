-- What making a silo comes to, and what its steps leave.
use Rattle.std.specs.Prelude.{◌≡◌, ◌≢◌, ◌⊎◌, ℕ, ◌+◌, ◌≤◌, List, [], Result, IsErrOf}
use Rattle.host_trait.specs.declared.channels.FileId.{FileId}
use Rattle.host_trait.specs.declared.channels.FileId.TheVariants.{Manager}
use Rattle.host_trait.specs.Disk.{settled}
use Rattle.host_trait.specs.World.{World, Moment, Image, IsImage, Passes, moment_of}
use Rattle.silo_spec.specs.OtherSlot.{IsShutFile}
use Rattle.silo_spec.specs.Silos.{manager, IsEitherManager, IsMagic, IsNewSilo}
use Rattle.silo_spec.specs.Slots.{IsLive, ShowsSilos}
use Rattle.silo_spec.specs.Moments.{IsUntouched}
use Rattle.silo_spec.specs.Creation.{IsMade, IsNewAt, FromFirstSync}
use Rattle.silo_opening.specs.declared.creation.Front.{Front}
use Rattle.silo_opening.specs.declared.creation.Front.TheVariants.{Silo}
use Rattle.silo_opening.specs.declared.faults.CreateFault.{CreateFault}
use Rattle.silo_opening.specs.Steps.{ShowsFront, syncs_for, LacksSilo, HasNoSilo, ReadsSilo}

-- ---- a folder that is a silo

-- what was read of each manager file that has bytes lasts now
abbrev pub ManagersStay : World → World → Type 0
ManagersStay old new = (slot : ℕ) → slot ≤ 1 → (old.disk (Manager slot)).seen ≢ [] → new.disk (Manager slot) ≡ settled (old.disk (Manager slot)).seen

-- The folder is called a silo, or a call on a manager file failed; it is left as it was.
pub record KeepsSilo {A : Type 0} (result : Result A CreateFault) (old new : World) : Type 0 where
  pub answer : (IsErrOf result CreateFault.AlreadyASilo) ⊎ ((file : FileId) × IsEitherManager file × IsErrOf result (CreateFault.DiskFault file))
  pub untouched : IsUntouched old new

-- The folder reads as a silo, and what was read of its manager files lasts.
pub record FoundSilo (old new : World) : Type 0 where
  pub reads : ReadsSilo IsMagic old.disk
  pub lasts : ManagersStay old new

-- ---- steps

-- Both manager files were looked at, slot 0's has the low front and slot 1's the high one. What was read of them lasts; each that has
-- bytes was synced, once; and where neither is a silo's, none is in any image from the last of these syncs on.
pub record LooksAtBoth (low high : Front) (old new : World) : Type 0 where
  pub front : ShowsFront IsMagic low (old.disk (Manager 0)).seen
  pub other : ShowsFront IsMagic high (old.disk (Manager 1)).seen
  pub lasts : ManagersStay old new
  pub first : ShowsSilos IsMagic old.disk → low ≢ Silo → high ≢ Silo → FromFirstSync (HasNoSilo IsMagic) old new
  pub count : new.syncs ≡ old.syncs + (syncs_for low + syncs_for high)

-- The folder may be filled: slot 0's header gate is closed, with one to three syncs, and no image is a silo where no manager file that
-- read too short was a silo's.
pub record IsPrepared (old new : World) : Type 0 where
  pub first : ShowsSilos IsMagic old.disk → FromFirstSync (HasNoSilo IsMagic) old new
  pub shut : IsShutFile (new.disk manager)
  pub least : old.syncs + 1 ≤ new.syncs
  pub most : new.syncs ≤ old.syncs + 3

-- How far a call came that began where no manager file that reads too short was a silo's: nothing was written at all, or each moment
-- has P once the manager files that have bytes are synced. So it stays that none that reads too short is a silo's.
pub record ComesSoFar (P : Moment → Type 0) (old new : World) : Type 0 where
  pub moments : IsUntouched old new ⊎ FromFirstSync P old new
  pub shows : ShowsSilos IsMagic new.disk

-- How far the filling came of a folder whose slot 1 is a silo's in no image: so it stays, and at each moment each image that is a silo
-- is one of this program with an empty log.
pub record FillsSoFar (text : List ℕ) (old new : World) : Type 0 where
  pub moments : Passes (IsNewAt IsMagic text) old.past new.past
  pub now : IsNewAt IsMagic text (moment_of new)
  pub lacks : LacksSilo IsMagic 1 (moment_of new)
  pub shows : ShowsSilos IsMagic new.disk

-- ---- a silo that was made

-- Each image is a silo of this program with an empty log, and nothing is pending in its files; it is live in slot 0 where no manager
-- file that read too short was a silo's. Four syncs were asked, one more where slot 1's manager file has bytes, and one more where the
-- header of slot 0's was closed first and has bytes.
pub record IsCreated (text : List ℕ) (old new : World) : Type 0 where
  pub made : (image : Image) → IsImage new.disk image → IsNewSilo text image
  pub live : ShowsSilos IsMagic old.disk → (image : Image) → IsImage new.disk image → IsLive IsMagic 0 image
  pub files : IsMade text new.disk
  pub least : old.syncs + 4 ≤ new.syncs
  pub most : new.syncs ≤ old.syncs + 6
