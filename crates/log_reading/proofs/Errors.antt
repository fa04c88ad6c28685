-- Errors that are handed on, and where a fault of a body is.
use Rattle.std.proofs.Common.{◌≡◌, ℕ, Result, Err, ◌∙◌, ap}
use Rattle.host_trait.specs.declared.channels.FileId.{FileId}
use Rattle.host_trait.specs.declared.channels.FileId.TheVariants.{Manager}
use Rattle.field_codec.specs.declared.faults.CodecFault.{CodecFault}
use Rattle.field_codec.specs.declared.faults.CodecFault.TheVariants.{Short, BadTag, NotUtf8, Over, BadOrder, Unknown, Trailing, Memory}
use Rattle.field_codec.specs.Results.{Faults, named_place}
use Rattle.log_reading.specs.declared.faults.FolderFault.{FolderFault}
use Rattle.log_reading.specs.declared.bodies.EntryFault.{EntryFault}
use Rattle.log_reading.specs.Entries.{BodyEntry, IsRead}
use Rattle.log_reading.specs.Counts.{damage_in, entry_damage}
use Rattle.log_reading.specs.Steps.{placed, counted_from}

abbrev pub failed : {A : Type 0} → FolderFault → Result A FolderFault
failed e = Err e

-- an error is the same whatever the value would have been
pub other_value : {A B : Type 0} (e f : FolderFault) → failed {A = A} e ≡ failed f → failed {A = B} e ≡ failed f
other_value {A} {B} e f is = let same : e ≡ f = cc in ap (failed {A = B}) same

-- where a fault that is answered says that the text is damaged, it is so there
pub damage_is : {A : Type 0} (slot start : ℕ) (fault : CodecFault) (read : Result A CodecFault) (file : FileId) (place : ℕ) → Faults fault read → damage_in slot start (named_place fault) ≡ FolderFault.Damaged file place
    → (file ≡ Manager slot) × (placed start read ≡ Err place)
damage_is slot start Memory read file place gives is = absurd cc
damage_is slot start (Short at) read file place gives is = (cc, ap (placed start) gives ∙ cc)
damage_is slot start (BadTag at byte) read file place gives is = (cc, ap (placed start) gives ∙ cc)
damage_is slot start (NotUtf8 at) read file place gives is = (cc, ap (placed start) gives ∙ cc)
damage_is slot start (Over at limit) read file place gives is = (cc, ap (placed start) gives ∙ cc)
damage_is slot start (BadOrder at) read file place gives is = (cc, ap (placed start) gives ∙ cc)
damage_is slot start (Unknown at) read file place gives is = (cc, ap (placed start) gives ∙ cc)
damage_is slot start (Trailing at) read file place gives is = (cc, ap (placed start) gives ∙ cc)

-- it is no failed call
pub never_failed : (slot start : ℕ) (fault : CodecFault) (file : FileId) → damage_in slot start (named_place fault) ≡ FolderFault.Failed file → ⊥
never_failed slot start Memory file is = absurd cc
never_failed slot start (Short at) file is = absurd cc
never_failed slot start (BadTag at byte) file is = absurd cc
never_failed slot start (NotUtf8 at) file is = absurd cc
never_failed slot start (Over at limit) file is = absurd cc
never_failed slot start (BadOrder at) file is = absurd cc
never_failed slot start (Unknown at) file is = absurd cc
never_failed slot start (Trailing at) file is = absurd cc

-- ---- bodies

-- where a fault that is answered says that the body is damaged, it is so there
pub block_damaged : (slot start : ℕ) (fault : EntryFault) (read : Result BodyEntry ℕ) (file : FileId) (place : ℕ) → IsRead (Err fault) read → entry_damage slot start fault ≡ FolderFault.Damaged file place
    → (file ≡ Manager slot) × (counted_from start read ≡ Err place)
block_damaged slot start EntryFault.Memory read file place gives is = absurd cc
block_damaged slot start (EntryFault.Damaged at) read file place gives is = (cc, ap (counted_from start) gives ∙ cc)

-- it is no failed call
pub block_never_failed : (slot start : ℕ) (fault : EntryFault) (file : FileId) → entry_damage slot start fault ≡ FolderFault.Failed file → ⊥
block_never_failed slot start EntryFault.Memory file is = absurd cc
block_never_failed slot start (EntryFault.Damaged at) file is = absurd cc
