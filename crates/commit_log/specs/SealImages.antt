-- What the images are while a block is sealed in a slot's manager file, and after it.
use Rattle.std.specs.Prelude.{◌≡◌, ◌⊎◌, ℕ, ◌+◌, ◌^◌, ◌<◌, List, [], ◌∷◌, ◌++◌, length}
use Rattle.host_trait.specs.declared.channels.FileId.TheVariants.{Manager}
use Rattle.host_trait.specs.Disk.{MayLeave, Tears, settled, overlaid}
use Rattle.host_trait.specs.declared.channels.Channel.{Channel}
use Rattle.host_trait.specs.declared.channels.Channel.TheVariants.{File}
use Rattle.host_trait.specs.Faults.{NoneFailed, FailedOn}
use Rattle.host_trait.specs.World.{World, Passes}
use Rattle.host_trait.specs.Runs.{RunsOnFile}
use Rattle.gate_block.specs.Blocks.{block_of}
use Rattle.gate_block.specs.Log.{EachLogs, SomeLogs, EachLogsOrMore}
use Rattle.commit_log.specs.declared.gate.Sealing.{Sealing}
use Rattle.commit_log.specs.declared.gate.Sealing.TheVariants.{Sealed, NotSealed, InDoubt}

-- the manager file's bytes with the block behind the closed gate
abbrev pub staged : ℕ → ℕ → List ℕ → World → List ℕ
staged slot gate block old = overlaid (old.disk (Manager slot)).seen (gate + 1) block

-- Where the host tells. Sealed: nothing is pending, the block stands and the gate before it is open. Not sealed: at each moment
-- each image has the file as it was up to the closed gate. In doubt: each image has the whole block, and differs from the others
-- at most in the gate before it.
abbrev pub EndsAs : ℕ → Sealing → ℕ → List ℕ → World → World → Type 0
EndsAs slot (Sealed next) gate block old new = (new.disk (Manager slot) ≡ settled (overlaid (staged slot gate block old) gate (1 ∷ []))) × (new.syncs ≡ old.syncs + 2)
EndsAs slot NotSealed gate block old new = RunsOnFile (Manager slot) (Tears (gate + 1) (length block)) 1 old new
EndsAs slot InDoubt gate block old new = (image : List ℕ) → MayLeave (new.disk (Manager slot)) image → Tears gate 1 (staged slot gate block old) image

-- this is the body's block, and each image's log is these bodies, up to the closed gate
pub record IsNextBlock (slot : ℕ) (bodies : List (List ℕ)) (body : List ℕ) (gate : ℕ) (block : List ℕ) (old : World) : Type 0 where
  pub block_is : block ≡ block_of body
  pub small : length body < 2 ^ 32
  pub logs : EachLogs bodies gate (Manager slot) old.disk

-- Sealed: each image's log has the body. Not sealed: none has it, at no moment. In doubt: each has it whole or not.
abbrev pub LogsAs : ℕ → Sealing → List (List ℕ) → List ℕ → ℕ → World → World → Type 0
LogsAs slot (Sealed next) bodies body gate old new = EachLogs (bodies ++ body ∷ []) next (Manager slot) new.disk
LogsAs slot NotSealed bodies body gate old new = Passes (λ m. EachLogs bodies gate (Manager slot) m.disk) old.past new.past × EachLogs bodies gate (Manager slot) new.disk
LogsAs slot InDoubt bodies body gate old new = EachLogsOrMore bodies body gate (Manager slot) new.disk

-- the gate was never written: at no moment has an image the body, and the block lasts behind the closed gate
pub record StaysClosed (slot : ℕ) (bodies : List (List ℕ)) (gate : ℕ) (block : List ℕ) (old new : World) : Type 0 where
  pub moments : Passes (λ m. EachLogs bodies gate (Manager slot) m.disk) old.past new.past
  pub now : EachLogs bodies gate (Manager slot) new.disk
  pub lasts : new.disk (Manager slot) ≡ settled (staged slot gate block old)

-- In doubt, which of two it is: the gate was never written, or it may be open, and some image's log has the body.
abbrev pub DoubtAs : ℕ → Sealing → List (List ℕ) → List ℕ → ℕ → List ℕ → World → World → Type 0
DoubtAs slot (Sealed next) bodies body gate block old new = Unit {0}
DoubtAs slot NotSealed bodies body gate block old new = Unit {0}
DoubtAs slot InDoubt bodies body gate block old new = StaysClosed slot bodies gate block old new ⊎ SomeLogs (bodies ++ body ∷ []) (gate + length block) (Manager slot) new.disk

-- Where this block is a body's that comes next: at each moment each image has the log that it had, or it with the body more.
abbrev pub MayLogBody : ℕ → ℕ → List ℕ → World → World → Type 0
MayLogBody slot gate block old new =
    (bodies : List (List ℕ)) (body : List ℕ) → IsNextBlock slot bodies body gate block old → Passes (λ m. EachLogsOrMore bodies body gate (Manager slot) m.disk) old.past new.past

-- there each image has in the end the log that the answer says
abbrev pub LogsBodyAs : ℕ → Sealing → ℕ → List ℕ → World → World → Type 0
LogsBodyAs slot sealing gate block old new = (bodies : List (List ℕ)) (body : List ℕ) → IsNextBlock slot bodies body gate block old → LogsAs slot sealing bodies body gate old new

-- and there a doubt is one of the two that it may be
abbrev pub DoubtsBodyAs : ℕ → Sealing → ℕ → List ℕ → World → World → Type 0
DoubtsBodyAs slot sealing gate block old new = (bodies : List (List ℕ)) (body : List ℕ) → IsNextBlock slot bodies body gate block old → DoubtAs slot sealing bodies body gate block old new

-- Over every host. Sealed: the next gate is the block's last byte, and no call failed. Otherwise a call on the manager file did.
abbrev pub SealHasCause : ℕ → Sealing → ℕ → ℕ → (Channel → ℕ) → (Channel → ℕ) → Type 0
SealHasCause slot (Sealed next) gate size old new = (next ≡ gate + size) × ((next < 2 ^ 63) × NoneFailed old new)
SealHasCause slot NotSealed gate size old new = FailedOn (File (Manager slot)) old new
SealHasCause slot InDoubt gate size old new = FailedOn (File (Manager slot)) old new
