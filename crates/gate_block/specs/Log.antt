-- The log of a manager file: the bodies of its blocks from byte 15 on whose gates are open, up to the first closed gate.
use Rattle.std.specs.Prelude.{◌≡◌, ◌≢◌, ◌⊎◌, ℕ, zero, suc, ◌+◌, ◌^◌, ◌<◌, IsTrue, List, [], ◌∷◌, ◌++◌, length, take, drop, slice_index}
use Rattle.host_trait.specs.declared.channels.FileId.{FileId}
use Rattle.host_trait.specs.Disk.{FileState, MayLeave, overlaid, settled}
use Rattle.host_trait.specs.World.{World, Disk, Passes}
use Rattle.host_trait.specs.Runs.{OnlyAsked}
use Rattle.gate_block.specs.Gates.{IsClosedAt, is_open_at}
use Rattle.gate_block.specs.Blocks.{BehindGate, shut, bad, whole, found_at, block_of, block_at}

-- the place of the first block's gate
abbrev pub first_gate : ℕ
first_gate = 15

-- the body that was found and those behind it, none where the log ends here
abbrev pub then_bodies : (ℕ → List (List ℕ)) → BehindGate → List (List ℕ)
then_bodies behind shut = []
then_bodies behind bad = []
then_bodies behind (whole body) = body ∷ behind (length body)

-- The bodies from a gate on, at most so many. The log ends at a closed gate, and before a block that isn't whole.
abbrev pub bodies_from : ℕ → ℕ → List ℕ → List (List ℕ)
bodies_from zero gate file = []
bodies_from (suc most) gate file = then_bodies (λ size. bodies_from most (gate + 5 + size) file) (found_at gate file)

-- the log of a file
abbrev pub bodies_of : List ℕ → List (List ℕ)
bodies_of file = bodies_from (length file) first_gate file

-- the gate behind the block that was found and all whole ones behind it, this one where the log ends here
abbrev pub then_gate : ℕ → (ℕ → ℕ) → BehindGate → ℕ
then_gate gate behind shut = gate
then_gate gate behind bad = gate
then_gate gate behind (whole body) = behind (length body)

-- the gate at which the log ends, from this gate on, behind at most so many blocks
abbrev pub gate_from : ℕ → ℕ → List ℕ → ℕ
gate_from zero gate file = gate
gate_from (suc most) gate file = then_gate gate (λ size. gate_from most (gate + 5 + size) file) (found_at gate file)

-- the gate at which the log of a file ends: the first that is closed, or has no whole block behind it
abbrev pub gate_of : List ℕ → ℕ
gate_of file = gate_from (length file) first_gate file

-- every open block is whole: the log ends at a closed gate
abbrev pub IsWhole : List ℕ → Type 0
IsWhole file = found_at (gate_of file) file ≡ shut

-- the open blocks of these bodies, one behind the other
abbrev pub open_blocks : List (List ℕ) → List ℕ
open_blocks [] = []
open_blocks (body ∷ bodies) = block_at body ++ open_blocks bodies

-- each length fits its field
abbrev pub AreSmall : List (List ℕ) → Type 0
AreSmall [] = Unit {0}
AreSmall (body ∷ bodies) = (length body < 2 ^ 32) × AreSmall bodies

-- from byte 15 up to this gate there stand the open blocks of these bodies
pub record HasBlocks (bodies : List (List ℕ)) (gate : ℕ) (file : List ℕ) : Type 0 where
  pub small : AreSmall bodies
  pub at : gate ≡ first_gate + length (open_blocks bodies)
  pub within : gate < length file
  pub blocks : drop first_gate (take gate file) ≡ open_blocks bodies

-- and this gate is closed: these bodies are the log
pub record LogsUpTo (bodies : List (List ℕ)) (gate : ℕ) (file : List ℕ) : Type 0 where
  pub blocks : HasBlocks bodies gate file
  pub closed : slice_index file gate ≢ 1

-- the gate is closed in each image of this file
abbrev pub EachClosed : ℕ → FileId → Disk → Type 0
EachClosed gate file disk = (c : List ℕ) → MayLeave (disk file) c → IsClosedAt gate c

-- the gate is open in each image of this file
abbrev pub EachOpen : ℕ → FileId → Disk → Type 0
EachOpen gate file disk = (c : List ℕ) → MayLeave (disk file) c → IsTrue (is_open_at gate c)

-- The gate's byte was written, by one sync: the file is as it was but for that byte, nothing is pending, and the gate is open in each
-- image.
pub record IsOpened (gate : ℕ) (file : FileId) (old new : World) : Type 0 where
  pub there : new.disk file ≡ settled (overlaid (old.disk file).seen gate (1 ∷ []))
  pub each : EachOpen gate file new.disk
  pub once : new.syncs ≡ old.syncs + 1

-- each image of this file has this log, which ends at this gate
abbrev pub EachLogs : List (List ℕ) → ℕ → FileId → Disk → Type 0
EachLogs bodies gate file disk = (c : List ℕ) → MayLeave (disk file) c → LogsUpTo bodies gate c

-- some image of this file has this log, which ends at this gate
pub record SomeLogs (bodies : List (List ℕ)) (gate : ℕ) (file : FileId) (disk : Disk) : Type 0 where
  pub image : List ℕ
  pub left : MayLeave (disk file) image
  pub logs : LogsUpTo bodies gate image

-- each image of this file has this log, or it with one body more
abbrev pub EachLogsOrMore : List (List ℕ) → List ℕ → ℕ → FileId → Disk → Type 0
EachLogsOrMore bodies body gate file disk =
    (c : List ℕ) → MayLeave (disk file) c → LogsUpTo bodies gate c ⊎ LogsUpTo (bodies ++ body ∷ []) (gate + length (block_of body)) c

-- A block lasts behind the closed gate at which this log ends, and nothing is pending: the file was `front`.
pub record IsStaged (bodies : List (List ℕ)) (body : List ℕ) (gate : ℕ) (front : List ℕ) (file : FileState) : Type 0 where
  pub log : LogsUpTo bodies gate front
  pub small : length body < 2 ^ 32
  pub there : file ≡ settled (overlaid front (gate + 1) (block_of body))

-- ---- what a call leaves of it

-- what the images have before a call they have at each moment of it
abbrev pub StaysTrue : (Disk → Type 0) → World → World → Type 0
StaysTrue P old new = P old.disk → Passes (λ m. P m.disk) old.past new.past

-- Where a block is staged behind the gate: at each moment each image has the log that it had, or it with the block's body more.
abbrev pub MayLogMore : ℕ → FileId → World → World → Type 0
MayLogMore gate file old new =
    (bodies : List (List ℕ)) (body front : List ℕ) → IsStaged bodies body gate front (old.disk file) → Passes (λ m. EachLogsOrMore bodies body gate file m.disk) old.past new.past

-- there each image has the body more
abbrev pub LogsMore : ℕ → FileId → World → World → Type 0
LogsMore gate file old new =
    (bodies : List (List ℕ)) (body front : List ℕ) → IsStaged bodies body gate front (old.disk file) → EachLogs (bodies ++ body ∷ []) (gate + length (block_of body)) file new.disk

-- there all is as it was, or some image has the body more
abbrev pub IsLeftOrLogsMore : ℕ → FileId → World → World → Type 0
IsLeftOrLogsMore gate file old new =
    (bodies : List (List ℕ)) (body front : List ℕ) → IsStaged bodies body gate front (old.disk file)
    → OnlyAsked old new ⊎ SomeLogs (bodies ++ body ∷ []) (gate + length (block_of body)) file new.disk
