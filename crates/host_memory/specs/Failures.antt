-- How a call fails: after the stop, as planned, or for want of memory.
use Rattle.std.specs.Prelude.{◌≡◌, ◌⊎◌, ℕ, ◌+◌, Bool, true, false}
use Rattle.host_trait.specs.declared.channels.FileId.{FileId}
use Rattle.host_trait.specs.Faults.{Rose}
use Rattle.host_trait.specs.World.{Asked}
use Rattle.host_memory.specs.declared.host.MemoryHost.{MemoryHost}
use Rattle.host_memory.specs.Replay.{IsTorn}
use Rattle.host_memory.specs.ShownState.{world_in, starved_in}

-- a call that did nothing, and didn't want for memory
pub record DidNothing (old new : MemoryHost) : Type 0 where
  pub world : Asked (world_in old) (world_in new)
  pub starved : starved_in new ≡ starved_in old

-- a call that found no memory, which is counted, and did nothing else
pub record FoundNoMemory (old new : MemoryHost) : Type 0 where
  pub world : Asked (world_in old) (world_in new)
  pub rose : Rose (starved_in old) (starved_in new)

-- a write that failed as planned: its range is pending, a read gives what it gave, and no memory was wanting
pub record HasTorn (file : FileId) (at n : ℕ) (old new : MemoryHost) : Type 0 where
  pub torn : IsTorn at n ((world_in old).disk file) ((world_in new).disk file)
  pub starved : starved_in new ≡ starved_in old

-- a sync that failed as planned: it was asked, its file is as it was, and no memory was wanting
pub record HasNotSynced (file : FileId) (old new : MemoryHost) : Type 0 where
  pub same : (world_in new).disk file ≡ (world_in old).disk file
  pub asked : (world_in new).syncs ≡ (world_in old).syncs + 1
  pub starved : starved_in new ≡ starved_in old

-- A call that failed did nothing after the stop. One that was planned to fail did this, unless it found no memory to note it. Any
-- other found no memory.
abbrev pub FailedAs : (stopped planned : Bool) → Type 0 → MemoryHost → MemoryHost → Type 0
FailedAs true planned Does old new = DidNothing old new
FailedAs false true Does old new = Does ⊎ FoundNoMemory old new
FailedAs false false Does old new = FoundNoMemory old new
