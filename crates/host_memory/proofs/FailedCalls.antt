-- How a call that failed is told, by its turn.
use Rattle.std.proofs.Common.{◌≡◌, ◌⊎◌, Bool, true, false, if◌then◌else◌}
use Rattle.host_memory.specs.declared.host.MemoryHost.{MemoryHost}
use Rattle.host_memory.specs.declared.plan.Turn.{Turn}
use Rattle.host_memory.specs.declared.plan.Turn.TheVariants.{Goes, Fails, Stopped}
use Rattle.host_memory.specs.Failures.{DidNothing, FoundNoMemory, FailedAs}

-- the turn of a call
abbrev pub turn_of : Bool → Bool → Turn
turn_of stopped planned = if stopped then Stopped else (if planned then Fails else Goes)

-- it was to go, and found no memory
pub found_none : (stopped planned : Bool) (Does : Type 0) (old new : MemoryHost) → Goes ≡ turn_of stopped planned → FoundNoMemory old new → FailedAs stopped planned Does old new
found_none true planned Does old new turn found = absurd (cc turn)
found_none false true Does old new turn found = absurd (cc turn)
found_none false false Does old new turn found = found

-- it was to fail
pub failed : (stopped planned : Bool) (Does : Type 0) (old new : MemoryHost) → Fails ≡ turn_of stopped planned → Does ⊎ FoundNoMemory old new → FailedAs stopped planned Does old new
failed true planned Does old new turn does = absurd (cc turn)
failed false true Does old new turn does = does
failed false false Does old new turn does = absurd (cc turn)

-- it came after the stop
pub stopped : (stopped planned : Bool) (Does : Type 0) (old new : MemoryHost) → Stopped ≡ turn_of stopped planned → DidNothing old new → FailedAs stopped planned Does old new
stopped true planned Does old new turn idle = idle
stopped false true Does old new turn idle = absurd (cc turn)
stopped false false Does old new turn idle = absurd (cc turn)
