-- Which calls are to fail.
use Rattle.std.specs.Prelude.{◌≡◌, ℕ, ◌+◌, ◌-◌, ◌^◌, ◌<◌, ◌==◌, ◌&&◌, Bool, true, false, if◌then◌else◌}
use Rattle.host_trait.specs.declared.channels.Channel.{Channel}
use Rattle.host_trait.specs.declared.channels.Channel.TheVariants.{Input, Output, File}
use Rattle.host_trait.specs.Files.{same_file}
use Rattle.host_memory.specs.declared.plan.CallKind.{CallKind}
use Rattle.host_memory.specs.declared.plan.CallKind.TheVariants.{Pull, Emit, Length, Read, Write, Sync}
use Rattle.host_memory.specs.declared.plan.Planned.{Planned}
use Rattle.host_memory.specs.declared.plan.Turn.{Turn}
use Rattle.host_memory.specs.declared.plan.Turn.TheVariants.{Goes, Fails, Stopped}

-- two calls are of one kind
abbrev pub same_kind : CallKind → CallKind → Bool
same_kind Pull Pull = true
same_kind Emit Emit = true
same_kind Length Length = true
same_kind Read Read = true
same_kind Write Write = true
same_kind Sync Sync = true
same_kind _ _ = false

-- two channels are one
abbrev pub same_channel : Channel → Channel → Bool
same_channel Input Input = true
same_channel Output Output = true
same_channel (File a) (File b) = same_file a b
same_channel _ _ = false

-- whether this entry counts calls of this kind on this channel
abbrev pub is_of : CallKind → Channel → Planned → Bool
is_of what channel planned = same_kind planned.what what && same_channel planned.channel channel

-- whether the next such call is the one that is to fail
abbrev pub is_due : CallKind → Channel → Planned → Bool
is_due what channel planned = is_of what channel planned && (planned.left == 1)

-- the entry after such a call
abbrev pub counted : CallKind → Channel → Planned → Planned
counted what channel planned = if is_of what channel planned then record { what = planned.what; channel = planned.channel; left = planned.left - 1 } else planned

-- the calls after one more: it is counted, unless the host has stopped
abbrev pub CallsAfter : Turn → ℕ → ℕ → Type 0
CallsAfter Goes old new = (new ≡ old + 1) × (old < 2 ^ 62)
CallsAfter Fails old new = (new ≡ old + 1) × (old < 2 ^ 62)
CallsAfter Stopped old new = new ≡ old

-- whether a turn makes its call fail
abbrev pub is_failing : Turn → Bool
is_failing Goes = false
is_failing Fails = true
is_failing Stopped = true
