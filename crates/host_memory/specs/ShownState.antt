-- What a host in memory shows, and what a crash may leave of it.
use Rattle.std.specs.Prelude.{◌≡◌, ◌⊎◌, ℕ, ◌+◌, ◌-◌, ◌*◌, ◌^◌, ◌==◌, ◌||◌, Bool, if◌then◌else◌, List, [], map, drop}
use Rattle.std.specs.List.{list_any}
use Rattle.host_trait.specs.declared.channels.FileId.{FileId}
use Rattle.host_trait.specs.declared.channels.Channel.{Channel}
use Rattle.host_trait.specs.Files.{same_file}
use Rattle.host_trait.specs.Disk.{settled}
use Rattle.host_trait.specs.World.{World, Disk, Image, IsImage}
use Rattle.host_memory.specs.declared.plan.CallKind.{CallKind}
use Rattle.host_memory.specs.declared.plan.Planned.{Planned}
use Rattle.host_memory.specs.declared.host.MemoryHost.{MemoryHost}
use Rattle.host_memory.specs.Plans.{is_due, counted}
use Rattle.host_memory.specs.Table.{is_kept}
use Rattle.host_memory.specs.Counts.{counts_of}
use Rattle.host_memory.specs.Replay.{world_of, written_by, state_at}

-- what it holds: its input, its output, its files and its moments, one for each call
abbrev pub world_in : MemoryHost → World
world_in h = world_of (drop h.taken h.input.items) h.events.items h.plan.calls

-- how often each channel has failed, and how many calls found no memory
abbrev pub counts_in : MemoryHost → Channel → ℕ
counts_in h = counts_of h.input_faults h.output_faults h.files.items

-- how many calls found no memory
abbrev pub starved_in : MemoryHost → ℕ
starved_in h = h.starved

-- how many calls were made, how many are left before the stop, and which of them are to fail
abbrev pub calls_in : MemoryHost → ℕ
calls_in h = h.plan.calls

-- how many calls are left before the stop
abbrev pub left_in : MemoryHost → ℕ
left_in h = h.plan.left

-- how many calls ahead the one of any kind is that is to fail, 0 where none is
abbrev pub ahead_in : MemoryHost → ℕ
ahead_in h = h.plan.ahead

-- which calls are to fail
abbrev pub planned_in : MemoryHost → List Planned
planned_in h = h.plan.faults.items

-- how many bytes a pull moves at most
abbrev pub most_in : MemoryHost → ℕ
most_in h = h.most

-- which files are ready
abbrev pub ready_in : MemoryHost → FileId → Bool
ready_in h = is_kept h.files.items

-- whether no call is left before the stop, and whether the next call of this kind on this channel is planned to fail
abbrev pub is_stopped : MemoryHost → Bool
is_stopped h = left_in h == 0

-- the next call of this kind on this channel is planned to fail: as a call of any kind, or as one of these
abbrev pub is_planned : MemoryHost → CallKind → Channel → Bool
is_planned h what channel = (ahead_in h == 1) || list_any (is_due what channel) (planned_in h)

-- whether the next call of this kind on this channel is one that fails as planned, or comes after the stop
abbrev pub is_named : MemoryHost → CallKind → Channel → Bool
is_named h what channel = is_stopped h || is_planned h what channel

-- whether a file was ever written
abbrev pub is_written : MemoryHost → FileId → Bool
is_written h file = written_by h.events.items file

-- the bytes of every file, as a read gives them
abbrev pub image_in : MemoryHost → Image
image_in h file = ((world_in h).disk file).seen

-- the files at a stamp: 2 * k is within the call of number k, and 2 * k + 1 just after it
abbrev pub disk_at : MemoryHost → ℕ → Disk
disk_at h stamp file = state_at stamp h.events.items file

-- a crash just after so many calls, or within the next one, may leave this image
abbrev pub IsCrashOf : MemoryHost → ℕ → Image → Type 0
IsCrashOf h calls image = IsImage (disk_at h (2 * calls + 1)) image ⊎ IsImage (disk_at h (2 * (calls + 1))) image

-- it holds what it held, and no count of faults has changed
pub record SameWorld (old new : MemoryHost) : Type 0 where
  pub world : world_in new ≡ world_in old
  pub written : (file : FileId) → is_written new file ≡ is_written old file
  pub faults : (channel : Channel) → counts_in new channel ≡ counts_in old channel
  pub starved : starved_in new ≡ starved_in old

-- the same calls were made, and the same are to fail
pub record SamePlan (old new : MemoryHost) : Type 0 where
  pub calls : calls_in new ≡ calls_in old
  pub left : left_in new ≡ left_in old
  pub ahead : ahead_in new ≡ ahead_in old
  pub planned : planned_in new ≡ planned_in old

-- One call of this kind on this channel was made: it is counted, and so it is in each planned fault of this kind there, and in the one
-- of any kind; after the stop nothing is counted.
pub record TakesTurn (what : CallKind) (channel : Channel) (old new : MemoryHost) : Type 0 where
  pub calls : calls_in new ≡ (if left_in old == 0 then calls_in old else calls_in old + 1)
  pub left : left_in new ≡ left_in old - 1
  pub ahead : ahead_in new ≡ (if left_in old == 0 then ahead_in old else ahead_in old - 1)
  pub planned : planned_in new ≡ (if left_in old == 0 then planned_in old else map (counted what channel) (planned_in old))

-- what isn't a file is as it was
pub record SameButFiles (old new : MemoryHost) : Type 0 where
  pub input : (world_in new).input ≡ (world_in old).input
  pub output : (world_in new).output ≡ (world_in old).output
  pub syncs : (world_in new).syncs ≡ (world_in old).syncs
  pub past : (world_in new).past ≡ (world_in old).past
  pub faults : (channel : Channel) → counts_in new channel ≡ counts_in old channel
  pub starved : starved_in new ≡ starved_in old

-- a file has these bytes, which last, and the others are as they were
pub record PutsFile (file : FileId) (bytes : List ℕ) (old new : MemoryHost) : Type 0 where
  pub disk : (f : FileId) → (world_in new).disk f ≡ (if same_file file f then settled bytes else (world_in old).disk f)
  pub written : (f : FileId) → is_written new f ≡ (same_file file f || is_written old f)

-- nothing was read, emitted or counted yet, and no fault is planned
pub record IsFresh (h : MemoryHost) : Type 0 where
  pub output : (world_in h).output ≡ []
  pub syncs : (world_in h).syncs ≡ 0
  pub past : (world_in h).past ≡ []
  pub faults : (channel : Channel) → counts_in h channel ≡ 0
  pub starved : starved_in h ≡ 0
  pub calls : calls_in h ≡ 0
  pub left : left_in h ≡ 2 ^ 62
  pub ahead : ahead_in h ≡ 0
  pub planned : planned_in h ≡ []
