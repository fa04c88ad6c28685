-- What the events so far made of the output, the files, the entries and the clock.
use Rattle.std.specs.Prelude.{◌≡◌, ℕ, zero, suc, ◌+◌, ◌-◌, Bool, true, false, if◌then◌else◌, List, [], ◌∷◌, ◌++◌, length, take, max}
use Rattle.host_trait.specs.declared.channels.FileId.{FileId}
use Rattle.host_trait.specs.Files.{same_file}
use Rattle.host_trait.specs.Disk.{FileState, MayLeave, overlaid, settled}
use Rattle.host_trait.specs.World.{Disk, Moment}
use Rattle.system_calls.specs.System.{System}
use Rattle.system_memory.specs.declared.events.Event.{Event}
use Rattle.system_memory.specs.declared.events.Event.TheVariants.{Emitted, Wrote, Synced, Doubted, Made, Entered, Lost}

-- all that is held but the input
pub record MemoryState : Type 0 where
  pub output : List ℕ
  pub disk : Disk
  pub syncs : ℕ
  pub past : List Moment
  pub is_entered : FileId → Bool
  pub is_doubtful : FileId → Bool
  pub has_lost : Bool

-- an empty folder
abbrev pub nothing : MemoryState
nothing = record { output = []; disk = λ f. settled []; syncs = 0; past = []; is_entered = λ f. true; is_doubtful = λ f. false; has_lost = false }

-- a part of a call begins a moment, or takes the place of the one that the part before it made
abbrev pub timed : ℕ → List Moment → Moment → List Moment
timed zero past now = past ++ now ∷ []
timed (suc from) past now = take (length past - 1) past ++ now ∷ []

-- the first part of a write makes its range pending
abbrev pub ranges_by : ℕ → ℕ → ℕ → List (ℕ × ℕ) → List (ℕ × ℕ)
ranges_by zero at size ranges = (at, size) ∷ ranges
ranges_by (suc from) at size ranges = ranges

-- the first part of a write makes a file as long as the whole write would
abbrev pub longest_by : ℕ → ℕ → ℕ → ℕ → ℕ
longest_by zero at size longest = max longest (at + size)
longest_by (suc from) at size longest = longest

-- a file after a part of a write
abbrev pub part_written : ℕ → ℕ → ℕ → ℕ → List ℕ → FileState → FileState
part_written from at size place bytes s = record { base = s.base; seen = overlaid s.seen place bytes; ranges = ranges_by from at size s.ranges; longest = longest_by from at size s.longest }

-- the disk where one file has changed
abbrev pub disk_with : FileId → (FileState → FileState) → Disk → Disk
disk_with file change disk f = if same_file file f then change (disk f) else disk f

-- flags of files where that of one file has this value
abbrev pub flag_with : FileId → Bool → (FileId → Bool) → FileId → Bool
flag_with file value flags f = if same_file file f then value else flags f

-- what one event more makes
abbrev pub put_out : ℕ → List ℕ → MemoryState → MemoryState
put_out from bytes h =
    let output = h.output ++ bytes in
    record { output = output; disk = h.disk; syncs = h.syncs; past = timed from h.past (record { output = output; disk = h.disk }); is_entered = h.is_entered; is_doubtful = h.is_doubtful; has_lost = h.has_lost }

-- what a part of a write makes
abbrev pub write_part : FileId → ℕ → ℕ → ℕ → ℕ → List ℕ → MemoryState → MemoryState
write_part file at size from place bytes h =
    let disk = disk_with file (part_written from at size place bytes) h.disk in
    record { output = h.output; disk = disk; syncs = h.syncs; past = timed from h.past (record { output = h.output; disk = disk }); is_entered = h.is_entered; is_doubtful = h.is_doubtful; has_lost = h.has_lost }

-- what a sync of a file makes: all of its bytes last
abbrev pub sync_file : FileId → MemoryState → MemoryState
sync_file file h =
    let disk = disk_with file (λ s. settled s.seen) h.disk in
    record { output = h.output; disk = disk; syncs = h.syncs + 1; past = h.past ++ (record { output = h.output; disk = disk }) ∷ []; is_entered = h.is_entered; is_doubtful = h.is_doubtful; has_lost = h.has_lost }

-- what a refused sync of a file makes: it is in doubt from then on
abbrev pub doubt_file : FileId → MemoryState → MemoryState
doubt_file file h = record { output = h.output; disk = h.disk; syncs = h.syncs; past = h.past; is_entered = h.is_entered; is_doubtful = flag_with file true h.is_doubtful; has_lost = h.has_lost }

-- what the making of a file makes: its entry doesn't last yet
abbrev pub make_file : FileId → MemoryState → MemoryState
make_file file h = record { output = h.output; disk = h.disk; syncs = h.syncs; past = h.past; is_entered = flag_with file false h.is_entered; is_doubtful = h.is_doubtful; has_lost = h.has_lost }

-- what a sync of the folder makes: all entries last
abbrev pub enter_all : MemoryState → MemoryState
enter_all h = record { output = h.output; disk = h.disk; syncs = h.syncs; past = h.past; is_entered = λ f. true; is_doubtful = h.is_doubtful; has_lost = h.has_lost }

-- what a refused sync of the folder makes: entries may be lost from then on
abbrev pub lose_entries : MemoryState → MemoryState
lose_entries h = record { output = h.output; disk = h.disk; syncs = h.syncs; past = h.past; is_entered = h.is_entered; is_doubtful = h.is_doubtful; has_lost = true }

-- what one event more makes
abbrev pub after_event : Event → MemoryState → MemoryState
after_event (Emitted from bytes) h = put_out from bytes.items h
after_event (Wrote file at size from place bytes) h = write_part file at size from place bytes.items h
after_event (Synced file) h = sync_file file h
after_event (Doubted file) h = doubt_file file h
after_event (Made file) h = make_file file h
after_event Entered h = enter_all h
after_event Lost h = lose_entries h

-- what all events make
abbrev pub after_events : List Event → MemoryState → MemoryState
after_events [] h = h
after_events (e ∷ events) h = after_events events (after_event e h)

-- what is held after all events
abbrev pub held_of : List Event → MemoryState
held_of events = after_events events nothing

-- what a system holds that has this input left
abbrev pub system_of : List ℕ → MemoryState → System
system_of input h = record {
  world = record { input = input; output = h.output; disk = h.disk; syncs = h.syncs; past = h.past };
  is_entered = h.is_entered;
  is_doubtful = h.is_doubtful;
  has_lost = h.has_lost;
}

-- What a read gives may stay, and a file whose entry doesn't last has no bytes that do.
abbrev pub AllStay : MemoryState → Type 0
AllStay h = (f : FileId) → MayLeave (h.disk f) (h.disk f).seen

-- a file whose entry doesn't last has no bytes that do
abbrev pub BareUnentered : MemoryState → Type 0
BareUnentered h = (f : FileId) → h.is_entered f ≡ false → (h.disk f).base ≡ []

-- both hold
abbrev pub IsKeepable : MemoryState → Type 0
IsKeepable h = AllStay h × BareUnentered h
