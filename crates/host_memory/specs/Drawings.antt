-- The files of a crash, drawn one after another.
use Rattle.std.specs.Prelude.{◌≡◌, ℕ, Bool, false, ◌||◌, IsTrue, List, [], take}
use Rattle.host_trait.specs.declared.channels.FileId.{FileId}
use Rattle.host_trait.specs.Disk.{MayLeave, settled}
use Rattle.host_trait.specs.World.{Disk}
use Rattle.host_memory.specs.declared.events.Event.{Event}
use Rattle.host_memory.specs.declared.events.Noted.{Noted}
use Rattle.host_memory.specs.Replay.{is_on, after_some, state_at}

-- whether an event is on a file, or an earlier one was
abbrev pub touch : FileId → Event → Bool → Bool
touch f e b = is_on f e || b

-- whether an event up to this stamp is on a file
abbrev pub is_touched : ℕ → List Noted → FileId → Bool
is_touched until events f = after_some (touch f) until false events

-- The files that are written have outcomes of a crash at this stamp, and those on which there is one of the first events are written.
pub record IsDrawing (events : List Noted) (until count : ℕ) (written : FileId → Bool) (disk : Disk) : Type 0 where
  pub empty : (f : FileId) → written f ≡ false → disk f ≡ settled []
  pub lasts : (f : FileId) → disk f ≡ settled (disk f).seen
  pub drawn : (f : FileId) → IsTrue (written f) → MayLeave (state_at until events f) (disk f).seen
  pub covered : (f : FileId) → IsTrue (is_touched until (take count events) f) → IsTrue (written f)
