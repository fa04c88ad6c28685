-- What the events so far made of the output and the files.
--
-- Each event has a stamp. An event of the call of number k has the stamp 2 * k, and what is put into a file from outside between
-- the calls k and k + 1 has the stamp 2 * k + 1. So the state just after k calls is that of the stamps up to 2 * k + 1.
use Rattle.std.specs.Prelude.{◌≡◌, ℕ, zero, suc, ◌+◌, ◌*◌, nat_le, Bool, true, false, if◌then◌else◌, ◌||◌, ◌&&◌, IsTrue, List, [], ◌∷◌, ◌++◌, length, max}
use Rattle.host_trait.specs.declared.channels.FileId.{FileId}
use Rattle.host_trait.specs.Files.{same_file}
use Rattle.host_trait.specs.Disk.{FileState, Pends, overlaid, settled, after_sync}
use Rattle.host_trait.specs.World.{Moment, World}
use Rattle.host_memory.specs.declared.events.Event.{Event}
use Rattle.host_memory.specs.declared.events.Event.TheVariants.{Emitted, Wrote, Tore, Synced, Put}
use Rattle.host_memory.specs.declared.events.Noted.{Noted}
use Rattle.host_memory.specs.declared.files.Stored.{Stored}
use Rattle.host_memory.specs.Table.{bytes_in, written_in}

-- what a write that failed after it began makes of its file: its range is pending, and a read gives what it gave
pub record IsTorn (at n : ℕ) (old new : FileState) : Type 0 where
  pub pends : Pends at n old new
  pub seen : new.seen ≡ old.seen

-- whether an event is about this file
abbrev pub is_on : FileId → Event → Bool
is_on f (Emitted bytes) = false
is_on f (Wrote file at bytes) = same_file file f
is_on f (Tore file at len) = same_file file f
is_on f (Synced file ok) = same_file file f
is_on f (Put file bytes) = same_file file f

-- what an event makes of its file
abbrev pub changed : Event → FileState → FileState
changed (Emitted bytes) s = s
changed (Wrote file at bytes) s = record { base = s.base; seen = overlaid s.seen at bytes.items; ranges = (at, length bytes.items) ∷ s.ranges; longest = max s.longest (at + length bytes.items) }
changed (Tore file at len) s = record { base = s.base; seen = s.seen; ranges = (at, len) ∷ s.ranges; longest = max s.longest (at + len) }
changed (Synced file ok) s = after_sync ok s
changed (Put file bytes) s = settled bytes.items

-- whether an event gives its file bytes
abbrev pub gives_bytes : Event → Bool
gives_bytes (Emitted bytes) = false
gives_bytes (Wrote file at bytes) = true
gives_bytes (Tore file at len) = false
gives_bytes (Synced file ok) = false
gives_bytes (Put file bytes) = true

-- the state of a file, whether it was ever written, the output, and the syncs that were asked, after one event more
abbrev pub state_step : FileId → Event → FileState → FileState
state_step f e s = if is_on f e then changed e s else s

-- whether a file was ever written, after one event more
abbrev pub written_step : FileId → Event → Bool → Bool
written_step f e b = if is_on f e then gives_bytes e || b else b

-- the output after one event more
abbrev pub output_step : Event → List ℕ → List ℕ
output_step (Emitted bytes) output = output ++ bytes.items
output_step _ output = output

-- how many syncs were asked for, after one event more
abbrev pub syncs_step : Event → ℕ → ℕ
syncs_step (Synced file ok) n = n + 1
syncs_step _ n = n

-- what all events make, and what those up to a stamp make
abbrev pub after_all : {S : Type 0} → (Event → S → S) → S → List Noted → S
after_all step s [] = s
after_all step s (noted ∷ events) = after_all step (step noted.event s) events

-- what the events up to a stamp make
abbrev pub after_some : {S : Type 0} → (Event → S → S) → ℕ → S → List Noted → S
after_some step until s [] = s
after_some step until s (noted ∷ events) = after_some step until (if nat_le noted.stamp until then step noted.event s else s) events

-- the state of a file after all events
abbrev pub state_of : List Noted → FileId → FileState
state_of events f = after_all (state_step f) (settled []) events

-- whether a file was written by these events
abbrev pub written_by : List Noted → FileId → Bool
written_by events f = after_all (written_step f) false events

-- the output after all events
abbrev pub output_of : List Noted → List ℕ
output_of events = after_all output_step [] events

-- how many syncs these events are
abbrev pub syncs_of : List Noted → ℕ
syncs_of events = after_all syncs_step 0 events

-- the state of a file by the events up to a stamp
abbrev pub state_at : ℕ → List Noted → FileId → FileState
state_at until events f = after_some (state_step f) until (settled []) events

-- the moment at a stamp
abbrev pub moment_at : ℕ → List Noted → Moment
moment_at until events = record { output = after_some output_step until [] events; disk = λ f. state_at until events f }

-- the moments of the first calls, one for each
abbrev pub moments_of : List Noted → ℕ → List Moment
moments_of events zero = []
moments_of events (suc calls) = moments_of events calls ++ moment_at (2 * suc calls) events ∷ []

-- what a host means that has this input left, after these events and so many calls
abbrev pub world_of : List ℕ → List Noted → ℕ → World
world_of input events calls = record {
  input = input;
  output = output_of events;
  disk = λ f. state_of events f;
  syncs = syncs_of events;
  past = moments_of events calls;
}

-- no event has a stamp above this one
abbrev pub are_by : ℕ → List Noted → Bool
are_by until [] = true
are_by until (noted ∷ events) = nat_le noted.stamp until && are_by until events

-- each event has at most this stamp
abbrev pub AreBy : ℕ → List Noted → Type 0
AreBy until events = IsTrue (are_by until events)

-- the files at hand are those that a read gives
abbrev pub AreSeen : List Stored → List Noted → Type 0
AreSeen files events = (f : FileId) → (bytes_in files f ≡ (state_of events f).seen) × (written_in files f ≡ written_by events f)
