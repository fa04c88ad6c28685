-- The crash clause: a crash at any moment leaves a prefix of the order, with every commit whose reply was written.
use Rattle.std.specs.Prelude.{◌≡◌, ◌≢◌, ◌⊎◌, ℕ, List, ◌++◌, take, ⊤}
use Rattle.base_types.specs.declared.calls.Origin.TheVariants.{Child}
use Rattle.base_types.specs.declared.entries.Entry.{Entry}
use Rattle.base_types.specs.declared.entries.Settled.{Settled}
use Rattle.base_types.specs.declared.entries.Settled.TheVariants.{Done}
use Rattle.core_model.specs.CoreState.{Member}
use Rattle.host_trait.specs.declared.channels.FileId.{FileId}
use Rattle.host_trait.specs.declared.channels.FileId.TheVariants.{Program as ProgramFile, Manager, Grain}
use Rattle.host_trait.specs.World.{Moment, Image, IsImage}
use Rattle.silo_spec.specs.OpenedDisks.{opened_disk}
use Rattle.promise_spec.specs.Records.{Commit}
use Rattle.promise_spec.specs.Entries.{Log, records_of, grown}
use Rattle.promise_spec.specs.Logs.{IsLog, IsPrefix}
use Rattle.promise_spec.specs.Programs.{Program, shape_in}
use Rattle.promise_spec.specs.Images.{AreChained, IsWholeIfSilo, IsSoundIfSilo}
use Rattle.promise_spec.specs.Moments.{IsImageOf}
use Rattle.promise_spec.specs.Outputs.{Grew}
use Rattle.promise_spec.specs.Courses.{Observed, Course, moments, seen_at_entry}
use Rattle.promise_spec.specs.Replies.{IsEntryOf}

-- an entry with an outcome
abbrev pub HasOutcome : Settled → Type 0
HasOutcome (Done outcome) = ⊤
HasOutcome _ = ⊥

-- the record is that of a child of the entry's unit
abbrev pub IsChildOf : Entry → Commit → Type 0
IsChildOf e l = (index : ℕ) × ((depth : ℕ) × (l.logged.origin ≡ Child e.unit index depth))

-- the entry has an outcome, and the record is its unit's, or that of a child of its unit
abbrev pub Acknowledges : Entry → Commit → Type 0
Acknowledges e l = HasOutcome e.what × (IsEntryOf e l ⊎ IsChildOf e l)

-- What was written by a moment is a first part of the entries, and the image has, whole, each added record that one
-- of these acknowledges.
pub record Holds (p : Program) (r : Observed) (c : Course) (m : Moment) (image : Image) : Type 0 where
  pub written : List Entry
  pub rest : List ℕ
  pub output : Grew (shape_in p) r.old.output m.output written rest
  pub front : IsPrefix written c.entries
  pub log : Log
  pub is : IsLog c.live image log
  pub has : (e : Entry) (l : Commit) → Member e written → Member l c.added → Acknowledges e l → Member l (records_of log)

-- the image's log is the opening log with a first part of the records that were added
pub record KeepsOpening (c : Course) (image : Image) : Type 0 where
  pub more : List Commit
  pub is : IsLog c.live image (grown c.opening more)
  pub front : IsPrefix more c.added

-- a file that a run leaves alone, where the live files are of this slot: one of another slot, and the program's
abbrev pub IsAside : ℕ → FileId → Type 0
IsAside live (ProgramFile slot) = ⊤
IsAside live (Manager slot) = slot ≢ live
IsAside live (Grain slot grain) = slot ≢ live

-- such files are as the opening left them, which is as they were at entry, but that it syncs the other manager file too; and the
-- live manager file's header, up to the first gate, is as it read then
pub record LeavesAlone (live : ℕ) (r : Observed) (m : Moment) : Type 0 where
  pub aside : (file : FileId) → IsAside live file → m.disk file ≡ opened_disk r.old.disk file
  pub header : (image : Image) → IsImage m.disk image → take 15 (image (Manager live)) ≡ take 15 (seen_at_entry r (Manager live))

-- The moments of the run are the early ones and the late ones. At the early ones nothing is written and each image is
-- one of those at entry. From the opening's last sync on, inside a call too, the images are a chain, each that is a
-- silo is whole, and each has the opening log with a first part of what was added; other files and the header stay as they were.
pub record SurvivesCrashes (r : Observed) (c : Course) : Type 0 where
  pub past : r.new.past ≡ r.old.past ++ (c.early ++ c.late)
  pub quiet : (m : Moment) → Member m c.early → m.output ≡ r.old.output
  pub before : (image : Image) → IsImageOf c.early image → IsImage r.old.disk image
  pub chain : (one other : Image) → IsImageOf (moments r c) one → IsImageOf (moments r c) other → AreChained one other
  pub whole : (image : Image) → IsImageOf (moments r c) image → IsWholeIfSilo image
  pub keeps : (image : Image) → IsImageOf (moments r c) image → KeepsOpening c image
  pub alone : (m : Moment) → Member m (moments r c) → LeavesAlone c.live r m

-- and each image of each moment that is a silo is sound
abbrev pub StaySound : Observed → Course → Type 0
StaySound r c = (image : Image) → IsImageOf (moments r c) image → IsSoundIfSilo image

-- and each image of each moment holds what the output by then acknowledges
abbrev pub HoldsReplies : Program → Observed → Course → Type 0
HoldsReplies p r c = (m : Moment) (image : Image) → Member m (moments r c) → IsImage m.disk image → Holds p r c m image
