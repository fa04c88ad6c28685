-- What a reader may want of a run that opened its folder, whatever the folder is: how it ended, and what it answered.
use Rattle.std.specs.Prelude.{◌≡◌, ◌≢◌, ◌⊎◌, ℕ, ◌≤◌, List, [], ◌++◌, take, None}
use Rattle.base_types.specs.declared.calls.GrainId.{GrainId}
use Rattle.base_types.specs.declared.entries.Entry.{Entry}
use Rattle.core_model.specs.CoreState.{Member}
use Rattle.core_model.specs.Lines.{DifferInLine}
use Rattle.host_trait.specs.declared.channels.FileId.{FileId}
use Rattle.host_trait.specs.declared.channels.FileId.TheVariants.{Manager, Grain}
use Rattle.request_wire.specs.Lines.{lines_of}
use Rattle.promise_spec.specs.Programs.{Program, shape_in}
use Rattle.promise_spec.specs.Windows.{first_bad}
use Rattle.promise_spec.specs.Entries.{Log, standing_of}
use Rattle.promise_spec.specs.Outputs.{Grew}
use Rattle.promise_spec.specs.Openings.{Reads, opened_as}
use Rattle.promise_spec.specs.Endings.{DiskFault, HasRisen, IsCarried, IsAllWritten}
use Rattle.promise_spec.specs.Courses.{Observed, lines, seen_at_entry}
use Rattle.promise_spec.specs.Promise.{AllowedBy}

-- the folder reads as a silo with this log, in this slot
pub record IsOpenable (r : Observed) : Type 0 where
  pub live : ℕ
  pub log : Log
  pub reads : opened_as (seen_at_entry r) ≡ Reads live log

-- Of the input this was pulled, by which so many lines may begin, of which none is bad; and what was written is one entry for each of
-- them.
pub record HasAnswered (p : Program) (r : Observed) : Type 0 where
  pub pulled : List ℕ
  pub input : r.old.input ≡ pulled ++ r.new.input
  pub allowed : ℕ
  pub by_ending : AllowedBy r.ending pulled r allowed
  pub good : first_bad 0 (take allowed (lines r)) ≡ None
  pub entries : List Entry
  pub output : Grew (shape_in p) r.old.output r.new.output entries []
  pub once : DifferInLine entries
  pub within : (e : Entry) → Member e entries → (1 ≤ e.line) × (e.line ≤ allowed)
  pub each : (n : ℕ) → 1 ≤ n → n ≤ allowed → (e : Entry) × Member e entries × (e.line ≡ n)

-- a file whose fault ended a run that had opened the folder: the live manager file; or, where something of the input was read, a
-- grain's of the same slot
abbrev pub FaultEnded : ℕ → Observed → FileId → Type 0
FaultEnded live r f = (f ≡ Manager live) ⊎ ((g : GrainId) × (f ≡ Grain live g) × (r.new.input ≢ r.old.input))

-- A run opened the folder, sound or not: it reads as a silo. A fault is shown by its count, and is one of the input, the output, the
-- live manager file or a grain's file. Where all is done, reading failed or a line is too long, each line that may begin is answered, and no other:
-- all of them, or those of the windows that were read whole.
pub record HasOpened (r : Observed) : Type 0 where
  pub openable : IsOpenable r
  pub carried : IsCarried r.ending
  pub risen : HasRisen r.ending r.faults_before r.faults_after
  pub file : (f : FileId) → r.ending ≡ DiskFault f → FaultEnded openable.live r f
  pub given : lines r ≡ lines_of r.old.input
  pub answered : IsAllWritten r.ending → HasAnswered (standing_of openable.log).program r
