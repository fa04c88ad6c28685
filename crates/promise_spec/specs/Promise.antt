-- The whole promise of a run.
use Rattle.std.specs.Prelude.{◌≡◌, ◌≢◌, ◌⊎◌, ℕ, ◌+◌, ◌%◌, ◌≤◌, not, true, false, List, [], ◌++◌, length, take, Some, None}
use Rattle.base_types.specs.declared.calls.Call.{Call}
use Rattle.base_types.specs.declared.calls.Origin.TheVariants.{Child}
use Rattle.base_types.specs.declared.entries.Entry.{Entry}
use Rattle.base_types.specs.declared.entries.Settled.{Settled}
use Rattle.core_model.specs.CoreState.{UnitNo, Member}
use Rattle.core_model.specs.declared.events.CoreEvent.TheVariants.{Begin}
use Rattle.core_model.specs.Lines.{DifferInLine}
use Rattle.request_wire.specs.Lines.{lines_of}
use Rattle.promise_spec.specs.Programs.{Program, shape_in}
use Rattle.promise_spec.specs.Entries.{records_of, standing_of}
pub use Rattle.promise_spec.specs.Images.{IsWholeFolder, IsSoundFolder}
use Rattle.promise_spec.specs.Images.{AreNumbered}
use Rattle.promise_spec.specs.Outputs.{Grew}
use Rattle.promise_spec.specs.Kinds.{kind_of}
use Rattle.promise_spec.specs.Family.{IsFamily}
use Rattle.promise_spec.specs.Openings.{Reads, opened_as}
use Rattle.promise_spec.specs.Cores.{AppliesAt}
use Rattle.promise_spec.specs.Causes.{NoneRose, syncs_of, most_syncs_of}
use Rattle.promise_spec.specs.Windows.{window_lines, first_bad, told_number, before_bad, whole_windows}
use Rattle.promise_spec.specs.Endings.{Ending, Done, ReadFault, WriteFault, InputTooLong, IsMarked, HasRisen, IsCarried, IsAllWritten, IsCalm, CountsSyncs}
use Rattle.promise_spec.specs.Words.{Manner}
use Rattle.promise_spec.specs.Courses.{Observed, Course, order, lines, seen_at_entry, program_in_force, core_run, core_end}
use Rattle.promise_spec.specs.Refusals.{IsUnopened}
use Rattle.promise_spec.specs.Replies.{IsTrueOf, StandInOrder}
use Rattle.promise_spec.specs.Headline.{KeepsHeadline}
use Rattle.promise_spec.specs.Exits.{IsExit}
use Rattle.promise_spec.specs.Explanation.{ComeOfEvents, AreSettled, IsExplained}

-- ---- statuses

-- the input was read to its end, and each line may begin
pub record AllowsAll (r : Observed) (allowed : ℕ) : Type 0 where
  pub input : r.new.input ≡ []
  pub all : allowed ≡ length (lines r)

-- what was pulled has no bad line, and the lines of the windows that stand whole in it may begin
pub record AllowsWindows (pulled : List ℕ) (allowed : ℕ) : Type 0 where
  pub good : first_bad 0 (lines_of pulled) ≡ None
  pub windows : allowed ≡ whole_windows pulled

-- the input's first bad line stands in what was pulled, and the lines of the windows before its own may begin; its number is told
pub record AllowsBefore (pulled : List ℕ) (told : ℕ) (r : Observed) (allowed : ℕ) : Type 0 where
  pub number : ℕ
  pub first : first_bad 0 (lines r) ≡ Some number
  pub found : first_bad 0 (lines_of pulled) ≡ Some number
  pub before : allowed ≡ before_bad number
  pub is_told : told ≡ told_number number

-- the lines of some windows may begin, which stand whole in what was pulled
pub record AllowsSome (pulled : List ℕ) (allowed : ℕ) : Type 0 where
  pub windows : allowed % window_lines ≡ 0
  pub most : allowed ≤ whole_windows pulled

-- How many lines may begin, by the ending and what was pulled: all where the run is done; those of each window that was read whole
-- where reading failed or a line is too long; and with another ending all, or those of the windows up to the one in which it came.
abbrev pub AllowedBy : Ending → List ℕ → Observed → ℕ → Type 0
AllowedBy Done pulled r allowed = AllowsAll r allowed
AllowedBy ReadFault pulled r allowed = AllowsWindows pulled allowed
AllowedBy (InputTooLong told) pulled r allowed = AllowsBefore pulled told r allowed
AllowedBy _ pulled r allowed = AllowsAll r allowed ⊎ AllowsSome pulled allowed

-- How far the input was read, and which lines may begin: none of these is bad, no other line has begun, and where there are none
-- nothing has happened.
pub record HasRead (p : Program) (r : Observed) (c : Course) : Type 0 where
  pub pulled : List ℕ
  pub input : r.old.input ≡ pulled ++ r.new.input
  pub few : (core_end p c).units.lines ≤ c.allowed
  pub none : c.allowed ≡ 0 → c.events ≡ []
  pub good : first_bad 0 (take c.allowed (lines r)) ≡ None
  pub allowed : AllowedBy r.ending pulled r c.allowed

-- each line that may begin has its entry
abbrev pub IsAnswered : Course → Type 0
IsAnswered c = (n : ℕ) → 1 ≤ n → n ≤ c.allowed → (e : Entry) × Member e c.entries × (e.line ≡ n)

-- no fault of a file has a part in it
abbrev pub IsUndisturbed : Settled → Type 0
IsUndisturbed what = IsMarked (not (kind_of what).disturbed)

-- the run went through, and no line was aborted for a fault
pub record GoesThrough (r : Observed) (c : Course) : Type 0 where
  pub calm : IsCalm r.ending
  pub undisturbed : (e : Entry) → Member e c.entries → IsUndisturbed e.what

-- no unit began as another's child
abbrev pub HasNoChild : Program → Course → Type 0
HasNoChild p c =
    (at : ℕ) (parent : UnitNo) (index depth : ℕ) (call : Call) →
    AppliesAt (core_run p c) at (Begin (Child parent index depth) call false) → ⊥

-- no line waited for another, or was aborted for one
abbrev pub IsNoLock : Settled → Type 0
IsNoLock what = IsMarked (not (kind_of what).locked)

-- How a run that opened the folder ends: its lines are the input's; a fault is shown by its count; no line begins before its window
-- was read whole and found to have no bad line; where all is done, reading failed or a line is too long, each line that may begin has
-- its entry; and where no count rises, and none stands at its last value, it goes through, at width 1 without nested units with no
-- abort, and asks for so many syncs: also where a line is too long. However it ends, and whatever fails, it asks for no more than so
-- many.
pub record HasEnded (p : Program) (r : Observed) (c : Course) : Type 0 where
  pub given : lines r ≡ lines_of r.old.input
  pub risen : HasRisen r.ending r.faults_before r.faults_after
  pub carried : IsCarried r.ending
  pub read : HasRead p r c
  pub answered : IsAllWritten r.ending → IsAnswered c
  pub complete : NoneRose r.faults_before r.faults_after → GoesThrough r c
  pub alone : r.manner.threaded ≡ false → r.manner.width ≡ 1 → HasNoChild p c → (e : Entry) → Member e c.entries → IsNoLock e.what
  pub syncs : NoneRose r.faults_before r.faults_after → CountsSyncs r.ending → r.new.syncs ≡ r.old.syncs + syncs_of (seen_at_entry r) (core_run p c)
  pub most : r.new.syncs ≤ r.old.syncs + most_syncs_of (seen_at_entry r) (core_run p c)

-- ---- the promise

-- All six clauses of one course: the headline (order, replies, crashes), causes, exit and status.
pub record Keeps (p : Program) (r : Observed) (c : Course) : Type 0 where
  pub headline : KeepsHeadline p r c
  pub traced : ComeOfEvents p r c
  pub settled : AreSettled p r c
  pub explained : IsExplained p r c
  pub exit : IsExit p r c
  pub ended : HasEnded p r c

-- What holds over any folder that opens, sound or not. The files read as this log, at whose end the program is in force. What was written is entries, each of another
-- line, and a rest that is empty unless writing failed; entries of logged units stand in the order of their records. They are
-- those that the core's events settle and explain, and the run ends as the third of these says. Where the opening log's units are
-- numbered, the entries are true and the records a family.
pub record KeepsAnywhere (p : Program) (r : Observed) (c : Course) : Type 0 where
  pub in_force : program_in_force c ≡ p
  pub reads : opened_as (seen_at_entry r) ≡ Reads c.live c.opening
  pub output : Grew (shape_in p) r.old.output r.new.output c.entries c.rest
  pub whole : r.ending ≢ WriteFault → c.rest ≡ []
  pub within : (e : Entry) → Member e c.entries → (1 ≤ e.line) × (e.line ≤ length (lines r))
  pub once : DifferInLine c.entries
  pub in_order : StandInOrder c.entries c.added
  pub settled : AreSettled p r c
  pub explained : IsExplained p r c
  pub ended : HasEnded p r c
  pub true_each : AreNumbered c.opening.base.next (records_of c.opening) → (e : Entry) → Member e c.entries → IsTrueOf p r c e e.what
  pub family : AreNumbered c.opening.base.next (records_of c.opening) → IsFamily p.types (lines r) (core_end p c) (standing_of c.opening).states (records_of (order c)) c.added

-- What `run` promises, carried in the manner of its words; its input comes in windows. Over any folder it doesn't open it and leaves all as it was, or it
-- opens it, and takes a course that keeps this much. Over a folder whose images are whole it doesn't open it, or takes a course
-- that keeps all six clauses, of which that images stay sound alone asks that they were.
pub record Promises (m : Manner) (r : Observed) : Type 0 where
  pub manner : r.manner ≡ m
  pub windowed : r.windowed ≡ true
  pub answers : IsUnopened r ⊎ ((c : Course) × KeepsAnywhere (program_in_force c) r c)
  pub over_whole : IsWholeFolder r.old → IsUnopened r ⊎ ((c : Course) × Keeps (program_in_force c) r c)
