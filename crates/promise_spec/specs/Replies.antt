-- The replies clause: what the run added to the output is entries, and each is true.
use Rattle.std.specs.Prelude.{◌≡◌, ◌≢◌, ◌⊎◌, ℕ, ◌<◌, ◌≤◌, List, [], length, slice_get, Some, ⊤}
use Rattle.base_types.specs.declared.calls.Call.{Call}
use Rattle.base_types.specs.declared.calls.Origin.TheVariants.{Line}
use Rattle.base_types.specs.declared.calls.Outcome.{Outcome}
use Rattle.base_types.specs.declared.entries.Entry.{Entry}
use Rattle.base_types.specs.declared.entries.Settled.{Settled}
use Rattle.base_types.specs.declared.entries.Settled.TheVariants.{Done, InDoubt, Bad}
use Rattle.core_model.specs.CoreState.{UnitNo, Member}
use Rattle.core_model.specs.Lines.{DifferInLine}
use Rattle.script_meaning.specs.Play.{play_over, IsTransaction}
use Rattle.promise_spec.specs.Records.{Commit}
use Rattle.promise_spec.specs.Entries.{new_silo, records_of}
use Rattle.promise_spec.specs.Programs.{Program, shape_in}
use Rattle.promise_spec.specs.Outputs.{Grew}
use Rattle.promise_spec.specs.Lines.{IsLineCall, IsBadLine}
use Rattle.promise_spec.specs.Family.{AreAnswers}
use Rattle.promise_spec.specs.Endings as ending
use Rattle.promise_spec.specs.Courses.{Observed, Course, order, lines}

-- the entry is of this record's unit and line
pub record IsEntryOf (e : Entry) (l : Commit) : Type 0 where
  pub unit : l.logged.unit ≡ e.unit
  pub line : l.logged.origin ≡ Line e.line

-- the outcome is the result of the added record of the entry's line and unit
pub record IsLoggedReply (c : Course) (e : Entry) (outcome : Outcome) : Type 0 where
  pub commit : Commit
  pub added : Member commit c.added
  pub of : IsEntryOf e commit
  pub result : commit.logged.result ≡ outcome

-- The line's call is a plain run, and gives this outcome over the states of a new silo, where its children's outcomes
-- are those of the order, one for each that it asks for.
pub record IsPlainReply (p : Program) (r : Observed) (c : Course) (e : Entry) (outcome : Outcome) : Type 0 where
  pub call : Call
  pub line : IsLineCall p.types (lines r) e.line call
  pub plain : IsTransaction p.types call → ⊥
  pub answers : List Outcome
  pub are : AreAnswers (records_of (order c)) e.unit answers
  pub enough : length (play_over p.types call 1 (new_silo p).states answers).asked ≡ length answers
  pub result : (play_over p.types call 1 (new_silo p).states answers).result ≡ outcome

-- no record that the run added is this unit's
abbrev pub HasNoRecord : Course → UnitNo → Type 0
HasNoRecord c u = (l : Commit) → Member l c.added → l.logged.unit ≢ u

-- What an entry says is true: an outcome is that of the record or of the plain run, an aborted unit has no record,
-- and a bad line fails the test that is named. Of units in doubt the exit clause speaks.
abbrev pub IsTrueOf : Program → Observed → Course → Entry → Settled → Type 0
IsTrueOf p r c e (Done outcome) = IsLoggedReply c e outcome ⊎ IsPlainReply p r c e outcome
IsTrueOf p r c e InDoubt = ⊤
IsTrueOf p r c e (Bad why) = IsBadLine p.types (lines r) e.line why
IsTrueOf p r c e _ = HasNoRecord c e.unit

-- the entries of logged units stand in the order of their records
abbrev pub StandInOrder : List Entry → List Commit → Type 0
StandInOrder entries log =
    (i j m n : ℕ) (d e : Entry) (a b : Commit) → slice_get entries i ≡ Some d → slice_get entries j ≡ Some e →
    slice_get log m ≡ Some a → slice_get log n ≡ Some b → IsEntryOf d a → IsEntryOf e b → i < j → m < n

-- What the run added to the output is entries, each of another line of the input, and a rest that is empty unless
-- writing failed. Each is true, and those of logged units stand in the order of their records.
pub record AreReplies (p : Program) (r : Observed) (c : Course) : Type 0 where
  pub output : Grew (shape_in p) r.old.output r.new.output c.entries c.rest
  pub whole : r.ending ≢ ending.WriteFault → c.rest ≡ []
  pub within : (e : Entry) → Member e c.entries → (1 ≤ e.line) × (e.line ≤ length (lines r))
  pub once : DifferInLine c.entries
  pub true_each : (e : Entry) → Member e c.entries → IsTrueOf p r c e e.what
  pub in_order : StandInOrder c.entries c.added
