-- What a load has to show, so that it keeps its promise: the rest follows.
use Rattle.std.specs.Prelude.{◌≡◌, ◌≢◌, ◌⊎◌, ◌+◌, ◌≤◌, ℕ, List, [], ◌++◌, length}
use Rattle.core_model.specs.CoreState.{Member}
use Rattle.host_trait.specs.declared.channels.Channel.{Channel}
use Rattle.host_trait.specs.World.{World, Moment, Image, IsImage}
use Rattle.promise_spec.specs.Programs.{Program}
use Rattle.promise_spec.specs.Logs.{IsLog}
use Rattle.promise_spec.specs.Causes.{NoneRose, RunHasDoubt, syncs_of, most_syncs_of}
use Rattle.promise_spec.specs.Endings as ending
use Rattle.promise_spec.specs.Courses.{Observed, Course, order, lines, seen_at_entry, program_in_force, core_run, core_end}
use Rattle.promise_spec.specs.Promise.{IsAnswered}
use Rattle.promise_spec.specs.Commands.{Prints}
use Rattle.promise_spec.specs.Loads.{load_calls, AskFor, summary_text}
use Rattle.promise_laws.specs.Obligations.{ExplainsEvents, Lasts}

-- the load up to the end of its turns, with these counts of faults and as if it had ended so there
abbrev pub at_turns_end : Observed → World → (Channel → ℕ) → ending.Ending → Observed
at_turns_end r mid counts e = record r { new = mid; faults_after = counts; ending = e }

-- and its course up to there, which has written nothing
abbrev pub turned_course : Course → List Moment → Course
turned_course c turns = record c { late = turns; entries = []; rest = [] }

-- an image that a crash may leave there has the whole order
pub record HasWhole (c : Course) (mid : World) : Type 0 where
  pub image : Image
  pub left : IsImage mid.disk image
  pub has : IsLog c.live image (order c)

-- What was printed behind the turns: nothing, or a first part of the summary, where no batch is in doubt.
abbrev pub MayPrint : Program → Observed → Course → List Moment → Type 0
MayPrint p r c told = ((told ≡ []) × (r.new.output ≡ r.old.output)) ⊎ (RunHasDoubt (core_run p c) → ⊥)

-- The turns ended in the world `mid`, and what they had written by then is nothing; they last as those of a run. Behind them the
-- files stayed, and the summary was printed or not. Its entries are those that the core settled, and
-- the program is that in force.
pub record ShowsLoad (p : Program) (n seed : ℕ) (r : Observed) (c : Course) (mid : World) (counts : Channel → ℕ) (turns_end : ending.Ending) (turns told : List Moment) : Type 0 where
  pub in_force : program_in_force c ≡ p
  pub asked : AskFor p.types (lines r) (load_calls n seed)
  pub lasts : Lasts p (at_turns_end r mid counts turns_end) (turned_course c turns)
  pub whole : HasWhole c mid
  pub hushed : (m : Moment) → Member m turns → m.output ≡ r.old.output
  pub late : c.late ≡ turns ++ told
  pub past : r.new.past ≡ mid.past ++ told
  pub disk : r.new.disk ≡ mid.disk
  pub left : (m : Moment) → Member m told → m.disk ≡ mid.disk
  pub explains : ExplainsEvents p r c
  pub settled : c.entries ≡ (core_end p c).manager.settled
  pub printed : MayPrint p r c told
  pub output : Prints (summary_text r c) r
  pub silent : r.ending ≢ ending.Done → r.ending ≢ ending.WriteFault → r.new.output ≡ r.old.output
  pub unread : r.new.input ≡ r.old.input
  pub carried : ending.IsLoadCarried r.ending
  pub allowed : c.allowed ≡ length (lines r)
  pub risen : ending.HasRisen r.ending r.faults_before r.faults_after
  pub done : (r.ending ≡ ending.Done) ⊎ (r.ending ≡ ending.WriteFault) → IsAnswered c
  pub undoubted : r.ending ≡ ending.WriteFault → RunHasDoubt (core_run p c) → ⊥
  pub syncs : NoneRose r.faults_before r.faults_after → r.ending ≡ ending.Done → r.new.syncs ≡ r.old.syncs + syncs_of (seen_at_entry r) (core_run p c)
  pub most : r.new.syncs ≤ r.old.syncs + most_syncs_of (seen_at_entry r) (core_run p c)
