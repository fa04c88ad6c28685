-- A step of the settler over a core that others have too: what is known of it once the history is whole, and what it leaves then.
use Rattle.std.specs.Prelude.{◌≡◌, ◌++◌, ◌<◌, ◌≤◌, ◌^◌, ℕ, Bool, false, List, length, Result}
use Rattle.base_types.specs.declared.shapes.Shape.{Shape}
use Rattle.host_trait.specs.declared.channels.Channel.{Channel}
use Rattle.host_trait.specs.World.{World}
use Rattle.core_model.specs.LegalRuns.{Run, ends}
use Rattle.core_model.specs.declared.events.CoreEvent.{CoreEvent}
use Rattle.turn_cell.specs.History.{entries_of}
use Rattle.core_access.specs.Histories.{Told, run_after}
use Rattle.core_access.specs.SettlerEvents.{leaves_settling}
use Rattle.core_access.specs.Sights.{Sight, run_seen, AllPass, Counts, IsAlone}
use Rattle.worker_rules.specs.Work.{is_work}
use Rattle.script_check.specs.AcceptedPrograms.{IsAcceptedProgram}
use Rattle.promise_spec.specs.Programs.{shape_in}
use Rattle.promise_spec.specs.UnitRule.{KeepsUnitRule}
use Rattle.settle_loop.specs.SettlerStep.{TurnsAs}
use Rattle.settle_loop.specs.declared.settler.Settler.{Settler}
use Rattle.settle_loop.specs.declared.settler.Turned.{Turned}
use Rattle.run_books.specs.Beginnings.{Outset, basis_of}
use Rattle.run_books.specs.Books.{Books}
use Rattle.run_books.specs.Stages.{Stage, stage_by, stage_of}
use Rattle.run_books.specs.Records.{KeepsBooks}
use Rattle.run_books.specs.BooksSteps.{AreEven, SaysOfStep, BooksGoOn}

-- What will be known of what was seen, once the history is whole: others put lines' and units' events alone, the unit rule is
-- kept, and units and lines are few.
pub record MayRely (o : Outset) (s : Sight) : Type 0 where
  pub alone : IsAlone is_work s
  pub units : KeepsUnitRule (basis_of o) (run_seen s)
  pub few : (ends (run_seen s)).units.next ≤ 2 ^ 63
  pub small : (ends (run_seen s)).units.lines < 2 ^ 32

-- Since then more was seen through the same access, and what was put through it is among that, by its count.
pub record SeesOn (s t : Sight) : Type 0 where
  pub first : t.first ≡ s.first
  pub number : t.number ≡ s.number
  pub rest : List Told
  pub seen : t.seen ≡ s.seen ++ rest
  pub own : List Told
  pub mine : t.mine ≡ s.mine ++ own
  pub counts : length own ≤ length (entries_of s.number rest)

-- What is known where the settler of a shared core goes on: its units are numbered from 1 or later, the program is a checked one
-- with this shape, and what was put through this access was seen.
pub record CanShare (o : Outset) (shape : Shape) (s : Sight) : Type 0 where
  pub above : 0 < s.first.base
  pub kinds : s.first.kinds ≡ length o.program.types
  pub shape_is : shape ≡ shape_in o.program
  pub accepted : IsAcceptedProgram o.program.types
  pub counts : Counts s

-- the books go on, and the answer says this of the run
abbrev pub StepKeeps : {E : Type 0} → Bool → Outset → Books → Stage → Stage → Result Turned E → Type 0
StepKeeps tells o b before after result = (g : BooksGoOn tells o b before after) × SaysOfStep tells o g.books after result

-- Events that aren't the settler's keep the books, with settler, counts and world as they are.
abbrev pub OthersKeepBooks : Type 0
OthersKeepBooks = (tells : Bool) (o : Outset) (b : Books) (r : Run) (rest : List Told) (settler : Settler) (counts : Channel → ℕ) (now : World)
    → 0 < r.base → KeepsUnitRule (basis_of o) (run_after r rest) → AllPass leaves_settling rest
    → AreEven settler.quiet b (ends r) → KeepsBooks tells o b (stage_by r settler counts now)
    → (g : BooksGoOn tells o b (stage_by r settler counts now) (stage_by (run_after r rest) settler counts now))
    × AreEven settler.quiet g.books (ends (run_after r rest))

-- A step of the settler of a shared core keeps the books, where the history will allow it and the run isn't stopped.
abbrev pub SharedStepsKeep : (H E : Type 0) → Bool → (H → World) → (H → Channel → ℕ) → Type 0
SharedStepsKeep H E tells world faults = (may : CoreEvent → Bool) (o : Outset) (b : Books) (shape : Shape) (s t : Sight) (before after : Settler) (old new : H) (result : Result Turned E)
    → CanShare o shape s → MayRely o t → (ends (run_seen t)).units.halt ≡ false
    → AreEven before.quiet b (ends (run_seen s)) → KeepsBooks tells o b (stage_of world faults (run_seen s) before old)
    → TurnsAs tells world faults may shape before after s t old new result
    → StepKeeps tells o b (stage_of world faults (run_seen s) before old) (stage_of world faults (run_seen t) after new) result
