-- A settler over a core that others have too: what it puts itself, and what it keeps of a run's books.
use Rattle.std.specs.Prelude.{◌≡◌, ◌⊎◌, ◌<◌, ◌≤◌, ◌^◌, ◌++◌, Bool, true, false, List, [], length, Result, Ok, Err, is_some, ⊤}
use Rattle.base_types.specs.declared.shapes.Shape.{Shape}
use Rattle.host_trait.specs.declared.channels.Channel.TheVariants.{Output}
use Rattle.host_trait.specs.Faults.{Rose}
use Rattle.core_model.specs.LockAnswers.{IsGoing}
use Rattle.core_model.specs.LegalRuns.{Run, ends}
use Rattle.core_model.specs.declared.events.CoreEvent.{CoreEvent}
use Rattle.core_model.specs.declared.events.CoreEvent.TheVariants.{Halt}
use Rattle.core_model.specs.declared.events.CoreReply.{CoreReply}
use Rattle.core_access.specs.Histories.{Told}
use Rattle.core_access.specs.SettlerEvents.{is_settling}
use Rattle.core_access.specs.Sights.{Sight, run_seen, AllPass, Looks, Tells}
use Rattle.script_check.specs.AcceptedPrograms.{IsAcceptedProgram}
use Rattle.promise_spec.specs.Programs.{shape_in}
use Rattle.promise_spec.specs.UnitRule.{Basis, KeepsUnitRule}
use Rattle.worker_rules.specs.UnitOwnership.{KeepsPromise}
use Rattle.settle_loop.specs.declared.settler.Settler.{Settler}
use Rattle.run_books.specs.declared.faults.RunFault.{RunFault}
use Rattle.run_books.specs.declared.faults.RunFault.TheVariants.{InDoubt, WriteFault, Memory, LoadFault, LoadDamaged}
use Rattle.run_books.specs.Beginnings.{Outset, basis_of}
use Rattle.run_books.specs.RecordFrame.{TurnsBeside}
use Rattle.run_books.specs.Books.{Books}
use Rattle.run_books.specs.Records.{KeepsBooks, HasDoubted, HasFailedToLoad, HasFoundNone}
use Rattle.run_books.specs.BooksSteps.{AreEven, BooksGoOn}
use Rattle.run_books.specs.SharedSteps.{SeesOn, CanShare, MayRely}
use Rattle.run_books.specs.Stages.{Side, Stage, stage_with}

-- More was seen, and what was put oneself is of the settler's events.
pub record SettlesAmong (s t : Sight) : Type 0 where
  pub on : SeesOn s t
  pub own : List Told
  pub mine : t.mine ≡ s.mine ++ own
  pub settling : AllPass is_settling own

-- So it was up to a place, and there a stop was put.
pub record StopsAmong (may_come : CoreEvent → Bool) (s t : Sight) : Type 0 where
  pub mid : Sight
  pub settles : SettlesAmong s mid
  pub reply : CoreReply
  pub stop : Tells may_come mid Halt reply t

-- A stop is put last, and only where the answer says that the output failed, that a grain's last version wasn't read, or that memory
-- ran out. None need be put where a stop or a doubt stands already.
abbrev pub EndsAmong : (CoreEvent → Bool) → Sight → Sight → {T : Type 0} → Result T RunFault → Type 0
EndsAmong may_come s t (Ok done) = SettlesAmong s t
EndsAmong may_come s t (Err InDoubt) = SettlesAmong s t
EndsAmong may_come s t (Err WriteFault) = SettlesAmong s t ⊎ StopsAmong may_come s t
EndsAmong may_come s t (Err Memory) = SettlesAmong s t ⊎ StopsAmong may_come s t
EndsAmong may_come s t (Err (LoadFault file)) = SettlesAmong s t ⊎ StopsAmong may_come s t
EndsAmong may_come s t (Err (LoadDamaged file place)) = SettlesAmong s t ⊎ StopsAmong may_come s t

-- A stop or a doubt stands, so whoever goes on ends by it.
pub record HasToStop (r : Run) : Type 0 where
  pub stopped : IsGoing (ends r) → ⊥

-- where the settler knows of a doubt, one stands
abbrev pub KnowsTruly : Settler → Run → Type 0
KnowsTruly settler r = settler.doubted ≡ true → is_some (ends r).manager.doubt ≡ true

-- a stop was put, or others' events came and no more
abbrev pub MayStop : (CoreEvent → Bool) → Sight → Sight → Type 0
MayStop may_come s t = Looks may_come s t ⊎ ((r : CoreReply) × Tells may_come s Halt r t)

-- What is put behind a fault, so that others end by it: nothing behind a doubt, which ends them, and else a stop, unless one or a doubt
-- stands already.
abbrev pub EndsOthers : (CoreEvent → Bool) → RunFault → Sight → Sight → Type 0
EndsOthers may_come InDoubt s t = t ≡ s
EndsOthers may_come WriteFault s t = MayStop may_come s t × HasToStop (run_seen t)
EndsOthers may_come Memory s t = MayStop may_come s t × HasToStop (run_seen t)
EndsOthers may_come (LoadFault file) s t = MayStop may_come s t × HasToStop (run_seen t)
EndsOthers may_come (LoadDamaged file place) s t = MayStop may_come s t × HasToStop (run_seen t)

-- However it failed, a stop or a doubt stands behind all that was seen: a doubt where one is answered, unless the settler knew of one
-- before any stood.
abbrev pub LeavesStopped : Settler → Sight → Sight → {T : Type 0} → Result T RunFault → Type 0
LeavesStopped before s t (Ok done) = ⊤
LeavesStopped before s t (Err InDoubt) = KnowsTruly before (run_seen s) → is_some (ends (run_seen t)).manager.doubt ≡ true
LeavesStopped before s t (Err WriteFault) = HasToStop (run_seen t)
LeavesStopped before s t (Err Memory) = HasToStop (run_seen t)
LeavesStopped before s t (Err (LoadFault file)) = HasToStop (run_seen t)
LeavesStopped before s t (Err (LoadDamaged file place)) = HasToStop (run_seen t)

-- What is known where a settler begins among others: it may share the core, no stop stands, and the books are kept and even.
pub record CanSettleAmong (tells : Bool) (o : Outset) (b : Books) (shape : Shape) (s : Sight) (beside : Side) : Type 0 where
  pub share : CanShare o shape s
  pub going : (ends (run_seen s)).units.halt ≡ false
  pub even : AreEven beside.settler.quiet b (ends (run_seen s))
  pub books : KeepsBooks tells o b (stage_with (run_seen s) beside)

-- What is known where a settler begins over a core that it has alone.
pub record CanSettleRest (o : Outset) (shape : Shape) (r : Run) : Type 0 where
  pub above : 0 < r.base
  pub units : KeepsUnitRule (basis_of o) r
  pub kinds : r.kinds ≡ length o.program.types
  pub shape_is : shape ≡ shape_in o.program
  pub accepted : IsAcceptedProgram o.program.types
  pub few : (ends r).units.next ≤ 2 ^ 63
  pub small : (ends r).units.lines < 2 ^ 32
  pub going : (ends r).units.halt ≡ false

-- what an answer says of the run that is known by now, and of its books
abbrev pub SaysAmong : Bool → Outset → Books → Stage → {T : Type 0} → Result T RunFault → Type 0
SaysAmong tells o b s (Ok done) = AreEven s.settler.quiet b (ends s.run) × ((ends s.run).units.halt ≡ false)
SaysAmong tells o b s (Err InDoubt) = HasDoubted o s.run s.faults × (b.rest ≡ [])
SaysAmong tells o b s (Err WriteFault) = Rose (o.faults Output) (s.faults Output)
SaysAmong tells o b s (Err Memory) = b.rest ≡ []
SaysAmong tells o b s (Err (LoadFault file)) = HasFailedToLoad o s.run s.faults file × (b.rest ≡ [])
SaysAmong tells o b s (Err (LoadDamaged file place)) = HasFoundNone tells s.run × (b.rest ≡ [])

-- The books go on from one run to a later one, and the answer says so.
pub record SettledAmong {T : Type 0} (tells : Bool) (o : Outset) (b : Books) (before after : Stage) (result : Result T RunFault) : Type 0 where
  pub goes : BooksGoOn tells o b before after
  pub says : SaysAmong tells o goes.books after result

-- The books of what was seen by now go on to those of what is seen then, once it is known that others put events of lines and units
-- alone.
abbrev pub BooksSettle : {T : Type 0} → Bool → Shape → Sight → Sight → Side → Side → Result T RunFault → Type 0
BooksSettle tells shape s t before after result = (o : Outset) (b : Books) → CanSettleAmong tells o b shape s before → MayRely o t
    → SettledAmong tells o b (stage_with (run_seen s) before) (stage_with (run_seen t) after) result

-- What settling among others leaves beside what it put: its events were promised; the run's books go on; and beside the record it
-- leaves the run and the host as any turns do.
pub record LeavesBeside {T : Type 0} (tells : Bool) (shape : Shape) (before after : Side) (result : Result T RunFault) (s t : Sight) : Type 0 where
  pub promise : (basis : Basis) → KeepsPromise basis s → KeepsPromise basis t
  pub books : BooksSettle tells shape s t before after result
  pub beside : TurnsBeside tells (stage_with (run_seen s) before) (stage_with (run_seen t) after) result
