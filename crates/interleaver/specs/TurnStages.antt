-- A run of turns on its way: what holds before each turn, and what each call of a turn leaves.
use Rattle.std.specs.Prelude.{◌≡◌, ◌⊎◌, ◌+◌, ◌<◌, ◌≤◌, ◌^◌, ℕ, Bool, true, false, IsTrue, List, [], drop, take, Option, None, Result, Ok, Err}
use Rattle.host_trait.specs.declared.channels.Channel.TheVariants.{Output}
use Rattle.host_trait.specs.Faults.{Rose}
use Rattle.request_wire.specs.declared.requests.Line.{Line}
use Rattle.core_model.specs.CoreState.{UnitNo, Member, CoreState}
use Rattle.core_model.specs.LegalRuns.{Run, ends}
use Rattle.core_model.specs.Settler.{Step, settler_step, MakesEvent}
use Rattle.core_model.specs.declared.events.CoreEvent.{CoreEvent}
use Rattle.core_access.specs.OneHolder.{none_comes, own_sight}
use Rattle.script_check.specs.AcceptedPrograms.{IsAcceptedProgram}
use Rattle.script_tree.specs.Programs.{ProgramTree}
use Rattle.turn_rules.specs.NextEvent.{with_event}
use Rattle.turn_rules.specs.TurnLoop.{IsThrough, IsTurning, Pass, has_room, no_pass}
use Rattle.txn_agent.specs.declared.agent.Agent.{Agent}
use Rattle.settle_loop.specs.SettlerStep.{has_unwritten, wanted_step}
use Rattle.unit_carrier.specs.CarriedUnits.{AreCarried, AreFreed, StepsOn, as_carried, unit_at, units_carried}
use Rattle.unit_carrier.specs.Lines.{BeginsOn}
use Rattle.unit_carrier.specs.declared.agents.Went.{Went}
use Rattle.run_books.specs.declared.faults.RunFault.{RunFault}
use Rattle.run_books.specs.declared.faults.RunFault.TheVariants.{InDoubt, WriteFault, LoadFault, LoadDamaged, Memory}
use Rattle.interleaver.specs.declared.turns.Turns.{Turns}
use Rattle.run_books.specs.Beginnings.{Outset, IsOutset, GoUpFrom}
use Rattle.run_books.specs.RecordFrame.{TurnsBeside}
use Rattle.run_books.specs.Books.{Books}
use Rattle.interleaver.specs.Flights.{loop_at}
use Rattle.interleaver.specs.LastLook.{IsLooked}
use Rattle.interleaver.specs.SureUnits.{AreSure}
use Rattle.run_books.specs.Images.{LastsSo}
use Rattle.run_books.specs.Records.{KeepsBooks, HasCarriedAll, HasDoubted, HasFailedToLoad, HasFoundNone}
use Rattle.interleaver.specs.Turns.{TurnsGoOn as RecordGoesOn}
use Rattle.run_books.specs.BooksSteps.{AreEven, BooksGoOn, CanSettle}
use Rattle.run_books.specs.Stages.{Stage}
use Rattle.base_types.specs.declared.shapes.Shape.{Shape}

-- Where a run of turns stands: the stage of the run, the units that are carried, how many lines have begun, how many picks were used,
-- and how far the pass of this turn has come.
pub record TurnStage : Type 0 where
  pub at : Stage
  pub agents : List Agent
  pub begun : ℕ
  pub used : ℕ
  pub pass : Pass

-- where it stands, by the run's stage and what the turns hold
abbrev pub turn_stage : Stage → Turns → TurnStage
turn_stage at state = record { at = at; agents = state.agents.list.items; begun = state.begun; used = state.used; pass = no_pass }

-- or within the pass
abbrev pub passing_stage : Stage → Turns → Pass → TurnStage
passing_stage at state pass = record { at = at; agents = state.agents.list.items; begun = state.begun; used = state.used; pass = pass }

-- The units that the turns hold are carried as the rules have it, and no more is said of them than is so: by the last look at them
-- all, of those at the front, and of those that lack no grain.
pub record HoldsUnits (types : ProgramTree) (r : Run) (state : Turns) : Type 0 where
  pub carried : AreCarried types none_comes (own_sight r) state.agents.list.items
  pub looked : IsLooked state.looked r (units_carried state.agents.list.items)
  pub freed : AreFreed state.front state.agents.list.items
  pub sure : AreSure types r (units_carried state.agents.list.items) state.sure state.moved

-- What holds before each turn: the lines that haven't begun are what is left of those that are asked, units and lines have room,
-- the rules are kept by those that are carried, and so are the books; and after a doubt an entry is left to be written.
pub record IsUnderWay (tells : Bool) (o : Outset) (types : ProgramTree) (lines : List Line) (width : ℕ) (picks : List ℕ) (b : Books) (s : TurnStage) : Type 0 where
  pub outset : IsOutset o types s.at.run (drop s.begun lines) width picks
  pub numbers : GoUpFrom (ends s.at.run).units.lines (drop s.begun lines)
  pub accepted : IsAcceptedProgram types
  pub few : (ends s.at.run).units.next ≤ 2 ^ 63
  pub room : (ends s.at.run).units.lines < 2 ^ 32
  pub turning : IsTurning (loop_at o s.at.run s.agents s.used s.pass)
  pub books : KeepsBooks tells o b s.at
  pub even : AreEven s.at.settler.quiet b (ends s.at.run)
  pub left : s.at.settler.doubted ≡ true → has_unwritten (ends s.at.run) ≡ true

-- It is under way again, with more in its books; and the images keep these, if they kept those.
pub record WentOn (tells : Bool) (o : Outset) (types : ProgramTree) (lines : List Line) (width : ℕ) (picks : List ℕ) (b : Books) (s s' : TurnStage) : Type 0 where
  pub books : Books
  pub under_way : IsUnderWay tells o types lines width picks books s'
  pub lasts : IsTrue tells → (head : List ℕ) → LastsSo o head b s.at.run s.at.settler.writer s.at.world
      → LastsSo o head books s'.at.run s'.at.settler.writer s'.at.world

-- what a turn's answer says: it goes on, or all is done and the turn's pass stands wherever it does, or the run has ended
abbrev pub TurnSays : Bool → Outset → ProgramTree → List Line → ℕ → List ℕ → Books → TurnStage → TurnStage → Result Bool RunFault → Type 0
TurnSays tells o types lines width picks b s s' (Ok true) = WentOn tells o types lines width picks b s s'
TurnSays tells o types lines width picks b s s' (Ok false) = (p : Pass) × WentOn tells o types lines width picks b s (record s' { pass = p }) × HasCarriedAll o s'.at
TurnSays tells o types lines width picks b s s' (Err fault) = RecordGoesOn {T = Bool} tells o b s.at s'.at (Err fault)

-- Wherever the turns are under way, a turn's answer says so; and beside the record this is left.
pub record TurnGoesOn (tells : Bool) (types : ProgramTree) (lines : List Line) (width : ℕ) (picks : List ℕ) (s s' : TurnStage) (result : Result Bool RunFault) : Type 0 where
  pub says : (o : Outset) (b : Books) → IsUnderWay tells o types lines width picks b s → TurnSays tells o types lines width picks b s s' result
  pub beside : TurnsBeside tells s.at s'.at result

-- So it is of a move, whatever the lines and the width, where no line may begin.
pub record MoveGoesOn (tells : Bool) (types : ProgramTree) (picks : List ℕ) (s s' : TurnStage) (result : Result Bool RunFault) : Type 0 where
  pub says : (o : Outset) (b : Books) (lines : List Line) (width : ℕ) → IsUnderWay tells o types lines width picks b s
      → has_room (loop_at o s.at.run s.agents s.used s.pass) ≡ false → TurnSays tells o types lines width picks b s s' result
  pub beside : TurnsBeside tells s.at s'.at result

-- ---- the pass

-- The pass has asked the units at the front, so many of them: those are below the number to which it has come, and all others aren't.
pub record HasReached (units : List UnitNo) (index n : ℕ) : Type 0 where
  pub asked : (u : UnitNo) → Member u (take index units) → u.0 < n
  pub left : (u : UnitNo) → Member u (drop index units) → n ≤ u.0

-- It goes on there: no line may begin, no wanted grain is missing, and so many of the units that are carried were asked.
pub record IsAsking (o : Outset) (s : TurnStage) (index : ℕ) : Type 0 where
  pub full : has_room (loop_at o s.at.run s.agents s.used s.pass) ≡ false
  pub none_due : s.pass.due ≡ None
  pub reached : HasReached (units_carried s.agents) index s.pass.before

-- It has come to its end: no line may begin, no wanted grain is missing, and each unit was asked, unless there is a doubt.
pub record HasPassed (o : Outset) (s : TurnStage) : Type 0 where
  pub full : has_room (loop_at o s.at.run s.agents s.used s.pass) ≡ false
  pub through : IsThrough (loop_at o s.at.run s.agents s.used s.pass)

-- what the answer says where one unit more was asked: the turns are under way, and the pass goes on behind it; or the run has ended
abbrev pub AskedSays : {T : Type 0} → Bool → Outset → ProgramTree → List Line → ℕ → List ℕ → Books → TurnStage → Stage → Turns → ℕ → Result T RunFault → Type 0
AskedSays tells o types lines width picks b s at state index (Ok done) =
    (p : Pass) × WentOn tells o types lines width picks b s (passing_stage at state p) × IsAsking o (passing_stage at state p) index
AskedSays tells o types lines width picks b s at state index (Err fault) = RecordGoesOn {T = Bool} tells o b s.at at (Err fault)

-- Wherever the pass goes on at the unit of this index, and nothing is in doubt, so it is behind it, whatever the lines, the width and the picks.
pub record AsksOne {T : Type 0} (tells : Bool) (types : ProgramTree) (index : ℕ) (at : Stage) (state : Turns) (at' : Stage) (state' : Turns) (result : Result T RunFault) : Type 0 where
  pub says : (o : Outset) (b : Books) (lines : List Line) (width : ℕ) (picks : List ℕ) (p : Pass) → IsUnderWay tells o types lines width picks b (passing_stage at state p)
      → at.settler.doubted ≡ false → IsAsking o (passing_stage at state p) index
      → AskedSays {T = T} tells o types lines width picks b (passing_stage at state p) at' state' (index + 1) result
  pub beside : TurnsBeside tells at at' result

-- An ask leaves which units the turns carry, how many of them are known to have given back all their locks, how many lines have begun, how
-- many picks were used, the shape, and whether the settler knows of a doubt.
pub record LeavesTurns (before : Turns) (told : Bool) (after : Turns) (told' : Bool) : Type 0 where
  pub same : as_carried after.agents.list.items ≡ as_carried before.agents.list.items
  pub front : after.front ≡ before.front
  pub begun : after.begun ≡ before.begun
  pub used : after.used ≡ before.used
  pub shape : after.shape ≡ before.shape
  pub doubted : told' ≡ told

-- what the pass's answer says: the turns are under way, and the pass has come to its end; or the run has ended
abbrev pub PassSays : {T : Type 0} → Bool → Outset → ProgramTree → List Line → ℕ → List ℕ → Books → TurnStage → Stage → Turns → Result T RunFault → Type 0
PassSays tells o types lines width picks b s at state (Ok done) =
    (p : Pass) × WentOn tells o types lines width picks b s (passing_stage at state p) × HasPassed o (passing_stage at state p)
PassSays tells o types lines width picks b s at state (Err fault) = RecordGoesOn {T = Bool} tells o b s.at at (Err fault)

-- So it is of a pass that begins here, whatever the lines, the width and the picks, where no line may begin.
pub record PassGoesOn {T : Type 0} (tells : Bool) (types : ProgramTree) (s : TurnStage) (at : Stage) (state : Turns) (result : Result T RunFault) : Type 0 where
  pub says : (o : Outset) (b : Books) (lines : List Line) (width : ℕ) (picks : List ℕ) → IsUnderWay tells o types lines width picks b s
      → has_room (loop_at o s.at.run s.agents s.used s.pass) ≡ false → PassSays {T = T} tells o types lines width picks b s at state result
  pub beside : TurnsBeside tells s.at at result

-- And so it is of the mover at the pick, behind a pass that has come to its end.
pub record PickedGoesOn (tells : Bool) (types : ProgramTree) (picks : List ℕ) (at : Stage) (state : Turns) (s' : TurnStage) (result : Result Bool RunFault) : Type 0 where
  pub says : (o : Outset) (b : Books) (lines : List Line) (width : ℕ) (p : Pass) → IsUnderWay tells o types lines width picks b (passing_stage at state p)
      → HasPassed o (passing_stage at state p) → TurnSays tells o types lines width picks b (passing_stage at state p) s' result
  pub beside : TurnsBeside tells at s'.at result

-- ---- the settler's step

-- the run goes on by the event of that step
abbrev pub GoesOne : (CoreState → Step) → Run → Run → Type 0
GoesOne next r r' = (e : CoreEvent) × MakesEvent (next (ends r)) e × (r' ≡ with_event r e)

-- or not at all
abbrev pub GoesBy : (CoreState → Step) → Run → Run → Type 0
GoesBy next r r' = (r' ≡ r) ⊎ GoesOne next r r'

-- so it does by the settler's step
abbrev pub SettlesOne : Run → Run → Type 0
SettlesOne = GoesOne settler_step

abbrev pub SettlesBy : Run → Run → Type 0
SettlesBy = GoesBy settler_step

-- and by the one that brings the lowest wanted grain into memory
abbrev pub LoadsOne : Run → Run → Type 0
LoadsOne = GoesOne wanted_step

abbrev pub LoadsBy : Run → Run → Type 0
LoadsBy = GoesBy wanted_step

-- what the settler's answer says of the books and the run
abbrev pub SettledSays : {T : Type 0} → Bool → Outset → Books → Stage → Result T RunFault → Type 0
SettledSays tells o b s (Ok done) = AreEven s.settler.quiet b (ends s.run) × (s.settler.doubted ≡ true → has_unwritten (ends s.run) ≡ true)
SettledSays tells o b s (Err InDoubt) = HasDoubted o s.run s.faults × (b.rest ≡ [])
SettledSays tells o b s (Err WriteFault) = Rose (o.faults Output) (s.faults Output)
SettledSays tells o b s (Err (LoadFault file)) = HasFailedToLoad o s.run s.faults file × (b.rest ≡ [])
SettledSays tells o b s (Err (LoadDamaged file place)) = HasFoundNone tells s.run × (b.rest ≡ [])
SettledSays tells o b s (Err Memory) = b.rest ≡ []

-- The books go on by the settler's step, and so the answer says.
pub record SettledOn {T : Type 0} (tells : Bool) (o : Outset) (b : Books) (before after : Stage) (result : Result T RunFault) : Type 0 where
  pub on : BooksGoOn tells o b before after
  pub says : SettledSays tells o on.books after result

-- so they do wherever the settler can settle and, where it knows of a doubt, an entry is left to be written
abbrev pub StepSettles : {T : Type 0} → Bool → Shape → Stage → Stage → Result T RunFault → Type 0
StepSettles tells shape s s' result = (o : Outset) (b : Books) → CanSettle o shape s.run → AreEven s.settler.quiet b (ends s.run)
    → (s.settler.doubted ≡ true → has_unwritten (ends s.run) ≡ true) → KeepsBooks tells o b s → SettledOn tells o b s s' result

-- and by a load wherever it can, and nothing is in doubt
abbrev pub StepLoads : {T : Type 0} → Bool → Shape → Stage → Stage → Result T RunFault → Type 0
StepLoads tells shape s s' result = (o : Outset) (b : Books) → CanSettle o shape s.run → AreEven s.settler.quiet b (ends s.run)
    → (ends s.run).manager.doubt ≡ None → KeepsBooks tells o b s → SettledOn tells o b s s' result

-- ---- a line's begin and a unit's step

-- The line's event was put; a unit that began is carried too. The units so far have numbers that may be logged, and the line's
-- number has 32 bits.
pub record BeganOn (types : ProgramTree) (line : Line) (r r' : Run) (before after : List Agent) : Type 0 where
  pub began : Option UnitNo
  pub on : BeginsOn none_comes types line.number line.what (own_sight r) (own_sight r') (units_carried before) (units_carried after) began
  pub few : (ends r').units.next ≤ 2 ^ 63
  pub small : line.number < 2 ^ 32

-- The unit made its step; a child that began is carried too. The units so far have numbers that may be logged.
pub record MovedOn (types : ProgramTree) (index : ℕ) (r r' : Run) (before after : List Agent) : Type 0 where
  pub went : Went
  pub on : StepsOn none_comes types (unit_at before index) (own_sight r) (own_sight r') (units_carried before) (units_carried after) went
  pub few : (ends r').units.next ≤ 2 ^ 63
