-- How lines of a run are carried, in whichever manner: what holds where that begins, and what it leaves.
use Rattle.std.specs.Prelude.{◌≡◌, ℕ, Bool, false, not, List, length, Result, IfOk}
use Rattle.request_wire.specs.declared.requests.Line.{Line}
use Rattle.script_tree.specs.Programs.{ProgramTree}
use Rattle.core_model.specs.LegalRuns.{Run}
use Rattle.promise_spec.specs.TurnRule.{KeepsTurnRule, picks_used}
use Rattle.promise_spec.specs.Words.{Manner}
use Rattle.history_core.specs.Cores.{run_of}
use Rattle.history_core.specs.declared.whole_core.Core.{Core}
use Rattle.run_books.specs.declared.faults.RunFault.{RunFault}
use Rattle.run_books.specs.Beginnings.{Outset, IsOutset, CanTurn}
use Rattle.run_books.specs.RecordFrame.{TurnsBeside}
use Rattle.run_books.specs.Books.{Books}
use Rattle.run_books.specs.Records.{RecordGoesOn}
use Rattle.run_books.specs.Stages.{Side, Stage, stage_with}
use Rattle.interleaver.specs.Turns.{KeepsTurns, IsFreshRecord}

-- The lines can be carried in this manner: nothing is under way, so many picks were used, and the record is kept so far. On one thread
-- the whole run is of turns.
pub record StartsRun (tells : Bool) (m : Manner) (o : Outset) (b : Books) (types : ProgramTree) (lines : List Line) (used : ℕ) (s : Stage) : Type 0 where
  pub outset : IsOutset o types s.run lines m.width m.picks
  pub can : CanTurn s.run s.settler lines
  pub ruled : o.ruled ≡ not m.threaded
  pub fresh : IsFreshRecord o b used s.run
  pub kept : KeepsTurns tells o b s

-- The record went on, however it ended; on one thread the run keeps the turn rule too, and so many picks were used by then.
pub record CarriedOn {T : Type 0} (tells : Bool) (m : Manner) (o : Outset) (b : Books) (used : ℕ) (before after : Stage) (result : Result T RunFault) : Type 0 where
  pub on : RecordGoesOn tells o b before after result
  pub turns : m.threaded ≡ false → KeepsTurnRule o.program.types o.windowed (length o.asked) o.width o.picks after.run
  pub used_by : m.threaded ≡ false → IfOk result (λ _. picks_used after.run (length after.run.events) ≡ used)

-- wherever it can be carried so, it was; the picks are counted from these to those
abbrev pub CarriesOn : {T : Type 0} → Bool → Manner → ProgramTree → List Line → ℕ → ℕ → Stage → Stage → Result T RunFault → Type 0
CarriesOn tells m types lines used used' before after result = (o : Outset) (b : Books) → StartsRun tells m o b types lines used before → CarriedOn tells m o b used' before after result

-- The lines were carried, and this is the run that they left: the core's, which comes back where all are carried.
pub record CarriedLines (tells : Bool) (m : Manner) (types : ProgramTree) (lines : List Line) (used used' : ℕ) (before : Stage) (after : Side) (result : Result Core RunFault) : Type 0 where
  pub left : Run
  pub carries : CarriesOn tells m types lines used used' before (stage_with left after) result
  pub beside : TurnsBeside tells before (stage_with left after) result
  pub core : IfOk result (λ c. run_of c ≡ left)
