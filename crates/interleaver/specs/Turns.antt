-- The record of a run of turns: what holds where it begins, and again where it ends, however it ends.
use Rattle.std.specs.Prelude.{◌≡◌, ◌<◌, ℕ, Bool, true, IsTrue, List, [], length, Result}
use Rattle.request_wire.specs.declared.requests.Line.{Line}
use Rattle.core_model.specs.LegalRuns.{Run, ends}
use Rattle.script_tree.specs.Programs.{ProgramTree}
use Rattle.promise_spec.specs.UnitRule.{KeepsUnitRule}
use Rattle.promise_spec.specs.TurnRule.{KeepsTurnRule, picks_used}
use Rattle.run_books.specs.declared.faults.RunFault.{RunFault}
use Rattle.run_books.specs.Beginnings.{Outset, IsOutset, CanTurn, basis_of}
use Rattle.run_books.specs.RecordFrame.{TurnsBeside}
use Rattle.run_books.specs.Books.{Books}
use Rattle.run_books.specs.Images.{LastsSo}
use Rattle.run_books.specs.Records.{KeepsBooks, TurnsEndAs}
use Rattle.run_books.specs.Stages.{Stage}

-- Units are numbered from 1 or later. The events keep the unit rule, and the turn rule too where the run is of turns alone; and the
-- books are kept.
pub record KeepsTurns (tells : Bool) (o : Outset) (b : Books) (s : Stage) : Type 0 where
  pub above : 0 < s.run.base
  pub units : KeepsUnitRule (basis_of o) s.run
  pub turns : o.ruled ≡ true → KeepsTurnRule o.program.types o.windowed (length o.asked) o.width o.picks s.run
  pub books : KeepsBooks tells o b s

-- Nothing is in doubt and no line is cut off; and where the run is of turns alone, so many picks were used by now.
pub record IsFreshRecord (o : Outset) (b : Books) (used : ℕ) (r : Run) : Type 0 where
  pub picks : o.ruled ≡ true → picks_used r (length r.events) ≡ used
  pub doubted : b.doubted ≡ []
  pub rest : b.rest ≡ []

-- The record that held where the turns began holds again with more in its books, and so does what the images keep, if they
-- kept it; and the answer says how it ended.
pub record TurnsGoOn {T : Type 0} (tells : Bool) (o : Outset) (b : Books) (before after : Stage) (result : Result T RunFault) : Type 0 where
  pub books : Books
  pub record_kept : KeepsTurns tells o books after
  pub lasts : IsTrue tells → (head : List ℕ) → LastsSo o head b before.run before.settler.writer before.world
      → LastsSo o head books after.run after.settler.writer after.world
  pub ended : TurnsEndAs tells o books after result

-- This holds of each outset and of each books from which lines may begin here: the outset is that of the call, nobody can move, the
-- record is fresh, and it is kept so far.
abbrev pub WhereTurnsBegin : Bool → ProgramTree → List Line → ℕ → List ℕ → ℕ → Stage → (Outset → Books → Type 0) → Type 0
WhereTurnsBegin tells types lines width picks used s Holds = (o : Outset) (b : Books) → IsOutset o types s.run lines width picks
    → CanTurn s.run s.settler lines → IsFreshRecord o b used s.run → KeepsTurns tells o b s → Holds o b

-- So these lines may begin, with so many picks used.
pub record LinesMayBegin (tells : Bool) (o : Outset) (b : Books) (types : ProgramTree) (lines : List Line) (width : ℕ) (picks : List ℕ) (used : ℕ) (s : Stage) : Type 0 where
  pub outset : IsOutset o types s.run lines width picks
  pub can : CanTurn s.run s.settler lines
  pub fresh : IsFreshRecord o b used s.run
  pub kept : KeepsTurns tells o b s

-- The run stands behind a window, or where the first begins: all lines that are asked so far have begun, nobody can move, and the
-- record is kept, with so many picks used.
pub record StandsBehind (tells : Bool) (o : Outset) (b : Books) (used : ℕ) (s : Stage) : Type 0 where
  pub lines : (ends s.run).units.lines ≡ length o.asked
  pub can : CanTurn s.run s.settler []
  pub fresh : IsFreshRecord o b used s.run
  pub kept : KeepsTurns tells o b s

-- What carrying these lines in turns leaves: the record goes on from wherever they may begin, and this is left beside it.
pub record TurnsCarry {T : Type 0} (tells : Bool) (types : ProgramTree) (lines : List Line) (width : ℕ) (picks : List ℕ) (used : ℕ) (before after : Stage) (result : Result T RunFault) : Type 0 where
  pub kept : WhereTurnsBegin tells types lines width picks used before (λ o b. TurnsGoOn tells o b before after result)
  pub beside : TurnsBeside tells before after result
