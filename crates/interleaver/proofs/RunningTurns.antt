-- A run of turns on its way isn't stopped, and what its record says of the books.
use Rattle.std.specs.Prelude.{◌≡◌, ℕ, Bool, false, List}
use Rattle.request_wire.specs.declared.requests.Line.{Line}
use Rattle.core_model.specs.LegalRuns.{ends}
use Rattle.script_tree.specs.Programs.{ProgramTree}
use Rattle.run_books.specs.Beginnings.{Outset}
use Rattle.run_books.specs.Books.{Books}
use Rattle.run_books.specs.Records.{KeepsRecord}
use Rattle.interleaver.specs.Turns.{KeepsTurns}
use Rattle.interleaver.specs.TurnStages.{TurnStage, IsUnderWay}
use Rattle.run_books.specs.Stages.{Stage}

-- no stop stood where it began, and no event of the turns is one
pub way-unstopped : {tells : Bool} {o : Outset} {types : ProgramTree} {lines : List Line} {width : ℕ} {picks : List ℕ} {b : Books} {s : TurnStage} → IsUnderWay tells o types lines width picks b s
    → (ends s.at.run).units.halt ≡ false
way-unstopped way = way.turning.unstopped

-- the record without the turn rule
pub turns-record : {tells : Bool} {o : Outset} {b : Books} {s : Stage} → KeepsTurns tells o b s → KeepsRecord tells o b s
turns-record k = record { above = k.above; units = k.units; books = k.books }
