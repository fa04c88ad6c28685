-- What a run begins with, and what its record is told of from outside.
use Rattle.std.specs.Prelude.{◌≡◌, ◌+◌, ◌<◌, ℕ, List, [], ◌∷◌, ◌++◌, length, slice_get, Some, Bool, false, ⊤}
use Rattle.host_trait.specs.declared.channels.Channel.{Channel}
use Rattle.host_trait.specs.World.{World}
use Rattle.request_wire.specs.declared.requests.Line.{Line}
use Rattle.core_model.specs.LockAnswers.{IsGoing}
use Rattle.core_model.specs.LegalRuns.{Run, ends}
use Rattle.core_model.specs.Settler.{settler_step, Rests}
use Rattle.script_tree.specs.Programs.{ProgramTree}
use Rattle.promise_spec.specs.Programs.{Program}
use Rattle.promise_spec.specs.Entries.{Log, standing_of}
use Rattle.promise_spec.specs.Lines.{ReadsLineAs}
use Rattle.promise_spec.specs.TurnRule.{at_seam}
use Rattle.promise_spec.specs.UnitRule.{Basis}
use Rattle.turn_rules.specs.QuietRun.{IsQuiet}
use Rattle.settle_loop.specs.declared.settler.Settler.{Settler}

-- the lines are numbered one after another, from the one behind this number on
abbrev pub GoUpFrom : ℕ → List Line → Type 0
GoUpFrom n [] = ⊤
GoUpFrom n (line ∷ lines) = (line.number ≡ n + 1) × GoUpFrom (n + 1) lines

-- So far all is settled and written, no lock is held, nothing is in doubt and no stop stands, and the settler has nothing to do: so
-- nobody can move. The lines go on behind those so far, and the settler has written as many entries as there were lines.
pub record CanTurn (r : Run) (settler : Settler) (lines : List Line) : Type 0 where
  pub quiet : IsQuiet (ends r)
  pub going : IsGoing (ends r)
  pub rests : settler_step (ends r) ≡ Rests
  pub numbers : GoUpFrom (ends r).units.lines lines
  pub sure : settler.doubted ≡ false
  pub written : settler.written ≡ (ends r).units.lines

-- What a run's record is told of from outside: the slot of the run's files, the program, all lines that are asked so far, the log
-- with which the run opened, whether the run is of turns alone, as on one thread, whether its lines come in windows, the width and the
-- picks, the counts of faults where the run began, and the world behind the opening.
pub record Outset : Type 0 where
  pub live : ℕ
  pub program : Program
  pub asked : List (List ℕ)
  pub opening : Log
  pub ruled : Bool
  pub windowed : Bool
  pub width : ℕ
  pub picks : List ℕ
  pub faults : Channel → ℕ
  pub world : World

-- the outset with these lines behind those that are asked
abbrev pub with_more : Outset → List (List ℕ) → Outset
with_more o more = record o { asked = o.asked ++ more }

-- what the unit rule is told
abbrev pub basis_of : Outset → Basis
basis_of o = record { types = o.program.types; lines = o.asked; opening = standing_of o.opening }

-- What the outset tells is that of a call: the core has the program's types, the width is 1 at least, and the lines that are asked
-- are those so far and behind them these, each of which is what its text reads as. Where lines come in windows, none of these
-- but the first is behind a window's end.
pub record IsOutset (o : Outset) (types : ProgramTree) (r : Run) (lines : List Line) (width : ℕ) (picks : List ℕ) : Type 0 where
  pub types_are : o.program.types ≡ types
  pub kinds : r.kinds ≡ length types
  pub width_is : o.width ≡ width
  pub wide : 0 < width
  pub picks_are : o.picks ≡ picks
  pub all : length o.asked ≡ (ends r).units.lines + length lines
  pub reads : (at : ℕ) (line : Line) → slice_get lines at ≡ Some line → ReadsLineAs types o.asked ((ends r).units.lines + at + 1) line.what
  pub inner : (n : ℕ) → (ends r).units.lines < n → n < length o.asked → at_seam o.windowed n ≡ false
