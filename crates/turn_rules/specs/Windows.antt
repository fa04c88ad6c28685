-- A run within a window of its input.
use Rattle.std.specs.Prelude.{◌≡◌, ◌<◌, ◌≤◌, ℕ, Bool, true, false}
use Rattle.core_model.specs.LegalRuns.{Run, ends}
use Rattle.script_tree.specs.Programs.{ProgramTree}
use Rattle.promise_spec.specs.TurnRule.{at_seam}
use Rattle.turn_rules.specs.NextEvent.{NobodyGoes}

-- So many lines had begun before the window of which lines begin now, up to this number. No window ends within it; and where it
-- follows on the end of one, nobody can move or wants a grain before its first line has begun.
pub record InWindow (types : ProgramTree) (windowed : Bool) (lines : ℕ) (r : Run) : Type 0 where
  pub start : ℕ
  pub from : start ≤ (ends r).units.lines
  pub inner : (n : ℕ) → start < n → n < lines → at_seam windowed n ≡ false
  pub first : at_seam windowed start ≡ true → (ends r).units.lines ≡ start → start < lines → NobodyGoes types r
