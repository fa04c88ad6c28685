-- A run in which nobody moves.
use Rattle.std.specs.Prelude.{◌≡◌, ◌≤◌, ℕ, length, None}
use Rattle.core_model.specs.CoreState.{UnitNo, CoreState}
use Rattle.core_model.specs.Lines.{IsSettled}
use Rattle.core_model.specs.Laws.{HoldsNothing}
use Rattle.promise_spec.specs.Cores.{HasBegun}
use Rattle.turn_rules.specs.RunCounts.{HasEntry}

-- Each unit that began is settled and has no lock; no batch is open, and every entry is written.
pub record IsQuiet (w : CoreState) : Type 0 where
  pub settled : (u : UnitNo) → HasBegun w u → IsSettled w u
  pub free : (u : UnitNo) → HoldsNothing w u
  pub none : w.manager.batch ≡ None
  pub written : length w.manager.settled ≤ w.manager.emitted

-- All is quiet, and each of so many lines has its entry.
pub record HasRun (lines : ℕ) (w : CoreState) : Type 0 where
  pub quiet : IsQuiet w
  pub answered : (n : ℕ) → 1 ≤ n → n ≤ lines → HasEntry w n
