-- What was started can be carried, and what carrying it left is told of the program that was opened.
use Rattle.std.proofs.Common.{ℕ, ◌<◌, Bool, true, IsTrue, List, Result, sym, ap, subst}
use Rattle.host_trait.specs.declared.channels.Channel.{Channel}
use Rattle.host_trait.specs.World.{World}
use Rattle.core_model.specs.LegalRuns.{Run}
use Rattle.history_core.specs.Cores.{run_of}
use Rattle.history_core.specs.declared.whole_core.Core.{Core}
use Rattle.request_wire.specs.declared.requests.Line.{Line}
use Rattle.script_tree.specs.Programs.{ProgramTree, program_tree}
use Rattle.batch_disk.specs.Writers.{IsInBounds, FitsDisk}
use Rattle.settle_loop.specs.declared.settler.Settler.{Settler}
use Rattle.run_books.specs.declared.faults.RunFault.{RunFault}
use Rattle.promise_spec.specs.Words.{Manner}
use Rattle.silo_opening.specs.declared.opened_silo.Opened.{Opened}
use Rattle.silo_top.specs.LineExecution.{CarriedLines}
use Rattle.silo_top.specs.Continuation.{CanCarry, WasCarried}
use Rattle.silo_top.specs.RunStart.{IsStartOf}
use Rattle.silo_top.specs.declared.run_start.Started.{Started}
use Rattle.run_books.specs.Stages.{side_by, stage_by}

-- a core without events can be gone on with
pub can_carry : (tells : Bool) (x : Opened) (s : Started) (now : World) → IsStartOf x s → 0 < x.next_unit.0 → IsInBounds s.settler.writer → (IsTrue tells → FitsDisk s.settler.writer now.disk) → CanCarry tells s now
can_carry tells x s now start above bounds fits = record {
  above = subst (λ (r : Run). 0 < r.base) (sym start.run) above;
  safe = record { bounds = bounds; fits = fits };
}

-- what was carried, of the program that was opened
pub of_opened : (tells : Bool) (x : Opened) (s : Started) (lines_by : ProgramTree → List Line) (counts : Channel → ℕ) (now : World) (m : Manner) (settler' : Settler) (after : Channel → ℕ) (new : World) (result : Result Core RunFault) → IsStartOf x s
    → (went : WasCarried tells s (lines_by (program_tree s.checked)) counts now m (side_by settler' after new) result)
    → CarriedLines tells m (program_tree x.checked) (lines_by (program_tree x.checked)) 0 went.used (stage_by (run_of s.core) s.settler counts now) (side_by settler' after new) result
of_opened tells x s lines_by counts now m settler' after new result start went =
    subst (λ (k : ProgramTree). CarriedLines tells m k (lines_by k) 0 went.used (stage_by (run_of s.core) s.settler counts now) (side_by settler' after new) result) (ap program_tree start.checked) went.carried

-- over a host that tells
pub told_lines : (tells : Bool) (m : Manner) (types : ProgramTree) (lines : List Line) (used : ℕ) (r : Run) (s s' : Settler) (counts counts' : Channel → ℕ) (now now' : World) (result : Result Core RunFault) → IsTrue tells
    → CarriedLines tells m types lines 0 used (stage_by r s counts now) (side_by s' counts' now') result → CarriedLines true m types lines 0 used (stage_by r s counts now) (side_by s' counts' now') result
told_lines tells m types lines used r s s' counts counts' now now' result told carried = subst (λ (t : Bool). CarriedLines t m types lines 0 used (stage_by r s counts now) (side_by s' counts' now') result) told carried
