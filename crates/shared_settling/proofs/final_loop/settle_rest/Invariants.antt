use Rattle.std.specs.Prelude.{Bool, true, Ok}
use Rattle.core_access.specs.OneHolder.{own_sight}
use Rattle.core_access.specs.Sights.{run_seen}
use Rattle.history_core.specs.Cores.{run_of}
use Rattle.run_books.specs.RecordFrame.{TurnsBeside}
use Rattle.shared_settling.specs.SharedSettler.{SettlesAmong}
use Rattle.shared_settling.proofs.SettlerLoop.{Booked}
use Rattle.shared_settling.proofs.final_loop.settle_rest.Given as goal
use Rattle.run_books.specs.Stages.{stage_of, StaysSafe}

abbrev pub invariant-loop-step : goal.invariant-loop-step
invariant-loop-step g l = record {
  own : SettlesAmong (own_sight (run_of l.fn.core)) (own_sight (run_of l.core));
  books : Booked Bool g.H.Host.tells l.shape (own_sight (run_of l.fn.core)) (own_sight (run_of l.core)) l.fn.settler l.settler
      (g.H.Host.faults l.fn.host) (g.H.Host.faults l.host) (g.H.Host.world l.fn.host) (g.H.Host.world l.host) (Ok true);
  beside : TurnsBeside {T = Bool} g.H.Host.tells (stage_of g.H.Host.world g.H.Host.faults (run_seen (own_sight (run_of l.fn.core))) l.fn.settler l.fn.host) (stage_of g.H.Host.world g.H.Host.faults (run_seen (own_sight (run_of l.core))) l.settler l.host) (Ok true);
  safe : StaysSafe g.H.Host.tells g.H.Host.is_ready g.H.Host.world l.settler.writer l.fn.host l.host;
}
