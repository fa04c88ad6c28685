use Rattle.std.proofs.Common.{◌≡◌}
use Rattle.std.specs.Prelude.{Bool, true, Ok}
use Rattle.core_access.specs.Sights.{run_seen}
use Rattle.worker_rules.specs.UnitOwnership.{KeepsPromise}
use Rattle.promise_spec.specs.UnitRule.{Basis}
use Rattle.run_books.specs.RecordFrame.{TurnsBeside}
use Rattle.shared_settling.specs.SharedSettler.{SettlesAmong, KnowsTruly, BooksSettle}
use Rattle.shared_settling.proofs.shared_loop.settle_beside.Given as goal
use Rattle.run_books.specs.Stages.{stage_of, side_of, StaysSafe}

abbrev pub invariant-loop : goal.invariant-loop
invariant-loop g l = record {
  fit : g.A.Access.is_fit l.access;
  aside : g.A.Access.aside l.access ≡ g.A.Access.aside l.fn.access;
  own : SettlesAmong (g.A.Access.sight l.fn.access) (g.A.Access.sight l.access);
  promise : (basis : Basis) → KeepsPromise basis (g.A.Access.sight l.fn.access) → KeepsPromise basis (g.A.Access.sight l.access);
  knows : KnowsTruly l.fn.settler (run_seen (g.A.Access.sight l.fn.access)) → KnowsTruly l.settler (run_seen (g.A.Access.sight l.access));
  books : BooksSettle {T = Bool} g.H.Host.tells l.shape (g.A.Access.sight l.fn.access) (g.A.Access.sight l.access)
      (side_of g.H.Host.world g.H.Host.faults l.fn.settler l.fn.host) (side_of g.H.Host.world g.H.Host.faults l.settler l.host) (Ok true);
  beside : TurnsBeside {T = Bool} g.H.Host.tells (stage_of g.H.Host.world g.H.Host.faults (run_seen (g.A.Access.sight l.fn.access)) l.fn.settler l.fn.host) (stage_of g.H.Host.world g.H.Host.faults (run_seen (g.A.Access.sight l.access)) l.settler l.host) (Ok true);
  safe : StaysSafe g.H.Host.tells g.H.Host.is_ready g.H.Host.world l.settler.writer l.fn.host l.host;
}
