use Rattle.std.proofs.Common.{◌≡◌}
use Rattle.core_access.specs.Sights.{Looks}
use Rattle.unit_crew.proofs.rounds.wait_for_stop.Given as goal

abbrev pub invariant-loop : goal.invariant-loop
invariant-loop g l = record {
  can : (goal.iterator-loop g).can_next l.iterator';
  finite : (goal.iterator-loop g).is_finite l.iterator';
  fit : g.A.Access.is_fit l.access;
  aside : g.A.Access.aside l.access ≡ g.A.Access.aside l.initial.access;
  looked : Looks g.A.Access.may_come (g.A.Access.sight l.initial.access) (g.A.Access.sight l.access);
}
