use Rattle.std.proofs.Common.{◌≡◌, ◌≤◌, length}
use Rattle.script_tree.specs.Programs.{program_tree}
use Rattle.unit_crew.specs.Crews.{IsCrew, HasTypes, WorksOn}
use Rattle.unit_crew.proofs.crew.go_each.Given as goal

abbrev pub invariant-loop-index : goal.invariant-loop-index
invariant-loop-index g l = record {
  fit : g.A.Access.is_fit l.access;
  aside : g.A.Access.aside l.access ≡ g.A.Access.aside l.initial.access;
  works : WorksOn (HasTypes (program_tree l.checked)) (g.A.Access.sight l.initial.access) (g.A.Access.sight l.access);
  crew : IsCrew (program_tree l.checked) (g.A.Access.sight l.access) l.agents.list.items;
  more : length l.initial.agents.list.items ≤ length l.agents.list.items;
}
