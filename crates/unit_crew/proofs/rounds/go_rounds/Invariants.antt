use Rattle.std.proofs.Common.{◌≡◌}
use Rattle.script_tree.specs.Programs.{program_tree}
use Rattle.unit_crew.specs.Crews.{IsBasisOf, IsCrew, WorksOn}
use Rattle.unit_crew.proofs.rounds.go_rounds.Given as goal

abbrev pub invariant-loop : goal.invariant-loop
invariant-loop g l = record {
  can : (goal.iterator-loop g).can_next l.iterator';
  finite : (goal.iterator-loop g).is_finite l.iterator';
  fit : g.A.Access.is_fit l.access;
  aside : g.A.Access.aside l.access ≡ g.A.Access.aside l.initial.access;
  same : g.L.Lines.lines l.lines ≡ g.L.Lines.lines l.initial.lines;
  works : WorksOn (IsBasisOf (program_tree l.checked) l.before (g.L.Lines.lines l.initial.lines)) (g.A.Access.sight l.initial.access) (g.A.Access.sight l.access);
  crew : IsCrew (program_tree l.checked) (g.A.Access.sight l.access) l.agents.list.items;
}
