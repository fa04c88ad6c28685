use Rattle.std.proofs.Common.{◌≡◌, ◌≤◌, length, take}
use Rattle.core_model.specs.LockAnswers.{IsGoing}
use Rattle.core_model.specs.LegalRuns.{ends}
use Rattle.core_access.specs.Sights.{run_seen}
use Rattle.script_tree.specs.Programs.{program_tree}
use Rattle.unit_carrier.specs.CarriedUnits.{AreCarried, AreFreed, as_carried, units_carried, moving}
use Rattle.unit_carrier.proofs.agents.Agents.find.Given as goal

abbrev pub invariant-loop-index : goal.invariant-loop-index
invariant-loop-index g l = record {
  fit : g.A.Access.is_fit l.access;
  aside : g.A.Access.aside l.access ≡ g.A.Access.aside l.initial.access;
  same : g.A.Access.sight l.access ≡ g.A.Access.sight l.initial.access;
  carried : AreCarried (program_tree l.checked) g.A.Access.may_come (g.A.Access.sight l.access) l.self.list.items;
  units : as_carried l.self.list.items ≡ as_carried l.initial.self.list.items;
  movers : IsGoing (ends (run_seen (g.A.Access.sight l.initial.access))) → l.movers ≡ length (moving (program_tree l.checked) (run_seen (g.A.Access.sight l.initial.access)) (take l.index (units_carried l.initial.self.list.items)));
  place : l.movers ≤ l.place;
  few : l.movers ≤ l.index;
  freed : AreFreed l.front l.self.list.items;
  past : l.front ≤ l.index;
}
