use Rattle.std.proofs.Common.{sym, subst}
use Rattle.cell_model.proofs.Sources.{with-ascending}
use Rattle.cell_model.specs.Units.{UnitsAscend}
use Rattle.dependency_sets.proofs.set.DepSet.insert.Goals as goal

pub invariant_of-self : goal.invariant_of-self
invariant_of-self c = subst UnitsAscend (sym c.put_in.ensures.items) (with-ascending c.self.inside.sources.items c.args.unit c.self.invariant)
