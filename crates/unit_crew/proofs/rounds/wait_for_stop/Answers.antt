use Rattle.std.proofs.Common.{◌∙◌}
use Rattle.core_access.proofs.Sights.{looks-on}
use Rattle.unit_crew.proofs.rounds.wait_for_stop.Goals as goal

pub returns-in-Ok-true-clause-looked : goal.returns-in-Ok-true-clause-looked
returns-in-Ok-true-clause-looked g c = looks-on g.A.Access.may_come (g.A.Access.sight c.args.access.now) (g.A.Access.sight c.loop.access) (g.A.Access.sight c.is_halted.new.access) c.loop.invariant.looked c.is_halted.ensures.looked

pub loop-preserved : goal.loop-preserved
loop-preserved g c = record {
  can = tt;
  finite = tt;
  fit = c.is_halted.ensures.kept.fit;
  aside = c.is_halted.ensures.kept.aside ∙ c.loop.invariant.aside;
  looked = looks-on g.A.Access.may_come (g.A.Access.sight c.args.access.now) (g.A.Access.sight c.loop.access) (g.A.Access.sight c.is_halted.new.access) c.loop.invariant.looked c.is_halted.ensures.looked;
}
