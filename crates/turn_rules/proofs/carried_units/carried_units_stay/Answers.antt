use Rattle.turn_rules.proofs.RunCounts.{counted-ends}
use Rattle.turn_rules.proofs.Movers.{kept-on, kept-begun, drop-kept}
use Rattle.turn_rules.proofs.carried_units.carried_units_stay.Goals as goal
use Rattle.core_laws.proofs.LoadlessKept.{loadless-ends}

pub returns-clause-on : goal.returns-clause-on
returns-clause-on c = λ r e units above none kept. kept-on r e units (loadless-ends r above) none kept

pub returns-clause-begun : goal.returns-clause-begun
returns-clause-begun c = λ r origin call plain units above applied kept.
    kept-begun r origin call plain units (loadless-ends r above) (counted-ends r above).above applied kept

pub returns-clause-dropped : goal.returns-clause-dropped
returns-clause-dropped c = drop-kept
