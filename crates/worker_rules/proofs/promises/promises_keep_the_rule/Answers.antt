use Rattle.turn_rules.proofs.Growth.{unit-grows}
use Rattle.promise_spec.specs.UnitRule.{KeepsUnitRule}
use Rattle.turn_rules.specs.NextEvent.{MayCome}
use Rattle.worker_rules.proofs.WholeHistories.{all-ruled, rule-on}
use Rattle.worker_rules.proofs.promises.promises_keep_the_rule.Goals as goal

pub returns-clause-ruled : goal.returns-clause-ruled
returns-clause-ruled c = λ s first log legal all. all-ruled (MayCome s) first log legal all

pub returns-clause-rule : goal.returns-clause-rule
returns-clause-rule c = λ s first log legal all keeps.
    rule-on (MayCome s) (KeepsUnitRule s) (λ r e kept due. unit-grows s r e kept due) first log (all-ruled (MayCome s) first log legal all) keeps
