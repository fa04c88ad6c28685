use Rattle.std.proofs.Common.{sym}
use Rattle.base_types.specs.declared.calls.Outcome.TheVariants as outcomes
use Rattle.core_model.specs.declared.phases.Phase.TheVariants as phases
use Rattle.core_model.specs.declared.phases.Verdict.TheVariants as verdicts
use Rattle.unit_table.specs.KnownUnits.{KnownUnit}
use Rattle.unit_table.specs.Table.{known_in}
use Rattle.unit_table.proofs.Tables.{over-units, attr-put, attr-kept}
use Rattle.unit_table.proofs.RunningUnits.{running-resultless}
use Rattle.unit_table.proofs.table.UnitTable.refuse.Goals as goal

pub returns-clause-units : goal.returns-clause-units
returns-clause-units c =
    over-units c.args.self.now c.close.new.self c.args.unit phases.Refused verdicts.Aborted outcomes.Aborted c.close.ensures.known c.close.ensures.wants
    (record { next = c.close.ensures.next; lines = c.close.ensures.lines; rest = c.close.ensures.rest })

pub returns-clause-verdict : goal.returns-clause-verdict
returns-clause-verdict c =
    attr-put (λ (k : KnownUnit). k.verdict) (known_in c.args.self.now) (known_in c.close.new.self) c.args.unit _ c.close.ensures.known

pub returns-clause-result : goal.returns-clause-result
returns-clause-result c =
    attr-kept (λ (k : KnownUnit). k.result) (known_in c.args.self.now) (known_in c.close.new.self) c.args.unit _ c.close.ensures.known
    (sym (running-resultless c.args.self.now c.args.unit c.requires))
