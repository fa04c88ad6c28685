use Rattle.std.proofs.Common.{[], sym, subst}
use Rattle.promise_spec.specs.Words.{plain_manner}
use Rattle.promise_spec.specs.Endings.{Ending}
use Rattle.silo_opening.specs.CommandCalls.{HasCalledAs}
use Rattle.silo_top.proofs.MigrateCalls.{migrated}
use Rattle.silo_top.proofs.migrate_command.migrate.Goals as goal

pub returns-clause-migrates : goal.returns-clause-migrates
returns-clause-migrates g c = λ told. migrated plain_manner [] (g.H.Host.world c.args.host.now) (g.H.Host.world c.migrate.new.host) (g.H.Host.faults c.args.host.now) (g.H.Host.faults c.migrate.new.host) c.migrate.result c.migrate_status.result c.migrate_status.ensures (c.migrate.ensures.migrates told plain_manner [])

pub returns-clause-calls : goal.returns-clause-calls
returns-clause-calls g c = subst (λ (e : Ending). HasCalledAs e g.H.Host.is_ready g.H.Host.faults c.args.host.now c.migrate.new.host) (sym c.migrate_status.ensures) c.migrate.ensures.calls
