use Rattle.std.proofs.Common.{[], refl, sym, subst}
use Rattle.promise_spec.specs.Words.{plain_manner}
use Rattle.promise_spec.specs.Endings.{Ending, Done, HasFailedAs}
use Rattle.silo_upgrade.specs.Endings.{ending_for}
use Rattle.silo_top.specs.declared.status.Status.{Status}
use Rattle.silo_top.proofs.UpgradeCalls.{upgraded}
use Rattle.silo_top.proofs.upgrade_command.upgrade.Goals as goal

pub returns-in-Ok-clause-upgrades : goal.returns-in-Ok-clause-upgrades
returns-in-Ok-clause-upgrades g c = λ told. upgraded plain_manner [] (g.H.Host.world c.args.host.now) (g.H.Host.world c.upgrade.new.host) (g.H.Host.faults c.args.host.now) (g.H.Host.faults c.upgrade.new.host) Done Status.Done refl (c.in-Ok.ensures.upgrades told plain_manner [])
