use Rattle.std.proofs.Common.{[], sym, subst}
use Rattle.promise_spec.specs.Words.{plain_manner}
use Rattle.promise_spec.specs.Endings.{Ending}
use Rattle.silo_opening.specs.CommandCalls.{HasCalledAs}
use Rattle.silo_top.proofs.CompactCalls.{compacted}
use Rattle.silo_top.proofs.compact_command.compact.Goals as goal

pub returns-clause-compacts : goal.returns-clause-compacts
returns-clause-compacts g c = λ told. compacted plain_manner [] (g.H.Host.world c.args.host.now) (g.H.Host.world c.compact.new.host) (g.H.Host.faults c.args.host.now) (g.H.Host.faults c.compact.new.host) c.compact.result c.compact_status.result c.compact_status.ensures (c.compact.ensures.compacts told plain_manner [])

pub returns-clause-calls : goal.returns-clause-calls
returns-clause-calls g c = subst (λ (e : Ending). HasCalledAs e g.H.Host.is_ready g.H.Host.faults c.args.host.now c.compact.new.host) (sym c.compact_status.ensures) c.compact.ensures.calls
