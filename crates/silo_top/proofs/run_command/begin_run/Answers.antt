use Rattle.std.proofs.Common.{refl}
use Rattle.log_reading.specs.Steps.{seen_in}
use Rattle.promise_spec.specs.Endings.{MayEndRun, Memory}
use Rattle.silo_top.specs.declared.status.Status.{Status}
use Rattle.silo_top.proofs.Continuation.{can_carry}
use Rattle.silo_top.proofs.CoreOpening.{fits_at}
use Rattle.silo_top.proofs.FaultCounts.{exactly_answers}
use Rattle.silo_top.proofs.LoadCreation.{unopened_answers}
use Rattle.silo_top.proofs.RunBegins.{begins}
use Rattle.silo_top.proofs.ShownCalls.{observed_run}
use Rattle.silo_opening.proofs.OpeningCalls.{opens_untouched}
use Rattle.silo_top.proofs.UnopenedFolders.{refused_promised, unopened_promised}
use Rattle.silo_top.proofs.run_command.begin_run.Goals as goal

pub returns-in-Err-clause-promises : goal.returns-in-Err-clause-promises
returns-in-Err-clause-promises g c = λ told m. refused_promised m (g.H.Host.world c.args.host.now) (g.H.Host.world c.open_silo.new.host) (g.H.Host.faults c.args.host.now) (g.H.Host.faults c.open_silo.new.host)
    c.in-Err.fault c.open_status.result c.open_status.ensures (c.in-Err.ensures.only told) (c.in-Err.ensures.refused told) c.in-Err.ensures.calls.fault

pub returns-in-Err-clause-answers : goal.returns-in-Err-clause-answers
returns-in-Err-clause-answers g c = unopened_answers MayEndRun c.in-Err.fault c.open_status.result (g.H.Host.faults c.args.host.now) (g.H.Host.faults c.open_silo.new.host) c.open_status.ensures c.in-Err.ensures.calls.fault

pub returns-in-Err-start-clause-promises : goal.returns-in-Err-start-clause-promises
returns-in-Err-start-clause-promises g c = λ told m.
    unopened_promised m (observed_run m (g.H.Host.world c.args.host.now) (g.H.Host.world c.open_silo.new.host) (g.H.Host.faults c.args.host.now) (g.H.Host.faults c.open_silo.new.host) Status.Memory) refl refl
    (record { untouched = opens_untouched _ (g.H.Host.world c.args.host.now) (g.H.Host.world c.open_silo.new.host) (c.in-Ok.ensures.only told); unread = (c.in-Ok.ensures.only told).input; syncs = (c.in-Ok.ensures.only told).syncs; refused = tt; failed = c.in-Ok.ensures.calls.calm })

pub returns-in-Err-start-clause-answers : goal.returns-in-Err-start-clause-answers
returns-in-Err-start-clause-answers g c = exactly_answers (g.H.Host.faults c.args.host.now) (g.H.Host.faults c.open_silo.new.host) MayEndRun Memory (λ q. cc q) c.in-Ok.ensures.calls.calm

pub returns-in-Ok-start-clause-can : goal.returns-in-Ok-start-clause-can
returns-in-Ok-start-clause-can g c = can_carry g.H.Host.tells c.in-Ok.opened c.in-Ok-start.started (g.H.Host.world c.open_silo.new.host) c.in-Ok-start.ensures.start c.in-Ok.ensures.bounds.next.0 c.in-Ok-start.ensures.bounds
    (λ told. fits_at (seen_in (g.H.Host.world c.args.host.now).disk) c.in-Ok.opened c.in-Ok-start.started (g.H.Host.world c.open_silo.new.host).disk (c.in-Ok.ensures.opened told).opened c.in-Ok-start.ensures.start
    (λ file. (opens_untouched _ (g.H.Host.world c.args.host.now) (g.H.Host.world c.open_silo.new.host) (c.in-Ok.ensures.only told)).seen file))

pub returns-in-Ok-start-clause-begins : goal.returns-in-Ok-start-clause-begins
returns-in-Ok-start-clause-begins g c = λ m wide.
    begins g.H.Host.tells m c.in-Ok.opened c.in-Ok-start.started c.new-windows.result (g.H.Host.world c.args.host.now) (g.H.Host.world c.open_silo.new.host) (g.H.Host.faults c.args.host.now) (g.H.Host.faults c.open_silo.new.host)
    c.in-Ok-start.ensures.start wide c.in-Ok.ensures.bounds.next.0 c.in-Ok-start.ensures.quiet c.in-Ok.ensures.calls.calm
    (λ told. record {
      opened = (c.in-Ok.ensures.opened told).opened;
      settled = (c.in-Ok.ensures.opened told).settled;
      count = (c.in-Ok.ensures.opened told).count;
      left = (c.in-Ok.ensures.opened told).left;
      run = c.in-Ok.ensures.only told;
      stays = λ file. g.met.H.Host.seen_may_stay c.args.host.now file told;
    })
    (λ told file. g.met.H.Host.seen_may_stay c.open_silo.new.host file told) c.new-windows.ensures.left c.new-windows.ensures.given c.new-windows.ensures.last
