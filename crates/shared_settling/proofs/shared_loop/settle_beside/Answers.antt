use Rattle.std.proofs.Common.{◌∙◌, refl, ap, Bool, true, false, []}
use Rattle.std.specs.Prelude.{Ok, Err}
use Rattle.core_access.specs.Sights.{run_seen}
use Rattle.run_books.specs.declared.faults.RunFault.TheVariants.{Memory}
use Rattle.shared_settling.proofs.SettlerLoop.{booked-on, beside-on, fault-ends, fault-stopped}
use Rattle.shared_settling.proofs.KeptBooks.{settled-none, settled-ok, settled-lack}
use Rattle.run_books.proofs.SettlerFrame.{run-stays, core-beside, beside-well}
use Rattle.shared_settling.proofs.PassSights.{among-none, among-both, among-seen}
use Rattle.shared_settling.proofs.shared_loop.settle_beside.Goals as goal
use Rattle.run_books.specs.Stages.{stage_of}

pub loop-init : goal.loop-init
loop-init g c =
    record {
      fit = c.requires.fit;
      aside = refl;
      own = among-none (g.A.Access.sight c.args.access.now);
      promise = λ basis p. p;
      knows = λ truly. truly;
      books = λ o b can rely. settled-none g.H.Host.tells o b c.args.shape.now (g.A.Access.sight c.args.access.now) (g.A.Access.sight c.args.access.now) c.args.settler.now c.args.settler.now (g.H.Host.faults c.args.host.now) (g.H.Host.faults c.args.host.now) (g.H.Host.world c.args.host.now) (g.H.Host.world c.args.host.now) {T = Bool} true can;
      beside = core-beside {T = Bool} g.H.Host.tells (run_seen (g.A.Access.sight c.args.access.now)) (run_seen (g.A.Access.sight c.args.access.now)) c.args.settler.now (g.H.Host.faults c.args.host.now) (g.H.Host.world c.args.host.now) (Ok true) [] (run-stays (run_seen (g.A.Access.sight c.args.access.now)));
      safe = record { safe = c.requires.safe; ready = λ file was. was };
    }

pub loop-preserved-in-Ok-true : goal.loop-preserved-in-Ok-true
loop-preserved-in-Ok-true g c =
    record {
      fit = c.settle_once.ensures.kept.fit;
      aside = c.settle_once.ensures.kept.aside ∙ c.loop.invariant.aside;
      own = (among-both (g.A.Access.sight c.args.access.now) (g.A.Access.sight c.loop.access) (g.A.Access.sight c.settle_once.new.access) c.loop.invariant.own c.settle_once.ensures.own);
      promise = λ basis p. c.settle_once.ensures.leaves.promise basis (c.loop.invariant.promise basis p);
      knows = λ truly. c.settle_once.ensures.knows (c.loop.invariant.knows truly);
      books = (booked-on g.H.Host.tells c.args.shape.now (g.A.Access.sight c.args.access.now) (g.A.Access.sight c.loop.access) (g.A.Access.sight c.settle_once.new.access) c.args.settler.now c.loop.settler c.settle_once.new.settler
          (g.H.Host.faults c.args.host.now) (g.H.Host.faults c.loop.host) (g.H.Host.faults c.settle_once.new.host)
          (g.H.Host.world c.args.host.now) (g.H.Host.world c.loop.host) (g.H.Host.world c.settle_once.new.host)
          c.loop.invariant.own c.settle_once.ensures.own c.loop.invariant.books c.settle_once.result (Ok true) (c.in-Ok-true.is ∙ ap Ok c.in-Ok-true.field-0-test) c.settle_once.ensures.leaves.books);
      beside = (beside-on g.H.Host.tells c.args.shape.now (g.A.Access.sight c.args.access.now) (g.A.Access.sight c.loop.access) (g.A.Access.sight c.settle_once.new.access) c.args.settler.now c.loop.settler c.settle_once.new.settler
          (g.H.Host.faults c.args.host.now) (g.H.Host.faults c.loop.host) (g.H.Host.faults c.settle_once.new.host)
          (g.H.Host.world c.args.host.now) (g.H.Host.world c.loop.host) (g.H.Host.world c.settle_once.new.host)
          c.loop.invariant.beside c.settle_once.result (Ok true) (c.in-Ok-true.is ∙ ap Ok c.in-Ok-true.field-0-test) c.settle_once.ensures.leaves.beside);
      safe = record { safe = c.settle_once.ensures.safe.safe; ready = λ file was. c.settle_once.ensures.safe.ready file (c.loop.invariant.safe.ready file was) };
    }

pub loop-preserved : goal.loop-preserved
loop-preserved g c =
    record {
      fit = c.settle_once.ensures.kept.fit;
      aside = c.settle_once.ensures.kept.aside ∙ c.loop.invariant.aside;
      own = (among-both (g.A.Access.sight c.args.access.now) (g.A.Access.sight c.loop.access) (g.A.Access.sight c.settle_once.new.access) c.loop.invariant.own c.settle_once.ensures.own);
      promise = λ basis p. c.settle_once.ensures.leaves.promise basis (c.loop.invariant.promise basis p);
      knows = λ truly. c.settle_once.ensures.knows (c.loop.invariant.knows truly);
      books = (λ o b can rely. settled-ok g.H.Host.tells o b (stage_of g.H.Host.world g.H.Host.faults (run_seen (g.A.Access.sight c.args.access.now)) c.args.settler.now c.args.host.now) (stage_of g.H.Host.world g.H.Host.faults (run_seen (g.A.Access.sight c.settle_once.new.access)) c.settle_once.new.settler c.settle_once.new.host) {T = Bool} {U = Bool} false true (booked-on g.H.Host.tells c.args.shape.now (g.A.Access.sight c.args.access.now) (g.A.Access.sight c.loop.access) (g.A.Access.sight c.settle_once.new.access) c.args.settler.now c.loop.settler c.settle_once.new.settler
          (g.H.Host.faults c.args.host.now) (g.H.Host.faults c.loop.host) (g.H.Host.faults c.settle_once.new.host)
          (g.H.Host.world c.args.host.now) (g.H.Host.world c.loop.host) (g.H.Host.world c.settle_once.new.host)
          c.loop.invariant.own c.settle_once.ensures.own c.loop.invariant.books c.settle_once.result (Ok false) (c.in-Ok-false.is ∙ ap Ok c.in-Ok-false.field-0-test) c.settle_once.ensures.leaves.books o b can rely));
      beside = (beside-well g.H.Host.tells (run_seen (g.A.Access.sight c.args.access.now)) (run_seen (g.A.Access.sight c.settle_once.new.access)) c.args.settler.now c.settle_once.new.settler (g.H.Host.faults c.args.host.now) (g.H.Host.faults c.settle_once.new.host) (g.H.Host.world c.args.host.now) (g.H.Host.world c.settle_once.new.host) {T = Bool} {U = Bool} false (Ok true) (beside-on g.H.Host.tells c.args.shape.now (g.A.Access.sight c.args.access.now) (g.A.Access.sight c.loop.access) (g.A.Access.sight c.settle_once.new.access) c.args.settler.now c.loop.settler c.settle_once.new.settler
          (g.H.Host.faults c.args.host.now) (g.H.Host.faults c.loop.host) (g.H.Host.faults c.settle_once.new.host)
          (g.H.Host.world c.args.host.now) (g.H.Host.world c.loop.host) (g.H.Host.world c.settle_once.new.host)
          c.loop.invariant.beside c.settle_once.result (Ok false) (c.in-Ok-false.is ∙ ap Ok c.in-Ok-false.field-0-test) c.settle_once.ensures.leaves.beside));
      safe = record { safe = c.settle_once.ensures.safe.safe; ready = λ file was. c.settle_once.ensures.safe.ready file (c.loop.invariant.safe.ready file was) };
    }

pub returns-then-has_failed : goal.returns-then-has_failed
returns-then-has_failed g c =
    let left =
    fault-ends g.A.Access.may_come g.H.Host.tells c.args.shape.now (g.A.Access.sight c.args.access.now) (g.A.Access.sight c.loop.access) (g.A.Access.sight c.stop.new.access) c.args.settler.now c.loop.settler
    (g.H.Host.faults c.args.host.now) (g.H.Host.faults c.loop.host) (g.H.Host.world c.args.host.now) (g.H.Host.world c.loop.host) Memory c.loop.invariant.own (c.stop.ensures.stops, c.stop.ensures.stopped) c.loop.invariant.promise
    (λ o b can rely. settled-lack g.H.Host.tells o b (stage_of g.H.Host.world g.H.Host.faults (run_seen (g.A.Access.sight c.args.access.now)) c.args.settler.now c.args.host.now) (stage_of g.H.Host.world g.H.Host.faults (run_seen (g.A.Access.sight c.loop.access)) c.loop.settler c.loop.host) {T = Bool} {U = Bool} true (c.loop.invariant.books o b can rely))
    (beside-well g.H.Host.tells (run_seen (g.A.Access.sight c.args.access.now)) (run_seen (g.A.Access.sight c.loop.access)) c.args.settler.now c.loop.settler (g.H.Host.faults c.args.host.now) (g.H.Host.faults c.loop.host) (g.H.Host.world c.args.host.now) (g.H.Host.world c.loop.host) {T = Bool} {U = Bool} true (Err Memory) c.loop.invariant.beside) in
    record {
      kept = record { fit = c.stop.ensures.kept.fit; aside = c.stop.ensures.kept.aside ∙ c.loop.invariant.aside };
      sees = left.sees;
      own = left.own;
      stopped = c.stop.ensures.stopped;
      rests = tt;
      leaves = record { promise = left.promise; books = left.books; beside = left.beside };
      safe = c.loop.invariant.safe;
    }

pub returns-then-working-eq0-clause-sees : goal.returns-then-working-eq0-clause-sees
returns-then-working-eq0-clause-sees g c =
    among-seen (g.A.Access.sight c.args.access.now) (g.A.Access.sight c.loop.access) (g.A.Access.sight c.settle_once.new.access) c.loop.invariant.own c.settle_once.ensures.own

pub returns-then-working-eq0-clause-own : goal.returns-then-working-eq0-clause-own
returns-then-working-eq0-clause-own g c =
    among-both (g.A.Access.sight c.args.access.now) (g.A.Access.sight c.loop.access) (g.A.Access.sight c.settle_once.new.access) c.loop.invariant.own c.settle_once.ensures.own

pub returns-then-working-eq0-clause-leaves : goal.returns-then-working-eq0-clause-leaves
returns-then-working-eq0-clause-leaves g c = record {
  promise = λ basis p. c.settle_once.ensures.leaves.promise basis (c.loop.invariant.promise basis p);
  books = λ o b can rely. settled-ok g.H.Host.tells o b (stage_of g.H.Host.world g.H.Host.faults (run_seen (g.A.Access.sight c.args.access.now)) c.args.settler.now c.args.host.now) (stage_of g.H.Host.world g.H.Host.faults (run_seen (g.A.Access.sight c.settle_once.new.access)) c.settle_once.new.settler c.settle_once.new.host) {T = Bool} {U = Unit} false tt
      (booked-on g.H.Host.tells c.args.shape.now (g.A.Access.sight c.args.access.now) (g.A.Access.sight c.loop.access) (g.A.Access.sight c.settle_once.new.access) c.args.settler.now c.loop.settler c.settle_once.new.settler
      (g.H.Host.faults c.args.host.now) (g.H.Host.faults c.loop.host) (g.H.Host.faults c.settle_once.new.host)
      (g.H.Host.world c.args.host.now) (g.H.Host.world c.loop.host) (g.H.Host.world c.settle_once.new.host)
      c.loop.invariant.own c.settle_once.ensures.own c.loop.invariant.books c.settle_once.result (Ok false) (c.in-Ok-false.is ∙ ap Ok c.in-Ok-false.field-0-test) c.settle_once.ensures.leaves.books o b can rely);
  beside = beside-well g.H.Host.tells (run_seen (g.A.Access.sight c.args.access.now)) (run_seen (g.A.Access.sight c.settle_once.new.access)) c.args.settler.now c.settle_once.new.settler (g.H.Host.faults c.args.host.now) (g.H.Host.faults c.settle_once.new.host) (g.H.Host.world c.args.host.now) (g.H.Host.world c.settle_once.new.host) {T = Bool} {U = Unit} false (Ok tt)
      (beside-on g.H.Host.tells c.args.shape.now (g.A.Access.sight c.args.access.now) (g.A.Access.sight c.loop.access) (g.A.Access.sight c.settle_once.new.access) c.args.settler.now c.loop.settler c.settle_once.new.settler
      (g.H.Host.faults c.args.host.now) (g.H.Host.faults c.loop.host) (g.H.Host.faults c.settle_once.new.host)
      (g.H.Host.world c.args.host.now) (g.H.Host.world c.loop.host) (g.H.Host.world c.settle_once.new.host)
      c.loop.invariant.beside c.settle_once.result (Ok false) (c.in-Ok-false.is ∙ ap Ok c.in-Ok-false.field-0-test) c.settle_once.ensures.leaves.beside);
}

pub returns-in-Err : goal.returns-in-Err
returns-in-Err g c =
    let among = among-both (g.A.Access.sight c.args.access.now) (g.A.Access.sight c.loop.access) (g.A.Access.sight c.settle_once.new.access) c.loop.invariant.own c.settle_once.ensures.own in
    let left =
    fault-ends g.A.Access.may_come g.H.Host.tells c.args.shape.now (g.A.Access.sight c.args.access.now) (g.A.Access.sight c.settle_once.new.access) (g.A.Access.sight c.end_others.new.access) c.args.settler.now c.settle_once.new.settler
    (g.H.Host.faults c.args.host.now) (g.H.Host.faults c.settle_once.new.host) (g.H.Host.world c.args.host.now) (g.H.Host.world c.settle_once.new.host) c.in-Err.fault among c.end_others.ensures.ends
    (λ basis p. c.settle_once.ensures.leaves.promise basis (c.loop.invariant.promise basis p))
    (booked-on g.H.Host.tells c.args.shape.now (g.A.Access.sight c.args.access.now) (g.A.Access.sight c.loop.access) (g.A.Access.sight c.settle_once.new.access) c.args.settler.now c.loop.settler c.settle_once.new.settler (g.H.Host.faults c.args.host.now) (g.H.Host.faults c.loop.host) (g.H.Host.faults c.settle_once.new.host) (g.H.Host.world c.args.host.now) (g.H.Host.world c.loop.host) (g.H.Host.world c.settle_once.new.host)
    c.loop.invariant.own c.settle_once.ensures.own c.loop.invariant.books c.settle_once.result (Err c.in-Err.fault) c.in-Err.is c.settle_once.ensures.leaves.books)
    (beside-on g.H.Host.tells c.args.shape.now (g.A.Access.sight c.args.access.now) (g.A.Access.sight c.loop.access) (g.A.Access.sight c.settle_once.new.access) c.args.settler.now c.loop.settler c.settle_once.new.settler (g.H.Host.faults c.args.host.now) (g.H.Host.faults c.loop.host) (g.H.Host.faults c.settle_once.new.host) (g.H.Host.world c.args.host.now) (g.H.Host.world c.loop.host) (g.H.Host.world c.settle_once.new.host) c.loop.invariant.beside c.settle_once.result (Err c.in-Err.fault) c.in-Err.is c.settle_once.ensures.leaves.beside) in
    record {
      kept = record { fit = c.end_others.ensures.kept.fit; aside = c.end_others.ensures.kept.aside ∙ c.settle_once.ensures.kept.aside ∙ c.loop.invariant.aside };
      sees = left.sees;
      own = left.own;
      stopped = fault-stopped g.A.Access.may_come (g.A.Access.sight c.args.access.now) (g.A.Access.sight c.settle_once.new.access) (g.A.Access.sight c.end_others.new.access) c.in-Err.fault c.end_others.ensures.ends c.args.settler.now c.settle_once.new.settler
          (λ truly. c.settle_once.ensures.knows (c.loop.invariant.knows truly)) c.in-Err.ensures.doubted;
      rests = tt;
      leaves = record { promise = left.promise; books = left.books; beside = left.beside };
      safe = record { safe = c.settle_once.ensures.safe.safe; ready = λ file was. c.settle_once.ensures.safe.ready file (c.loop.invariant.safe.ready file was) };
    }

pub returns-then-working-eq0-clause-kept : goal.returns-then-working-eq0-clause-kept
returns-then-working-eq0-clause-kept g c = record { fit = c.settle_once.ensures.kept.fit; aside = c.settle_once.ensures.kept.aside ∙ c.loop.invariant.aside }

pub returns-then-working-eq0-clause-safe : goal.returns-then-working-eq0-clause-safe
returns-then-working-eq0-clause-safe g c = record { safe = c.settle_once.ensures.safe.safe; ready = λ file was. c.settle_once.ensures.safe.ready file (c.loop.invariant.safe.ready file was) }
