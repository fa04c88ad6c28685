use Rattle.std.proofs.Common.{◌≡◌, ◌∙◌, sym, ap, subst, Bool, true, false, []}
use Rattle.std.specs.Prelude.{Ok, Err}
use Rattle.std.proofs.lemmas.Result.{err_from_is_err_and}
use Rattle.core_model.specs.LegalRuns.{Run, ends}
use Rattle.core_model.specs.Settler.{settler_step, Rests}
use Rattle.core_access.specs.OneHolder.{own_sight}
use Rattle.core_access.specs.Sights.{run_seen}
use Rattle.core_access.proofs.OneHolder.{own-run}
use Rattle.history_core.specs.Cores.{run_of}
use Rattle.run_books.specs.declared.faults.RunFault.TheVariants.{Memory}
use Rattle.shared_settling.proofs.LoneSettler.{alone-rule, can-alone, rely-alone, settled-alone, beside-alone}
use Rattle.shared_settling.proofs.SettlerLoop.{booked-on, beside-on}
use Rattle.shared_settling.proofs.KeptBooks.{settled-none, settled-ok, settled-fault, settled-lack}
use Rattle.run_books.proofs.SettlerFrame.{run-stays, core-beside, beside-well, beside-fault}
use Rattle.shared_settling.proofs.PassSights.{among-none, among-both}
use Rattle.shared_settling.proofs.final_loop.settle_rest.Goals as goal
use Rattle.run_books.specs.Stages.{stage_of}

pub loop-step-init : goal.loop-step-init
loop-step-init g c =
    record {
      own = among-none (own_sight (run_of c.args.core.now));
      books = λ o b can rely. settled-none g.H.Host.tells o b c.args.shape.now (own_sight (run_of c.args.core.now)) (own_sight (run_of c.args.core.now)) c.args.settler.now c.args.settler.now (g.H.Host.faults c.args.host.now) (g.H.Host.faults c.args.host.now) (g.H.Host.world c.args.host.now) (g.H.Host.world c.args.host.now) {T = Bool} true can;
      beside = core-beside {T = Bool} g.H.Host.tells (run_seen (own_sight (run_of c.args.core.now))) (run_seen (own_sight (run_of c.args.core.now))) c.args.settler.now (g.H.Host.faults c.args.host.now) (g.H.Host.world c.args.host.now) (Ok true) [] (run-stays (run_seen (own_sight (run_of c.args.core.now))));
      safe = record { safe = c.requires.safe; ready = λ file was. was };
    }

pub loop-step-preserved : goal.loop-step-preserved
loop-step-preserved g c =
    record {
      own = (among-both (own_sight (run_of c.args.core.now)) (own_sight (run_of c.loop-step.core)) (own_sight (run_of c.settle_once.new.access)) c.loop-step.invariant.own c.settle_once.ensures.own);
      books = (booked-on g.H.Host.tells c.args.shape.now (own_sight (run_of c.args.core.now)) (own_sight (run_of c.loop-step.core)) (own_sight (run_of c.settle_once.new.access)) c.args.settler.now c.loop-step.settler c.settle_once.new.settler
          (g.H.Host.faults c.args.host.now) (g.H.Host.faults c.loop-step.host) (g.H.Host.faults c.settle_once.new.host)
          (g.H.Host.world c.args.host.now) (g.H.Host.world c.loop-step.host) (g.H.Host.world c.settle_once.new.host)
          c.loop-step.invariant.own c.settle_once.ensures.own c.loop-step.invariant.books c.settle_once.result (Ok true) (c.in_ok-settle_once.was ∙ ap Ok c.if-not-branch.false) c.settle_once.ensures.leaves.books);
      beside = (beside-on g.H.Host.tells c.args.shape.now (own_sight (run_of c.args.core.now)) (own_sight (run_of c.loop-step.core)) (own_sight (run_of c.settle_once.new.access)) c.args.settler.now c.loop-step.settler c.settle_once.new.settler
          (g.H.Host.faults c.args.host.now) (g.H.Host.faults c.loop-step.host) (g.H.Host.faults c.settle_once.new.host)
          (g.H.Host.world c.args.host.now) (g.H.Host.world c.loop-step.host) (g.H.Host.world c.settle_once.new.host)
          c.loop-step.invariant.beside c.settle_once.result (Ok true) (c.in_ok-settle_once.was ∙ ap Ok c.if-not-branch.false) c.settle_once.ensures.leaves.beside);
      safe = record { safe = c.settle_once.ensures.safe.safe; ready = λ file was. c.settle_once.ensures.safe.ready file (c.loop-step.invariant.safe.ready file was) };
    }

pub returns-in_err-settle_once-clause-own : goal.returns-in_err-settle_once-clause-own
returns-in_err-settle_once-clause-own g c =
    among-both (own_sight (run_of c.args.core.now)) (own_sight (run_of c.loop-step.core)) (own_sight (run_of c.settle_once.new.access)) c.loop-step.invariant.own c.settle_once.ensures.own

pub returns-in_err-settle_once-clause-units : goal.returns-in_err-settle_once-clause-units
returns-in_err-settle_once-clause-units g c =
    λ basis k. alone-rule (run_of c.args.core.now) (run_of c.settle_once.new.access) (among-both (own_sight (run_of c.args.core.now)) (own_sight (run_of c.loop-step.core)) (own_sight (run_of c.settle_once.new.access)) c.loop-step.invariant.own c.settle_once.ensures.own) basis k

pub returns-in_err-settle_once-clause-books : goal.returns-in_err-settle_once-clause-books
returns-in_err-settle_once-clause-books g c =
    λ o b can even kept.
    let p = err_from_is_err_and c.from_residual.result c.from_residual.ensures.1 in
    rw p.1 (settled-alone {T = Unit} g.H.Host.tells (run_of c.args.core.now) (run_of c.settle_once.new.access) c.args.settler.now c.settle_once.new.settler (g.H.Host.faults c.args.host.now) (g.H.Host.faults c.settle_once.new.host) (g.H.Host.world c.args.host.now) (g.H.Host.world c.settle_once.new.host) (Err p.0) o b
    (settled-fault g.H.Host.tells o b (stage_of g.H.Host.world g.H.Host.faults (run_seen (own_sight (run_of c.args.core.now))) c.args.settler.now c.args.host.now) (stage_of g.H.Host.world g.H.Host.faults (run_seen (own_sight (run_of c.settle_once.new.access))) c.settle_once.new.settler c.settle_once.new.host) {T = Bool} {U = Unit} p.0
    (booked-on g.H.Host.tells c.args.shape.now (own_sight (run_of c.args.core.now)) (own_sight (run_of c.loop-step.core)) (own_sight (run_of c.settle_once.new.access)) c.args.settler.now c.loop-step.settler c.settle_once.new.settler
    (g.H.Host.faults c.args.host.now) (g.H.Host.faults c.loop-step.host) (g.H.Host.faults c.settle_once.new.host)
    (g.H.Host.world c.args.host.now) (g.H.Host.world c.loop-step.host) (g.H.Host.world c.settle_once.new.host)
    c.loop-step.invariant.own c.settle_once.ensures.own c.loop-step.invariant.books c.settle_once.result (Err p.0) (c.in_err-settle_once.was ∙ ap Err (sym p.2)) c.settle_once.ensures.leaves.books o b (can-alone g.H.Host.tells o b c.args.shape.now (run_of c.args.core.now) c.args.settler.now (g.H.Host.faults c.args.host.now) (g.H.Host.world c.args.host.now) can even kept) (rely-alone o c.args.shape.now (run_of c.args.core.now) (run_of c.settle_once.new.access) can (among-both (own_sight (run_of c.args.core.now)) (own_sight (run_of c.loop-step.core)) (own_sight (run_of c.settle_once.new.access)) c.loop-step.invariant.own c.settle_once.ensures.own)))))

pub returns-in_err-settle_once-clause-beside : goal.returns-in_err-settle_once-clause-beside
returns-in_err-settle_once-clause-beside g c =
    let p = err_from_is_err_and c.from_residual.result c.from_residual.ensures.1 in
    rw p.1 (beside-alone {T = Unit} g.H.Host.tells (run_of c.args.core.now) (run_of c.settle_once.new.access) c.args.settler.now c.settle_once.new.settler (g.H.Host.faults c.args.host.now) (g.H.Host.faults c.settle_once.new.host) (g.H.Host.world c.args.host.now) (g.H.Host.world c.settle_once.new.host) (Err p.0)
    (beside-fault g.H.Host.tells (run_seen (own_sight (run_of c.args.core.now))) (run_seen (own_sight (run_of c.settle_once.new.access))) c.args.settler.now c.settle_once.new.settler (g.H.Host.faults c.args.host.now) (g.H.Host.faults c.settle_once.new.host) (g.H.Host.world c.args.host.now) (g.H.Host.world c.settle_once.new.host) {T = Bool} {U = Unit} p.0
    (beside-on g.H.Host.tells c.args.shape.now (own_sight (run_of c.args.core.now)) (own_sight (run_of c.loop-step.core)) (own_sight (run_of c.settle_once.new.access)) c.args.settler.now c.loop-step.settler c.settle_once.new.settler
    (g.H.Host.faults c.args.host.now) (g.H.Host.faults c.loop-step.host) (g.H.Host.faults c.settle_once.new.host)
    (g.H.Host.world c.args.host.now) (g.H.Host.world c.loop-step.host) (g.H.Host.world c.settle_once.new.host)
    c.loop-step.invariant.beside c.settle_once.result (Err p.0) (c.in_err-settle_once.was ∙ ap Err (sym p.2)) c.settle_once.ensures.leaves.beside)))

pub returns-then-not-branch-clause-own : goal.returns-then-not-branch-clause-own
returns-then-not-branch-clause-own g c =
    among-both (own_sight (run_of c.args.core.now)) (own_sight (run_of c.loop-step.core)) (own_sight (run_of c.settle_once.new.access)) c.loop-step.invariant.own c.settle_once.ensures.own

pub returns-then-not-branch-clause-units : goal.returns-then-not-branch-clause-units
returns-then-not-branch-clause-units g c =
    λ basis k. alone-rule (run_of c.args.core.now) (run_of c.settle_once.new.access) (among-both (own_sight (run_of c.args.core.now)) (own_sight (run_of c.loop-step.core)) (own_sight (run_of c.settle_once.new.access)) c.loop-step.invariant.own c.settle_once.ensures.own) basis k

pub returns-then-not-branch-clause-books : goal.returns-then-not-branch-clause-books
returns-then-not-branch-clause-books g c =
    λ o b can even kept.
    settled-alone {T = Unit} g.H.Host.tells (run_of c.args.core.now) (run_of c.settle_once.new.access) c.args.settler.now c.settle_once.new.settler (g.H.Host.faults c.args.host.now) (g.H.Host.faults c.settle_once.new.host) (g.H.Host.world c.args.host.now) (g.H.Host.world c.settle_once.new.host) (Ok tt) o b
    (settled-ok g.H.Host.tells o b (stage_of g.H.Host.world g.H.Host.faults (run_seen (own_sight (run_of c.args.core.now))) c.args.settler.now c.args.host.now) (stage_of g.H.Host.world g.H.Host.faults (run_seen (own_sight (run_of c.settle_once.new.access))) c.settle_once.new.settler c.settle_once.new.host) {T = Bool} {U = Unit} false tt
    (booked-on g.H.Host.tells c.args.shape.now (own_sight (run_of c.args.core.now)) (own_sight (run_of c.loop-step.core)) (own_sight (run_of c.settle_once.new.access)) c.args.settler.now c.loop-step.settler c.settle_once.new.settler
    (g.H.Host.faults c.args.host.now) (g.H.Host.faults c.loop-step.host) (g.H.Host.faults c.settle_once.new.host)
    (g.H.Host.world c.args.host.now) (g.H.Host.world c.loop-step.host) (g.H.Host.world c.settle_once.new.host)
    c.loop-step.invariant.own c.settle_once.ensures.own c.loop-step.invariant.books c.settle_once.result (Ok false) (c.in_ok-settle_once.was ∙ ap Ok c.if-not-branch.true) c.settle_once.ensures.leaves.books o b (can-alone g.H.Host.tells o b c.args.shape.now (run_of c.args.core.now) c.args.settler.now (g.H.Host.faults c.args.host.now) (g.H.Host.world c.args.host.now) can even kept) (rely-alone o c.args.shape.now (run_of c.args.core.now) (run_of c.settle_once.new.access) can (among-both (own_sight (run_of c.args.core.now)) (own_sight (run_of c.loop-step.core)) (own_sight (run_of c.settle_once.new.access)) c.loop-step.invariant.own c.settle_once.ensures.own))))

pub returns-then-not-branch-clause-beside : goal.returns-then-not-branch-clause-beside
returns-then-not-branch-clause-beside g c =
    beside-alone {T = Unit} g.H.Host.tells (run_of c.args.core.now) (run_of c.settle_once.new.access) c.args.settler.now c.settle_once.new.settler (g.H.Host.faults c.args.host.now) (g.H.Host.faults c.settle_once.new.host) (g.H.Host.world c.args.host.now) (g.H.Host.world c.settle_once.new.host) (Ok tt)
    (beside-well g.H.Host.tells (run_seen (own_sight (run_of c.args.core.now))) (run_seen (own_sight (run_of c.settle_once.new.access))) c.args.settler.now c.settle_once.new.settler (g.H.Host.faults c.args.host.now) (g.H.Host.faults c.settle_once.new.host) (g.H.Host.world c.args.host.now) (g.H.Host.world c.settle_once.new.host) {T = Bool} {U = Unit} false (Ok tt)
    (beside-on g.H.Host.tells c.args.shape.now (own_sight (run_of c.args.core.now)) (own_sight (run_of c.loop-step.core)) (own_sight (run_of c.settle_once.new.access)) c.args.settler.now c.loop-step.settler c.settle_once.new.settler
    (g.H.Host.faults c.args.host.now) (g.H.Host.faults c.loop-step.host) (g.H.Host.faults c.settle_once.new.host)
    (g.H.Host.world c.args.host.now) (g.H.Host.world c.loop-step.host) (g.H.Host.world c.settle_once.new.host)
    c.loop-step.invariant.beside c.settle_once.result (Ok false) (c.in_ok-settle_once.was ∙ ap Ok c.if-not-branch.true) c.settle_once.ensures.leaves.beside))

pub returns-then-not-branch-clause-rests : goal.returns-then-not-branch-clause-rests
returns-then-not-branch-clause-rests g c =
    subst (λ (x : Run). settler_step (ends x) ≡ Rests) (own-run (run_of c.settle_once.new.access)) (c.in_ok-settle_once.ensures.rests c.if-not-branch.true).0

pub returns-clause-own : goal.returns-clause-own
returns-clause-own g c =
    c.loop-step.invariant.own

pub returns-clause-units : goal.returns-clause-units
returns-clause-units g c =
    λ basis k. alone-rule (run_of c.args.core.now) (run_of c.loop-step.core) c.loop-step.invariant.own basis k

pub returns-clause-books : goal.returns-clause-books
returns-clause-books g c =
    λ o b can even kept.
    settled-alone {T = Unit} g.H.Host.tells (run_of c.args.core.now) (run_of c.loop-step.core) c.args.settler.now c.loop-step.settler (g.H.Host.faults c.args.host.now) (g.H.Host.faults c.loop-step.host) (g.H.Host.world c.args.host.now) (g.H.Host.world c.loop-step.host) (Err Memory) o b
    (settled-lack g.H.Host.tells o b (stage_of g.H.Host.world g.H.Host.faults (run_seen (own_sight (run_of c.args.core.now))) c.args.settler.now c.args.host.now) (stage_of g.H.Host.world g.H.Host.faults (run_seen (own_sight (run_of c.loop-step.core))) c.loop-step.settler c.loop-step.host) {T = Bool} {U = Unit} true (c.loop-step.invariant.books o b (can-alone g.H.Host.tells o b c.args.shape.now (run_of c.args.core.now) c.args.settler.now (g.H.Host.faults c.args.host.now) (g.H.Host.world c.args.host.now) can even kept) (rely-alone o c.args.shape.now (run_of c.args.core.now) (run_of c.loop-step.core) can c.loop-step.invariant.own)))

pub returns-clause-beside : goal.returns-clause-beside
returns-clause-beside g c =
    beside-alone {T = Unit} g.H.Host.tells (run_of c.args.core.now) (run_of c.loop-step.core) c.args.settler.now c.loop-step.settler (g.H.Host.faults c.args.host.now) (g.H.Host.faults c.loop-step.host) (g.H.Host.world c.args.host.now) (g.H.Host.world c.loop-step.host) (Err Memory)
    (beside-well g.H.Host.tells (run_seen (own_sight (run_of c.args.core.now))) (run_seen (own_sight (run_of c.loop-step.core))) c.args.settler.now c.loop-step.settler (g.H.Host.faults c.args.host.now) (g.H.Host.faults c.loop-step.host) (g.H.Host.world c.args.host.now) (g.H.Host.world c.loop-step.host) {T = Bool} {U = Unit} true (Err Memory) c.loop-step.invariant.beside)

pub returns-in_err-settle_once-clause-safe : goal.returns-in_err-settle_once-clause-safe
returns-in_err-settle_once-clause-safe g c = record { safe = c.settle_once.ensures.safe.safe; ready = λ file was. c.settle_once.ensures.safe.ready file (c.loop-step.invariant.safe.ready file was) }

pub returns-then-not-branch-clause-safe : goal.returns-then-not-branch-clause-safe
returns-then-not-branch-clause-safe g c = record { safe = c.settle_once.ensures.safe.safe; ready = λ file was. c.settle_once.ensures.safe.ready file (c.loop-step.invariant.safe.ready file was) }
