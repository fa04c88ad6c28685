use Rattle.std.proofs.Common.{◌≡◌, Ok, false, Result, subst}
use Rattle.std.specs.Prelude.{IfOk}
use Rattle.core_model.specs.LegalRuns.{ends}
use Rattle.core_model.specs.Settler.{settler_step, Rests}
use Rattle.history_core.specs.Cores.{run_of}
use Rattle.run_books.specs.declared.faults.RunFault.{RunFault}
use Rattle.run_books.specs.Beginnings.{basis_of}
use Rattle.run_books.specs.RecordFrame.{TurnsBeside}
use Rattle.run_books.proofs.SettlerFrame.{one-after-another}
use Rattle.silo_workers.specs.RunEnd.{HasGathered}
use Rattle.silo_workers.specs.declared.work.WorkEnd.{WorkEnd}
use Rattle.silo_workers.specs.declared.work.WorkEnd.TheVariants.{Through}
use Rattle.silo_workers.proofs.SettledRest.{can-rest, rest-ends}
use Rattle.silo_workers.proofs.run_end.end_run.Goals as goal
use Rattle.run_books.specs.Stages.{stage_by, stage_of}

pub returns-in-Through-clause-record_kept : goal.returns-in-Through-clause-record_kept
returns-in-Through-clause-record_kept g c = λ o b s h.
    let r' = run_of c.args.core.now in
    let r'' = run_of c.settle_rest.new.core in
    let after = c.args.settler.now in
    let last = c.settle_rest.new.settler in
    let counts = g.H.Host.faults c.args.host.now in
    let here = g.H.Host.world c.args.host.now in
    let counts' = g.H.Host.faults c.settle_rest.new.host in
    let there = g.H.Host.world c.settle_rest.new.host in
    let well : HasGathered {T = Unit {0}} g.H.Host.tells o b c.args.shape.now s (stage_by r' after counts here) Through (Ok c.in-Ok.field-0) =
    subst (λ (e : WorkEnd). HasGathered {T = Unit {0}} g.H.Host.tells o b c.args.shape.now s (stage_by r' after counts here) e (Ok c.in-Ok.field-0)) c.in-Through.is
    (subst (λ (x : Result (Unit {0}) RunFault). HasGathered {T = Unit {0}} g.H.Host.tells o b c.args.shape.now s (stage_by r' after counts here) c.args.gathered.end x) c.in-Ok.is h) in
    rest-ends g.H.Host.tells o b c.args.shape.now s r' after counts here c.in-Ok.field-0 r'' last counts' there well c.show_few.ensures c.settle_rest.result
    c.settle_rest.ensures.own (c.settle_rest.ensures.units (basis_of o) well.units)
    (c.settle_rest.ensures.books o well.books.goes.books (can-rest g.H.Host.tells o b c.args.shape.now s r' after counts here c.in-Ok.field-0 r'' last counts' there well c.show_few.ensures) well.books.says.0 well.books.goes.kept)
    (λ x is. (
      subst (λ (z : Result (Unit {0}) RunFault). IfOk z (λ _. settler_step (ends r'') ≡ Rests)) is c.settle_rest.ensures.rests,
      subst (λ (z : Result (Unit {0}) RunFault). IfOk z (λ _. last.doubted ≡ false)) is c.settle_rest.ensures.sure,
    ))

pub returns-in-Through-clause-beside : goal.returns-in-Through-clause-beside
returns-in-Through-clause-beside g c = λ s h.
    let well = subst (λ (x : Result (Unit {0}) RunFault). TurnsBeside {T = Unit {0}} g.H.Host.tells s (stage_of g.H.Host.world g.H.Host.faults (run_of c.args.core.now) c.args.settler.now c.args.host.now) x) c.in-Ok.is h in
    one-after-another g.H.Host.tells s.run (run_of c.args.core.now) (run_of c.settle_rest.new.core) s.settler c.args.settler.now c.settle_rest.new.settler s.faults (g.H.Host.faults c.args.host.now) (g.H.Host.faults c.settle_rest.new.host)
    s.world (g.H.Host.world c.args.host.now) (g.H.Host.world c.settle_rest.new.host) c.in-Ok.field-0 c.settle_rest.result well c.settle_rest.ensures.beside
