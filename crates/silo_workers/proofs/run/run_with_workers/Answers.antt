use Rattle.std.proofs.Common.{ℕ, ◌+◌, ◌≤◌, length, [], sym, ap, ◌∙◌, subst, arith, ◌<◌}
use Rattle.core_model.specs.declared.events.CoreEvent.{CoreEvent}
use Rattle.core_model.specs.declared.events.CoreReply.{CoreReply}
use Rattle.core_model.specs.LegalRuns.{Run, ends}
use Rattle.history_core.specs.Cores.{CoreData, run_of}
use Rattle.turn_cell.specs.declared.view.View.{View}
use Rattle.run_books.proofs.SettlerFrame.{core-beside, run-stays}
use Rattle.interleaver.proofs.RunningTurns.{turns-record}
use Rattle.silo_workers.proofs.LoneRun.{turned, turned-beside}
use Rattle.silo_workers.proofs.RunStart.{reads-lines, of-program, can-among}
use Rattle.silo_workers.proofs.ClosedCore.{closed-from, has-gathered, gathered-beside, gathered-same}
use Rattle.silo_workers.proofs.run.run_with_workers.Goals as goal

pub gather-core-requires-clause-fresh : goal.gather-core-requires-clause-fresh
gather-core-requires-clause-fresh g c κs = λ out.
    let first = c.in-Ok-new.ensures.first in (
      c.in-Ok-new.ensures.own,
      subst (λ (z : View CoreData CoreEvent CoreReply). 0 < (run_of z.first).base) (sym first) c.requires.above,
      subst (λ (z : View CoreData CoreEvent CoreReply). c.in-Ok.before ≤ (ends (run_of z.first)).units.lines) (sym first) (subst (λ (n : ℕ). c.in-Ok.before ≤ n) c.in-Ok.ensures (omega arith)),
      ap (λ (z : View CoreData CoreEvent CoreReply). z.hand.mine) first,
    )

pub returns-in-Err-clause-beside : goal.returns-in-Err-clause-beside
returns-in-Err-clause-beside g c = core-beside g.H.Host.tells (run_of c.args.core) (run_of c.args.core) c.args.settler.now (g.H.Host.faults c.args.host.now) (g.H.Host.world c.args.host.now) _ [] (run-stays (run_of c.args.core))

pub returns-in-Err-shape-clause-beside : goal.returns-in-Err-shape-clause-beside
returns-in-Err-shape-clause-beside g c = core-beside g.H.Host.tells (run_of c.args.core) (run_of c.args.core) c.args.settler.now (g.H.Host.faults c.args.host.now) (g.H.Host.world c.args.host.now) _ [] (run-stays (run_of c.args.core))

pub returns-in-Err-blank_settler-clause-beside : goal.returns-in-Err-blank_settler-clause-beside
returns-in-Err-blank_settler-clause-beside g c = core-beside g.H.Host.tells (run_of c.args.core) (run_of c.args.core) c.args.settler.now (g.H.Host.faults c.args.host.now) (g.H.Host.world c.args.host.now) _ [] (run-stays (run_of c.args.core))

pub returns-clause-record_kept : goal.returns-clause-record_kept
returns-clause-record_kept g c = λ o b is can fresh turns.
    let closed = closed-from c.in-Ok-new.ensures.first c.gather-core.ensures.closed in
    let accepted = c.program-program.ensures.checked in
    let shaped = c.in-Ok-shape.ensures in
    let kept = turns-record turns in
    c.end_run-ended.ensures.record_kept o b _
    (has-gathered closed o b
    (reads-lines is can c.in-Ok.before c.in-Ok.ensures)
    (of-program is can accepted shaped fresh.rest kept)
    kept.units
    (can-among is can accepted shaped fresh.rest kept)
    c.show_few.ensures.units c.show_few.ensures.lines can.quiet
    (ap (λ (k : ℕ). k + length (g.L.Lines.lines c.args.lines.now)) c.in-Ok.ensures ∙ sym is.all))

pub returns-clause-beside : goal.returns-clause-beside
returns-clause-beside g c = c.end_run-ended.ensures.beside _ (gathered-beside (closed-from c.in-Ok-new.ensures.first c.gather-core.ensures.closed))

pub carry_in_turns-ended-requires-clause-above : goal.carry_in_turns-ended-requires-clause-above
carry_in_turns-ended-requires-clause-above g c =
    let none = c.has_none.ensures c.if-has_none.true in
    let still = gathered-same (closed-from c.in-Ok-new.ensures.first c.gather-core.ensures.closed) none.0 none.1 in
    subst (λ (x : Run). 0 < x.base) (sym still) c.requires.above

pub returns-then-has_none-clause-record_kept : goal.returns-then-has_none-clause-record_kept
returns-then-has_none-clause-record_kept g c =
    let none = c.has_none.ensures c.if-has_none.true in
    let still = gathered-same (closed-from c.in-Ok-new.ensures.first c.gather-core.ensures.closed) none.0 none.1 in
    let left = c.gather-core.ensures.none none.0 in
    turned still left.0 (ap g.H.Host.faults left.1) (ap g.H.Host.world left.1) c.carry_in_turns-ended.ensures.carries.kept

pub returns-then-has_none-clause-beside : goal.returns-then-has_none-clause-beside
returns-then-has_none-clause-beside g c =
    let none = c.has_none.ensures c.if-has_none.true in
    let still = gathered-same (closed-from c.in-Ok-new.ensures.first c.gather-core.ensures.closed) none.0 none.1 in
    let left = c.gather-core.ensures.none none.0 in
    turned-beside still left.0 (ap g.H.Host.faults left.1) (ap g.H.Host.world left.1) c.carry_in_turns-ended.ensures.carries.beside

pub returns-clause-safe : goal.returns-clause-safe
returns-clause-safe g c = record { safe = c.end_run-ended.ensures.safe.safe; ready = λ file was. c.end_run-ended.ensures.safe.ready file (c.gather-core.ensures.safe.ready file was) }

pub returns-then-has_none-clause-safe : goal.returns-then-has_none-clause-safe
returns-then-has_none-clause-safe g c = record { safe = c.carry_in_turns-ended.ensures.safe.safe; ready = λ file was. c.carry_in_turns-ended.ensures.safe.ready file (c.gather-core.ensures.safe.ready file was) }
