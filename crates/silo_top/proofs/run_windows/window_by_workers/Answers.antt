use denote.Param.Send.{sendable}
use Rattle.std.proofs.Common.{ℕ, List, ap, subst, ◌∙◌}
use Rattle.history_core.specs.Cores.{run_of}
use Rattle.input_windows.specs.Windows.{before_in}
use Rattle.request_wire.specs.Lines.{lines_of}
use Rattle.request_wire.specs.declared.requests.Line.{Line}
use Rattle.run_lines.proofs.SharedValues.{lines_sync}
use Rattle.run_lines.specs.LineReadings.{lines_from_texts}
use Rattle.script_tree.specs.Programs.{program_tree}
use Rattle.run_books.specs.Stages.{side_of, stage_of}
use Rattle.silo_top.specs.CallAnswers.{workers_manner}
use Rattle.silo_top.specs.LineExecution.{CarriedLines}
use Rattle.silo_top.specs.RunBehindOpening.{ending_by_turns}
use Rattle.silo_top.proofs.PulledRecord.{safe_pulled}
use Rattle.silo_top.proofs.RunWindows.{ends_kept, goes_on, can_further, fault_kept}
use Rattle.silo_top.proofs.run_windows.window_by_workers.Goals as goal

pub returns-in-Err-clause-goes : goal.returns-in-Err-clause-goes
returns-in-Err-clause-goes g c = λ before old u.
    ends_kept g.H.Host.tells workers_manner before old c.args.running (g.H.Host.faults c.args.host.now) (g.H.Host.faults c.next_window.new.host) (g.H.Host.world c.args.host.now) (g.H.Host.world c.next_window.new.host)
    c.in-Err.status u (λ told. c.next_window.ensures.only told) (c.in-Err.ensures.comes old.input u.asked u.given) c.in-Err.ensures.counts (λ told file. g.met.H.Host.seen_may_stay c.next_window.new.host file told)

pub carry_by_workers-requires-clause-safe : goal.carry_by_workers-requires-clause-safe
carry_by_workers-requires-clause-safe g c κs within = safe_pulled g.H.Host.tells c.args.running.started.settler.writer (g.H.Host.world c.args.host.now) (g.H.Host.world c.next_window.new.host) (λ told. c.next_window.ensures.only told) c.requires.can.safe

pub carry_by_workers-requires-sync-L : goal.carry_by_workers-requires-sync-L
carry_by_workers-requires-sync-L g c κs within = search (sendable, lines_sync) depth 20

pub returns-in-Ok-carry_by_workers-clause-goes : goal.returns-in-Ok-carry_by_workers-clause-goes
returns-in-Ok-carry_by_workers-clause-goes g c = λ before old u.
    goes_on g.H.Host.tells workers_manner before old c.args.running (g.H.Host.faults c.args.host.now) (g.H.Host.faults c.next_window.new.host) (g.H.Host.faults c.carry_by_workers.new.host) (g.H.Host.world c.args.host.now) (g.H.Host.world c.next_window.new.host) (g.H.Host.world c.carry_by_workers.new.host)
    c.next_window.new.windows c.args.running.used c.carry_by_workers.new.settler c.carry_by_workers.result u (c.in-Ok.ensures.comes old.input u.asked u.given) c.in-Ok.ensures.counts (λ told. c.next_window.ensures.only told)
    (subst (λ (ls : List Line). CarriedLines g.H.Host.tells workers_manner (program_tree c.args.running.started.checked) ls c.args.running.used c.args.running.used (stage_of g.H.Host.world g.H.Host.faults (run_of c.args.running.started.core) c.args.running.started.settler c.next_window.new.host) (side_of g.H.Host.world g.H.Host.faults c.carry_by_workers.new.settler c.carry_by_workers.new.host) c.carry_by_workers.result)
    (c.new_behind-lines.ensures ∙ ap (λ (n : ℕ). lines_from_texts (program_tree c.args.running.started.checked) n (lines_of c.window.result.now)) c.lines_before.ensures ∙ ap (λ (l : List ℕ). lines_from_texts (program_tree c.args.running.started.checked) (before_in c.next_window.new.windows) (lines_of l)) c.window.ensures.bytes)
    (c.carry_by_workers.ensures.carried c.args.running.used))
    c.in-Ok-carry_by_workers.core c.in-Ok-carry_by_workers.is

pub returns-in-Ok-carry_by_workers-clause-can : goal.returns-in-Ok-carry_by_workers-clause-can
returns-in-Ok-carry_by_workers-clause-can g c =
    can_further g.H.Host.tells c.args.running.started c.in-Ok-carry_by_workers.core c.carry_by_workers.new.settler (g.H.Host.world c.args.host.now) (g.H.Host.world c.carry_by_workers.new.host) _ _ _ _ _ _ _ _ c.carry_by_workers.result (c.carry_by_workers.ensures.carried c.args.running.used) c.in-Ok-carry_by_workers.is c.requires.can c.carry_by_workers.ensures.safe.safe

pub returns-in-Err-carry_by_workers-clause-goes : goal.returns-in-Err-carry_by_workers-clause-goes
returns-in-Err-carry_by_workers-clause-goes g c = λ before old u.
    fault_kept g.H.Host.tells workers_manner before old c.args.running (g.H.Host.faults c.args.host.now) (g.H.Host.faults c.next_window.new.host) (g.H.Host.faults c.carry_by_workers.new.host) (g.H.Host.world c.args.host.now) (g.H.Host.world c.next_window.new.host) (g.H.Host.world c.carry_by_workers.new.host)
    c.next_window.new.windows c.args.running.used c.carry_by_workers.new.settler c.carry_by_workers.result u (c.in-Ok.ensures.comes old.input u.asked u.given) c.in-Ok.ensures.counts (λ told. c.next_window.ensures.only told)
    (subst (λ (ls : List Line). CarriedLines g.H.Host.tells workers_manner (program_tree c.args.running.started.checked) ls c.args.running.used c.args.running.used (stage_of g.H.Host.world g.H.Host.faults (run_of c.args.running.started.core) c.args.running.started.settler c.next_window.new.host) (side_of g.H.Host.world g.H.Host.faults c.carry_by_workers.new.settler c.carry_by_workers.new.host) c.carry_by_workers.result)
    (c.new_behind-lines.ensures ∙ ap (λ (n : ℕ). lines_from_texts (program_tree c.args.running.started.checked) n (lines_of c.window.result.now)) c.lines_before.ensures ∙ ap (λ (l : List ℕ). lines_from_texts (program_tree c.args.running.started.checked) (before_in c.next_window.new.windows) (lines_of l)) c.window.ensures.bytes)
    (c.carry_by_workers.ensures.carried c.args.running.used))
    c.in-Err-carry_by_workers.fault c.in-Err-carry_by_workers.is c.fault_status.result (c.fault_status.ensures ∙ ap (λ (n : ℕ). ending_by_turns n c.in-Err-carry_by_workers.fault) u.slot) (λ told file. g.met.H.Host.seen_may_stay c.carry_by_workers.new.host file told)

pub returns-in-Ok-carry_by_workers-clause-ready : goal.returns-in-Ok-carry_by_workers-clause-ready
returns-in-Ok-carry_by_workers-clause-ready g c = λ file was. c.carry_by_workers.ensures.safe.ready file (c.next_window.ensures.ready file was)

pub returns-in-Err-carry_by_workers-clause-ready : goal.returns-in-Err-carry_by_workers-clause-ready
returns-in-Err-carry_by_workers-clause-ready g c = λ file was. c.carry_by_workers.ensures.safe.ready file (c.next_window.ensures.ready file was)
