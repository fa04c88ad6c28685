use Rattle.std.proofs.Common.{ℕ, List, ap, subst, ◌∙◌}
use Rattle.history_core.specs.Cores.{run_of}
use Rattle.input_windows.specs.Windows.{before_in}
use Rattle.request_wire.specs.Lines.{lines_of}
use Rattle.request_wire.specs.declared.requests.Line.{Line}
use Rattle.run_lines.specs.LineReadings.{lines_from_texts}
use Rattle.script_tree.specs.Programs.{program_tree}
use Rattle.run_books.specs.Stages.{side_of, stage_of}
use Rattle.silo_top.specs.CallAnswers.{turns_manner}
use Rattle.silo_top.specs.LineExecution.{CarriedLines}
use Rattle.silo_top.specs.RunBehindOpening.{ending_by_turns}
use Rattle.silo_top.proofs.PulledRecord.{safe_pulled}
use Rattle.silo_top.proofs.RunWindows.{ends_kept, goes_on, can_further, fault_kept}
use Rattle.silo_top.proofs.run_windows.window_in_turns.Goals as goal

pub returns-in-Err-clause-goes : goal.returns-in-Err-clause-goes
returns-in-Err-clause-goes g c = λ before old u.
    ends_kept g.H.Host.tells (turns_manner c.args.width c.args.picks.now) before old c.args.running (g.H.Host.faults c.args.host.now) (g.H.Host.faults c.next_window.new.host) (g.H.Host.world c.args.host.now) (g.H.Host.world c.next_window.new.host)
    c.in-Err.status u (λ told. c.next_window.ensures.only told) (c.in-Err.ensures.comes old.input u.asked u.given) c.in-Err.ensures.counts (λ told file. g.met.H.Host.seen_may_stay c.next_window.new.host file told)

pub carry_in_turns-requires-clause-safe : goal.carry_in_turns-requires-clause-safe
carry_in_turns-requires-clause-safe g c = safe_pulled g.H.Host.tells c.args.running.started.settler.writer (g.H.Host.world c.args.host.now) (g.H.Host.world c.next_window.new.host) (λ told. c.next_window.ensures.only told) c.requires.can.safe

pub returns-in-Ok-carry_in_turns-clause-goes : goal.returns-in-Ok-carry_in_turns-clause-goes
returns-in-Ok-carry_in_turns-clause-goes g c = λ before old u.
    goes_on g.H.Host.tells (turns_manner c.args.width c.args.picks.now) before old c.args.running (g.H.Host.faults c.args.host.now) (g.H.Host.faults c.next_window.new.host) (g.H.Host.faults c.carry_in_turns.new.host) (g.H.Host.world c.args.host.now) (g.H.Host.world c.next_window.new.host) (g.H.Host.world c.carry_in_turns.new.host)
    c.next_window.new.windows c.carry_in_turns.new.used c.carry_in_turns.new.settler c.carry_in_turns.result u (c.in-Ok.ensures.comes old.input u.asked u.given) c.in-Ok.ensures.counts (λ told. c.next_window.ensures.only told)
    (subst (λ (ls : List Line). CarriedLines g.H.Host.tells (turns_manner c.args.width c.args.picks.now) (program_tree c.args.running.started.checked) ls c.args.running.used c.carry_in_turns.new.used (stage_of g.H.Host.world g.H.Host.faults (run_of c.args.running.started.core) c.args.running.started.settler c.next_window.new.host) (side_of g.H.Host.world g.H.Host.faults c.carry_in_turns.new.settler c.carry_in_turns.new.host) c.carry_in_turns.result)
    (c.new_behind-lines.ensures ∙ ap (λ (n : ℕ). lines_from_texts (program_tree c.args.running.started.checked) n (lines_of c.window.result.now)) c.lines_before.ensures ∙ ap (λ (l : List ℕ). lines_from_texts (program_tree c.args.running.started.checked) (before_in c.next_window.new.windows) (lines_of l)) c.window.ensures.bytes)
    c.carry_in_turns.ensures.carried)
    c.in-Ok-carry_in_turns.core c.in-Ok-carry_in_turns.is

pub returns-in-Ok-carry_in_turns-clause-can : goal.returns-in-Ok-carry_in_turns-clause-can
returns-in-Ok-carry_in_turns-clause-can g c =
    can_further g.H.Host.tells c.args.running.started c.in-Ok-carry_in_turns.core c.carry_in_turns.new.settler (g.H.Host.world c.args.host.now) (g.H.Host.world c.carry_in_turns.new.host) _ _ _ _ _ _ _ _ c.carry_in_turns.result c.carry_in_turns.ensures.carried c.in-Ok-carry_in_turns.is c.requires.can c.carry_in_turns.ensures.safe.safe

pub returns-in-Err-carry_in_turns-clause-goes : goal.returns-in-Err-carry_in_turns-clause-goes
returns-in-Err-carry_in_turns-clause-goes g c = λ before old u.
    fault_kept g.H.Host.tells (turns_manner c.args.width c.args.picks.now) before old c.args.running (g.H.Host.faults c.args.host.now) (g.H.Host.faults c.next_window.new.host) (g.H.Host.faults c.carry_in_turns.new.host) (g.H.Host.world c.args.host.now) (g.H.Host.world c.next_window.new.host) (g.H.Host.world c.carry_in_turns.new.host)
    c.next_window.new.windows c.carry_in_turns.new.used c.carry_in_turns.new.settler c.carry_in_turns.result u (c.in-Ok.ensures.comes old.input u.asked u.given) c.in-Ok.ensures.counts (λ told. c.next_window.ensures.only told)
    (subst (λ (ls : List Line). CarriedLines g.H.Host.tells (turns_manner c.args.width c.args.picks.now) (program_tree c.args.running.started.checked) ls c.args.running.used c.carry_in_turns.new.used (stage_of g.H.Host.world g.H.Host.faults (run_of c.args.running.started.core) c.args.running.started.settler c.next_window.new.host) (side_of g.H.Host.world g.H.Host.faults c.carry_in_turns.new.settler c.carry_in_turns.new.host) c.carry_in_turns.result)
    (c.new_behind-lines.ensures ∙ ap (λ (n : ℕ). lines_from_texts (program_tree c.args.running.started.checked) n (lines_of c.window.result.now)) c.lines_before.ensures ∙ ap (λ (l : List ℕ). lines_from_texts (program_tree c.args.running.started.checked) (before_in c.next_window.new.windows) (lines_of l)) c.window.ensures.bytes)
    c.carry_in_turns.ensures.carried)
    c.in-Err-carry_in_turns.fault c.in-Err-carry_in_turns.is c.fault_status.result (c.fault_status.ensures ∙ ap (λ (n : ℕ). ending_by_turns n c.in-Err-carry_in_turns.fault) u.slot) (λ told file. g.met.H.Host.seen_may_stay c.carry_in_turns.new.host file told)

pub returns-in-Ok-carry_in_turns-clause-ready : goal.returns-in-Ok-carry_in_turns-clause-ready
returns-in-Ok-carry_in_turns-clause-ready g c = λ file was. c.carry_in_turns.ensures.safe.ready file (c.next_window.ensures.ready file was)

pub returns-in-Err-carry_in_turns-clause-ready : goal.returns-in-Err-carry_in_turns-clause-ready
returns-in-Err-carry_in_turns-clause-ready g c = λ file was. c.carry_in_turns.ensures.safe.ready file (c.next_window.ensures.ready file was)
