use Rattle.std.proofs.Common.{Bool, sym, subst, ◌∙◌, arith}
use Rattle.input_windows.specs.GivenWindows.{GivenTo, InputEnds}
use Rattle.input_windows.specs.Windows.{Gave}
use Rattle.input_windows.proofs.GivenWindows.{gives_next, gives_end, refuses, ends_behind}
use Rattle.input_windows.proofs.Still.{still_none}
use Rattle.promise_spec.specs.Endings.{Ending, HasFailedAs}
use Rattle.silo_top.proofs.ReadWindows.{not_last, failed_so}
use Rattle.silo_top.proofs.run_windows.next_window.Goals as goal

pub returns-then-is_last-clause-comes : goal.returns-then-is_last-clause-comes
returns-then-is_last-clause-comes g c = λ input asked given.
    ends_behind g.H.Host.tells input asked c.args.windows.now c.args.windows.now (g.H.Host.world c.args.host.now) (g.H.Host.world c.args.host.now) given
    (subst (λ (last : Bool). GivenTo last g.H.Host.tells given.given asked c.args.windows.now (g.H.Host.world c.args.host.now)) (sym c.is_last.ensures ∙ c.if-is_last.true) given.ends)

pub returns-then-is_last-clause-only : goal.returns-then-is_last-clause-only
returns-then-is_last-clause-only g c = λ told. still_none (g.H.Host.world c.args.host.now)

pub returns-in-Ok-true-clause-comes : goal.returns-in-Ok-true-clause-comes
returns-in-Ok-true-clause-comes g c = λ input asked given.
    gives_next g.H.Host.tells input asked c.args.windows.now c.next_window.new.self (g.H.Host.world c.args.host.now) (g.H.Host.world c.next_window.new.host) given
    (not_last g.H.Host.tells input asked c.args.windows.now (g.H.Host.world c.args.host.now) given (sym c.is_last.ensures ∙ c.if-is_last.false))
    c.next_window.ensures.took c.next_window.ensures.before c.next_window.ensures.lines (subst (λ (more : Bool). Gave more g.H.Host.tells c.next_window.new.self (g.H.Host.world c.next_window.new.host)) c.in-Ok-true.field-0-test c.in-Ok-true.ensures.gave)

pub returns-in-Ok-true-clause-further : goal.returns-in-Ok-true-clause-further
returns-in-Ok-true-clause-further g c =
    let before = c.next_window.ensures.before in
    let lines = c.next_window.ensures.lines in
    let some = (subst (λ (more : Bool). Gave more g.H.Host.tells c.next_window.new.self (g.H.Host.world c.next_window.new.host)) c.in-Ok-true.field-0-test c.in-Ok-true.ensures.gave).some in
    omega (arith, before, lines, some)

pub returns-in-Ok-false-clause-comes : goal.returns-in-Ok-false-clause-comes
returns-in-Ok-false-clause-comes g c = λ input asked given.
    gives_end g.H.Host.tells input asked c.args.windows.now c.next_window.new.self (g.H.Host.world c.args.host.now) (g.H.Host.world c.next_window.new.host) given
    (not_last g.H.Host.tells input asked c.args.windows.now (g.H.Host.world c.args.host.now) given (sym c.is_last.ensures ∙ c.if-is_last.false))
    c.next_window.ensures.took (subst (λ (more : Bool). Gave more g.H.Host.tells c.next_window.new.self (g.H.Host.world c.next_window.new.host)) c.in-Ok-false.field-0-test c.in-Ok-false.ensures.gave)

pub returns-in-Err-clause-comes : goal.returns-in-Err-clause-comes
returns-in-Err-clause-comes g c = λ input asked given.
    subst (λ (e : Ending). InputEnds g.H.Host.tells input asked e (g.H.Host.world c.next_window.new.host)) (sym c.window_status.ensures)
    (refuses g.H.Host.tells input asked c.args.windows.now c.next_window.new.self (g.H.Host.world c.args.host.now) (g.H.Host.world c.next_window.new.host) given
    (not_last g.H.Host.tells input asked c.args.windows.now (g.H.Host.world c.args.host.now) given (sym c.is_last.ensures ∙ c.if-is_last.false))
    c.in-Err.fault c.next_window.ensures.took c.in-Err.ensures.none c.in-Err.ensures.refused)

pub returns-in-Err-clause-counts : goal.returns-in-Err-clause-counts
returns-in-Err-clause-counts g c =
    subst (λ (e : Ending). HasFailedAs e (g.H.Host.faults c.args.host.now) (g.H.Host.faults c.next_window.new.host)) (sym c.window_status.ensures)
    (failed_so (g.H.Host.faults c.args.host.now) (g.H.Host.faults c.next_window.new.host) c.in-Err.fault c.in-Err.ensures.calls.fault)
