use Rattle.std.proofs.Common.{rules, ◌≤◌, List, ℕ, length, sym, subst}
use Rattle.program_file.specs.Programs.{text_limit}
use Rattle.program_file.specs.Answers.{program_fault_place, IsFaultOf}
use Rattle.promise_spec.specs.Endings.{HasFailedAs}
use Rattle.promise_spec.specs.Upgrading.{IsInputRefused}
use Rattle.silo_upgrade.specs.declared.faults.UpgradeEnd.{UpgradeEnd}
use Rattle.silo_upgrade.specs.Endings.{ending_for, ended_so}
use Rattle.silo_upgrade.proofs.UpgradeEnds.{input_failed, program_failed, input_refused, program_refused}
use Rattle.silo_upgrade.proofs.input.read_program.Goals as goal

pub returns-in-Err-clause-refused : goal.returns-in-Err-clause-refused
returns-in-Err-clause-refused g c told manner asked =
    let w0 = g.H.Host.world c.args.host.now in
    let w1 = g.H.Host.world c.read_input.new.host in
    let f0 = g.H.Host.faults c.args.host.now in
    let f1 = g.H.Host.faults c.read_input.new.host in
    let fault = c.in-Err.fault in
    subst (λ (e : UpgradeEnd). IsInputRefused (ended_so manner asked w0 w1 f0 f1 (ending_for e))) (sym c.input_end.ensures)
    (input_refused manner asked w0 w1 f0 f1 (c.read_input.ensures.disk told) (c.read_input.ensures.output told) (c.read_input.ensures.syncs told) (c.read_input.ensures.moments told)
    fault c.in-Err.ensures.calls.fault (λ long. c.in-Err.ensures.too_long long told))

pub returns-in-Err-clause-calls : goal.returns-in-Err-clause-calls
returns-in-Err-clause-calls g c =
    let f0 = g.H.Host.faults c.args.host.now in
    let f1 = g.H.Host.faults c.read_input.new.host in
    record {
      exact = subst (λ (e : UpgradeEnd). HasFailedAs (ending_for e) f0 f1) (sym c.input_end.ensures) (input_failed f0 f1 c.in-Err.fault c.in-Err.ensures.calls.fault);
      ready = c.read_input.ensures.calls.ready;
    }

pub returns-in-Ok-accept-clause-calls : goal.returns-in-Ok-accept-clause-calls
returns-in-Ok-accept-clause-calls g c = record {
  exact = c.in-Ok.ensures.calls.calm;
  ready = c.read_input.ensures.calls.ready;
}

pub returns-in-Err-accept-clause-refused : goal.returns-in-Err-accept-clause-refused
returns-in-Err-accept-clause-refused g c told manner asked =
    let w0 = g.H.Host.world c.args.host.now in
    let w1 = g.H.Host.world c.read_input.new.host in
    let f0 = g.H.Host.faults c.args.host.now in
    let f1 = g.H.Host.faults c.read_input.new.host in
    let fault = c.in-Err-accept.fault in
    let within : length c.in-Ok.text.items ≤ text_limit = search rules in
    let small : length w0.input ≤ text_limit = subst (λ (l : List ℕ). length l ≤ text_limit) (sym (c.in-Ok.ensures.whole told)) within in
    let is : IsFaultOf w0.input fault (program_fault_place fault) = search rules in
    subst (λ (e : UpgradeEnd). IsInputRefused (ended_so manner asked w0 w1 f0 f1 (ending_for e))) (sym c.program_end.ensures)
    (program_refused manner asked w0 w1 f0 f1 (c.read_input.ensures.disk told) (c.read_input.ensures.output told) (c.read_input.ensures.syncs told) (c.read_input.ensures.moments told)
    fault (c.in-Ok.ensures.end told) small is c.in-Ok.ensures.calls.calm)

pub returns-in-Err-accept-clause-calls : goal.returns-in-Err-accept-clause-calls
returns-in-Err-accept-clause-calls g c =
    let f0 = g.H.Host.faults c.args.host.now in
    let f1 = g.H.Host.faults c.read_input.new.host in
    record {
      exact = subst (λ (e : UpgradeEnd). HasFailedAs (ending_for e) f0 f1) (sym c.program_end.ensures) (program_failed f0 f1 c.in-Err-accept.fault c.in-Ok.ensures.calls.calm);
      ready = c.read_input.ensures.calls.ready;
    }
