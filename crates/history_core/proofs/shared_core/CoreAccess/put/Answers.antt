use Rattle.std.proofs.Common.{◌≡◌, true}
use Rattle.std.proofs.lemmas.Result.{IfErr-weaker}
use Rattle.core_access.proofs.OneHolder.{own-history, core-put, core-back}
use Rattle.history_core.specs.Cores.{run_of}
use Rattle.history_core.specs.Steps.{takes_memory}
use Rattle.history_core.proofs.shared_core.CoreAccess.put.Goals as goal

pub returns-clause-legal : goal.returns-clause-legal
returns-clause-legal c = own-history (run_of c.step.new.self)

pub returns-clause-put : goal.returns-clause-put
returns-clause-put c = core-put c.step.result (run_of c.args.self.now) (run_of c.step.new.self) c.args.event c.step.ensures.taken

pub returns-clause-refused : goal.returns-clause-refused
returns-clause-refused c =
    core-back c.step.result (run_of c.args.self.now) (run_of c.step.new.self) c.args.event
    (IfErr-weaker c.step.result
    (λ e. (run_of c.step.new.self ≡ run_of c.args.self.now) × (e.1 ≡ c.args.event) × (takes_memory c.args.event ≡ true))
    (λ e. (run_of c.step.new.self ≡ run_of c.args.self.now) × (e.1 ≡ c.args.event))
    (λ e p. (p.0, p.1)) c.step.ensures.refused)
