use Rattle.std.proofs.Common.{◌≡◌, true}
use Rattle.std.proofs.lemmas.Result.{IfErr-weaker}
use Rattle.core_access.specs.CallsWithoutMemory.{is_spared}
use Rattle.history_core.specs.Cores.{run_of}
use Rattle.history_core.specs.Steps.{takes_memory}
use Rattle.history_core.proofs.SparedEvents.{unspared}
use Rattle.history_core.proofs.shared_core.CoreTurnObject.step.Goals as goal

pub returns-clause-refused : goal.returns-clause-refused
returns-clause-refused c =
    IfErr-weaker c.step.result
    (λ e. (run_of c.step.new.self ≡ run_of c.args.self.now) × (e.1 ≡ c.args.event) × (takes_memory c.args.event ≡ true))
    (λ e. (run_of c.step.new.self ≡ run_of c.args.self.now) × (e.1 ≡ c.args.event) × (is_spared (run_of c.args.self.now) c.args.event ≡ true → ⊥))
    (λ e p. (p.0, p.1, λ spared. unspared (run_of c.args.self.now) c.args.event p.2 spared)) c.step.ensures.refused
