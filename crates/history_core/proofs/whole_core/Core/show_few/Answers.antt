use Rattle.std.proofs.Common.{subst}
use Rattle.core_model.specs.LegalRuns.{ends}
use Rattle.history_core.specs.Cores.{CoreData, run_of, HasFewNumbers}
use Rattle.history_core.proofs.whole_core.Core.show_few.Goals as goal

pub returns : goal.returns
returns c =
    subst (λ (d : CoreData). HasFewNumbers (ends (run_of d))) c.self.view_is (record { units = c.self.invariant.stands.numbers; lines = c.self.invariant.few })
