use Rattle.std.proofs.Common.{◌∙◌, ap}
use Rattle.core_model.specs.LegalRuns.{ends}
use Rattle.core_model.specs.Settler.{has_step, settler_step}
use Rattle.history_core.specs.Cores.{CoreData, run_of}
use Rattle.history_core.specs.Histories.{run_with}
use Rattle.history_core.proofs.OneEvent.{reached-core}
use Rattle.history_core.proofs.whole_core.Core.has_settler_step.Goals as goal

pub returns : goal.returns
returns c =
    let old = c.self.inside in
    c.has_work.ensures (ends (run_with old.base old.kinds old.parts.cells old.history.events)) c.self.invariant.stands (reached-core old.parts old.base old.kinds old.history.events c.self.invariant.above)
    ∙ ap (λ (d : CoreData). has_step (settler_step (ends (run_of d)))) c.self.view_is
