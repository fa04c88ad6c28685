use Rattle.std.proofs.Common.{◌∙◌, ap, ◌||◌, is_some}
use Rattle.core_model.specs.LegalRuns.{ends}
use Rattle.history_core.specs.Cores.{CoreData, run_of}
use Rattle.history_core.specs.Histories.{run_with}
use Rattle.history_core.proofs.whole_core.Core.is_halted.Goals as goal

pub returns : goal.returns
returns c =
    let old = c.self.inside in
    c.is_stopped.ensures (ends (run_with old.base old.kinds old.parts.cells old.history.events)) c.self.invariant.stands
    ∙ ap (λ (d : CoreData). (ends (run_of d)).units.halt || is_some (ends (run_of d)).manager.doubt) c.self.view_is
