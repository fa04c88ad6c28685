use Rattle.std.proofs.Common.{◌∙◌, ap}
use Rattle.core_model.specs.Tests.{ask_answer}
use Rattle.core_model.specs.LegalRuns.{ends}
use Rattle.history_core.specs.Cores.{CoreData, run_of}
use Rattle.history_core.specs.Histories.{run_with}
use Rattle.history_core.proofs.Grants.{ask-is}
use Rattle.history_core.proofs.OneEvent.{reached-core}
use Rattle.history_core.proofs.whole_core.Core.ask_lock.Goals as goal

pub returns : goal.returns
returns c =
    let old = c.self.inside in
    c.ask.ensures
    ∙ (ask-is old.parts (ends (run_with old.base old.kinds old.parts.cells old.history.events)) c.args.unit c.args.grain c.args.mode c.self.invariant.stands (reached-core old.parts old.base old.kinds old.history.events c.self.invariant.above)
    ∙ ap (λ (d : CoreData). ask_answer (ends (run_of d)) c.args.unit c.args.grain c.args.mode) c.self.view_is)
