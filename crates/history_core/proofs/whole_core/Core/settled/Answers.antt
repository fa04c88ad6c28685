use Rattle.std.proofs.Common.{◌∙◌, sym, ap, drop}
use Rattle.core_model.specs.LegalRuns.{ends}
use Rattle.history_core.specs.Cores.{CoreData, run_of}
use Rattle.history_core.proofs.whole_core.Core.settled.Goals as goal

pub returns : goal.returns
returns c =
    c.pending.ensures
    ∙ (λ i. drop (sym c.self.invariant.stands.emitted i) (sym c.self.invariant.stands.settled i))
    ∙ ap (λ (d : CoreData). drop (ends (run_of d)).manager.emitted (ends (run_of d)).manager.settled) c.self.view_is
