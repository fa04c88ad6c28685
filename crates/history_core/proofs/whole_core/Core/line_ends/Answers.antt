use Rattle.std.proofs.Common.{◌∙◌, sym, ap}
use Rattle.core_parts.specs.LineEnds.{ends_of}
use Rattle.core_model.specs.LegalRuns.{ends}
use Rattle.history_core.specs.Cores.{CoreData, run_of}
use Rattle.history_core.proofs.whole_core.Core.line_ends.Goals as goal

pub returns : goal.returns
returns c =
    c.ends.ensures
    ∙ ap ends_of (sym c.self.invariant.stands.settled)
    ∙ ap (λ (d : CoreData). ends_of (ends (run_of d)).manager.settled) c.self.view_is
