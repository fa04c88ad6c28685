use Rattle.std.proofs.Common.{◌∙◌, ap, is_some}
use Rattle.history_core.specs.Cores.{CoreData}
use Rattle.history_core.proofs.MemoryCells.{limit-some}
use Rattle.history_core.proofs.whole_core.Core.has_limit.Goals as goal

pub returns : goal.returns
returns c =
    c.has_limit.ensures
    ∙ limit-some c.self.inside.parts.cells.recent
    ∙ ap (λ (d : CoreData). is_some d.limit) c.self.view_is
