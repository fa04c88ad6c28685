use Rattle.std.proofs.Common.{◌∙◌, sym, ap}
use Rattle.core_model.specs.LegalRuns.{ends}
use Rattle.cell_memory.specs.SpareMemory.{has_space, has_space_for}
use Rattle.history_core.specs.Cores.{CoreData, run_of}
use Rattle.history_core.proofs.whole_core.Core.has_space.Goals as goal

pub returns : goal.returns
returns c =
    let stands = c.self.invariant.stands.cells in
    c.has_space.ensures
    ∙ sym (λ i. has_space_for (stands.capacity i) (stands.used i))
    ∙ ap (λ (d : CoreData). has_space (ends (run_of d)).cells) c.self.view_is
