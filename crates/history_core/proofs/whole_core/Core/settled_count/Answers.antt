use Rattle.std.proofs.Common.{◌∙◌, sym, ap, List, length}
use Rattle.base_types.specs.declared.entries.Entry.{Entry}
use Rattle.core_parts.specs.declared.line_ends.LineEnds.{LineEnds}
use Rattle.core_model.specs.LegalRuns.{ends}
use Rattle.history_core.specs.Cores.{CoreData, run_of}
use Rattle.history_core.proofs.whole_core.Core.settled_count.Goals as goal

pub returns : goal.returns
returns c =
    ap (λ (e : LineEnds). e.all) c.ends.ensures
    ∙ ap (λ (es : List Entry). length es) (sym c.self.invariant.stands.settled)
    ∙ ap (λ (d : CoreData). length (ends (run_of d)).manager.settled) c.self.view_is
