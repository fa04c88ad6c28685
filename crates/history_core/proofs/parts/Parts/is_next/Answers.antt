use Rattle.std.proofs.Common.{◌∙◌, sym, ap}
use Rattle.core_model.specs.Events.{can_begin}
use Rattle.history_core.proofs.Begins.{next-child-is}
use Rattle.history_core.proofs.parts.Parts.is_next.Goals as goal

pub returns-in-Child : goal.returns-in-Child
returns-in-Child c = λ w s. c.is_next_child.ensures ∙ next-child-is c.args.self.now w c.in-Child.parent c.in-Child.index 0 s ∙ ap (can_begin w) (sym c.in-Child.is)
