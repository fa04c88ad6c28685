use Rattle.std.proofs.Common.{◌∙◌, ap, is_some}
use Rattle.silo_nodes.specs.LogCache.{opening_in}
use Rattle.two_silos.proofs.StartParts.{balance-there}
use Rattle.two_silos.proofs.parts.has_grain.Goals as goal

pub returns : goal.returns
returns c = c.is_some.ensures ∙ ap is_some c.balance.ensures ∙ balance-there (opening_in c.args.node.now.opening) c.args.node.now.log c.args.grain
