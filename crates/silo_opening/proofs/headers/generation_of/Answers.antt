use Rattle.std.proofs.Common.{sym, ◌∙◌, rules}
use Rattle.silo_opening.proofs.Fronts.{generation_by}
use Rattle.silo_opening.proofs.headers.generation_of.Goals as goal

pub returns : goal.returns
returns c = c.from_le_bytes.ensures ∙ sym (generation_by c.args.head.now (search rules))
