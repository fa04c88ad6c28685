use Rattle.std.proofs.Common.{rules}
use Rattle.std.proofs.lemmas.Fn.{filter_same}
use Rattle.unit_crew.proofs.RoundEnds.{is_left}
use Rattle.unit_crew.proofs.crew.drop_freed.Goals as goal

pub returns : goal.returns
returns c = filter_same _ is_left _ (λ x b f' t. search rules) _ _ c.retain.ensures.filtered
