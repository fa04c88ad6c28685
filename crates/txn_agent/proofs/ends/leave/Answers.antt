use Rattle.std.proofs.Common.{rules, not, ◌∙◌, ap}
use Rattle.std.proofs.lemmas.Fn.{filter_same}
use Rattle.core_model.specs.CoreState.{GrainId, same_grain}
use Rattle.txn_agent.specs.AgentStep.{all_but}
use Rattle.txn_agent.proofs.ends.leave.Goals as goal

pub returns : goal.returns
returns c = c.from_vec.ensures ∙ filter_same _ (λ (h : GrainId). not (same_grain h c.args.grain)) _ (λ x b f' t. search rules) _ _ c.retain.ensures.filtered ∙ ap (all_but c.args.grain) c.into_vec-grains.ensures
