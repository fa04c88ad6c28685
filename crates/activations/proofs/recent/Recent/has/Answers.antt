use Rattle.std.proofs.Common.{ap, ◌∙◌}
use Rattle.activations.specs.LastUsed.{LastUsed}
use Rattle.base_types.specs.Grains.{same_grain}
use Rattle.core_model.specs.Tests.{any}
use Rattle.activations.proofs.PushedGrains.{key-there}
use Rattle.activations.proofs.recent.Recent.has.Goals as goal

pub returns : goal.returns
returns c = c.contains.ensures ∙ key-there c.args.grain c.self.inside.cache.entries ∙ ap (λ (r : LastUsed). any (same_grain c.args.grain) r.grains) c.self.view_is
