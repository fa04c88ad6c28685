use Rattle.std.proofs.Common.{◌≡◌, ◌∙◌, ap, subst, Option, ℕ}
use Rattle.base_types.specs.Stores.{end_in, later_end, PutsEnd}
use Rattle.base_types.proofs.Grains.{puts_end}
use Rattle.base_types.proofs.stores.Ends.raise.Goals as goal

pub returns-clause-raised : goal.returns-clause-raised
returns-clause-raised c =
    let is : c.later_end.result ≡ later_end (end_in c.args.self.now c.args.grain) c.args.end = c.later_end.ensures ∙ ap (λ (o : Option ℕ). later_end o c.args.end) (c.copied-kept.ensures ∙ c.get.ensures) in
    subst (PutsEnd c.args.self.now (record { ends = c.replace.new.self }) c.args.grain) is
    (puts_end c.args.self.now (record { ends = c.replace.new.self }) c.args.grain c.later_end.result c.replace.ensures.sets)
