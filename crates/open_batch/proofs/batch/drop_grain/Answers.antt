use Rattle.std.proofs.Common.{◌≡◌, ap, arith, length, not, rules}
use Rattle.std.proofs.lemmas.Fn.{filter_same}
use Rattle.base_types.specs.declared.calls.GrainId.{GrainId}
use Rattle.cell_model.specs.Units.{same_grain}
use Rattle.open_batch.specs.TakenBatch.{without_grain}
use Rattle.open_batch.proofs.Stages.{fewer}
use Rattle.open_batch.proofs.batch.drop_grain.Goals as goal

pub returns-clause-items : goal.returns-clause-items
returns-clause-items c = filter_same _ (λ (k : GrainId). not (same_grain c.args.grain k)) _ (λ x b f' t. search rules) _ _ c.retain.ensures.filtered

pub returns-clause-fewer : goal.returns-clause-fewer
returns-clause-fewer c =
    let items : c.retain.new.self.items ≡ without_grain c.args.grain c.args.grains.now.items =
    filter_same _ (λ (k : GrainId). not (same_grain c.args.grain k)) _ (λ x b f' t. search rules) _ _ c.retain.ensures.filtered in
    let less = fewer c.args.grain c.args.grains.now.items c.requires in
    let count = ap length items in
    omega (arith, less, count, c.retain.new.self.ok.0, c.args.grains.now.ok.0)
