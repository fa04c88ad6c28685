use Rattle.std.proofs.Common.{rules, not, ◌&&◌}
use Rattle.std.proofs.lemmas.Fn.{filter_same}
use Rattle.base_types.specs.declared.calls.UnitNo.{UnitNo}
use Rattle.base_types.specs.declared.calls.GrainId.{GrainId}
use Rattle.cell_model.specs.Units.{same_unit, same_grain}
use Rattle.unit_table.proofs.waits.drop_want.Goals as goal

pub returns : goal.returns
returns c = filter_same _ (λ (t : UnitNo × GrainId). not (same_unit t.0 c.args.unit && same_grain t.1 c.args.grain)) _ (λ x b f' t. search rules) _ _ c.retain.ensures.filtered
