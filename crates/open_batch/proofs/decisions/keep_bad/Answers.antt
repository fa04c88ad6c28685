use Rattle.std.proofs.Common.{rules}
use Rattle.std.proofs.lemmas.Fn.{filter_same}
use Rattle.base_types.specs.declared.calls.UnitNo.{UnitNo}
use Rattle.core_model.specs.Tests.{is_bad}
use Rattle.unit_table.specs.Table.{verdict_in}
use Rattle.open_batch.proofs.decisions.keep_bad.Goals as goal

pub returns : goal.returns
returns c = filter_same _ (λ (u : UnitNo). is_bad (verdict_in c.args.units.now u)) _ (λ x b f' t. search rules) _ _ c.retain.ensures.filtered
