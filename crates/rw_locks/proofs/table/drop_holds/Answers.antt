use Rattle.std.proofs.Common.{rules, not}
use Rattle.std.proofs.lemmas.Fn.{filter_same}
use Rattle.cell_model.specs.declared.locks.Hold.{Hold}
use Rattle.cell_model.specs.Locks.{is_hold_of}
use Rattle.rw_locks.proofs.table.drop_holds.Goals as goal

pub returns-clause-items : goal.returns-clause-items
returns-clause-items c = filter_same _ (λ (h : Hold). not (is_hold_of c.args.unit h)) _ (λ x b f' t. search rules) _ _ c.retain.ensures.filtered
