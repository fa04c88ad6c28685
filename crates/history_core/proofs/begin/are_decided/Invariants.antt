use Rattle.std.proofs.Common.{◌≡◌, drop, is_some}
use Rattle.std.specs.List.{list_all}
use Rattle.base_types.specs.declared.calls.UnitNo.{UnitNo}
use Rattle.unit_table.specs.Table.{outcome_known}
use Rattle.history_core.proofs.begin.are_decided.Given as goal

abbrev pub invariant-loop-kid : goal.invariant-loop-kid
invariant-loop-kid l = list_all (λ (u : UnitNo). is_some (outcome_known l.units u)) (drop l.kid-index l.kids) ≡ list_all (λ (u : UnitNo). is_some (outcome_known l.units u)) l.kids
