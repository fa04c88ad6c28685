use Rattle.std.proofs.Common.{◌≡◌, ◌≤◌, ◌+◌, drop, length, map}
use Rattle.std.specs.Prelude.{Option, ℕ}
use Rattle.base_types.specs.declared.calls.UnitNo.{UnitNo}
use Rattle.core_model.specs.Tests.{is_over}
use Rattle.open_batch.specs.Members.{effect_in}
use Rattle.unit_table.specs.Table.{units_of, verdict_in, result_in, phase_in}
use Rattle.history_core.specs.Decisions.{judged_after}
use Rattle.history_core.specs.Fronts.{AreOver}
use Rattle.history_core.proofs.decide.judge_all.Given as goal

abbrev pub invariant-loop-at : goal.invariant-loop-at
invariant-loop-at l = record {
  rest : judged_after (drop l.at l.decisions) (map effect_in (drop l.at l.members)) (verdict_in l.units) ≡ judged_after l.decisions (map effect_in l.members) (verdict_in l.initial.units);
  units : (seen : UnitNo → Option ℕ) → units_of l.units seen ≡ units_of l.initial.units seen;
  result : result_in l.units ≡ result_in l.initial.units;
  over : AreOver (λ u. is_over (phase_in l.units u)) (drop l.at l.decisions) (map effect_in (drop l.at l.members));
}
