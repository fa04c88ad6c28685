use Rattle.std.proofs.Common.{◌≡◌, ◌≤◌, ◌++◌, drop, length, map}
use Rattle.base_types.specs.declared.calls.GrainId.{GrainId}
use Rattle.core_parts.specs.States.{last_in}
use Rattle.open_batch.specs.Members.{effect_in}
use Rattle.unit_table.specs.Table.{verdict_in}
use Rattle.history_core.specs.BatchClosing.{AreClosable, OnlyVerdictsChange}
use Rattle.history_core.specs.Fronts.{ends_as, verdicts_after, entries_after, pairs_after, last_after}
use Rattle.history_core.proofs.batch_closing.close_all.Given as goal

abbrev pub invariant-loop-decision : goal.invariant-loop-decision
invariant-loop-decision l = record {
  verdict : verdicts_after (ends_as l.how) (drop l.decision-index l.decisions) (map effect_in l.waiting.items) (verdict_in l.units) ≡ verdicts_after (ends_as l.how) l.decisions (map effect_in l.initial.waiting.items) (verdict_in l.initial.units);
  entries : l.entries.entries ++ entries_after l.how (drop l.decision-index l.decisions) (map effect_in l.waiting.items) ≡ l.initial.entries.entries ++ entries_after l.how l.decisions (map effect_in l.initial.waiting.items);
  emitted : l.entries.emitted ≡ l.initial.entries.emitted;
  pairs : l.learn.pairs ++ pairs_after (ends_as l.how) (drop l.decision-index l.decisions) (map effect_in l.waiting.items) (verdict_in l.units) ≡ l.initial.learn.pairs ++ pairs_after (ends_as l.how) l.decisions (map effect_in l.initial.waiting.items) (verdict_in l.initial.units);
  last : (g : GrainId) → last_after (ends_as l.how) g (drop l.decision-index l.decisions) (map effect_in l.waiting.items) (verdict_in l.units) (last_in l.last g) ≡ last_after (ends_as l.how) g l.decisions (map effect_in l.initial.waiting.items) (verdict_in l.initial.units) (last_in l.initial.last g);
  others : OnlyVerdictsChange l.initial.units l.units;
  waiting : l.waiting.items ≡ drop l.decision-index l.initial.waiting.items;
  within : length (drop l.decision-index l.decisions) ≤ length l.waiting.items;
  closable : AreClosable (drop l.decision-index l.decisions) (map effect_in l.waiting.items) l.units l.entries l.learn l.last;
}
