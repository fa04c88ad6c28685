-- How code decides a batch, by what is kept.
use Rattle.std.specs.Prelude.{◌≡◌, ◌≤◌, List, [], ◌∷◌, None, Some, length, map, take}
use Rattle.core_model.specs.CoreState.{UnitNo, Decision, put}
use Rattle.core_model.specs.declared.effects.Effect.{Effect}
use Rattle.core_model.specs.declared.phases.Verdict.{Verdict}
use Rattle.core_model.specs.Tests.{is_bad, is_over}
use Rattle.core_model.specs.Changes.{verdict_of}
use Rattle.unit_table.specs.Table.{verdict_in, phase_in}
use Rattle.open_batch.specs.Members.{effect_in, decisions_by}
use Rattle.open_batch.specs.TakenBatch.{TakenBatch, IsOf}
use Rattle.history_core.specs.declared.parts.Parts.{Parts}
use Rattle.history_core.specs.Fronts.{AreOver}

-- the verdicts with one for each of these units
abbrev pub judged_after : List Decision → List Effect → (UnitNo → Verdict) → UnitNo → Verdict
judged_after [] es v = v
judged_after (d ∷ ds) [] v = v
judged_after (d ∷ ds) (e ∷ es) v = judged_after ds es (put v e.unit (verdict_of d))

-- the decisions of the batch of the first of those that wait
abbrev pub decisions_now : Parts → TakenBatch → List Decision
decisions_now p x = decisions_by (λ u. is_bad (verdict_in p.units u)) x.votes (take x.size p.waiting.items)

-- an undecided batch is open, whose units wait and are over
abbrev pub IsUndecided : Parts → Type 0
IsUndecided p = (x : TakenBatch) × (p.batch ≡ Some x) × (x.decisions ≡ None) × IsOf x (take x.size p.waiting.items) × (x.size ≤ length p.waiting.items)
    × (length (decisions_now p x) ≡ x.size) × AreOver (λ u. is_over (phase_in p.units u)) (decisions_now p x) (map effect_in p.waiting.items)
