-- What becomes of the units of a batch that closes, and what the grains learn of them.
use Rattle.std.specs.Prelude.{◌≡◌, ⊤, List, [], ◌∷◌, Bool, true, not, Option, Some, None, if◌then◌else◌, filter, map, take}
use Rattle.core_model.specs.CoreState.{UnitNo, GrainId, Value, Write, put, CoreState}
use Rattle.core_model.specs.declared.phases.Verdict.{Verdict}
use Rattle.core_model.specs.Tests.{is_committed, state_written}
use Rattle.core_model.specs.LearnQueue.{to_learn}

-- the first, or the other where it is missing
abbrev pub or_else : {A : Type 0} → Option A → Option A → Option A
or_else None other = other
or_else (Some x) other = Some x

-- the grain's state after a unit's writes, where it is committed
abbrev pub state_after : Bool → Option (List Value) → Option (List Value) → Option (List Value)
state_after committed new before = if committed then or_else new before else before

-- the state that the last committed one of these units wrote in the grain, or else the one before
abbrev pub last_among : (UnitNo → Verdict) → (UnitNo → List Write) → GrainId → List UnitNo → Option (List Value) → Option (List Value)
last_among verdict writes g [] before = before
last_among verdict writes g (u ∷ us) before =
    last_among verdict writes g us (state_after (is_committed (verdict u)) (state_written g (writes u)) before)

-- the state that the last committed writer of the grain, in the finish order, wrote there
abbrev pub last_state : CoreState → GrainId → Option (List Value)
last_state w g = last_among w.manager.verdict w.manager.writes g (take w.manager.closed w.manager.order) None

-- what the grains still have to learn, in order
abbrev pub unlearnt : CoreState → List (UnitNo × GrainId)
unlearnt w = filter (λ (t : UnitNo × GrainId). not (w.cells.learnt t.0 t.1)) (to_learn w)

-- each unit's grains
abbrev pub grains_with : UnitNo → List Write → List (UnitNo × GrainId)
grains_with u writes = map (λ (x : Write). (u, x.0)) writes

-- the verdicts where that of each of these units is mapped
abbrev pub mapped : (Verdict → Verdict) → List UnitNo → (UnitNo → Verdict) → UnitNo → Verdict
mapped f [] verdict = verdict
mapped f (u ∷ us) verdict = mapped f us (put verdict u (f (verdict u)))

-- each written grain has a place
abbrev pub ArePlaced : (GrainId → Bool) → List Write → Type 0
ArePlaced placed [] = ⊤
ArePlaced placed (x ∷ xs) = (placed x.0 ≡ true) × ArePlaced placed xs
