-- What a batch that closes leaves, by its decisions and by what its units did, who are the front of those that wait.
use Rattle.std.specs.Prelude.{◌≡◌, ℕ, ◌+◌, List, [], ◌∷◌, ◌++◌, Bool, true, Option, if◌then◌else◌, length, ⊤}
use Rattle.base_types.specs.declared.entries.Settled.TheVariants as settled
use Rattle.core_model.specs.CoreState.{UnitNo, GrainId, Value, Write, Outcome, Settled, Entry, Decision, put}
use Rattle.core_model.specs.declared.effects.Effect.{Effect}
use Rattle.core_model.specs.declared.phases.Verdict.{Verdict}
use Rattle.core_model.specs.Tests.{is_final, is_committed, state_written}
use Rattle.core_model.specs.Changes.{seal, spoil, leave, told, entry_for}
use Rattle.history_core.specs.declared.batch_closing.Closing.{Closing}
use Rattle.history_core.specs.declared.batch_closing.Closing.TheVariants as how
use Rattle.history_core.specs.ClosedUnits.{state_after, grains_with, ArePlaced}

-- what becomes of a verdict
abbrev pub ends_as : Closing → Verdict → Verdict
ends_as how.Sealed = seal
ends_as how.NotSealed = spoil
ends_as how.Doubt = leave

-- what the line of a unit is told that could commit
abbrev pub told_as : Closing → Outcome → Settled
told_as how.Sealed result = settled.Done result
told_as how.NotSealed result = settled.Disk
told_as how.Doubt result = settled.InDoubt

-- the grains that have to learn the verdict, where it is one for good
abbrev pub pairs_of : Bool → UnitNo → List Write → List (UnitNo × GrainId)
pairs_of final u writes = if final then grains_with u writes else []

-- the verdicts after it
abbrev pub verdicts_after : (Verdict → Verdict) → List Decision → List Effect → (UnitNo → Verdict) → UnitNo → Verdict
verdicts_after f [] es v = v
verdicts_after f (d ∷ ds) [] v = v
verdicts_after f (d ∷ ds) (e ∷ es) v = verdicts_after f ds es (put v e.unit (f (v e.unit)))

-- its entries
abbrev pub entries_after : Closing → List Decision → List Effect → List Entry
entries_after how [] es = []
entries_after how (d ∷ ds) [] = []
entries_after how (d ∷ ds) (e ∷ es) = entry_for e.origin e.unit (told (told_as how e.result) d) ++ entries_after how ds es

-- what the grains have to learn of it
abbrev pub pairs_after : (Verdict → Verdict) → List Decision → List Effect → (UnitNo → Verdict) → List (UnitNo × GrainId)
pairs_after f [] es v = []
pairs_after f (d ∷ ds) [] v = []
pairs_after f (d ∷ ds) (e ∷ es) v = pairs_of (is_final (f (v e.unit))) e.unit e.writes ++ pairs_after f ds es (put v e.unit (f (v e.unit)))

-- the grain's last committed state after it
abbrev pub last_after : (Verdict → Verdict) → GrainId → List Decision → List Effect → (UnitNo → Verdict) → Option (List Value) → Option (List Value)
last_after f g [] es v before = before
last_after f g (d ∷ ds) [] v before = before
last_after f g (d ∷ ds) (e ∷ es) v before =
    last_after f g ds es (put v e.unit (f (v e.unit))) (state_after (is_committed (f (v e.unit))) (state_written g e.writes) before)

-- how many grains its units wrote
abbrev pub writes_after : List Decision → List Effect → ℕ
writes_after [] es = 0
writes_after (d ∷ ds) [] = 0
writes_after (d ∷ ds) (e ∷ es) = length e.writes + writes_after ds es

-- each of its units is over
abbrev pub AreOver : (UnitNo → Bool) → List Decision → List Effect → Type 0
AreOver over [] es = ⊤
AreOver over (d ∷ ds) [] = ⊤
AreOver over (d ∷ ds) (e ∷ es) = (over e.unit ≡ true) × AreOver over ds es

-- each grain that they wrote has its place
abbrev pub PlacedAfter : (GrainId → Bool) → List Decision → List Effect → Type 0
PlacedAfter placed [] es = ⊤
PlacedAfter placed (d ∷ ds) [] = ⊤
PlacedAfter placed (d ∷ ds) (e ∷ es) = ArePlaced placed e.writes × PlacedAfter placed ds es
