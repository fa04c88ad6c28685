-- What votes of the open batch leave.
use Rattle.std.specs.Prelude.{◌≡◌, ◌≢◌, ◌≤◌, ℕ, List, Bool, true, Some, None}
use Rattle.core_model.specs.CoreState.{UnitNo, GrainId, Member, Value, Batch, CoreState}
use Rattle.core_model.specs.declared.phases.Phase.TheVariants.{Finished}
use Rattle.core_model.specs.Tests.{state_written}

-- The batch of this number is open and isn't decided. The grain is one of its plan, and has no vote.
pub record IsUnvoted (w : CoreState) (n : ℕ) (g : GrainId) : Type 0 where
  pub batch : Batch
  pub is_open : w.manager.batch ≡ Some batch
  pub number : batch.number ≡ n
  pub undecided : batch.decisions ≡ None
  pub planned : Member g batch.plan
  pub unvoted : (v : GrainId × Bool) → Member v batch.votes → v.0 ≢ g

-- The batch of this number was taken, and as long as it is open the grain has this vote in it.
pub record VoteStands (w : CoreState) (n : ℕ) (g : GrainId) (kept : Bool) : Type 0 where
  pub taken : n ≤ w.manager.batches
  pub stands : (b : Batch) → w.manager.batch ≡ Some b → b.number ≡ n → Member (g, kept) b.votes

-- the unit has finished, and this is what it wrote in the grain
abbrev pub HasLeft : CoreState → UnitNo → GrainId → List Value → Type 0
HasLeft w u g state = (w.units.phase u ≡ Finished) × (state_written g (w.manager.writes u) ≡ Some state)

-- a version of the unit that the grain's file has by a vote of yes in the batch of this number
pub record IsOfVote (w : CoreState) (n : ℕ) (u : UnitNo) (g : GrainId) (state : List Value) : Type 0 where
  pub vote : VoteStands w n g true
  pub left : HasLeft w u g state
