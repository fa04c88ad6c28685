-- What a batch that was taken shows of the model's open batch.
use Rattle.std.specs.Prelude.{◌≡◌, List, not, map, filter}
use Rattle.std.specs.List.{list_any as any}
use Rattle.base_types.specs.declared.calls.UnitNo.{UnitNo}
use Rattle.base_types.specs.declared.calls.GrainId.{GrainId}
use Rattle.core_model.specs.CoreState.{Batch, CoreState}
use Rattle.core_model.specs.Tests.{is_vote_on}
use Rattle.core_model.specs.Effects.{effect_of}
use Rattle.open_batch.specs.declared.members.FinishedUnit.{FinishedUnit}
use Rattle.open_batch.specs.Members.{effect_in, sources_in}
use Rattle.open_batch.specs.TakenBatch.{TakenBatch, IsOf}

-- the grains of the plan without a vote
abbrev pub unvoted_of : Batch → List GrainId
unvoted_of b = filter (λ g. not (any (is_vote_on g) b.votes)) b.plan

-- the batch, taken of these units, stands for the model's
pub record ShowsBatch (x : TakenBatch) (ms : List FinishedUnit) (b : Batch) : Type 0 where
  pub number : x.number ≡ b.number
  pub size : x.size ≡ b.size
  pub taken_of : IsOf x ms
  pub unvoted : x.unvoted ≡ unvoted_of b
  pub votes : x.votes ≡ b.votes
  pub decisions : x.decisions ≡ b.decisions

-- these finished units are the state's, in this order
pub record AreUnits (ms : List FinishedUnit) (w : CoreState) (us : List UnitNo) : Type 0 where
  pub effects : map effect_in ms ≡ map (effect_of w) us
  pub sources : map sources_in ms ≡ map w.units.deps us
