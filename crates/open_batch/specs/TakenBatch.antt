-- What contracts see of a batch that was taken.
use Rattle.std.specs.Prelude.{◌≡◌, ℕ, List, [], ◌∷◌, ◌++◌, Bool, not, Option, Some, None, if◌then◌else◌, length, map, filter}
use Rattle.base_types.specs.declared.calls.UnitNo.{UnitNo}
use Rattle.base_types.specs.declared.calls.GrainId.{GrainId}
use Rattle.cell_model.specs.declared.outcomes.Prepared.{Prepared}
use Rattle.cell_model.specs.declared.outcomes.Decision.{Decision}
use Rattle.cell_model.specs.Units.{same_grain}
use Rattle.cell_model.specs.Decisions.{is_commit}
use Rattle.core_model.specs.declared.questions.BatchView.{BatchView}
use Rattle.open_batch.specs.declared.members.FinishedUnit.{FinishedUnit}
use Rattle.open_batch.specs.Members.{effect_in, plan_of, sources_of, unprepared, aborted_by}

-- a batch: what is kept of its units until it is decided, the grains of its plan without a vote, and what came of it
pub record TakenBatch : Type 0 where
  pub number : ℕ
  pub size : ℕ
  pub prepared : List Prepared  -- its units before any vote, none once it is decided
  pub sources : List UnitNo  -- the sources of its units, none once it is decided
  pub unvoted : List GrainId  -- in order
  pub votes : List (GrainId × Bool)  -- in the order in which they came
  pub decisions : Option (List Decision)

-- the decisions, once there are any
abbrev pub decisions_if : Bool → List Decision → Option (List Decision)
decisions_if decided ds = if decided then Some ds else None

-- the batch of these units, before any vote
abbrev pub first_batch : ℕ → (UnitNo → Bool) → List FinishedUnit → TakenBatch
first_batch number bad ms = record {
  number = number;
  size = length ms;
  prepared = map unprepared ms;
  sources = sources_of ms;
  unvoted = plan_of bad ms;
  votes = [];
  decisions = None;
}

-- the other grains
abbrev pub without_grain : GrainId → List GrainId → List GrainId
without_grain g gs = filter (λ k. not (same_grain g k)) gs

-- the batch with one more vote
abbrev pub with_vote : TakenBatch → GrainId → Bool → TakenBatch
with_vote x g kept = record x { unvoted = without_grain g x.unvoted; votes = x.votes ++ (g, kept) ∷ [] }

-- the batch with its decisions
abbrev pub with_decisions : TakenBatch → List Decision → TakenBatch
with_decisions x ds = record x { prepared = []; sources = []; decisions = Some ds }

-- how many are to commit
abbrev pub commits_in : Option (List Decision) → ℕ
commits_in None = 0
commits_in (Some ds) = length (filter is_commit ds)

-- what is shown of the batch of these units, where the test tells which sources are aborted
abbrev pub view_by : (UnitNo → Bool) → TakenBatch → List FinishedUnit → BatchView
view_by gone x ms = record {
  batch = x.number;
  effects = map effect_in ms;
  aborted = aborted_by gone ms;
  votes = x.votes;
  decisions = x.decisions;
}

-- the batch was taken of these units
pub record IsOf (x : TakenBatch) (ms : List FinishedUnit) : Type 0 where
  pub count : x.size ≡ length ms
  pub undecided : x.decisions ≡ None → (x.prepared ≡ map unprepared ms) × (x.sources ≡ sources_of ms)
