-- The batches that the core closed, and logs that end where one does.
use Rattle.std.specs.Prelude.{◌≡◌, ℕ, List, map, filter, take}
use Rattle.std.specs.List.{sum_by}
use Rattle.core_model.specs.declared.effects.Effect.{Effect}
use Rattle.core_model.specs.CoreState.{Batch, CoreState}
use Rattle.core_model.specs.Tests.{is_good}
use Rattle.core_model.specs.Answers.{effect_of}
use Rattle.promise_spec.specs.Records.{Commit, AreRecordsOf}
use Rattle.promise_spec.specs.Entries.{Log, grown}

-- how many units the first so many closed batches have
abbrev pub units_in : CoreState → ℕ → ℕ
units_in w n = sum_by (λ (b : Batch). b.size) (take n w.manager.past)

-- what those of them did that are committed, or to commit in a batch in doubt, in the finish order
abbrev pub kept_by : CoreState → ℕ → List Effect
kept_by w n = map (effect_of w) (filter (λ u. is_good (w.manager.verdict u)) (take (units_in w n) w.manager.order))

-- the log is the opening log and the records of the first so many batches, each whole
pub record EndsABatch (w : CoreState) (opening log : Log) : Type 0 where
  pub batches : ℕ
  pub more : List Commit
  pub split : log ≡ grown opening more
  pub records : AreRecordsOf (kept_by w batches) more
