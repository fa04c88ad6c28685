-- What the log keeps of a committed unit.
use Rattle.std.specs.Prelude.{◌≡◌, if◌then◌else◌, List, [], ◌∷◌, map, zip, fold, ⊤}
use Rattle.base_types.specs.declared.calls.GrainId.{GrainId}
use Rattle.base_types.specs.declared.calls.Value.{Value}
use Rattle.core_model.specs.declared.effects.Effect.{Effect}
use Rattle.commit_log.specs.declared.records.CommitRecord.{CommitRecord}
use Rattle.script_holding.specs.Holding.{same_grain}
-- grains in ascending order
pub use Rattle.log_reading.specs.Versions.{ascending_with, ascending}

-- a record of the log, and the states that stand at the places which it names, in their order
pub record Commit : Type 0 where
  pub logged : CommitRecord
  pub states : List (List Value)

-- the state of every grain
abbrev pub States : Type 0
States = GrainId → List Value

-- the grains that a unit wrote, in its record's order, each with its new state
abbrev pub written : Commit → List (GrainId × List Value)
written c = zip (map (λ w. w.grain) c.logged.writes) c.states

-- one grain has a new state
abbrev pub put_state : States → GrainId × List Value → States
put_state states new grain = if same_grain new.0 grain then new.1 else states grain

-- the states after a unit's writes
abbrev pub after_writes : States → Commit → States
after_writes states c = fold put_state states (written c)

-- the record is that of a unit with this effect, and its states are those that the unit wrote
pub record IsRecordOf (e : Effect) (l : Commit) : Type 0 where
  pub unit : l.logged.unit ≡ e.unit
  pub origin : l.logged.origin ≡ e.origin
  pub call : l.logged.call ≡ e.call
  pub answers : l.logged.answers ≡ e.answers
  pub result : l.logged.result ≡ e.result
  pub writes : written l ≡ e.writes

-- the records are those of the units with these effects, one for each, in this order
abbrev pub AreRecordsOf : List Effect → List Commit → Type 0
AreRecordsOf [] [] = ⊤
AreRecordsOf (e ∷ effects) (l ∷ log) = IsRecordOf e l × AreRecordsOf effects log
AreRecordsOf _ _ = ⊥
