-- On whom a unit depends.
use Rattle.std.specs.Prelude.{◌≡◌, List, ◌∷◌, ◌++◌, false, Some}
use Rattle.core_model.specs.declared.effects.Read.{Read}
use Rattle.core_model.specs.CoreState.{UnitNo, nobody}
use Rattle.core_history.specs.Histories.{Applied}
use Rattle.core_history.specs.Units.{shown, has_read, reads_in}
use Rattle.core_history.specs.Fates.{IsCommittedIn}

-- The unit's first grant of a grain showed a version of the other, who wasn't committed by what had happened before.
pub record IsDependency (h : List Applied) (u d : UnitNo) : Type 0 where
  pub front : List Applied
  pub at : Applied
  pub back : List Applied
  pub split : h ≡ front ++ (at ∷ back)
  pub read : Read
  pub granted : shown u at.event at.reply ≡ Some read
  pub first : has_read read.grain (reads_in u front) ≡ false
  pub source : read.source ≡ d
  pub somebody : d ≡ nobody → ⊥
  pub unsure : IsCommittedIn front d → ⊥
