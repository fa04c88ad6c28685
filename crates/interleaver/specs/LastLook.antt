-- What is known of the units that are carried by the last look at them all, as long as nothing is settled since.
use Rattle.std.specs.Prelude.{◌≡◌, ◌≤◌, ℕ, true, false, List, length, Option, Some, None, ⊤}
use Rattle.std.specs.List.{AllByRecursion}
use Rattle.core_model.specs.CoreState.{UnitNo}
use Rattle.core_model.specs.LegalRuns.{Run, ends}
use Rattle.promise_spec.specs.TurnRule.{is_line, is_settled}
use Rattle.unit_carrier.specs.declared.agents.Went.{Went}
use Rattle.unit_carrier.specs.declared.agents.Went.TheVariants.{Moved, Granted, Began, Stayed}

-- Each of the units is a line's. No fewer than so many entries are settled; where no more are, none of them is of these units.
pub record IsLastLook (settled : ℕ) (r : Run) (units : List UnitNo) : Type 0 where
  pub lines : AllByRecursion (λ (u : UnitNo). is_line ((ends r).units.origin u) ≡ true) units
  pub fewer : settled ≤ length (ends r).manager.settled
  pub out : length (ends r).manager.settled ≡ settled → AllByRecursion (λ (u : UnitNo). is_settled (ends r) u ≡ false) units

-- that is so, where a look is kept
abbrev pub IsLooked : Option ℕ → Run → List UnitNo → Type 0
IsLooked None r units = ⊤
IsLooked (Some settled) r units = IsLastLook settled r units

-- nothing is settled since, and nothing is in doubt
abbrev pub NothingSince : Option ℕ → Run → Type 0
NothingSince looked r = (looked ≡ Some (length (ends r).manager.settled)) × ((ends r).manager.doubt ≡ None)

-- so many entries are settled, and nothing is in doubt; or nothing is said
abbrev pub IsNow : Option ℕ → Run → Type 0
IsNow None r = ⊤
IsNow (Some settled) r = (settled ≡ length (ends r).manager.settled) × ((ends r).manager.doubt ≡ None)

-- what is known still behind a unit's step: nothing, where a child began
abbrev pub looked_after : Option ℕ → Went → Option ℕ
looked_after looked (Began child) = None
looked_after looked Moved = looked
looked_after looked (Granted grain source) = looked
looked_after looked Stayed = looked
