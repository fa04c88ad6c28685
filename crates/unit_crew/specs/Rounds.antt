-- What a round's answer says.
use Rattle.std.specs.Prelude.{◌⊎◌, ℕ, ⊤}
use Rattle.core_access.specs.Sights.{Sight}
use Rattle.unit_crew.specs.declared.rounds.Round.{Round}
use Rattle.unit_crew.specs.declared.rounds.Round.TheVariants.{Over, Moved, Stayed, Ahead}
use Rattle.unit_crew.specs.FinishedUnits.{AreThrough, IsHalted, IsPastLine, Showed}

-- where it is over, a stop was shown, or that no line behind the last is left; and all units that began are through
abbrev pub IsOverAt : ℕ → Sight → Round → Type 0
IsOverAt last s Over = (Showed IsHalted s ⊎ Showed (IsPastLine last) s) × AreThrough s
IsOverAt last s Moved = ⊤
IsOverAt last s Stayed = ⊤
IsOverAt last s Ahead = ⊤
