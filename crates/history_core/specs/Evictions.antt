-- Which grains may leave memory because another one is used, and because a unit ends.
use Rattle.std.specs.Prelude.{◌≡◌, ℕ, List, [], ◌∷◌, true, Option, Some, None}
use Rattle.core_model.specs.CoreState.{UnitNo, GrainId, Outcome, CoreState}
use Rattle.core_model.specs.Changes.{after_end}
use Rattle.core_model.specs.Events.{applies, does}
use Rattle.core_model.specs.declared.events.CoreEvent.{CoreEvent}
use Rattle.cell_memory.specs.LeavingGrains.{touches, wanted_of}

-- the grain, where there is one
abbrev pub these : Option GrainId → List GrainId
these None = []
these (Some g) = g ∷ []

-- The event applies, the unit ends by it with that result, and the grains that it may leave idle are those that the unit waits for.
pub record EndsAs (w : CoreState) (e : CoreEvent) (u : UnitNo) (answers : List Outcome) (result : Outcome) (at : Option ℕ) : Type 0 where
  pub can : applies w e ≡ true
  pub ends : does w e ≡ after_end w u answers result at
  pub leaves : touches w e ≡ wanted_of u w.units.wants
