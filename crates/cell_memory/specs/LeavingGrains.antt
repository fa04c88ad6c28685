-- Which grains leave memory behind an event, and what is kept without them.
use Rattle.std.specs.Prelude.{ℕ, Bool, false, ◌&&◌, not, List, [], ◌∷◌, Option, Some, None, if◌then◌else◌, drop, filter, map}
use Rattle.base_types.specs.Grains.{same_grain}
use Rattle.cell_model.specs.Cells.{Cell}
use Rattle.cell_model.specs.Locks.{holds_lock}
use Rattle.core_model.specs.CoreState.{UnitNo, GrainId, same_unit, put_grain, CoreState}
use Rattle.core_model.specs.Tests.{any, is_empty, is_single, is_wanted}
use Rattle.core_model.specs.declared.events.CoreEvent.{CoreEvent}
use Rattle.core_model.specs.declared.events.CoreEvent.TheVariants.{Bad, Begin, Grant, Refuse, Finish, EndPlain, EndSnapshot, Release, Take, Vote, Decide, Sealed, NotSealed, Doubt, Learn, Emitted, Halt, Want, Load}
use Rattle.cell_memory.specs.KeptCells.{CellsKept}

-- nobody has a lock of the grain or wants it, and there is one version of it
abbrev pub idle_cell : List (UnitNo × GrainId) → GrainId → Cell → Bool
idle_cell wants g x = is_empty x.holds && (is_single x.stack && not (is_wanted wants g))

-- the grain leaves: it wasn't used lately, and is idle
abbrev pub leaves_as : List (UnitNo × GrainId) → List GrainId → GrainId → Option Cell → Bool
leaves_as wants recent g None = false
leaves_as wants recent g (Some x) = not (any (same_grain g) recent) && idle_cell wants g x

-- the cells without the grain's, where it leaves
abbrev pub without_idle : List (UnitNo × GrainId) → List GrainId → GrainId → CellsKept → CellsKept
without_idle wants recent g cell = if leaves_as wants recent g (cell g) then put_grain cell g None else cell

-- each of these grains that leaves is gone, one after the other
abbrev pub evicted : List (UnitNo × GrainId) → List GrainId → List GrainId → CellsKept → CellsKept
evicted wants recent [] cell = cell
evicted wants recent (g ∷ gs) cell = evicted wants recent gs (without_idle wants recent g cell)

-- each that leaves is gone where memory has a limit, and none is where it has none
abbrev pub evicted_by : Option ℕ → List (UnitNo × GrainId) → List GrainId → List GrainId → CellsKept → CellsKept
evicted_by None wants recent gs cell = cell
evicted_by (Some n) wants recent gs cell = evicted wants recent gs cell

-- who goes from those used last where the grain is used: at most one
abbrev pub left_by : Option ℕ → GrainId → List GrainId → List GrainId
left_by None g recent = []
left_by (Some n) g recent = drop n (g ∷ filter (λ k. not (same_grain k g)) recent)

-- the grains that a unit wants
abbrev pub wanted_of : UnitNo → List (UnitNo × GrainId) → List GrainId
wanted_of u wants = map (λ (t : UnitNo × GrainId). t.1) (filter (λ (t : UnitNo × GrainId). same_unit t.0 u) wants)

-- the grains that an event may leave idle, or no longer used lately
abbrev pub touches : CoreState → CoreEvent → List GrainId
touches w (Grant u g mode) = if holds_lock u (w.cells.holds g) then [] else left_by w.cells.capacity g w.cells.recent
touches w (Load g u state) = left_by w.cells.capacity g w.cells.recent
touches w (Release u g) = g ∷ []
touches w (Learn u g) = g ∷ []
touches w (Refuse u g mode) = wanted_of u w.units.wants
touches w (Finish u effect) = wanted_of u w.units.wants
touches w (EndPlain u effect) = wanted_of u w.units.wants
touches w (EndSnapshot u at outcome) = wanted_of u w.units.wants
touches w (Bad line why) = []
touches w (Begin origin call plain) = []
touches w Take = []
touches w (Vote n g kept) = []
touches w (Decide n) = []
touches w (Sealed n) = []
touches w (NotSealed n) = []
touches w (Doubt n) = []
touches w Emitted = []
touches w Halt = []
touches w (Want u g) = []
