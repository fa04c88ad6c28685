-- What the finished units of a batch are for it, where a test tells which units are bad.
use Rattle.std.specs.Prelude.{List, [], ◌∷◌, Bool, Option, None, if◌then◌else◌, map, filter}
use Rattle.std.specs.List.{list_any as any, flat_map}
use Rattle.base_types.specs.declared.calls.UnitNo.{UnitNo}
use Rattle.base_types.specs.declared.calls.GrainId.{GrainId}
use Rattle.base_types.specs.declared.stores.Version.{Version}
use Rattle.cell_model.specs.declared.outcomes.Prepared.{Prepared}
use Rattle.cell_model.specs.declared.outcomes.Decision.{Decision}
use Rattle.cell_model.specs.Decisions.{all_decided}
use Rattle.core_model.specs.declared.effects.Effect.{Effect}
use Rattle.core_model.specs.CoreState.{Write}
use Rattle.core_model.specs.Tests.{state_written, failed_in, with_grain, grains_of}
use Rattle.core_model.specs.Answers.{as_set}
use Rattle.core_model.specs.Settler.{version_written}
use Rattle.open_batch.specs.declared.members.FinishedUnit.{FinishedUnit}

-- what the unit did
abbrev pub effect_in : FinishedUnit → Effect
effect_in m = m.effect

-- the units whose undecided versions it read
abbrev pub sources_in : FinishedUnit → List UnitNo
sources_in m = m.deps.sources

-- one of its sources is bad
abbrev pub is_left_out : (UnitNo → Bool) → FinishedUnit → Bool
is_left_out bad m = any bad m.deps.sources

-- the grains that the unit wrote, none where it is left out
abbrev pub grains_by : (UnitNo → Bool) → FinishedUnit → List GrainId
grains_by bad m = if is_left_out bad m then [] else map (λ (x : Write). x.0) m.effect.writes

-- the grains whose files are the work of a batch of these units, in order, each once
abbrev pub plan_of : (UnitNo → Bool) → List FinishedUnit → List GrainId
plan_of bad ms = grains_of (flat_map (grains_by bad) ms)

-- ordered grains with more of them, each in its place
abbrev pub with_grains : List GrainId → List GrainId → List GrainId
with_grains [] plan = plan
with_grains (g ∷ gs) plan = with_grain (with_grains gs plan) g

-- the sources of these units, one unit's after the other's
abbrev pub sources_of : List FinishedUnit → List UnitNo
sources_of ms = flat_map sources_in ms

-- a unit before any vote
abbrev pub unprepared : FinishedUnit → Prepared
unprepared m = record { unit = m.effect.unit; failed = None; deps = m.deps.sources }

-- a unit after these votes, as it is decided
abbrev pub prepared_by : List (GrainId × Bool) → FinishedUnit → Prepared
prepared_by votes m = record { unit = m.effect.unit; failed = failed_in votes m.effect.writes; deps = m.deps.sources }

-- a unit with the grain whose file failed
abbrev pub with_failed : Option GrainId → Prepared → Prepared
with_failed failed p = record { unit = p.unit; failed = failed; deps = p.deps }

-- each unit with the first grain that it wrote whose file failed
abbrev pub named : List (GrainId × Bool) → List FinishedUnit → List Prepared → List Prepared
named votes [] ps = ps
named votes (m ∷ ms) [] = []
named votes (m ∷ ms) (p ∷ ps) = with_failed (failed_in votes m.effect.writes) p ∷ named votes ms ps

-- what becomes of each unit, by these votes
abbrev pub decisions_by : (UnitNo → Bool) → List (GrainId × Bool) → List FinishedUnit → List Decision
decisions_by bad votes ms = all_decided bad (map (prepared_by votes) ms)

-- the unit's version of the grain, none where it didn't write it or is left out
abbrev pub version_by : (UnitNo → Bool) → GrainId → FinishedUnit → List Version
version_by bad g m = if is_left_out bad m then [] else version_written m.effect.unit (state_written g m.effect.writes)

-- the versions of the grain that go to its file
abbrev pub versions_by : (UnitNo → Bool) → GrainId → List FinishedUnit → List Version
versions_by bad g ms = flat_map (version_by bad g) ms

-- what the unit did, where the test tells that it is to commit
abbrev pub kept_by : (UnitNo → Bool) → FinishedUnit → List Effect
kept_by good m = if good m.effect.unit then m.effect ∷ [] else []

-- what those units did that are to commit
abbrev pub to_commit_by : (UnitNo → Bool) → List FinishedUnit → List Effect
to_commit_by good ms = flat_map (kept_by good) ms

-- those of the sources that are gone, in order, each once
abbrev pub aborted_by : (UnitNo → Bool) → List FinishedUnit → List UnitNo
aborted_by gone ms = as_set (filter gone (sources_of ms))
