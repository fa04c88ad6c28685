-- The work of a batch: what goes into each grain's file.
use Rattle.std.specs.Prelude.{ℕ, List, Bool, not, map, filter, unwrap_or}
use Rattle.std.specs.List.{flat_map, list_any as any}
use Rattle.base_types.specs.declared.stores.Ends.{Ends}
use Rattle.base_types.specs.Stores.{end_in}
use Rattle.cell_model.specs.Sources.{is_among}
use Rattle.core_model.specs.CoreState.{UnitNo, GrainId, same_grain, Version, Write}
use Rattle.core_model.specs.declared.effects.Read.{Read}
use Rattle.core_model.specs.declared.effects.Effect.{Effect}
use Rattle.core_model.specs.Tests.{grains_of}
use Rattle.prepare_batch.specs.declared.works.FileWork.{FileWork}

-- one of the unit's sources is one of these
abbrev pub reads_from : List UnitNo → Effect → Bool
reads_from units e = any (λ (r : Read). is_among units r.source) e.reads

-- what those did that read from none of these
abbrev pub untouched : List UnitNo → List Effect → List Effect
untouched units effects = filter (λ e. not (reads_from units e)) effects

-- the grains that were written, ascending, each once
abbrev pub grains_written : List Effect → List GrainId
grains_written effects = grains_of (flat_map (λ e. map (λ (x : Write). x.0) e.writes) effects)

-- what one unit wrote in the grain
abbrev pub versions_in : GrainId → Effect → List Version
versions_in g e = map (λ (x : Write). record { unit = e.unit; state = x.1 }) (filter (λ (x : Write). same_grain x.0 g) e.writes)

-- what they wrote in the grain, in their order
abbrev pub versions_on : GrainId → List Effect → List Version
versions_on g effects = flat_map (versions_in g) effects

-- one piece of work for each grain that was written: its versions, at this place of its file
abbrev pub work_of : (GrainId → ℕ) → List Effect → List FileWork
work_of at effects = map (λ g. record { grain = g; at = at g; versions = versions_on g effects }) (grains_written effects)

-- where each grain's file goes on: at its end, or at its start where it has none
abbrev pub ends_by : Ends → GrainId → ℕ
ends_by ends g = unwrap_or (end_in ends g) 0
