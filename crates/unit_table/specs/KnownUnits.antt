-- What an entry stands for.
use Rattle.std.specs.Prelude.{◌≡◌, ◌<◌, List, [], ◌∷◌, ◌++◌, Bool, false, Option, vec_len, vec_capacity}
use Rattle.base_types.specs.declared.calls.Origin.TheVariants.{Line, Child}
use Rattle.base_types.specs.declared.calls.Outcome.TheVariants.{Aborted as aborted}
use Rattle.core_model.specs.CoreState.{UnitNo, Origin, Call, Outcome, put}
use Rattle.core_model.specs.declared.effects.Read.{Read}
use Rattle.core_model.specs.declared.phases.Phase.{Phase}
use Rattle.core_model.specs.declared.phases.Verdict.{Verdict}
use Rattle.core_model.specs.declared.phases.Phase.TheVariants.{Unborn, Running}
use Rattle.core_model.specs.declared.phases.Verdict.TheVariants.{Open}
use Rattle.core_model.specs.Tests.{outcome_in}
use Rattle.core_model.specs.declared.phases.Phase.TheVariants as phase
use Rattle.unit_table.specs.declared.entry.RunningUnit.{RunningUnit}
use Rattle.unit_table.specs.declared.entry.OverUnit.{OverUnit}
use Rattle.unit_table.specs.declared.entry.PastUnit.{PastUnit}
use Rattle.unit_table.specs.declared.entry.Ending.{Ending}
use Rattle.unit_table.specs.declared.entry.Ending.TheVariants as ending
use Rattle.unit_table.specs.declared.entry.UnitEntry.{UnitEntry}
use Rattle.unit_table.specs.declared.entry.UnitEntry.TheVariants as entry

-- what the model knows of one unit, but for what a snapshot run saw
pub record KnownUnit : Type 0 where
  pub phase : Phase
  pub origin : Origin
  pub call : Call
  pub plain : Bool
  pub kids : List UnitNo
  pub reads : List Read
  pub deps : List UnitNo
  pub verdict : Verdict
  pub result : Outcome

-- a unit that hasn't begun
abbrev pub unborn : KnownUnit
unborn = record {
  phase = Unborn;
  origin = Line 0;
  call = record { grain = record { kind = 0; key = 0 }; method = 0; args = [] };
  plain = false;
  kids = [];
  reads = [];
  deps = [];
  verdict = Open;
  result = aborted;
}

-- a unit that runs
abbrev pub known_running : RunningUnit → KnownUnit
known_running x = record {
  phase = Running;
  origin = x.origin;
  call = x.call;
  plain = x.plain;
  kids = x.kids.items;
  reads = x.reads.items;
  deps = x.deps.sources;
  verdict = Open;
  result = aborted;
}

-- a unit that has just begun
abbrev pub just_begun : Origin → Call → Bool → KnownUnit
just_begun origin call plain = record unborn { phase = Running; origin = origin; call = call; plain = plain }

-- a child stands last among its parent's children
abbrev pub with_kid : (UnitNo → KnownUnit) → Origin → UnitNo → UnitNo → KnownUnit
with_kid known (Line n) u = known
with_kid known (Child p i d) u = put known p (record (known p) { kids = (known p).kids ++ u ∷ [] })

-- the phase after that end
abbrev pub phase_at : Ending → Phase
phase_at ending.Finished = phase.Finished
phase_at ending.Refused = phase.Refused
phase_at ending.Ended = phase.Ended

-- a unit that is over: what it was stays known
abbrev pub known_over : OverUnit → KnownUnit
known_over x = record (known_running x.gone.value) { phase = phase_at x.ending; verdict = x.verdict; result = x.result }

-- a unit whose result has gone: what it was stays known
abbrev pub known_past : PastUnit → KnownUnit
known_past x = record (known_over x.gone.value) { phase = phase_at x.ending; verdict = x.verdict }

-- what the entry stands for
abbrev pub known_entry : UnitEntry → KnownUnit
known_entry (entry.Running unit) = known_running unit.value
known_entry (entry.Over unit) = known_over unit

-- the outcome of a unit that is over, once it is decided for good
abbrev pub outcome_over : OverUnit → Option Outcome
outcome_over x = outcome_in (phase_at x.ending) x.verdict x.result

-- the outcome of a unit whose result has gone, once it is decided for good
abbrev pub outcome_past : PastUnit → Option Outcome
outcome_past x = outcome_in (phase_at x.ending) x.verdict x.gone.value.result

-- a unit's outcome, once it is decided for good
abbrev pub entry_outcome : UnitEntry → Option Outcome
entry_outcome x = outcome_in (known_entry x).phase (known_entry x).verdict (known_entry x).result

-- a running unit has room for one more child
abbrev pub HasKidRoom : UnitEntry → Type 0
HasKidRoom (entry.Running unit) = vec_len unit.value.kids < vec_capacity unit.value.kids
HasKidRoom (entry.Over unit) = ⊥

-- a running unit has room for one more read, and for one more dependency
abbrev pub HasReadRoom : UnitEntry → Type 0
HasReadRoom (entry.Running unit) = (vec_len unit.value.reads < vec_capacity unit.value.reads) × (0 < unit.value.deps.spare)
HasReadRoom (entry.Over unit) = ⊥

-- a unit without children, reads and dependencies
pub record IsBlank (x : RunningUnit) : Type 0 where
  pub kids : x.kids.items ≡ []
  pub reads : x.reads.items ≡ []
  pub deps : x.deps.sources ≡ []
