-- How `compact` and `migrate` end, and what a call of each shows.
use Rattle.std.specs.Prelude.{ℕ, List, Result, Ok, Err, false}
use Rattle.host_trait.specs.declared.channels.Channel.{Channel}
use Rattle.host_trait.specs.World.{World}
use Rattle.promise_spec.specs.Words.{Manner}
use Rattle.promise_spec.specs.Courses.{Observed}
use Rattle.promise_spec.specs.Endings as ending
use Rattle.silo_opening.specs.declared.faults.OpenFault.{OpenFault}
use Rattle.silo_opening.specs.OpenedSilo.{ending_of}
use Rattle.checkpoint.specs.declared.faults.MigrateFault.{MigrateFault}

-- how `compact` ends with this answer
abbrev pub compact_ending : {A : Type 0} → Result A OpenFault → ending.Ending
compact_ending (Ok made) = ending.Done
compact_ending (Err fault) = ending_of fault

-- what a call shows that ended with this answer
abbrev pub compacted_as : {A : Type 0} → Manner → List (List ℕ) → World → World → (Channel → ℕ) → (Channel → ℕ) → Result A OpenFault → Observed
compacted_as manner asked old new before after result =
    record { manner = manner; asked = asked; windowed = false; old = old; new = new; faults_before = before; faults_after = after; ending = compact_ending result }

-- how `migrate` ends with this answer
abbrev pub migrate_ending : {A : Type 0} → Result A MigrateFault → ending.Ending
migrate_ending (Ok made) = ending.Done
migrate_ending (Err (MigrateFault.Open fault)) = ending_of fault
migrate_ending (Err MigrateFault.NotOld) = ending.NotOld

-- and what a call of it shows
abbrev pub migrated_as : {A : Type 0} → Manner → List (List ℕ) → World → World → (Channel → ℕ) → (Channel → ℕ) → Result A MigrateFault → Observed
migrated_as manner asked old new before after result =
    record { manner = manner; asked = asked; windowed = false; old = old; new = new; faults_before = before; faults_after = after; ending = migrate_ending result }
