-- How `upgrade` ends, and what a call of it shows.
use Rattle.std.specs.Prelude.{ℕ, List, Option, Some, None, Result, Ok, Err, false}
use Rattle.host_trait.specs.declared.channels.Channel.{Channel}
use Rattle.host_trait.specs.World.{World}
use Rattle.program_file.specs.declared.faults.ProgramFault.{ProgramFault}
use Rattle.promise_spec.specs.Words.{Manner}
use Rattle.promise_spec.specs.Courses.{Observed}
use Rattle.promise_spec.specs.Endings as ending
use Rattle.silo_opening.specs.declared.input.InputFault.{InputFault}
use Rattle.silo_opening.specs.OpenedSilo as opening
use Rattle.silo_upgrade.specs.declared.faults.UpgradeEnd.{UpgradeEnd}

-- for an input that wasn't read
abbrev pub input_end : InputFault → UpgradeEnd
input_end InputFault.Memory = UpgradeEnd.Memory
input_end InputFault.Failed = UpgradeEnd.ReadFault
input_end InputFault.TooLong = UpgradeEnd.InputTooLong

-- for a text that is no program, where a place is named
abbrev pub program_end : ProgramFault → Option ℕ → UpgradeEnd
program_end fault (Some place) = UpgradeEnd.BadProgram fault
program_end fault None = UpgradeEnd.Memory

-- how the command ends then
abbrev pub ending_for : UpgradeEnd → ending.Ending
ending_for UpgradeEnd.ReadFault = ending.ReadFault
ending_for UpgradeEnd.InputTooLong = ending.InputTooLong 0
ending_for (UpgradeEnd.BadProgram fault) = ending.BadProgram fault
ending_for (UpgradeEnd.Unopened fault) = opening.ending_of fault
ending_for (UpgradeEnd.Refused at) = ending.UpgradeRefused at
ending_for (UpgradeEnd.DiskFault file) = ending.DiskFault file
ending_for UpgradeEnd.Memory = ending.Memory

-- how it ends with this answer
abbrev pub upgrade_ending : {A : Type 0} → Result A UpgradeEnd → ending.Ending
upgrade_ending (Ok made) = ending.Done
upgrade_ending (Err end) = ending_for end

-- what a call shows that ended so
abbrev pub ended_so : Manner → List (List ℕ) → World → World → (Channel → ℕ) → (Channel → ℕ) → ending.Ending → Observed
ended_so manner asked old new before after end =
    record { manner = manner; asked = asked; windowed = false; old = old; new = new; faults_before = before; faults_after = after; ending = end }

-- and one that ended with this answer
abbrev pub upgraded_as : {A : Type 0} → Manner → List (List ℕ) → World → World → (Channel → ℕ) → (Channel → ℕ) → Result A UpgradeEnd → Observed
upgraded_as manner asked old new before after result = ended_so manner asked old new before after (upgrade_ending result)
