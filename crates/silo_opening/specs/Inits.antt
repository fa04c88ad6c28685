-- How a call of `init` is seen.
use Rattle.std.specs.Prelude.{ℕ, List, Option, Some, None, Result, Ok, Err, false}
use Rattle.host_trait.specs.declared.channels.Channel.{Channel}
use Rattle.host_trait.specs.World.{World}
use Rattle.program_file.specs.declared.faults.ProgramFault.{ProgramFault}
use Rattle.promise_spec.specs.Words.{Manner}
use Rattle.promise_spec.specs.Courses.{Observed}
use Rattle.promise_spec.specs.Endings as ending
use Rattle.silo_opening.specs.declared.faults.CreateFault.{CreateFault}
use Rattle.silo_opening.specs.declared.input.InputFault.{InputFault}
use Rattle.silo_opening.specs.declared.silo_init.InitFault.{InitFault}

-- the fault of an input that wasn't read
abbrev pub in_input : InputFault → InitFault
in_input InputFault.Memory = InitFault.Memory
in_input InputFault.Failed = InitFault.ReadFault
in_input InputFault.TooLong = InitFault.InputTooLong

-- the fault of a text that is no program, where a place is named
abbrev pub in_program : ProgramFault → Option ℕ → InitFault
in_program fault (Some place) = InitFault.BadProgram fault
in_program fault None = InitFault.Memory

-- the fault of a silo that wasn't made
abbrev pub in_creation : CreateFault → InitFault
in_creation CreateFault.AlreadyASilo = InitFault.AlreadyASilo
in_creation (CreateFault.DiskFault file) = InitFault.DiskFault file

-- how `init` ends with this answer
abbrev pub ending_of : {A : Type 0} → Result A InitFault → ending.Ending
ending_of (Ok made) = ending.Done
ending_of (Err InitFault.ReadFault) = ending.ReadFault
ending_of (Err InitFault.InputTooLong) = ending.InputTooLong 0
ending_of (Err (InitFault.BadProgram fault)) = ending.BadProgram fault
ending_of (Err InitFault.AlreadyASilo) = ending.AlreadyASilo
ending_of (Err (InitFault.DiskFault file)) = ending.DiskFault file
ending_of (Err InitFault.Memory) = ending.Memory

-- what a call shows that ended with this answer
abbrev pub ended_with : {A : Type 0} → Manner → List (List ℕ) → World → World → (Channel → ℕ) → (Channel → ℕ) → Result A InitFault → Observed
ended_with manner asked old new before after result =
    record { manner = manner; asked = asked; windowed = false; old = old; new = new; faults_before = before; faults_after = after; ending = ending_of result }
