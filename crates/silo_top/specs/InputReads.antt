-- What reading the next window of a run's input leaves.
use Rattle.std.specs.Prelude.{ℕ, Bool, List, Result, Ok, Err}
use Rattle.host_trait.specs.declared.channels.Channel.{Channel}
use Rattle.host_trait.specs.Faults.{NoneFailed}
use Rattle.host_trait.specs.World.{World}
use Rattle.input_windows.specs.declared.windows.InputWindows.{InputWindows}
use Rattle.input_windows.specs.GivenWindows.{HasGiven, HasNext, InputEnds}
use Rattle.promise_spec.specs.Endings.{HasFailedAs}
use Rattle.silo_top.specs.declared.status.Status.{Status}
use Rattle.silo_top.specs.Statuses.{status_ending}

-- a window came behind these lines, or none and the run ends so
abbrev pub ReadsOn : {T : Type 0} → Bool → List ℕ → List (List ℕ) → InputWindows → World → Result T Status → Type 0
ReadsOn tells input asked w now (Ok done) = HasNext tells input asked w now
ReadsOn tells input asked w now (Err status) = InputEnds tells input asked (status_ending status) now

-- whatever input it is, and whichever lines were given of it so far
abbrev pub WindowComes : {T : Type 0} → Bool → InputWindows → World → InputWindows → World → Result T Status → Type 0
WindowComes tells w now w' now' result =
    (input : List ℕ) (asked : List (List ℕ)) → HasGiven tells input asked w now → ReadsOn tells input asked w' now' result

-- no call failed where a window came; else exactly the one that the ending names
abbrev pub WindowFaulted : {T : Type 0} → Result T Status → (Channel → ℕ) → (Channel → ℕ) → Type 0
WindowFaulted (Ok done) old new = NoneFailed old new
WindowFaulted (Err status) old new = HasFailedAs (status_ending status) old new
