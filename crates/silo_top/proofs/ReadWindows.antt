-- What reading a window tells.
use Rattle.std.proofs.Common.{◌≡◌, ℕ, Bool, false, List, subst}
use Rattle.host_trait.specs.declared.channels.Channel.{Channel}
use Rattle.host_trait.specs.World.{World}
use Rattle.input_windows.specs.GivenWindows.{AreWhole, GivenTo, HasGiven, input_ending}
use Rattle.input_windows.specs.Windows.{is_last_in, PullFaulted}
use Rattle.input_windows.specs.declared.windows.InputWindows.{InputWindows}
use Rattle.input_windows.specs.declared.windows.WindowFault.{WindowFault}
use Rattle.promise_spec.specs.Endings.{HasFailedAs}

-- behind a window that isn't the last, all so far are whole
pub not_last : (tells : Bool) (input : List ℕ) (asked : List (List ℕ)) (w : InputWindows) (now : World) (g : HasGiven tells input asked w now) → is_last_in w ≡ false → AreWhole g.given asked
not_last tells input asked w now g not = subst (λ (last : Bool). GivenTo last tells g.given asked w now) not g.ends

-- what failed is what the ending names
pub failed_so : (old new : Channel → ℕ) (fault : WindowFault) → PullFaulted fault old new → HasFailedAs (input_ending fault) old new
failed_so old new WindowFault.Memory f = f
failed_so old new WindowFault.Failed f = f
failed_so old new (WindowFault.TooLong line) f = f
