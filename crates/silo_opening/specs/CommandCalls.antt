-- What a command leaves of the host that it calls.
use Rattle.std.specs.Prelude.{ℕ, Bool}
use Rattle.host_trait.specs.declared.channels.Channel.{Channel}
use Rattle.host_trait.specs.declared.channels.FileId.{FileId}
use Rattle.host_trait.specs.Files.{StaysReady}
use Rattle.promise_spec.specs.Endings.{Ending, HasFailedAs}

-- A command, or a part of one, that ends so: exactly the call that the ending names has failed, and each file that was ready is.
pub record HasCalledAs {Host : Type 0} (ending : Ending) (is_ready : Host → FileId → Bool) (faults : Host → Channel → ℕ) (old new : Host) : Type 0 where
  pub exact : HasFailedAs ending (faults old) (faults new)
  pub ready : StaysReady (is_ready old) (is_ready new)
