-- What pulls do to a host.
use Rattle.std.specs.Prelude.{◌≡◌, ℕ, Bool, IsTrue, List, ◌++◌}
use Rattle.host_trait.specs.World.{World, Passes, moment_of}

-- the input alone was pulled: nothing was written or synced, and each moment shows what the old world shows
pub record PulledOnly (old new : World) : Type 0 where
  pub output : new.output ≡ old.output
  pub disk : new.disk ≡ old.disk
  pub syncs : new.syncs ≡ old.syncs
  pub moments : Passes (λ m. m ≡ moment_of old) old.past new.past

-- some bytes were pulled, the next ones of a host that tells, and with those that were left before they make up these
pub record Took (tells : Bool) (old new : World) (left now : List ℕ) : Type 0 where
  pub bytes : List ℕ
  pub input : IsTrue tells → old.input ≡ bytes ++ new.input
  pub stand : now ≡ left ++ bytes
