-- What no call of an access changes.
use Rattle.std.specs.Prelude.{◌≡◌}

-- It may still be used, and what it has besides is as it was.
pub record StaysFit (is_fit : Type 0) {Aside : Type 0} (old new : Aside) : Type 0 where
  pub fit : is_fit
  pub aside : new ≡ old
