-- What the calls of these tests say.
use Rattle.std.proofs.Common.{◌≡◌, Bool, true, false, refl, sym, ◌∙◌}
use Rattle.std.specs.Prelude.{◌&&◌}
use Rattle.core_model.specs.declared.events.CoreEvent.{CoreEvent}
use Rattle.core_access.specs.Sights.{Sight, Looks}
use Rattle.core_access.proofs.Sights.{looks-on}

-- with what is true, a test is as it is
and-true : (b : Bool) → (b && true) ≡ b
and-true true = refl
and-true false = refl

-- so where both aren't true it isn't
pub not-both : (b : Bool) → (b && true) ≡ false → b ≡ false
not-both b e = sym (and-true b) ∙ e

-- two looks are one
pub looked-back : (may : CoreEvent → Bool) (s t u : Sight) → Looks may s t → Looks may t u → Looks may s u
looked-back may s t u a b = looks-on may s t u a b
