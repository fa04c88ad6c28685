-- What the calls of these tests leave.
use Rattle.std.specs.Prelude.{◌+◌, Bool}
use Rattle.base_types.specs.declared.entries.BadRequest.TheVariants.{Json}
use Rattle.core_model.specs.declared.events.CoreEvent.{CoreEvent}
use Rattle.core_model.specs.declared.events.CoreEvent.TheVariants.{Bad}
use Rattle.core_model.specs.declared.events.CoreReply.{CoreReply}
use Rattle.core_model.specs.LegalRuns.{ends}
use Rattle.core_access.specs.Sights.{Sight, run_seen, Looks, Tells}

-- One look showed the next line's number, and then that line was put as a bad one.
pub record SpoilsNext (may_come : CoreEvent → Bool) (s : Sight) (r : CoreReply) (t : Sight) : Type 0 where
  pub looked : Sight
  pub look : Looks may_come s looked
  pub put : Tells may_come looked (Bad ((ends (run_seen looked)).units.lines + 1) Json) r t
