-- What one who reaches the core through an access may know of a unit, and promises of the own entries.
use Rattle.std.specs.Prelude.{◌≡◌, Bool, not}
use Rattle.base_types.specs.Lists.{Member}
use Rattle.core_model.specs.CoreState.{UnitNo}
use Rattle.core_model.specs.declared.events.CoreEvent.{CoreEvent}
use Rattle.core_model.specs.declared.events.CoreReply.TheVariants.{Began}
use Rattle.core_access.specs.Histories.{Told}
use Rattle.core_access.specs.Sights.{Sight}
use Rattle.promise_spec.specs.UnitRule.{Basis}
use Rattle.turn_rules.specs.NextEvent.{MayCome, is_own}
use Rattle.worker_rules.specs.SharedHistories.{Promised}

-- the event is harmless to the unit: it isn't one of the unit's own
abbrev pub leaves_unit : UnitNo → CoreEvent → Bool
leaves_unit u e = not (is_own u e)

-- the unit began by an entry of one's own
abbrev pub BeganHere : UnitNo → Sight → Type 0
BeganHere u s = (b : Told) × Member b s.mine × (b.reply ≡ Began u)

-- what is promised of one's own entries
abbrev pub KeepsPromise : Basis → Sight → Type 0
KeepsPromise b s = Promised (MayCome b) s.first s.number s.seen s.mine
