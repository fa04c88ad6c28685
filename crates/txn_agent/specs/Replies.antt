-- What the core's reply to one's own event says.
use Rattle.std.specs.Prelude.{◌≡◌, Bool, true, false, List, Option, Some, None}
use Rattle.core_model.specs.CoreState.{UnitNo, Value}
use Rattle.core_model.specs.declared.effects.Effect.{Effect}
use Rattle.core_model.specs.declared.events.CoreEvent.{CoreEvent}
use Rattle.core_model.specs.declared.events.CoreEvent.TheVariants as event
use Rattle.core_model.specs.declared.events.CoreReply.{CoreReply}
use Rattle.core_model.specs.declared.events.CoreReply.TheVariants as reply
use Rattle.core_access.specs.Sights.{Sight, Tells}

-- the event was done
abbrev pub is_done : CoreReply → Bool
is_done reply.Done = true
is_done _ = false

-- the unit that began
abbrev pub began_by : CoreReply → Option UnitNo
began_by (reply.Began u) = Some u
began_by _ = None

-- the state that was found under the lock, and the unit whose version it is
abbrev pub granted_by : CoreReply → Option (List Value × UnitNo)
granted_by (reply.Granted s x) = Some (s, x)
granted_by _ = None

-- the event by which a unit ends, as a plain run or a transaction
abbrev pub end_event : Bool → UnitNo → Effect → CoreEvent
end_event true u effect = event.EndPlain u effect
end_event false u effect = event.Finish u effect

-- one's own event was put, and this is what its reply says, read so
abbrev pub Says : {A : Type 0} → (CoreEvent → Bool) → Sight → CoreEvent → (CoreReply → A) → A → Sight → Type 0
Says may_come s e read said t = (y : CoreReply) × (Tells may_come s e y t) × (said ≡ read y)
