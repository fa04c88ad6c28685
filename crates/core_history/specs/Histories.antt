-- Histories: the events that applied, with their replies, oldest first.
use Rattle.std.specs.Prelude.{◌≡◌, ◌⊎◌, List, [], ◌∷◌, if◌then◌else◌}
use Rattle.core_model.specs.declared.events.CoreReply.{CoreReply}
use Rattle.core_model.specs.CoreState.{CoreState}
use Rattle.core_model.specs.declared.events.CoreEvent.{CoreEvent}
use Rattle.core_model.specs.Events.{applies, reply_to, step}
use Rattle.core_model.specs.LegalRuns.{Run, begins}

-- an event that applied, and its reply
pub record Applied : Type 0 where
  pub event : CoreEvent
  pub reply : CoreReply

-- the event stands before these, where it applies
abbrev pub with_event : CoreState → CoreEvent → List Applied → List Applied
with_event w e later = if applies w e then record { event = e; reply = reply_to w e } ∷ later else later

-- those of these events that apply
abbrev pub history_from : CoreState → List CoreEvent → List Applied
history_from w [] = []
history_from w (e ∷ events) = with_event w e (history_from (step w e) events)

-- the history of a run
abbrev pub history_of : Run → List Applied
history_of r = history_from (begins r) r.events

-- the event is in the history
abbrev pub Happened : List Applied → CoreEvent → Type 0
Happened [] e = ⊥
Happened (a ∷ h) e = (e ≡ a.event) ⊎ Happened h e
