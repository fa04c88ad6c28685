-- What is known of a core in a turn cell by the one who has a pass.
use Rattle.std.specs.Prelude.{Bool, true}
use Rattle.core_model.specs.declared.events.CoreEvent.{CoreEvent}
use Rattle.core_model.specs.declared.events.CoreReply.{CoreReply}
use Rattle.core_model.specs.LegalRuns.{Run}
use Rattle.turn_cell.specs.declared.view.View.{View}
use Rattle.core_access.specs.Sights.{Sight}

-- what a pass has seen and done, where an object's meaning is a run
abbrev pub sight_of : {T : Type 0} → (T → Run) → View T CoreEvent CoreReply → Sight
sight_of state v = record { first = state v.first; number = v.hand.number; seen = v.seen; mine = v.hand.mine }

-- any event may come from others
abbrev pub all_come : CoreEvent → Bool
all_come e = true
