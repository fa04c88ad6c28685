-- What is known of a core by the one who has it alone: all of its events, each put by itself.
use Rattle.std.specs.Prelude.{List, [], ◌∷◌, Bool, false}
use Rattle.core_model.specs.declared.events.CoreEvent.{CoreEvent}
use Rattle.core_model.specs.LegalRuns.{Run}
use Rattle.core_model.specs.Laws.{extended}
use Rattle.turn_cell.specs.History.{entry}
use Rattle.core_access.specs.Histories.{Told, reply_in}
use Rattle.core_access.specs.Sights.{Sight}

-- these events behind a run, each with the core's reply
abbrev pub answered : Run → List CoreEvent → List Told
answered r [] = []
answered r (e ∷ es) = entry [] e (reply_in r e) ∷ answered (extended r (e ∷ [])) es

-- the run before its events
abbrev pub opened : Run → Run
opened r = record r { events = [] }

-- what is known of a run by the one who put all of it
abbrev pub own_sight : Run → Sight
own_sight r = record { first = opened r; number = []; seen = answered (opened r) r.events; mine = answered (opened r) r.events }

-- no event comes from anybody else
abbrev pub none_comes : CoreEvent → Bool
none_comes e = false
