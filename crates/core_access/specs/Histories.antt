-- A history of the core: its events, each with the number of who put it and with the core's reply.
use Rattle.std.specs.Prelude.{List, [], ◌∷◌}
use Rattle.core_model.specs.declared.events.CoreEvent.{CoreEvent}
use Rattle.core_model.specs.declared.events.CoreReply.{CoreReply}
use Rattle.core_model.specs.Events.{reply_to}
use Rattle.core_model.specs.LegalRuns.{Run, ends}
use Rattle.core_model.specs.Laws.{extended}
use Rattle.turn_cell.specs.declared.view.Entry.{Entry}
use Rattle.turn_cell.specs.History.{leaves, IsLegal}

-- an event that was put into the core, with the number of who put it and the reply
abbrev pub Told : Type 0
Told = Entry CoreEvent CoreReply

-- what the core replies behind a run
abbrev pub reply_in : Run → CoreEvent → CoreReply
reply_in r e = reply_to (ends r) e

-- the run after a history
abbrev pub run_after : Run → List Told → Run
run_after = leaves (λ r e. extended r (e ∷ [])) reply_in

-- each reply of the history is the core's
abbrev pub IsTrue : Run → List Told → Type 0
IsTrue = IsLegal (λ r e. extended r (e ∷ [])) reply_in
