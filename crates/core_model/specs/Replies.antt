-- Replies, and what only grows.
use Rattle.std.specs.Prelude.{Bool, true, false}
use Rattle.base_types.specs.Lists.{IsPrefix}
use Rattle.core_model.specs.declared.events.CoreReply.{CoreReply}
use Rattle.core_model.specs.declared.events.CoreReply.TheVariants as reply
use Rattle.core_model.specs.CoreState.{CoreState}

-- the event didn't apply
abbrev pub says_no : CoreReply → Bool
says_no reply.Unapplied = true
says_no (reply.NotGranted ask) = true
says_no (reply.Doomed source) = true
says_no reply.NotActive = true
says_no reply.NotLoaded = true
says_no reply.Done = false
says_no (reply.Began unit) = false
says_no (reply.Granted state source) = false
says_no (reply.Taken batch) = false
says_no (reply.Decided commits) = false

-- The finish order, the closed batches and the settled list only grow at their end.
pub record OnlyExtends (w later : CoreState) : Type 0 where
  pub order : IsPrefix w.manager.order later.manager.order
  pub past : IsPrefix w.manager.past later.manager.past
  pub settled : IsPrefix w.manager.settled later.manager.settled
