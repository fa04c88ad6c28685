-- What is shown to the settler for its step, and what it makes of a reply.
use Rattle.std.specs.Prelude.{◌≡◌, ◌+◌, ◌-◌, ◌^◌, min, ℕ, Bool, true, false, not, Some, slice_get}
use Rattle.core_model.specs.CoreState.{CoreState}
use Rattle.core_model.specs.declared.events.CoreEvent.{CoreEvent}
use Rattle.core_model.specs.declared.events.CoreEvent.TheVariants.{Sealed, NotSealed, Doubt, Emitted}
use Rattle.core_model.specs.declared.events.CoreReply.{CoreReply}
use Rattle.core_model.specs.Replies.{says_no}
use Rattle.core_model.specs.Settler.{Step, Votes, Decides, Seals, Learns, Writes, Loads, Takes, Rests, versions_to_write, to_commit}
use Rattle.core_model.specs.declared.questions.SettlerWork.{SettlerWork}
use Rattle.core_model.specs.declared.questions.SettlerWork.TheVariants as work
use Rattle.commit_log.specs.declared.gate.Sealing.{Sealing}
use Rattle.commit_log.specs.declared.gate.Sealing.TheVariants as sealing

-- in this state this is the settler's step, with all that it needs for it
abbrev pub ShowsWork : CoreState → Step → SettlerWork → Type 0
ShowsWork w s (work.Vote n g versions) = (s ≡ Votes n g) × (versions ≡ versions_to_write w w.manager.batch g)
ShowsWork w s (work.Decide n) = s ≡ Decides n
ShowsWork w s (work.Seal n effects) = (s ≡ Seals n) × (effects ≡ to_commit w w.manager.batch)
ShowsWork w s (work.Learn u g) = s ≡ Learns u g
ShowsWork w s (work.Write entry) = (s ≡ Writes) × (slice_get w.manager.settled w.manager.emitted ≡ Some entry)
ShowsWork w s (work.Load g) = s ≡ Loads g
ShowsWork w s work.Take = s ≡ Takes
ShowsWork w s work.Nothing = s ≡ Rests

-- what the core is told of a seal's answer
abbrev pub event_of : ℕ → Sealing → CoreEvent
event_of n (sealing.Sealed next) = Sealed n
event_of n sealing.NotSealed = NotSealed n
event_of n sealing.InDoubt = Doubt n

-- the event says that an entry is written
abbrev pub tells_entry : CoreEvent → Bool
tells_entry Emitted = true
tells_entry _ = false

-- the event says that a batch is in doubt
abbrev pub tells_doubt : CoreEvent → Bool
tells_doubt (Doubt n) = true
tells_doubt _ = false

-- the reply says that the event applied
abbrev pub has_applied : CoreReply → Bool
has_applied r = not (says_no r)

-- one more, up to the last value of a `u64`
abbrev pub counted_up : ℕ → ℕ
counted_up n = min (n + 1) (2 ^ 64 - 1)
