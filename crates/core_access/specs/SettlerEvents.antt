-- Which events are the settler's, and what all others leave.
use Rattle.std.specs.Prelude.{◌≡◌, Bool, true, false, not}
use Rattle.core_model.specs.declared.events.CoreEvent.{CoreEvent}
use Rattle.core_model.specs.declared.events.CoreEvent.TheVariants.{Take, Vote, Decide, Sealed, NotSealed, Doubt, Learn, Emitted, Bad, Begin, Grant, Refuse, Finish, EndPlain, EndSnapshot, Release, Halt, Want, Load}
use Rattle.core_model.specs.CoreState.{CoreState}

-- an event of the settler's
abbrev pub is_settling : CoreEvent → Bool
is_settling Take = true
is_settling (Vote n g kept) = true
is_settling (Decide n) = true
is_settling (Sealed n) = true
is_settling (NotSealed n) = true
is_settling (Doubt n) = true
is_settling (Learn u g) = true
is_settling Emitted = true
is_settling (Bad line why) = false
is_settling (Begin origin call plain) = false
is_settling (Grant v g mode) = false
is_settling (Refuse v g mode) = false
is_settling (Finish v effect) = false
is_settling (EndPlain v effect) = false
is_settling (EndSnapshot v at outcome) = false
is_settling (Release v g) = false
is_settling Halt = false
is_settling (Want v g) = false
is_settling (Load g v state) = true

-- the event is harmless to the settler
abbrev pub leaves_settling : CoreEvent → Bool
leaves_settling e = not (is_settling e)

-- The batches, the doubt and how much is written are as before.
pub record LeavesBatches (w w' : CoreState) : Type 0 where
  pub batches : w'.manager.batches ≡ w.manager.batches
  pub batch : w'.manager.batch ≡ w.manager.batch
  pub past : w'.manager.past ≡ w.manager.past
  pub closed : w'.manager.closed ≡ w.manager.closed
  pub doubt : w'.manager.doubt ≡ w.manager.doubt
  pub emitted : w'.manager.emitted ≡ w.manager.emitted
