-- What the system has answered so far, as far as it tells whether a call was refused.
use Rattle.std.specs.Prelude.{◌≡◌, ◌≢◌, ◌<◌, ℕ, ◌+◌, Bool, false, Result, Ok, Err}
use Rattle.system_calls.specs.declared.refusal.Refused.{Refused}
use Rattle.system_calls.specs.declared.refusal.Refused.TheVariants.{Interrupted}

-- A number that each refused call changes and no other call does, as their count is; how often a call that moves bytes was
-- interrupted; how often a handle of the folder got the number of a standard stream; and whether a sync of the folder was refused.
pub record AnswerCounts : Type 0 where
  pub refusals : ℕ
  pub interruptions : ℕ
  pub stand_ins : ℕ
  pub has_lost_entries : Bool

-- A call was refused for good. This is known of syncs of the folder then.
pub record WasRefused (lost : Bool) (old new : AnswerCounts) : Type 0 where
  pub changed : new.refusals ≢ old.refusals
  pub interruptions : new.interruptions ≡ old.interruptions
  pub stand_ins : new.stand_ins ≡ old.stand_ins
  pub entries : new.has_lost_entries ≡ lost

-- a call that was interrupted, which is no refusal
abbrev pub interrupted_once : AnswerCounts → AnswerCounts
interrupted_once old = record { refusals = old.refusals; interruptions = old.interruptions + 1; stand_ins = old.stand_ins; has_lost_entries = old.has_lost_entries }

-- a handle of the folder that got the number of a standard stream
abbrev pub stood_in_once : AnswerCounts → AnswerCounts
stood_in_once old = record { refusals = old.refusals; interruptions = old.interruptions; stand_ins = old.stand_ins + 1; has_lost_entries = old.has_lost_entries }

-- a call that does what it is asked for, or is refused
abbrev pub DoesOrRefuses : {T : Type 0} → Result T Refused → AnswerCounts → AnswerCounts → Type 0
DoesOrRefuses (Ok value) old new = new ≡ old
DoesOrRefuses (Err error) old new = WasRefused old.has_lost_entries old new

-- A call that moves bytes and failed: it was interrupted, which changes one count, or refused for good.
pub record PausesOrRefuses (error : Refused) (old new : AnswerCounts) : Type 0 where
  pub paused : error ≡ Interrupted → new ≡ interrupted_once old
  pub refused : error ≢ Interrupted → WasRefused old.has_lost_entries old new

-- a call that takes bytes, is interrupted, or is refused
abbrev pub TakesOrFails : {T : Type 0} → Result T Refused → AnswerCounts → AnswerCounts → Type 0
TakesOrFails (Ok taken) old new = new ≡ old
TakesOrFails (Err error) old new = PausesOrRefuses error old new

-- A call that gave away n bytes of so many, from this place on: to give none of some is a refusal.
pub record GivesSome (n from size : ℕ) (old new : AnswerCounts) : Type 0 where
  pub moved : (n ≡ 0 → size ≡ from) → new ≡ old
  pub stuck : n ≡ 0 → from < size → WasRefused old.has_lost_entries old new

-- a call that gives some of so many bytes away, from this place on, is interrupted, or is refused
abbrev pub GivesOrFails : ℕ → ℕ → Result ℕ Refused → AnswerCounts → AnswerCounts → Type 0
GivesOrFails from size (Ok n) old new = GivesSome n from size old new
GivesOrFails from size (Err error) old new = PausesOrRefuses error old new

-- what a system answers that tells nothing
abbrev pub nothing_answered : AnswerCounts
nothing_answered = record { refusals = 0; interruptions = 0; stand_ins = 0; has_lost_entries = false }
