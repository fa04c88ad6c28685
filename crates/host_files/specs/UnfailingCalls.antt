-- When a call of the folder can't fail: the system refuses nothing in it, and nothing that is known of the file or of the folder stands
-- in its way.
use Rattle.std.specs.Prelude.{◌≡◌, ◌<◌, ◌≤◌, ◌+◌, ◌^◌, ℕ, Bool, false, IsTrue, List, length}
use Rattle.system_calls.specs.Answers.{AnswerCounts}

-- Of the calls so far none was refused, fewer than 2 ^ 63 were interrupted, and not each of four handles of the folder in a row got the
-- number of a standard stream.
pub record WentWell (old new : AnswerCounts) : Type 0 where
  pub unrefused : new.refusals ≡ old.refusals
  pub patient : new.interruptions < old.interruptions + 2 ^ 63
  pub numbered : new.stand_ins < old.stand_ins + 4

-- No call was refused, whatever was interrupted and whichever numbers were given.
pub record WasObeyed (old new : AnswerCounts) : Type 0 where
  pub unrefused : new.refusals ≡ old.refusals
  pub later : old.interruptions ≤ new.interruptions
  pub stood : old.stand_ins ≤ new.stand_ins

-- No sync of the file has failed, nothing but a regular file stands under its name, and where it was seen to have bytes it has some.
pub record IsInPlace (is_lost had_bytes is_regular : Bool) (seen : List ℕ) : Type 0 where
  pub believed : is_lost ≡ false
  pub regular : IsTrue is_regular
  pub there : IsTrue had_bytes → 0 < length seen

-- How a call that asks the system ends: where it succeeds no call was refused, and it succeeds where all went well and nothing stands in
-- the way. What is known of the folder's entries stays.
pub record EndsFairly (ok : Bool) (old new : AnswerCounts) (unhindered : Type 0) : Type 0 where
  pub calm : IsTrue ok → WasObeyed old new
  pub fine : WentWell old new → unhindered → IsTrue ok
  pub known : new.has_lost_entries ≡ old.has_lost_entries

-- How a call on a file ends: it fails where a sync of the file has failed; and where the system tells, no call was refused in one that
-- succeeds, and it succeeds where all went well and nothing stands in the way.
pub record EndsOnFile (tells is_lost ok : Bool) (old new : AnswerCounts) (unhindered : Type 0) : Type 0 where
  pub lost : IsTrue is_lost → ok ≡ false
  pub calm : IsTrue tells → IsTrue ok → WasObeyed old new
  pub fine : IsTrue tells → WentWell old new → unhindered → IsTrue ok
