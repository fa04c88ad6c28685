-- How calls on a file end: as they were told to, or for what was refused.
use Rattle.std.proofs.Common.{◌≡◌, Bool, true, false, IsTrue, Result, Err, is_ok, refl, sym, ◌∙◌, ap}
use Rattle.system_calls.specs.Answers.{AnswerCounts}
use Rattle.host_files.specs.UnfailingCalls.{WentWell, WasObeyed, EndsFairly, EndsOnFile}

-- it succeeded, and no call was refused
pub ended_well : (tells is_lost : Bool) (old new : AnswerCounts) (unhindered : Type 0) → is_lost ≡ false → (IsTrue tells → WasObeyed old new) → EndsOnFile tells is_lost true old new unhindered
ended_well tells is_lost old new unhindered believed calm = record {
  lost = λ lost. absurd (let both : true ≡ false = sym lost ∙ believed in cc both);
  calm = λ told ok. calm told;
  fine = λ told well un. refl;
}

-- it failed, and something stood in its way
pub ended_ill : (tells is_lost ok : Bool) (old new : AnswerCounts) (unhindered : Type 0) → ok ≡ false → (IsTrue tells → WentWell old new → unhindered → ⊥) → EndsOnFile tells is_lost ok old new unhindered
ended_ill tells is_lost ok old new unhindered failed hindered = record {
  lost = λ lost. failed;
  calm = λ told is. absurd (let both : true ≡ false = sym is ∙ failed in cc both);
  fine = λ told well un. absurd (hindered told well un);
}

-- a call that asks the system failed, and something stood in its way
pub failed_fairly : (ok : Bool) (old new : AnswerCounts) (unhindered : Type 0) → ok ≡ false → (WentWell old new → unhindered → ⊥) → new.has_lost_entries ≡ old.has_lost_entries → EndsFairly ok old new unhindered
failed_fairly ok old new unhindered failed hindered known = record {
  calm = λ is. absurd (let both : true ≡ false = sym is ∙ failed in cc both);
  fine = λ well un. absurd (hindered well un);
  known = known;
}

-- no call that failed was to succeed
pub no_failure : {T E : Type 0} (r : Result T E) (e : E) → is_ok r ≡ true → r ≡ Err e → ⊥
no_failure r e ok was = let both : true ≡ false = sym ok ∙ ap is_ok was in cc both
