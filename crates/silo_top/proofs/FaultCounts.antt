-- What the counts of faults say of an answer.
use Rattle.std.proofs.Common.{◌≡◌, ◌≢◌, ℕ, refl, sym, subst}
use Rattle.host_trait.specs.declared.channels.Channel.{Channel}
use Rattle.host_trait.specs.declared.channels.Channel.TheVariants.{Input, Output, File}
use Rattle.host_trait.specs.declared.channels.FileId.{FileId}
use Rattle.host_trait.specs.Faults.{NoneFailed}
use Rattle.promise_spec.specs.Endings.{Ending, Done, BadUse, Memory, ReadFault, WriteFault, DiskFault, NotASilo, AlreadyASilo, Damaged, BadProgram, InputTooLong, LastGeneration, UpgradeRefused, OldFormat, NotOld, HasRisen, HasFailedAs}
use Rattle.silo_opening.specs.Counts.{OpenFaulted}
use Rattle.silo_opening.specs.OpenedSilo.{ending_of}
use Rattle.silo_opening.specs.declared.faults.OpenFault.{OpenFault}
use Rattle.silo_top.specs.CallAnswers.{AnswersRun}

abbrev Counts : Type 0
Counts = Channel → ℕ

-- the input is no file, and the output neither
input_is_no_file : (file : FileId) → Input ≢ File file
input_is_no_file file e = cc e

output_is_no_file : (file : FileId) → Output ≢ File file
output_is_no_file file e = cc e

input_is_no_output : Input ≢ Output
input_is_no_output e = cc e

module _ (old new : Counts) where
  -- a fault that the ending names exactly is shown by its count
  pub failed_risen : (e : Ending) → HasFailedAs e old new → HasRisen e old new
  failed_risen Done f = tt
  failed_risen BadUse f = tt
  failed_risen Memory f = tt
  failed_risen ReadFault f = f.rose
  failed_risen WriteFault f = f.rose
  failed_risen (DiskFault file) f = f.rose
  failed_risen NotASilo f = tt
  failed_risen AlreadyASilo f = tt
  failed_risen (Damaged file place) f = tt
  failed_risen (BadProgram fault) f = tt
  failed_risen LastGeneration f = tt
  failed_risen (UpgradeRefused at) f = tt
  failed_risen OldFormat f = tt
  failed_risen NotOld f = tt
  failed_risen (InputTooLong line) f = tt

  -- a failed call on the input is named
  pub failed_input : (e : Ending) → HasFailedAs e old new → new Input ≢ old Input → e ≡ ReadFault
  failed_input Done f other = absurd (other (f Input))
  failed_input BadUse f other = absurd (other (f Input))
  failed_input Memory f other = absurd (other (f Input))
  failed_input ReadFault f other = refl
  failed_input WriteFault f other = absurd (other (f.counts.others Input input_is_no_output))
  failed_input (DiskFault file) f other = absurd (other (f.counts.others Input (input_is_no_file file)))
  failed_input NotASilo f other = absurd (other (f Input))
  failed_input AlreadyASilo f other = absurd (other (f Input))
  failed_input (Damaged file place) f other = absurd (other (f Input))
  failed_input (BadProgram fault) f other = absurd (other (f Input))
  failed_input LastGeneration f other = absurd (other (f Input))
  failed_input (UpgradeRefused at) f other = absurd (other (f Input))
  failed_input OldFormat f other = absurd (other (f Input))
  failed_input NotOld f other = absurd (other (f Input))
  failed_input (InputTooLong line) f other = absurd (other (f Input))

  -- and so is one on the output
  pub failed_output : (e : Ending) → HasFailedAs e old new → new Output ≢ old Output → e ≡ WriteFault
  failed_output Done f other = absurd (other (f Output))
  failed_output BadUse f other = absurd (other (f Output))
  failed_output Memory f other = absurd (other (f Output))
  failed_output ReadFault f other = absurd (other (f.counts.others Output (λ e. input_is_no_output (sym e))))
  failed_output WriteFault f other = refl
  failed_output (DiskFault file) f other = absurd (other (f.counts.others Output (output_is_no_file file)))
  failed_output NotASilo f other = absurd (other (f Output))
  failed_output AlreadyASilo f other = absurd (other (f Output))
  failed_output (Damaged file place) f other = absurd (other (f Output))
  failed_output (BadProgram fault) f other = absurd (other (f Output))
  failed_output LastGeneration f other = absurd (other (f Output))
  failed_output (UpgradeRefused at) f other = absurd (other (f Output))
  failed_output OldFormat f other = absurd (other (f Output))
  failed_output NotOld f other = absurd (other (f Output))
  failed_output (InputTooLong line) f other = absurd (other (f Output))

  -- so a run that names exactly the call that failed answers as a run does
  pub exactly_answers : (may : Ending → Type 0) (e : Ending) → e ≢ BadUse → HasFailedAs e old new → AnswersRun may e old new
  exactly_answers may e good f = record {
    good = good;
    risen = failed_risen e f;
    input = failed_input e f;
    output = failed_output e f;
    exact = λ unbegun. f;
  }

  -- a folder that wasn't opened
  pub open_failed : (e : OpenFault) → OpenFaulted e old new → HasFailedAs (ending_of e) old new
  open_failed OpenFault.NotASilo f = f
  open_failed OpenFault.OldFormat f = f
  open_failed (OpenFault.Damaged file place) f = f
  open_failed (OpenFault.DiskFault file) f = f
  open_failed OpenFault.LastGeneration f = f
  open_failed OpenFault.Memory f = f

  pub open_good : (e : OpenFault) → ending_of e ≢ BadUse
  open_good OpenFault.NotASilo q = cc q
  open_good OpenFault.OldFormat q = cc q
  open_good (OpenFault.Damaged file place) q = cc q
  open_good (OpenFault.DiskFault file) q = cc q
  open_good OpenFault.LastGeneration q = cc q
  open_good OpenFault.Memory q = cc q

-- where nothing failed before
pub answers_behind : (may : Ending → Type 0) (e : Ending) (old mid new : Counts) → NoneFailed old mid → AnswersRun may e mid new → AnswersRun may e old new
answers_behind may e old mid new none a = subst (λ (f : Counts). AnswersRun may e f new) (λ i c. none c i) a
