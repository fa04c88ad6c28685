-- The counts of faults behind an upgrade that ended early, and what the input was refused for.
use Rattle.std.proofs.Common.{◌≡◌, ℕ, ◌<◌, ◌≤◌, List, [], length, Option, Some, None, refl, subst}
use Rattle.host_trait.specs.declared.channels.Channel.{Channel}
use Rattle.host_trait.specs.Faults.{NoneFailed}
use Rattle.host_trait.specs.World.{World, Passes, moment_of}
use Rattle.program_file.specs.declared.faults.ProgramFault.{ProgramFault}
use Rattle.program_file.specs.Programs.{text_limit}
use Rattle.program_file.specs.Answers.{program_fault_place, IsFaultOf}
use Rattle.promise_spec.specs.Words.{Manner}
use Rattle.promise_spec.specs.Endings as ending
use Rattle.promise_spec.specs.Endings.{Ending, HasFailedAs}
use Rattle.promise_spec.specs.Upgrading.{RefusesInput, IsInputRefused}
use Rattle.silo_opening.specs.declared.faults.OpenFault.{OpenFault}
use Rattle.silo_opening.specs.declared.input.InputFault.{InputFault}
use Rattle.silo_opening.specs.Counts.{OpenFaulted, InputFaulted}
use Rattle.silo_opening.specs.OpenedSilo as opening
use Rattle.silo_opening.proofs.InitSteps.{untouched_so_far}
use Rattle.silo_upgrade.specs.declared.faults.UpgradeEnd.{UpgradeEnd}
use Rattle.silo_upgrade.specs.Endings.{input_end, program_end, ending_for, ended_so}

-- ---- counts

pub open_failed : (before after : Channel → ℕ) (e : OpenFault) → OpenFaulted e before after → HasFailedAs (opening.ending_of e) before after
open_failed before after OpenFault.NotASilo f = f
open_failed before after OpenFault.OldFormat f = f
open_failed before after (OpenFault.Damaged file place) f = f
open_failed before after (OpenFault.DiskFault file) f = f
open_failed before after OpenFault.LastGeneration f = f
open_failed before after OpenFault.Memory f = f

pub input_failed : (before after : Channel → ℕ) (e : InputFault) → InputFaulted e before after → HasFailedAs (ending_for (input_end e)) before after
input_failed before after InputFault.Memory f = f
input_failed before after InputFault.Failed f = f
input_failed before after InputFault.TooLong f = f

program_failed_by : (before after : Channel → ℕ) (fault : ProgramFault) (o : Option ℕ) → NoneFailed before after → HasFailedAs (ending_for (program_end fault o)) before after
program_failed_by before after fault (Some place) calm = calm
program_failed_by before after fault None calm = calm

pub program_failed : (before after : Channel → ℕ) (fault : ProgramFault) → NoneFailed before after → HasFailedAs (ending_for (program_end fault (program_fault_place fault))) before after
program_failed before after fault calm = program_failed_by before after fault (program_fault_place fault) calm

-- behind calls that didn't fail
pub calm_before : (e : Ending) (before mid after : Channel → ℕ) → NoneFailed before mid → HasFailedAs e mid after → HasFailedAs e before after
calm_before e before mid after none fails = subst (λ (f : Channel → ℕ). HasFailedAs e f after) (λ i c. none c i) fails

-- no end is called bad use
pub never_bad_use : (e : UpgradeEnd) → ending_for e ≡ ending.BadUse → ⊥
never_bad_use UpgradeEnd.ReadFault same = cc
never_bad_use UpgradeEnd.InputTooLong same = cc
never_bad_use (UpgradeEnd.BadProgram fault) same = cc
never_bad_use (UpgradeEnd.Unopened OpenFault.NotASilo) same = cc
never_bad_use (UpgradeEnd.Unopened OpenFault.OldFormat) same = cc
never_bad_use (UpgradeEnd.Unopened (OpenFault.Damaged file place)) same = cc
never_bad_use (UpgradeEnd.Unopened (OpenFault.DiskFault file)) same = cc
never_bad_use (UpgradeEnd.Unopened OpenFault.LastGeneration) same = cc
never_bad_use (UpgradeEnd.Unopened OpenFault.Memory) same = cc
never_bad_use (UpgradeEnd.Refused at) same = cc
never_bad_use (UpgradeEnd.DiskFault file) same = cc
never_bad_use UpgradeEnd.Memory same = cc

-- no end is called done
pub never_done : (e : UpgradeEnd) → ending_for e ≡ ending.Done → ⊥
never_done UpgradeEnd.ReadFault same = cc
never_done UpgradeEnd.InputTooLong same = cc
never_done (UpgradeEnd.BadProgram fault) same = cc
never_done (UpgradeEnd.Unopened OpenFault.NotASilo) same = cc
never_done (UpgradeEnd.Unopened OpenFault.OldFormat) same = cc
never_done (UpgradeEnd.Unopened (OpenFault.Damaged file place)) same = cc
never_done (UpgradeEnd.Unopened (OpenFault.DiskFault file)) same = cc
never_done (UpgradeEnd.Unopened OpenFault.LastGeneration) same = cc
never_done (UpgradeEnd.Unopened OpenFault.Memory) same = cc
never_done (UpgradeEnd.Refused at) same = cc
never_done (UpgradeEnd.DiskFault file) same = cc
never_done UpgradeEnd.Memory same = cc

-- ---- the input

module _ (manner : Manner) (asked : List (List ℕ)) (old new : World) (before after : Channel → ℕ) (disk : new.disk ≡ old.disk) (output : new.output ≡ old.output) (syncs : new.syncs ≡ old.syncs)
    (still : Passes (λ m. m ≡ moment_of old) old.past new.past) where
  refused_for : (end : UpgradeEnd) → RefusesInput (ending_for end) (ended_so manner asked old new before after (ending_for end)) → HasFailedAs (ending_for end) before after
      → IsInputRefused (ended_so manner asked old new before after (ending_for end))
  refused_for end why failed = record { untouched = untouched_so_far old new disk output still; syncs = syncs; refused = why; failed = failed }

  -- it wasn't read
  pub input_refused : (e : InputFault) → InputFaulted e before after → (e ≡ InputFault.TooLong → text_limit < length old.input)
      → IsInputRefused (ended_so manner asked old new before after (ending_for (input_end e)))
  input_refused InputFault.Memory faulted long = refused_for UpgradeEnd.Memory tt faulted
  input_refused InputFault.Failed faulted long = refused_for UpgradeEnd.ReadFault tt faulted
  input_refused InputFault.TooLong faulted long = refused_for UpgradeEnd.InputTooLong (refl, long refl) faulted

  program_by : (fault : ProgramFault) (o : Option ℕ) → new.input ≡ [] → length old.input ≤ text_limit → IsFaultOf old.input fault o → NoneFailed before after
      → IsInputRefused (ended_so manner asked old new before after (ending_for (program_end fault o)))
  program_by fault (Some place) end small is calm = refused_for (UpgradeEnd.BadProgram fault) (end, small, is) calm
  program_by fault None end small is calm = refused_for UpgradeEnd.Memory tt calm

  -- it was, and is no program
  pub program_refused : (fault : ProgramFault) → new.input ≡ [] → length old.input ≤ text_limit → IsFaultOf old.input fault (program_fault_place fault) → NoneFailed before after
      → IsInputRefused (ended_so manner asked old new before after (ending_for (program_end fault (program_fault_place fault))))
  program_refused fault end small is calm = program_by fault (program_fault_place fault) end small is calm
