-- How a run ends.
use Rattle.std.specs.Prelude.{◌⊎◌, ℕ, Bool, true, false, Option, Some, None, ⊤}
use Rattle.host_trait.specs.declared.channels.Channel.{Channel}
use Rattle.host_trait.specs.declared.channels.Channel.TheVariants.{Input, Output, File}
use Rattle.host_trait.specs.declared.channels.FileId.{FileId}
use Rattle.host_trait.specs.Faults.{Rose, NoneFailed, FailedOn}
use Rattle.promise_spec.specs.Programs.{ProgramFault}

-- All is done; the words aren't a command; there was no memory; the input, the output or a file failed; the folder is
-- no silo, or is one already, or is damaged in a file at a place; the input is no program, or is too long at a line; no generation
-- follows that of the silo; the program that is the input may not follow the one in force, for what stands at a place; the silo has the
-- old format; or, of `migrate`, it has the new one already.
pub data Ending : Type 0 where
  Done : Ending
  BadUse : Ending
  Memory : Ending
  ReadFault : Ending
  WriteFault : Ending
  DiskFault : FileId → Ending
  NotASilo : Ending
  AlreadyASilo : Ending
  Damaged : FileId → ℕ → Ending
  BadProgram : ProgramFault → Ending
  InputTooLong : ℕ → Ending
  LastGeneration : Ending
  UpgradeRefused : ℕ → Ending
  OldFormat : Ending
  NotOld : Ending

-- ---- what each ending says

-- What an ending says of a call of `run`: a call on this channel failed; it may come after the folder was opened, and after a load
-- has made its silo and opened it; each line that may begin is settled, and all that is settled has been written; a batch may be in
-- doubt; where nothing failed, as many syncs were asked for as the events need; and it may come where no count of faults rises.
pub record Says : Type 0 where
  pub failed : Option Channel
  pub opened : Bool
  pub loaded : Bool
  pub written : Bool
  pub doubt : Bool
  pub counted : Bool
  pub calm : Bool

-- what is said where the folder wasn't opened: nothing
abbrev pub unopened : Says
unopened = record {
  failed = None;
  opened = false;
  loaded = false;
  written = false;
  doubt = false;
  counted = false;
  calm = false;
}

-- the table of endings
abbrev pub says : Ending → Says
says Done = record unopened { opened = true; loaded = true; written = true; counted = true; calm = true }
says Memory = record unopened { opened = true; loaded = true; doubt = true; calm = true }
says ReadFault = record unopened { failed = Some Input; opened = true; written = true }
says WriteFault = record unopened { failed = Some Output; opened = true; loaded = true; doubt = true }
says (DiskFault file) = record unopened { failed = Some (File file); opened = true; loaded = true; doubt = true }
says (InputTooLong line) = record unopened { opened = true; written = true; counted = true; calm = true }
says _ = unopened

-- ---- the columns as facts

-- a mark of the table stands
abbrev pub IsMarked : Bool → Type 0
IsMarked true = ⊤
IsMarked false = ⊥

-- a run may end so after it has opened the folder
abbrev pub IsCarried : Ending → Type 0
IsCarried ending = IsMarked (says ending).opened

-- a load may end so after it has opened the silo that it made: as a run, but for what comes of an input
abbrev pub IsLoadCarried : Ending → Type 0
IsLoadCarried ending = IsMarked (says ending).loaded

-- no version stands any more where one stood at the opening
abbrev pub IsDamage : Ending → Type 0
IsDamage (Damaged file place) = ⊤
IsDamage _ = ⊥

-- a run may end so over any host though it has gone on behind a file's fault: over one that tells what it holds it is carried then
abbrev pub MayEndRun : Ending → Type 0
MayEndRun ending = IsCarried ending ⊎ IsDamage ending

-- and a load
abbrev pub MayEndLoad : Ending → Type 0
MayEndLoad ending = IsLoadCarried ending ⊎ IsDamage ending

-- each line that may begin is settled, and all that is settled has been written
abbrev pub IsAllWritten : Ending → Type 0
IsAllWritten ending = IsMarked (says ending).written

-- a run may end so with a batch in doubt
abbrev pub EndingMayDoubt : Ending → Type 0
EndingMayDoubt ending = IsMarked (says ending).doubt

-- where nothing failed, a run that ends so has asked for as many syncs as its events need
abbrev pub CountsSyncs : Ending → Type 0
CountsSyncs ending = IsMarked (says ending).counted

-- a run ends so where no count of faults rises
abbrev pub IsCalm : Ending → Type 0
IsCalm ending = IsMarked (says ending).calm

-- ---- the channel that failed

-- the channel's count of faults rose, where there is one
abbrev pub HasRisenOn : Option Channel → (Channel → ℕ) → (Channel → ℕ) → Type 0
HasRisenOn None old new = ⊤
HasRisenOn (Some channel) old new = Rose (old channel) (new channel)

-- where a run ends so, this count of faults rose
abbrev pub HasRisen : Ending → (Channel → ℕ) → (Channel → ℕ) → Type 0
HasRisen ending old new = HasRisenOn (says ending).failed old new

-- a call on the channel failed, and no other; where there is none, no call failed
abbrev pub HasFailedOn : Option Channel → (Channel → ℕ) → (Channel → ℕ) → Type 0
HasFailedOn None old new = NoneFailed old new
HasFailedOn (Some channel) old new = FailedOn channel old new

-- exactly the call that the ending names has failed: its channel's count rose, and no other changed
abbrev pub HasFailedAs : Ending → (Channel → ℕ) → (Channel → ℕ) → Type 0
HasFailedAs ending old new = HasFailedOn (says ending).failed old new

-- the channel is a file's
abbrev pub IsOfFile : Option Channel → Type 0
IsOfFile (Some (File file)) = ⊤
IsOfFile _ = ⊥

-- a file failed
abbrev pub IsDiskFault : Ending → Type 0
IsDiskFault ending = IsOfFile (says ending).failed
