-- What a load does, call by call.
use Rattle.std.specs.Prelude.{◌≡◌, ◌⊎◌, ◌+◌, ◌≤◌, ℕ, List, ◌++◌, length, Some}
use Rattle.base_types.specs.Stores.{end_in}
use Rattle.base_types.specs.declared.calls.GrainId.{GrainId}
use Rattle.core_model.specs.CoreState.{Member}
use Rattle.host_trait.specs.declared.channels.FileId.{FileId}
use Rattle.host_trait.specs.declared.channels.FileId.TheVariants.{Manager, Grain}
use Rattle.host_trait.specs.Disk.{MayLeave}
use Rattle.gate_block.specs.Gates.{IsClosedAt}
use Rattle.log_reading.specs.Steps.{seen_in}
use Rattle.silo_opening.specs.declared.faults.CreateFault.{CreateFault}
use Rattle.silo_opening.specs.declared.opened_silo.Opened.{Opened}
use Rattle.host_trait.specs.World.{World, Moment, Image, IsImage}
use Rattle.silo_spec.specs.Silos.{IsMagic, IsNewSilo}
use Rattle.silo_spec.specs.Slots.{IsLive, IsSiloImage, ShowsSilos}
use Rattle.silo_spec.specs.Creation.{StaysBeside, IsNewAt, FromFirstSync}
use Rattle.promise_spec.specs.Logs.{IsPrefix}
use Rattle.promise_spec.specs.Endings as ending
use Rattle.promise_spec.specs.Courses.{Observed, Course, program_in_force}
use Rattle.run_books.specs.declared.faults.RunFault.{RunFault}
use Rattle.run_books.specs.declared.faults.RunFault.TheVariants.{InDoubt, WriteFault, Memory, LoadFault, LoadDamaged}
use Rattle.promise_spec.specs.Refusals.{IsUnopened}
use Rattle.promise_spec.specs.Loads.{bank_text, KeepsLoad}

-- Each image is a silo of the bank program with an empty log, in slot 0, and no manager file that reads too short is a silo's.
pub record IsNewBank (w : World) : Type 0 where
  pub each : (image : Image) → IsImage w.disk image → IsNewSilo bank_text image
  pub live : (image : Image) → IsImage w.disk image → IsLive IsMagic 0 image
  pub shows : ShowsSilos IsMagic w.disk

-- A silo of the bank program was made, where the folder read as none. It is the live one, where no manager file that read too short
-- was a silo's.
pub record IsMadeFrom (old made : World) : Type 0 where
  pub absent : IsSiloImage IsMagic (seen_in old.disk) → ⊥
  pub beside : StaysBeside old made
  pub makes : ShowsSilos IsMagic old.disk → FromFirstSync (IsNewAt IsMagic bank_text) old made
  pub each : (image : Image) → IsImage made.disk image → IsNewSilo bank_text image
  pub bank : ShowsSilos IsMagic old.disk → IsNewBank made
  pub stays : (file : FileId) → MayLeave (made.disk file) (made.disk file).seen
  pub syncs : (old.syncs + 4 ≤ made.syncs) × (made.syncs ≤ old.syncs + 6)

-- What a load does behind the making of its silo: it doesn't open it, or takes a course that keeps the promise of a load, of the
-- bank program.
pub record CarriesLoad (n seed : ℕ) (r : Observed) : Type 0 where
  pub carried : IsUnopened r ⊎ ((c : Course) × ((program_in_force c).text ≡ bank_text) × KeepsLoad (program_in_force c) n seed r c)

-- a summary is printed, or the output failed, or there was no memory
abbrev pub MaySaySummary : ending.Ending → Type 0
MaySaySummary e = (e ≡ ending.Done) ⊎ ((e ≡ ending.WriteFault) ⊎ (e ≡ ending.Memory))

-- A first part of this text was appended to the output: all of it where it is done, and nothing for want of memory. The files
-- stayed as they were, at each moment too.
pub record SaysSummary (text : List ℕ) (e : ending.Ending) (old new : World) : Type 0 where
  pub added : List ℕ
  pub output : new.output ≡ old.output ++ added
  pub front : IsPrefix added text
  pub whole : e ≡ ending.Done → added ≡ text
  pub none : e ≡ ending.Memory → new ≡ old
  pub input : new.input ≡ old.input
  pub disk : new.disk ≡ old.disk
  pub syncs : new.syncs ≡ old.syncs
  pub told : List Moment
  pub past : new.past ≡ old.past ++ told
  pub left : (m : Moment) → Member m told → m.disk ≡ old.disk

-- how a load in this slot ends whose turns ended by this fault: a quiet settler's don't end by the output
abbrev pub load_ending : ℕ → RunFault → ending.Ending
load_ending live InDoubt = ending.DiskFault (Manager live)
load_ending live WriteFault = ending.Memory
load_ending live Memory = ending.Memory
load_ending live (LoadFault file) = ending.DiskFault file
load_ending live (LoadDamaged file place) = ending.Damaged file place

-- how it ends where its silo wasn't made
abbrev pub creation_ending : CreateFault → ending.Ending
creation_ending CreateFault.AlreadyASilo = ending.AlreadyASilo
creation_ending (CreateFault.DiskFault file) = ending.DiskFault file

-- the ends that were opened lie in the files, and the gate is closed there
pub record LiesWithin (image : Image) (o : Opened) : Type 0 where
  pub within : (grain : GrainId) (end : ℕ) → end_in o.ends grain ≡ Some end → end ≤ length (image (Grain o.slot grain))
  pub closed : IsClosedAt o.gate_at (image (Manager o.slot))
