-- The parts of a step: what is made of the host's answers, and what is made of the core's.
use Rattle.std.specs.Prelude.{◌≡◌, ◌⊎◌, ℕ, Bool, true, false, ◌&&◌, ◌||◌, if◌then◌else◌, IsTrue, Result, Ok, Err, IsErr}
use Rattle.base_types.specs.declared.calls.GrainId.{GrainId}
use Rattle.base_types.specs.declared.shapes.Shape.{Shape}
use Rattle.host_trait.specs.declared.channels.Channel.{Channel}
use Rattle.host_trait.specs.declared.channels.FileId.{FileId}
use Rattle.host_trait.specs.declared.channels.FileId.TheVariants.{Grain}
use Rattle.host_trait.specs.World.{World}
use Rattle.host_trait.specs.Runs.{OnlyAsked}
use Rattle.grain_log.specs.declared.faults.VersionFault.{VersionFault}
use Rattle.grain_log.specs.declared.faults.VersionFault.TheVariants.{Failed, Damaged, Memory}
use Rattle.core_model.specs.CoreState.{CoreState}
use Rattle.core_model.specs.declared.events.CoreEvent.{CoreEvent}
use Rattle.core_model.specs.declared.events.CoreReply.{CoreReply}
use Rattle.core_model.specs.Settler.{Step, MakesEvent, Votes, Writes, Loads, Rests, versions_to_write}
use Rattle.core_access.specs.Sights.{Sight, run_seen, Looks, Tells}
use Rattle.core_access.specs.CallsWithoutMemory.{is_spared}
use Rattle.settle_loop.specs.ShownWork.{tells_entry, tells_doubt, has_applied, counted_up}
use Rattle.batch_disk.specs.LastVersions.{ReadsLast}
use Rattle.batch_disk.specs.VoteAnswers.{LacksRoom}
use Rattle.settle_loop.specs.HostSteps.{CutsEntry, DoesFor}
use Rattle.settle_loop.specs.SettlerStep.{state_shown, has_unwritten, LooksOn}
use Rattle.settle_loop.specs.declared.cases.Made.{Made}
use Rattle.settle_loop.specs.declared.cases.Made.TheVariants.{Event, Idle, Stopped}
use Rattle.settle_loop.specs.declared.settler.Settler.{Settler}
use Rattle.settle_loop.specs.declared.settler.Turned.{Turned}
use Rattle.settle_loop.specs.declared.settler.Turned.TheVariants.{Stepped, Nothing, Stop}
use Rattle.settle_loop.specs.declared.settler.StopCause.TheVariants.{InDoubt, WriteFault, LoadFault, LoadDamaged}

-- the settler with another writer
abbrev pub with_writer : Settler → Settler → Settler
with_writer before after = record before { writer = after.writer }

-- the settler once an event was answered so, which says that an entry is written, or that a batch is in doubt
abbrev pub counting : Bool → Bool → CoreReply → Settler → Settler
counting writes doubts r before = record before {
  written = (if writes && has_applied r then counted_up before.written else before.written);
  doubted = (before.doubted || (doubts && has_applied r));
}

-- what is made of a grain's last version that wasn't read: it stops, or there was no memory
abbrev pub IsMadeOfFault : {E : Type 0} → FileId → VersionFault → Result Made E → Type 0
IsMadeOfFault file Failed r = r ≡ Ok (Stopped (LoadFault file))
IsMadeOfFault file (Damaged place) r = r ≡ Ok (Stopped (LoadDamaged file place))
IsMadeOfFault file Memory r = IsErr r

module _ {H : Type 0} (tells : Bool) (world : H → World) (faults : H → Channel → ℕ) (shape : Shape) (w : CoreState) (step : Step) (before after : Settler) (old new : H) where
  -- The step makes this event, and what belongs to it was done.
  pub record IsToTell (e : CoreEvent) (writes doubts : Bool) : Type 0 where
    pub makes : MakesEvent step e
    pub does : DoesFor tells world faults before.writer.slot e before.quiet shape w before.writer after.writer old new
    pub writes_is : writes ≡ tells_entry e
    pub doubts_is : doubts ≡ tells_doubt e
    pub settler : after ≡ with_writer before after

  -- There was no memory to write a grain's versions.
  pub record LacksVersions : Type 0 where
    pub n : ℕ
    pub g : GrainId
    pub votes : step ≡ Votes n g
    pub lacks : LacksRoom tells world faults before.writer.slot n g (versions_to_write w w.manager.batch g) before.writer after.writer old new
    pub settler : after ≡ with_writer before after

  -- A grain's last version wasn't read, or there was no memory for it.
  pub record CantBring (fault : VersionFault) : Type 0 where
    pub g : GrainId
    pub loads : step ≡ Loads g
    pub reads : ReadsLast tells world faults before.writer.slot shape g before.writer old new (Err fault)
    pub asked : IsTrue tells → OnlyAsked (world old) (world new)
    pub settler : after ≡ before

  -- so, where a fault is that of the grain's file
  abbrev pub FailsAt : FileId → VersionFault → Type 0
  FailsAt file fault = (c : CantBring fault) × (file ≡ Grain before.writer.slot c.g)

  -- what is made of the host's answers
  abbrev pub MadeAs : {E : Type 0} → Result Made E → Type 0
  MadeAs (Ok (Event e writes doubts)) = IsToTell e writes doubts
  MadeAs (Ok Idle) = (step ≡ Rests) × ((new ≡ old) × (after ≡ before))
  MadeAs (Ok (Stopped InDoubt)) = ⊥
  MadeAs (Ok (Stopped (LoadFault file))) = FailsAt file Failed
  MadeAs (Ok (Stopped (LoadDamaged file place))) = FailsAt file (Damaged place)
  MadeAs (Ok (Stopped WriteFault)) = (step ≡ Writes) × (CutsEntry tells world faults before.quiet shape w before.writer after.writer old new × (after ≡ before))
  MadeAs (Err lack) = ((new ≡ old) × (after ≡ before)) ⊎ (LacksVersions ⊎ CantBring Memory)

module _ (may_come : CoreEvent → Bool) (e : CoreEvent) (writes doubts : Bool) (before after : Settler) (s t : Sight) where
  -- The event was put and answered so, and counted.
  pub record IsTold (r : CoreReply) (mid : Sight) : Type 0 where
    pub told : Tells may_come s e r mid
    pub counts : after ≡ counting writes doubts r before

  -- It applied, and a doubt of the settler stands.
  pub record IsToldInDoubt (r : CoreReply) (mid : Sight) : Type 0 where
    pub put : IsTold r mid
    pub applied : has_applied r ≡ true
    pub doubts_now : after.doubted ≡ true
    pub looked : Looks may_come mid t

  -- It wasn't put.
  pub record IsUnput : Type 0 where
    pub looked : Looks may_come s t
    pub unspared : is_spared (run_seen t) e ≡ false
    pub settler : after ≡ before

  -- what is made of the core's answers
  abbrev pub ToldAs : {E : Type 0} → Result Turned E → Type 0
  ToldAs (Ok Stepped) = (r : CoreReply) × ((mid : Sight) × (IsTold r mid × LooksOn may_come (after.doubted && has_applied r) mid t))
  ToldAs (Ok Nothing) = ⊥
  ToldAs (Ok (Stop InDoubt)) = (r : CoreReply) × ((mid : Sight) × (IsToldInDoubt r mid × (has_unwritten (state_shown t) ≡ false)))
  ToldAs (Ok (Stop WriteFault)) = ⊥
  ToldAs (Ok (Stop (LoadFault file))) = ⊥
  ToldAs (Ok (Stop (LoadDamaged file place))) = ⊥
  ToldAs (Err lack) = IsUnput ⊎ ((r : CoreReply) × ((mid : Sight) × IsToldInDoubt r mid))
