-- What one step of the settler does, and what each of its answers says.
use Rattle.std.specs.Prelude.{◌≡◌, ◌⊎◌, ℕ, Bool, true, false, ◌&&◌, ◌||◌, if◌then◌else◌, IsTrue, Option, Some, None, Result, Ok, Err, is_some, slice_get}
use Rattle.base_types.specs.declared.calls.GrainId.{GrainId}
use Rattle.base_types.specs.declared.shapes.Shape.{Shape}
use Rattle.host_trait.specs.declared.channels.Channel.{Channel}
use Rattle.host_trait.specs.declared.channels.FileId.{FileId}
use Rattle.host_trait.specs.declared.channels.FileId.TheVariants.{Grain}
use Rattle.host_trait.specs.World.{World}
use Rattle.host_trait.specs.Runs.{OnlyAsked}
use Rattle.grain_log.specs.declared.faults.VersionFault.{VersionFault}
use Rattle.grain_log.specs.declared.faults.VersionFault.TheVariants.{Failed, Damaged, Memory}
use Rattle.core_model.specs.CoreState.{CoreState}
use Rattle.core_model.specs.LegalRuns.{ends}
use Rattle.core_model.specs.declared.events.CoreEvent.{CoreEvent}
use Rattle.core_model.specs.declared.events.CoreReply.{CoreReply}
use Rattle.core_model.specs.Settler.{Step, settler_step, MakesEvent, Votes, Writes, Loads, Rests, versions_to_write}
use Rattle.core_model.specs.WantedGrains.{next_wanted}
use Rattle.core_access.specs.Sights.{Sight, run_seen, Looks, Tells}
use Rattle.core_access.specs.CallsWithoutMemory.{is_spared}
use Rattle.settle_loop.specs.ShownWork.{tells_entry, tells_doubt, has_applied, counted_up}
use Rattle.batch_disk.specs.LastVersions.{ReadsLast}
use Rattle.batch_disk.specs.VoteAnswers.{LacksRoom}
use Rattle.settle_loop.specs.HostSteps.{CutsEntry, DoesFor}
use Rattle.settle_loop.specs.declared.settler.Settler.{Settler}
use Rattle.settle_loop.specs.declared.settler.Turned.{Turned}
use Rattle.settle_loop.specs.declared.settler.Turned.TheVariants.{Stepped, Nothing, Stop}
use Rattle.settle_loop.specs.declared.settler.StopCause.TheVariants.{InDoubt, WriteFault, LoadFault, LoadDamaged}

-- the core's state by all that was seen
abbrev pub state_shown : Sight → CoreState
state_shown s = ends (run_seen s)

-- an entry is settled and not written
abbrev pub has_unwritten : CoreState → Bool
has_unwritten w = is_some (slice_get w.manager.settled w.manager.emitted)

-- how many entries the settler has written, once this event was answered so
abbrev pub written_after : CoreEvent → CoreReply → ℕ → ℕ
written_after e r n = if tells_entry e && has_applied r then counted_up n else n

-- whether a doubt of the settler stands, once this event was answered so
abbrev pub doubted_after : CoreEvent → CoreReply → Bool → Bool
doubted_after e r b = b || (tells_doubt e && has_applied r)

-- what is looked at behind the event: where a doubt of the settler stands, whether all is written
abbrev pub LooksOn : (CoreEvent → Bool) → Bool → Sight → Sight → Type 0
LooksOn may_come true mid t = Looks may_come mid t × (has_unwritten (state_shown t) ≡ true)
LooksOn may_come false mid t = t ≡ mid

-- the step that brings a wanted grain into memory
abbrev pub load_of : Option GrainId → Step
load_of None = Rests
load_of (Some g) = Loads g

-- what a settler does that is only to bring a grain into memory: the first of those that units want
abbrev pub wanted_step : CoreState → Step
wanted_step w = load_of (next_wanted w)

module _ {H : Type 0} (tells : Bool) (world : H → World) (faults : H → Channel → ℕ) (may_come : CoreEvent → Bool) (shape : Shape) (next : CoreState → Step) where
  -- It looked, and this is the event of the first case that applied in what it saw. What belongs to it was done to the host.
  pub record ActsBy (before after : Settler) (s : Sight) (e : CoreEvent) (old new : H) : Type 0 where
    pub seen : Sight
    pub looked : Looks may_come s seen
    pub makes : MakesEvent (next (state_shown seen)) e
    pub does : DoesFor tells world faults before.writer.slot e before.quiet shape (state_shown seen) before.writer after.writer old new

  -- A step by which this event was put, and answered so. The settler counts what applied.
  pub record PutsBy (before after : Settler) (s : Sight) (e : CoreEvent) (r : CoreReply) (t : Sight) (old new : H) : Type 0 where
    pub acts : ActsBy before after s e old new
    pub told : Tells may_come acts.seen e r t
    pub counts : after ≡ record before {
      writer = after.writer;
      written = written_after e r before.written;
      doubted = doubted_after e r before.doubted;
    }

  -- It looked, no case applied, and it did nothing.
  pub record IsIdleBy (before after : Settler) (s t : Sight) (old new : H) : Type 0 where
    pub looked : Looks may_come s t
    pub rests : next (state_shown t) ≡ Rests
    pub host : new ≡ old
    pub settler : after ≡ before

  -- The output failed while the next entry's line was written: no event was put.
  pub record IsBrokenOffBy (before after : Settler) (s t : Sight) (old new : H) : Type 0 where
    pub looked : Looks may_come s t
    pub writes : next (state_shown t) ≡ Writes
    pub cut : CutsEntry tells world faults before.quiet shape (state_shown t) before.writer after.writer old new
    pub settler : after ≡ before

  -- There was no memory for a look or for what is made before the host is called: no event was put, and no call was made.
  pub record IsLackingBy (before after : Settler) (s t : Sight) (old new : H) : Type 0 where
    pub looked : Looks may_come s t
    pub host : new ≡ old
    pub settler : after ≡ before

  -- There was none to write a grain's versions: no event was put, and the host holds what it held.
  pub record LacksForVoteBy (before after : Settler) (s t : Sight) (old new : H) : Type 0 where
    pub looked : Looks may_come s t
    pub n : ℕ
    pub g : GrainId
    pub votes : next (state_shown t) ≡ Votes n g
    pub lacks : LacksRoom tells world faults before.writer.slot n g (versions_to_write (state_shown t) (state_shown t).manager.batch g) before.writer after.writer old new
    pub settler : after ≡ record before { writer = after.writer }

  -- The core had no memory for the event, which it has for each one that applies and that ends a host call: so it couldn't
  -- apply any more.
  pub record IsNotTakenBy (before after : Settler) (s t : Sight) (e : CoreEvent) (old new : H) : Type 0 where
    pub acts : ActsBy before after s e old new
    pub unput : Looks may_come acts.seen t
    pub unspared : is_spared (run_seen t) e ≡ false
    pub settler : after ≡ record before { writer = after.writer }

  -- A grain was to be brought into memory, and its last version wasn't read, or there was no memory for it: no event was put.
  pub record CantLoadBy (fault : VersionFault) (before after : Settler) (s t : Sight) (old new : H) : Type 0 where
    pub looked : Looks may_come s t
    pub g : GrainId
    pub loads : next (state_shown t) ≡ Loads g
    pub reads : ReadsLast tells world faults before.writer.slot shape g before.writer old new (Err fault)
    pub asked : IsTrue tells → OnlyAsked (world old) (world new)
    pub settler : after ≡ before

  -- so, where a fault is that of the grain's file
  abbrev pub StopsAt : FileId → VersionFault → Settler → Settler → Sight → Sight → H → H → Type 0
  StopsAt file fault before after s t old new = (c : CantLoadBy fault before after s t old new) × (file ≡ Grain before.writer.slot c.g)

  -- An event was put; where it applied and a doubt of this settler stands, an entry was shown that isn't written.
  pub record IsSteppedBy (before after : Settler) (s t : Sight) (old new : H) : Type 0 where
    pub e : CoreEvent
    pub r : CoreReply
    pub mid : Sight
    pub put : PutsBy before after s e r mid old new
    pub looked : LooksOn may_come (after.doubted && has_applied r) mid t

  -- An event was put, a doubt of this settler stands, and all that is settled was shown to be written.
  pub record IsOverInDoubtBy (before after : Settler) (s t : Sight) (old new : H) : Type 0 where
    pub e : CoreEvent
    pub r : CoreReply
    pub mid : Sight
    pub put : PutsBy before after s e r mid old new
    pub applied : has_applied r ≡ true
    pub doubts : after.doubted ≡ true
    pub looked : Looks may_come mid t
    pub written : has_unwritten (state_shown t) ≡ false

  -- An event was put, and stands; there was no memory for the look behind it.
  pub record IsUnseenBy (before after : Settler) (s t : Sight) (old new : H) : Type 0 where
    pub e : CoreEvent
    pub r : CoreReply
    pub mid : Sight
    pub put : PutsBy before after s e r mid old new
    pub applied : has_applied r ≡ true
    pub doubts : after.doubted ≡ true
    pub looked : Looks may_come mid t

  -- What each answer says of the step.
  abbrev pub TurnsBy : {E : Type 0} → Settler → Settler → Sight → Sight → H → H → Result Turned E → Type 0
  TurnsBy before after s t old new (Ok Stepped) = IsSteppedBy before after s t old new
  TurnsBy before after s t old new (Ok Nothing) = IsIdleBy before after s t old new
  TurnsBy before after s t old new (Ok (Stop InDoubt)) = IsOverInDoubtBy before after s t old new
  TurnsBy before after s t old new (Ok (Stop WriteFault)) = IsBrokenOffBy before after s t old new
  TurnsBy before after s t old new (Ok (Stop (LoadFault file))) = StopsAt file Failed before after s t old new
  TurnsBy before after s t old new (Ok (Stop (LoadDamaged file place))) = StopsAt file (Damaged place) before after s t old new
  TurnsBy before after s t old new (Err lack) = IsLackingBy before after s t old new
      ⊎ (LacksForVoteBy before after s t old new ⊎ (((e : CoreEvent) × IsNotTakenBy before after s t e old new) ⊎ (IsUnseenBy before after s t old new ⊎ CantLoadBy Memory before after s t old new)))

-- ---- a step of the settler

module _ {H : Type 0} (tells : Bool) (world : H → World) (faults : H → Channel → ℕ) (may_come : CoreEvent → Bool) (shape : Shape) where
  -- it looked, and this is the event of the first case that applied, for which was done what belongs to it
  abbrev pub ActsNext : Settler → Settler → Sight → CoreEvent → H → H → Type 0
  ActsNext = ActsBy tells world faults may_come shape settler_step

  -- a step by which this event was put, and answered so
  abbrev pub PutsNext : Settler → Settler → Sight → CoreEvent → CoreReply → Sight → H → H → Type 0
  PutsNext = PutsBy tells world faults may_come shape settler_step

  -- no case applied
  abbrev pub IsIdle : Settler → Settler → Sight → Sight → H → H → Type 0
  IsIdle = IsIdleBy tells world faults may_come shape settler_step

  -- the output failed
  abbrev pub IsBrokenOff : Settler → Settler → Sight → Sight → H → H → Type 0
  IsBrokenOff = IsBrokenOffBy tells world faults may_come shape settler_step

  -- there was no memory for a look, or for what is made before the host is called
  abbrev pub IsLacking : Settler → Settler → Sight → Sight → H → H → Type 0
  IsLacking = IsLackingBy tells world faults may_come shape settler_step

  -- there was none to write a grain's versions
  abbrev pub LacksForVote : Settler → Settler → Sight → Sight → H → H → Type 0
  LacksForVote = LacksForVoteBy tells world faults may_come shape settler_step

  -- the core had none for the event
  abbrev pub IsNotTaken : Settler → Settler → Sight → Sight → CoreEvent → H → H → Type 0
  IsNotTaken = IsNotTakenBy tells world faults may_come shape settler_step

  -- an event was put
  abbrev pub IsStepped : Settler → Settler → Sight → Sight → H → H → Type 0
  IsStepped = IsSteppedBy tells world faults may_come shape settler_step

  -- an event was put, and a doubt stands behind which all is written
  abbrev pub IsOverInDoubt : Settler → Settler → Sight → Sight → H → H → Type 0
  IsOverInDoubt = IsOverInDoubtBy tells world faults may_come shape settler_step

  -- an event was put, and there was no memory for the look behind it
  abbrev pub IsUnseen : Settler → Settler → Sight → Sight → H → H → Type 0
  IsUnseen = IsUnseenBy tells world faults may_come shape settler_step

  -- what each answer says
  abbrev pub TurnsAs : {E : Type 0} → Settler → Settler → Sight → Sight → H → H → Result Turned E → Type 0
  TurnsAs {E} before after s t old new answer = TurnsBy tells world faults may_come shape settler_step before after s t old new answer
