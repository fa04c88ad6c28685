-- Host calls, one after another: what each makes of what a host holds, and of its counts of faults.
use Rattle.std.specs.Prelude.{◌≡◌, ℕ, ◌+◌, ◌≤◌, true, false, List, [], ◌∷◌, length}
use Rattle.host_trait.specs.declared.channels.Channel.{Channel}
use Rattle.host_trait.specs.declared.channels.Channel.TheVariants.{File}
use Rattle.host_trait.specs.declared.channels.FileId.{FileId}
use Rattle.host_trait.specs.Disk.{Overwrote}
use Rattle.host_trait.specs.Faults.{NoneFailed, FailedOn}
use Rattle.host_trait.specs.Runs.{OnlyAsked}
use Rattle.host_trait.specs.World.{World, Pulled, Written, Synced, IsEmitted}
use Rattle.promise_spec.specs.Courses.{Observed}

-- A call with its answer: so many bytes came to the front of a buffer, which holds this then; these bytes were emitted;
-- these were written to a file from an offset on, or a write of so many failed; a read of a file failed; a file was synced, or its
-- sync failed.
pub data HostCall : Type 0 where
  Pull : ℕ → List ℕ → HostCall
  Emit : List ℕ → HostCall
  Write : FileId → ℕ → List ℕ → HostCall
  FailedWrite : FileId → ℕ → ℕ → HostCall
  FailedRead : FileId → HostCall
  Sync : FileId → HostCall
  FailedSync : FileId → HostCall

-- a write of n bytes, which begins within the file, as a host demands
pub record WroteWithin (file : FileId) (at n : ℕ) (old new : World) : Type 0 where
  pub place : at ≤ length (old.disk file).seen
  pub written : Written file at n old new

-- what the host's contract says of what it holds before and after such a call
abbrev pub CallSays : HostCall → World → World → Type 0
CallSays (Pull n into) old new = Pulled n into old new
CallSays (Emit bytes) old new = IsEmitted bytes old new
CallSays (Write file at bytes) old new = WroteWithin file at (length bytes) old new × Overwrote at bytes (old.disk file) (new.disk file)
CallSays (FailedWrite file at n) old new = WroteWithin file at n old new
CallSays (FailedRead file) old new = OnlyAsked old new
CallSays (Sync file) old new = Synced file true old new × (new.syncs ≡ old.syncs + 1)
CallSays (FailedSync file) old new = Synced file false old new

-- and of its counts: a call that fails raises that of its file, and no other count changes
abbrev pub CallCounts : HostCall → (Channel → ℕ) → (Channel → ℕ) → Type 0
CallCounts (Pull n into) old new = NoneFailed old new
CallCounts (Emit bytes) old new = NoneFailed old new
CallCounts (Write file at bytes) old new = NoneFailed old new
CallCounts (FailedWrite file at n) old new = FailedOn (File file) old new
CallCounts (FailedRead file) old new = FailedOn (File file) old new
CallCounts (Sync file) old new = NoneFailed old new
CallCounts (FailedSync file) old new = FailedOn (File file) old new

-- what a host holds, and its counts
pub record HostState : Type 0 where
  pub world : World
  pub faults : Channel → ℕ

-- a call, and what is held after it
pub record HostStep : Type 0 where
  pub call : HostCall
  pub after : HostState

-- the call may lead from the one to the other
pub record IsStep (call : HostCall) (old new : HostState) : Type 0 where
  pub says : CallSays call old.world new.world
  pub counts : CallCounts call old.faults new.faults

-- the steps lead, one after another, from what is held before to what is held after
abbrev pub Lead : HostState → List HostStep → HostState → Type 0
Lead old [] new = old ≡ new
Lead old (step ∷ steps) new = IsStep step.call old step.after × Lead step.after steps new

-- A host's calls lead from what the run was given to what it left. Calls that only ask and are answered, or that make a file ready,
-- change nothing and aren't listed.
abbrev pub IsHosted : Observed → List HostStep → Type 0
IsHosted r steps =
    Lead (record { world = r.old; faults = r.faults_before }) steps (record { world = r.new; faults = r.faults_after })
