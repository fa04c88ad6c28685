-- The run of two deposits at once in a new silo, written out with its host calls: the second finds what the first left, one
-- batch has both, and both are told.
use Rattle.std.specs.Prelude.{ℕ, true, List, [], ◌∷◌, ◌++◌, take, pos, codes}
use Rattle.base_types.specs.declared.calls.Mode.TheVariants as mode
use Rattle.base_types.specs.declared.calls.Outcome.TheVariants as outcome
use Rattle.base_types.specs.declared.calls.Value.TheVariants.{Int}
use Rattle.base_types.specs.declared.entries.Entry.{Entry}
use Rattle.base_types.specs.declared.entries.Settled.TheVariants.{Done as Told}
use Rattle.host_trait.specs.declared.channels.FileId.TheVariants.{Grain}
use Rattle.host_trait.specs.Disk.{FileState, settled}
use Rattle.host_trait.specs.World.{World, Moment, Disk, moment_of}
use Rattle.core_model.specs.declared.events.CoreEvent.{CoreEvent}
use Rattle.core_model.specs.declared.events.CoreEvent.TheVariants as event
use Rattle.silo_spec.specs.Silos.{manager}
use Rattle.promise_spec.specs.Endings.{Done}
use Rattle.promise_spec.specs.Records.{Commit}
use Rattle.promise_spec.specs.Courses.{Observed, Course}
use Rattle.promise_examples.specs.Examples.{account_log, account_1, unit_no, deposited, begin_deposit, first_load, first_commit, next_commit, first_entry, grain_bytes, manager_of}
use Rattle.promise_examples.specs.HostCalls.{HostState, HostStep, Pull, Emit, Write, Sync}
use Rattle.promise_examples.specs.WrittenRun.{new_manager, disk_of, new_disk, pending_block, pending_gate, request_line, reply_text, moment, opened}
use Rattle.promise_examples.specs.WrittenDoubt.{second_line, pair_before}
use Rattle.promise_examples.specs.WrittenVote.{reading_manner}

-- ---- the core

-- Line 1 wants the grain, deposits 5, and line 2, once the first has given back its lock, 4 more. One batch is taken of both; their file is
-- written, the batch is decided and sealed, and both replies are written.
abbrev pub batch_events : List CoreEvent
batch_events =
    begin_deposit 1 5 ∷ begin_deposit 2 4 ∷ event.Want (unit_no 1) account_1 ∷ first_load
    ∷ event.Grant (unit_no 1) account_1 mode.Update
    ∷ event.Finish (unit_no 1) (deposited 1 5 0 0) ∷ event.Release (unit_no 1) account_1
    ∷ event.Grant (unit_no 2) account_1 mode.Update ∷ event.Finish (unit_no 2) (deposited 2 4 5 1)
    ∷ event.Release (unit_no 2) account_1 ∷ event.Take ∷ event.Vote 1 account_1 true ∷ event.Decide 1 ∷ event.Sealed 1
    ∷ event.Learn (unit_no 1) account_1 ∷ event.Learn (unit_no 2) account_1 ∷ event.Emitted ∷ event.Emitted ∷ []

-- the two records
abbrev pub both_commits : List Commit
both_commits = first_commit ∷ next_commit 4 9 ∷ []

-- what line 2 is told
abbrev pub second_entry : Entry
second_entry = record { line = 2; unit = unit_no 2; what = Told (outcome.Value (Int (pos 9))) }

-- what both lines are told
abbrev pub both_entries : List Entry
both_entries = first_entry ∷ second_entry ∷ []

-- ---- the bytes

-- the second version, and the file with both
abbrev pub second_version : List ℕ
second_version = 2 ∷ 0 ∷ 0 ∷ 0 ∷ 0 ∷ 0 ∷ 0 ∷ 0 ∷ 1 ∷ 0 ∷ 0 ∷ 9 ∷ 0 ∷ 0 ∷ 0 ∷ 0 ∷ 0 ∷ 0 ∷ 0 ∷ []

-- the grain's file with both versions
abbrev pub both_versions : List ℕ
both_versions = grain_bytes ++ second_version

-- the block: the length of a body of two records, the body, in session 1, and the closed gate of the next block
abbrev pub both_block : List ℕ
both_block =
    140 ∷ 0 ∷ 0 ∷ 0 ∷ 1 ∷ 0 ∷ 0 ∷ 0 ∷ 0 ∷ 0 ∷ 0 ∷ 0 ∷ 2 ∷ 0 ∷ 0 ∷ 0 ∷
    1 ∷ 0 ∷ 0 ∷ 0 ∷ 0 ∷ 0 ∷ 0 ∷ 0 ∷ 0 ∷ 1 ∷ 0 ∷ 0 ∷ 0 ∷
    0 ∷ 0 ∷ 1 ∷ 0 ∷ 0 ∷ 0 ∷ 0 ∷ 0 ∷ 1 ∷ 0 ∷
    0 ∷ 5 ∷ 0 ∷ 0 ∷ 0 ∷ 0 ∷ 0 ∷ 0 ∷ 0 ∷
    0 ∷ 0 ∷ 1 ∷ 0 ∷ 5 ∷ 0 ∷ 0 ∷ 0 ∷ 0 ∷ 0 ∷ 0 ∷ 0 ∷
    1 ∷ 0 ∷ 0 ∷ 0 ∷ 1 ∷ 0 ∷ 0 ∷ 0 ∷ 0 ∷ 0 ∷ 0 ∷ 0 ∷ 0 ∷ 0 ∷ 0 ∷ 0 ∷ 19 ∷ 0 ∷ 0 ∷ 0 ∷
    2 ∷ 0 ∷ 0 ∷ 0 ∷ 0 ∷ 0 ∷ 0 ∷ 0 ∷ 0 ∷ 2 ∷ 0 ∷ 0 ∷ 0 ∷
    0 ∷ 0 ∷ 1 ∷ 0 ∷ 0 ∷ 0 ∷ 0 ∷ 0 ∷ 1 ∷ 0 ∷
    0 ∷ 4 ∷ 0 ∷ 0 ∷ 0 ∷ 0 ∷ 0 ∷ 0 ∷ 0 ∷
    0 ∷ 0 ∷ 1 ∷ 0 ∷ 9 ∷ 0 ∷ 0 ∷ 0 ∷ 0 ∷ 0 ∷ 0 ∷ 0 ∷
    1 ∷ 0 ∷ 0 ∷ 0 ∷ 1 ∷ 0 ∷ 0 ∷ 0 ∷ 19 ∷ 0 ∷ 0 ∷ 0 ∷ 0 ∷ 0 ∷ 0 ∷ 0 ∷ 19 ∷ 0 ∷ 0 ∷ 0 ∷ 0 ∷ []

-- the second reply
abbrev pub second_text : List ℕ
second_text = codes "{\"n\":2,\"reply\":9,\"unit\":2}\n"

-- ---- the disks

-- a write of both versions is pending
abbrev pub versions_pending : FileState
versions_pending = record { base = []; seen = both_versions; ranges = (0, 38) ∷ []; longest = 38 }

-- the disk with this manager file, once the versions are synced
abbrev pub both_disk : FileState → Disk
both_disk log = disk_of log (settled both_versions)

-- the moments of the writes and the syncs of the versions, of the block and of its gate, and that of the first reply
abbrev pub batching : List Moment
batching =
    moment [] (disk_of (settled new_manager) versions_pending) ∷ moment [] (both_disk (settled new_manager))
    ∷ moment [] (both_disk (pending_block both_block)) ∷ moment [] (both_disk (settled (manager_of both_block 0)))
    ∷ moment [] (both_disk (pending_gate both_block)) ∷ moment [] (both_disk (settled (manager_of both_block 1)))
    ∷ moment reply_text (both_disk (settled (manager_of both_block 1))) ∷ []

-- ---- the run

-- what the host holds after: four syncs, of the opening, the versions, the block and its gate
abbrev pub batch_after : World
batch_after = record {
  input = [];
  output = reply_text ++ second_text;
  disk = both_disk (settled (manager_of both_block 1));
  syncs = 4;
  past = opened ∷ (batching ++ moment (reply_text ++ second_text) (both_disk (settled (manager_of both_block 1))) ∷ []);
}

-- the run: it answers both lines, ends as done, and no call fails
abbrev pub batched : Observed
batched = record {
  manner = reading_manner;
  asked = request_line ∷ second_line ∷ [];
  windowed = true;
  old = pair_before;
  new = batch_after;
  faults_before = λ channel. 0;
  faults_after = λ channel. 0;
  ending = Done;
}

-- its course
abbrev pub batch_course : Course
batch_course = record {
  live = 0;
  opening = account_log [];
  added = both_commits;
  early = opened ∷ [];
  late = batching ++ moment_of batch_after ∷ [];
  allowed = 2;
  events = batch_events;
  entries = both_entries;
  rest = [];
}

-- ---- the host's calls

-- what is held between: this input is left, this is written, on this disk, after so many syncs and so many of the moments
abbrev pub batch_at : List ℕ → List ℕ → Disk → ℕ → ℕ → HostState
batch_at input output disk syncs many = record {
  world = record { input = input; output = output; disk = disk; syncs = syncs; past = opened ∷ take many batching };
  faults = λ channel. 0;
}

-- The opening's sync; the input, of 80 bytes, and its end; both versions by one write, the block and the gate, each with
-- its sync; and the replies.
abbrev pub batched_steps : List HostStep
batched_steps =
    record { call = Sync manager; after = batch_at pair_before.input [] new_disk 1 0 }
    ∷ record { call = Pull 80 pair_before.input; after = batch_at [] [] new_disk 1 0 }
    ∷ record { call = Pull 0 pair_before.input; after = batch_at [] [] new_disk 1 0 }
    ∷ record { call = Write (Grain 0 account_1) 0 both_versions; after = batch_at [] [] (disk_of (settled new_manager) versions_pending) 1 1 }
    ∷ record { call = Sync (Grain 0 account_1); after = batch_at [] [] (both_disk (settled new_manager)) 2 2 }
    ∷ record { call = Write manager 16 both_block; after = batch_at [] [] (both_disk (pending_block both_block)) 2 3 }
    ∷ record { call = Sync manager; after = batch_at [] [] (both_disk (settled (manager_of both_block 0))) 3 4 }
    ∷ record { call = Write manager 15 (1 ∷ []); after = batch_at [] [] (both_disk (pending_gate both_block)) 3 5 }
    ∷ record { call = Sync manager; after = batch_at [] [] (both_disk (settled (manager_of both_block 1))) 4 6 }
    ∷ record { call = Emit reply_text; after = batch_at [] reply_text (both_disk (settled (manager_of both_block 1))) 4 7 }
    ∷ record { call = Emit second_text; after = record { world = batch_after; faults = λ channel. 0 } } ∷ []
