-- The run of two deposits at once whose first is left in doubt, where the write of the gate never began: the host answers
-- that it failed, and the file is as it was. No image ever has the deposit, and its line is told that it is in doubt.
use Rattle.std.specs.Prelude.{true, List, [], ◌∷◌, ◌++◌}
use Rattle.host_trait.specs.declared.channels.FileId.TheVariants.{Grain}
use Rattle.host_trait.specs.World.{World, Moment}
use Rattle.silo_spec.specs.Silos.{manager}
use Rattle.promise_spec.specs.Endings.{DiskFault}
use Rattle.promise_spec.specs.Courses.{Observed, Course}
use Rattle.promise_examples.specs.Examples.{account_log, account_1, grain_bytes, block_bytes, conflict_entries, conflict_events}
use Rattle.promise_examples.specs.HostCalls.{HostState, HostStep, Pull, Emit, Write, FailedWrite, Sync}
use Rattle.promise_examples.specs.WrittenRun.{new_disk, version_disk, voted_disk, block_disk, staged_disk, request_line, moment, opened}
use Rattle.promise_examples.specs.WrittenDoubt.{pair_manner, second_line, locked_text, doubt_text, told, pair_before, one_fault, pair_opened, pair_at}

-- the moments from that at which the second line is told, up to that at which the write of the gate fails
abbrev pub gate_failing : List Moment
gate_failing = told ++ moment locked_text staged_disk ∷ []

-- the moment at which the first line is told, and the exit
abbrev pub unbegun_told : Moment
unbegun_told = moment (locked_text ++ doubt_text) staged_disk

-- what the host holds after: nothing is pending. Three syncs were asked for, and the gate's was not
abbrev pub unbegun_after : World
unbegun_after = record {
  input = [];
  output = locked_text ++ doubt_text;
  disk = staged_disk;
  syncs = 3;
  past = opened ∷ (gate_failing ++ unbegun_told ∷ []);
}

-- the run: it answers both lines, and ends with the fault of the manager file
abbrev pub unbegun : Observed
unbegun = record {
  manner = pair_manner;
  asked = request_line ∷ second_line ∷ [];
  windowed = true;
  old = pair_before;
  new = unbegun_after;
  faults_before = λ channel. 0;
  faults_after = one_fault;
  ending = DiskFault manager;
}

-- its course: no record is added
abbrev pub unbegun_course : Course
unbegun_course = record {
  live = 0;
  opening = account_log [];
  added = [];
  early = opened ∷ [];
  late = gate_failing ++ unbegun_told ∷ [];
  allowed = 2;
  events = conflict_events;
  entries = conflict_entries;
  rest = [];
}

-- ---- the host's calls

-- what is held once the write of the gate has failed
abbrev pub gate_failed : HostState
gate_failed = record {
  world = record { input = []; output = locked_text; disk = staged_disk; syncs = 3; past = opened ∷ gate_failing };
  faults = one_fault;
}

-- The opening's sync; the input, of 80 bytes, and its end; the second line's reply; the version and the block, each with
-- its sync; the gate, whose write fails; and the first line's reply.
abbrev pub unbegun_steps : List HostStep
unbegun_steps =
    record { call = Sync manager; after = pair_opened pair_before.input }
    ∷ record { call = Pull 80 pair_before.input; after = pair_opened [] }
    ∷ record { call = Pull 0 pair_before.input; after = pair_opened [] }
    ∷ record { call = Emit locked_text; after = pair_at new_disk 1 1 (λ channel. 0) }
    ∷ record { call = Write (Grain 0 account_1) 0 grain_bytes; after = pair_at version_disk 1 2 (λ channel. 0) }
    ∷ record { call = Sync (Grain 0 account_1); after = pair_at voted_disk 2 3 (λ channel. 0) }
    ∷ record { call = Write manager 16 block_bytes; after = pair_at block_disk 2 4 (λ channel. 0) }
    ∷ record { call = Sync manager; after = pair_at staged_disk 3 5 (λ channel. 0) }
    ∷ record { call = FailedWrite manager 15 1; after = gate_failed }
    ∷ record { call = Emit doubt_text; after = record { world = unbegun_after; faults = one_fault } } ∷ []
