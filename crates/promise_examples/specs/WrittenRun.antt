-- The run of one deposit in a new silo, written out, with each host call that changes what the host holds.
use Rattle.std.specs.Prelude.{ℕ, ◌+◌, zero, suc, true, List, [], ◌∷◌, ◌++◌, length, take, if◌then◌else◌, codes}
use Rattle.host_trait.specs.declared.channels.FileId.TheVariants.{Manager, Program as ProgramFile, Grain}
use Rattle.host_trait.specs.Disk.{FileState, settled}
use Rattle.host_trait.specs.World.{World, Moment, Disk}
use Rattle.cell_model.specs.Units.{same_grain}
use Rattle.silo_spec.specs.Silos.{manager, new_header}
use Rattle.promise_spec.specs.Words.{plain_manner}
use Rattle.promise_spec.specs.Endings.{Done}
use Rattle.promise_spec.specs.Courses.{Observed}
use Rattle.promise_examples.specs.Examples.{account_1, program_bytes, grain_bytes, block_bytes, manager_of, manager_bytes}
use Rattle.promise_examples.specs.HostCalls.{HostState, HostStep, Pull, Emit, Write, Sync}

-- the manager file of a new silo: its 16 bytes
abbrev pub new_manager : List ℕ
new_manager = new_header

-- A disk of the accounts' silo, with this manager file and this file of `account/1`. The program file is settled; all
-- other files are settled and empty.
abbrev pub disk_of : FileState → FileState → Disk
disk_of log grain_file (ProgramFile zero) = settled program_bytes
disk_of log grain_file (ProgramFile (suc slot)) = settled []
disk_of log grain_file (Manager zero) = log
disk_of log grain_file (Manager (suc slot)) = settled []
disk_of log grain_file (Grain zero grain) = if same_grain grain account_1 then grain_file else settled []
disk_of log grain_file (Grain (suc slot) grain) = settled []

-- the disk of a new silo
abbrev pub new_disk : Disk
new_disk = disk_of (settled new_manager) (settled [])

-- a write of the version is pending
abbrev pub version_pending : FileState
version_pending = record { base = []; seen = grain_bytes; ranges = (0, 19) ∷ []; longest = 19 }

-- the manager file is a new silo's, and a write of this block behind its closed gate is pending
abbrev pub pending_block : List ℕ → FileState
pending_block block =
    record { base = new_manager; seen = manager_of block 0; ranges = (16, length block) ∷ []; longest = 16 + length block }

-- the manager file has this block behind its gate, and a write of the gate, which a read sees open, is pending
abbrev pub pending_gate : List ℕ → FileState
pending_gate block =
    record { base = manager_of block 0; seen = manager_of block 1; ranges = (15, 1) ∷ []; longest = length (manager_of block 0) }

-- the same of the deposit's block, of 81 bytes
abbrev pub block_pending : FileState
block_pending = pending_block block_bytes

-- the deposit's block stands behind its gate, and a write of the gate is pending
abbrev pub gate_pending : FileState
gate_pending = pending_gate block_bytes

-- the disk once the version is written, and once it's synced
abbrev pub version_disk : Disk
version_disk = disk_of (settled new_manager) version_pending

-- the disk once the version is synced
abbrev pub voted_disk : Disk
voted_disk = disk_of (settled new_manager) (settled grain_bytes)

-- the disk once the block is written, and once it's synced
abbrev pub block_disk : Disk
block_disk = disk_of block_pending (settled grain_bytes)

-- the disk once the block is synced behind its closed gate
abbrev pub staged_disk : Disk
staged_disk = disk_of (settled (manager_bytes 0)) (settled grain_bytes)

-- the disk once the gate is written, and once it's synced
abbrev pub sealing_disk : Disk
sealing_disk = disk_of gate_pending (settled grain_bytes)

-- the disk once the open gate is synced
abbrev pub sealed_disk : Disk
sealed_disk = disk_of (settled (manager_bytes 1)) (settled grain_bytes)

-- the line
abbrev pub request_line : List ℕ
request_line = codes "{\"args\":[5],\"call\":\"account/1.deposit\"}"

-- its reply
abbrev pub reply_text : List ℕ
reply_text = codes "{\"n\":1,\"reply\":5,\"unit\":1}\n"

-- a moment with this output and this disk
abbrev pub moment : List ℕ → Disk → Moment
moment output disk = record { output = output; disk = disk }

-- the moment at which the opening's sync returned
abbrev pub opened : Moment
opened = moment [] new_disk

-- the moments of the writes and the syncs of the version, of the block and of its gate
abbrev pub sealing : List Moment
sealing =
    moment [] version_disk ∷ moment [] voted_disk ∷ moment [] block_disk ∷ moment [] staged_disk ∷ moment [] sealing_disk
    ∷ moment [] sealed_disk ∷ []

-- the moment at which the reply is written, and the exit
abbrev pub replied : Moment
replied = moment reply_text sealed_disk

-- what the host holds before
abbrev pub world_before : World
world_before = record { input = request_line ++ 10 ∷ []; output = []; disk = new_disk; syncs = 0; past = [] }

-- and after: four syncs, of the opening, the version, the block and its gate
abbrev pub world_after : World
world_after = record {
  input = [];
  output = reply_text;
  disk = sealed_disk;
  syncs = 4;
  past = opened ∷ (sealing ++ replied ∷ []);
}

-- the run: it answers the line, ends as done, and no call fails
abbrev pub written_run : Observed
written_run = record {
  manner = plain_manner;
  asked = request_line ∷ [];
  windowed = true;
  old = world_before;
  new = world_after;
  faults_before = λ channel. 0;
  faults_after = λ channel. 0;
  ending = Done;
}

-- ---- the host's calls

-- what is held between, while nothing is written: this input is left, on this disk, after so many syncs and so many of
-- the moments of `sealing`; no call has failed
abbrev pub held_at : List ℕ → Disk → ℕ → ℕ → HostState
held_at input disk syncs many = record {
  world = record { input = input; output = []; disk = disk; syncs = syncs; past = opened ∷ take many sealing };
  faults = λ channel. 0;
}

-- The opening's sync; the input, of 40 bytes, and its end; the version, the block and the gate, each with its sync; and
-- the reply.
abbrev pub written_steps : List HostStep
written_steps =
    record { call = Sync manager; after = held_at world_before.input new_disk 1 0 }
    ∷ record { call = Pull 40 world_before.input; after = held_at [] new_disk 1 0 }
    ∷ record { call = Pull 0 world_before.input; after = held_at [] new_disk 1 0 }
    ∷ record { call = Write (Grain 0 account_1) 0 grain_bytes; after = held_at [] version_disk 1 1 }
    ∷ record { call = Sync (Grain 0 account_1); after = held_at [] voted_disk 2 2 }
    ∷ record { call = Write manager 16 block_bytes; after = held_at [] block_disk 2 3 }
    ∷ record { call = Sync manager; after = held_at [] staged_disk 3 4 }
    ∷ record { call = Write manager 15 (1 ∷ []); after = held_at [] sealing_disk 3 5 }
    ∷ record { call = Sync manager; after = held_at [] sealed_disk 4 6 }
    ∷ record { call = Emit reply_text; after = record { world = world_after; faults = λ channel. 0 } } ∷ []
