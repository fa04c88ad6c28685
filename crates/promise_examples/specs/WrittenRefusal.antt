-- The refusal of a damaged folder, written out: the block of the first deposit is cut.
use Rattle.std.specs.Prelude.{true, List, [], ◌∷◌, ◌++◌, take}
use Rattle.host_trait.specs.Disk.{settled}
use Rattle.host_trait.specs.World.{World, Disk}
use Rattle.silo_spec.specs.Silos.{manager}
use Rattle.promise_spec.specs.Words.{plain_manner}
use Rattle.promise_spec.specs.Endings.{Damaged}
use Rattle.promise_spec.specs.Courses.{Observed}
use Rattle.promise_examples.specs.Examples.{grain_bytes, manager_bytes}
use Rattle.promise_examples.specs.HostCalls.{HostStep, Sync}
use Rattle.promise_examples.specs.WrittenRun.{disk_of, request_line, moment}

-- the disk: the gate is open, and the last seventeen of the manager file's 97 bytes aren't there
abbrev pub torn_disk : Disk
torn_disk = disk_of (settled (take 80 (manager_bytes 1))) (settled grain_bytes)

-- what the host holds before
abbrev pub torn_before : World
torn_before = record { input = request_line ++ 10 ∷ []; output = []; disk = torn_disk; syncs = 0; past = [] }

-- and after: the opening synced the manager file, and no input was read
abbrev pub torn_after : World
torn_after = record { input = request_line ++ 10 ∷ []; output = []; disk = torn_disk; syncs = 1; past = moment [] torn_disk ∷ [] }

-- the run: it answers that the manager file is damaged at the block's length field
abbrev pub refused : Observed
refused = record {
  manner = plain_manner;
  asked = [];
  windowed = true;
  old = torn_before;
  new = torn_after;
  faults_before = λ channel. 0;
  faults_after = λ channel. 0;
  ending = Damaged manager 16;
}

-- the host's one call that isn't only asking
abbrev pub refused_steps : List HostStep
refused_steps = record { call = Sync manager; after = record { world = torn_after; faults = λ channel. 0 } } ∷ []
