-- The run of a deposit and of a read of what it left, written out with its host calls: the deposit's version can't be
-- written, so both are aborted.
use Rattle.std.specs.Prelude.{ℕ, zero, suc, false, true, List, [], ◌∷◌, ◌++◌, take, if◌then◌else◌, codes}
use Rattle.host_trait.specs.declared.channels.Channel.{Channel}
use Rattle.host_trait.specs.declared.channels.Channel.TheVariants.{Input, Output, File}
use Rattle.host_trait.specs.declared.channels.FileId.TheVariants.{Manager, Program as ProgramFile, Grain}
use Rattle.host_trait.specs.Disk.{FileState, settled}
use Rattle.host_trait.specs.World.{World, Moment, Disk}
use Rattle.cell_model.specs.Units.{same_grain}
use Rattle.silo_spec.specs.Silos.{manager}
use Rattle.promise_spec.specs.Words.{Manner}
use Rattle.promise_spec.specs.Endings.{Done}
use Rattle.promise_spec.specs.Courses.{Observed}
use Rattle.promise_examples.specs.Examples.{account_1, grain_bytes}
use Rattle.promise_examples.specs.HostCalls.{HostState, HostStep, Pull, Emit, FailedWrite, Sync}
use Rattle.promise_examples.specs.WrittenRun.{new_manager, disk_of, new_disk, request_line, moment, opened}

-- two lines may be in flight, and the first of what can take a turn takes it
abbrev pub reading_manner : Manner
reading_manner = record { threaded = false; width = 2; picks = [] }

-- the second line
abbrev pub read_line : List ℕ
read_line = codes "{\"args\":[],\"call\":\"account/1.read\"}"

-- what the first line is told
abbrev pub voted_text : List ℕ
voted_text = codes "{\"aborted\":\"vote\",\"grain\":\"account/1\",\"n\":1,\"unit\":1}\n"

-- and then the second
abbrev pub dependent_text : List ℕ
dependent_text = codes "{\"aborted\":\"dependency\",\"n\":2,\"on\":1,\"unit\":2}\n"

-- the write of the version was cut after seven bytes
abbrev pub version_cut : FileState
version_cut = record { base = []; seen = take 7 grain_bytes; ranges = (0, 19) ∷ []; longest = 19 }

-- the disk from then on
abbrev pub cut_disk : Disk
cut_disk = disk_of (settled new_manager) version_cut

-- the moment at which the write fails
abbrev pub failing : List Moment
failing = moment [] cut_disk ∷ []

-- the moment at which the first line is told
abbrev pub vote_told : List Moment
vote_told = moment voted_text cut_disk ∷ []

-- the moment at which the second line is told, and the exit
abbrev pub both_told : Moment
both_told = moment (voted_text ++ dependent_text) cut_disk

-- what the host holds before
abbrev pub reading_before : World
reading_before = record { input = request_line ++ (10 ∷ (read_line ++ 10 ∷ [])); output = []; disk = new_disk; syncs = 0; past = [] }

-- and after: the opening's sync was the only one
abbrev pub reading_after : World
reading_after = record {
  input = [];
  output = voted_text ++ dependent_text;
  disk = cut_disk;
  syncs = 1;
  past = opened ∷ (failing ++ vote_told ++ both_told ∷ []);
}

-- one call on the file of `account/1` failed, and none on another channel
abbrev pub grain_fault : Channel → ℕ
grain_fault Input = 0
grain_fault Output = 0
grain_fault (File (Manager slot)) = 0
grain_fault (File (ProgramFile slot)) = 0
grain_fault (File (Grain zero grain)) = if same_grain account_1 grain then 1 else 0
grain_fault (File (Grain (suc slot) grain)) = 0

-- the run: it answers both lines, and ends as done
abbrev pub voted : Observed
voted = record {
  manner = reading_manner;
  asked = request_line ∷ read_line ∷ [];
  windowed = true;
  old = reading_before;
  new = reading_after;
  faults_before = λ channel. 0;
  faults_after = grain_fault;
  ending = Done;
}

-- ---- the host's calls

-- what is held before the first reply: this input is left, on this disk, after so many of the moments, with these counts
abbrev pub reading_at : List ℕ → Disk → ℕ → (Channel → ℕ) → HostState
reading_at input disk many faults = record {
  world = record { input = input; output = []; disk = disk; syncs = 1; past = opened ∷ take many failing };
  faults = faults;
}

-- what is held between the replies
abbrev pub reading_told : HostState
reading_told = record {
  world = record { input = []; output = voted_text; disk = cut_disk; syncs = 1; past = opened ∷ (failing ++ vote_told) };
  faults = grain_fault;
}

-- The opening's sync; the input, of 76 bytes, and its end; the write of the version, which fails; and both replies.
abbrev pub voted_steps : List HostStep
voted_steps =
    record { call = Sync manager; after = reading_at reading_before.input new_disk 0 (λ channel. 0) }
    ∷ record { call = Pull 76 reading_before.input; after = reading_at [] new_disk 0 (λ channel. 0) }
    ∷ record { call = Pull 0 reading_before.input; after = reading_at [] new_disk 0 (λ channel. 0) }
    ∷ record { call = FailedWrite (Grain 0 account_1) 0 19; after = reading_at [] cut_disk 1 grain_fault }
    ∷ record { call = Emit voted_text; after = reading_told }
    ∷ record { call = Emit dependent_text; after = record { world = reading_after; faults = grain_fault } } ∷ []
