-- The run of two deposits at once in a new silo, written out with its host calls: the second meets the first one's
-- lock, and the first is left in doubt.
use Rattle.std.specs.Prelude.{ℕ, zero, suc, false, true, List, [], ◌∷◌, ◌++◌, take, codes}
use Rattle.host_trait.specs.declared.channels.Channel.{Channel}
use Rattle.host_trait.specs.declared.channels.Channel.TheVariants.{Input, Output, File}
use Rattle.host_trait.specs.declared.channels.FileId.TheVariants.{Manager, Program as ProgramFile, Grain}
use Rattle.host_trait.specs.World.{World, Moment, Disk}
use Rattle.silo_spec.specs.Silos.{manager}
use Rattle.promise_spec.specs.Words.{Manner}
use Rattle.promise_spec.specs.Endings.{DiskFault}
use Rattle.promise_spec.specs.Courses.{Observed}
use Rattle.promise_examples.specs.Examples.{account_1, grain_bytes, block_bytes}
use Rattle.promise_examples.specs.HostCalls.{HostState, HostStep, Pull, Emit, Write, Sync, FailedSync}
use Rattle.promise_examples.specs.WrittenRun.{new_disk, version_disk, voted_disk, block_disk, staged_disk, sealing_disk, request_line, moment, opened}

-- two lines may be in flight, and of what can take a turn it is the first, then twice the second
abbrev pub pair_manner : Manner
pair_manner = record { threaded = false; width = 2; picks = 0 ∷ 1 ∷ 1 ∷ [] }

-- the second line
abbrev pub second_line : List ℕ
second_line = codes "{\"args\":[4],\"call\":\"account/1.deposit\"}"

-- what the second line is told
abbrev pub locked_text : List ℕ
locked_text = codes "{\"aborted\":\"lock\",\"by\":1,\"grain\":\"account/1\",\"n\":2,\"unit\":2}\n"

-- and then the first
abbrev pub doubt_text : List ℕ
doubt_text = codes "{\"in_doubt\":true,\"n\":1,\"unit\":1}\n"

-- the moments from that at which the second line is told: the version and the block are written and synced
abbrev pub told : List Moment
told =
    moment locked_text new_disk ∷ moment locked_text version_disk ∷ moment locked_text voted_disk ∷ moment locked_text block_disk
    ∷ moment locked_text staged_disk ∷ []

-- the moments at which the gate is written, and its sync fails
abbrev pub doubting : List Moment
doubting = moment locked_text sealing_disk ∷ moment locked_text sealing_disk ∷ []

-- the moment at which the first line is told, and the exit
abbrev pub doubt_told : Moment
doubt_told = moment (locked_text ++ doubt_text) sealing_disk

-- what the host holds before
abbrev pub pair_before : World
pair_before = record { input = request_line ++ (10 ∷ (second_line ++ 10 ∷ [])); output = []; disk = new_disk; syncs = 0; past = [] }

-- and after: the gate stays pending. The last of four syncs failed
abbrev pub pair_after : World
pair_after = record {
  input = [];
  output = locked_text ++ doubt_text;
  disk = sealing_disk;
  syncs = 4;
  past = opened ∷ (told ++ doubting ++ doubt_told ∷ []);
}

-- one call on the manager file failed, and none on another channel
abbrev pub one_fault : Channel → ℕ
one_fault Input = 0
one_fault Output = 0
one_fault (File (Manager zero)) = 1
one_fault (File (Manager (suc slot))) = 0
one_fault (File (ProgramFile slot)) = 0
one_fault (File (Grain slot grain)) = 0

-- the run: it answers both lines, and ends with the fault of the manager file
abbrev pub doubted : Observed
doubted = record {
  manner = pair_manner;
  asked = request_line ∷ second_line ∷ [];
  windowed = true;
  old = pair_before;
  new = pair_after;
  faults_before = λ channel. 0;
  faults_after = one_fault;
  ending = DiskFault manager;
}

-- ---- the host's calls

-- what is held once the opening has synced: this input is left
abbrev pub pair_opened : List ℕ → HostState
pair_opened input = record {
  world = record { input = input; output = []; disk = new_disk; syncs = 1; past = opened ∷ [] };
  faults = λ channel. 0;
}

-- what is held between the replies: this disk, after so many syncs and so many of the moments, with these counts
abbrev pub pair_at : Disk → ℕ → ℕ → (Channel → ℕ) → HostState
pair_at disk syncs many faults = record {
  world = record { input = []; output = locked_text; disk = disk; syncs = syncs; past = opened ∷ take many (told ++ doubting) };
  faults = faults;
}

-- The opening's sync; the input, of 80 bytes, and its end; the second line's reply; the version and the block, each with
-- its sync; the gate, whose sync fails; and the first line's reply.
abbrev pub doubted_steps : List HostStep
doubted_steps =
    record { call = Sync manager; after = pair_opened pair_before.input }
    ∷ record { call = Pull 80 pair_before.input; after = pair_opened [] }
    ∷ record { call = Pull 0 pair_before.input; after = pair_opened [] }
    ∷ record { call = Emit locked_text; after = pair_at new_disk 1 1 (λ channel. 0) }
    ∷ record { call = Write (Grain 0 account_1) 0 grain_bytes; after = pair_at version_disk 1 2 (λ channel. 0) }
    ∷ record { call = Sync (Grain 0 account_1); after = pair_at voted_disk 2 3 (λ channel. 0) }
    ∷ record { call = Write manager 16 block_bytes; after = pair_at block_disk 2 4 (λ channel. 0) }
    ∷ record { call = Sync manager; after = pair_at staged_disk 3 5 (λ channel. 0) }
    ∷ record { call = Write manager 15 (1 ∷ []); after = pair_at sealing_disk 3 6 (λ channel. 0) }
    ∷ record { call = FailedSync manager; after = pair_at sealing_disk 4 7 one_fault }
    ∷ record { call = Emit doubt_text; after = record { world = pair_after; faults = one_fault } } ∷ []
