-- Four calls of `init`, written out with their host calls: over an empty folder, over the folder that this left, of a text
-- that is no program, and where the last sync fails. And the answer to words that say nothing.
use Rattle.std.specs.Prelude.{ℕ, zero, suc, false, List, [], ◌∷◌, ◌++◌, take, codes}
use Rattle.host_trait.specs.declared.channels.FileId.TheVariants.{Manager, Program as ProgramFile, Grain}
use Rattle.host_trait.specs.Disk.{FileState, settled}
use Rattle.host_trait.specs.World.{World, Moment, Disk}
use Rattle.script_lexer.specs.declared.faults.ParseFault.TheVariants.{Unexpected}
use Rattle.field_codec.specs.declared.formats.Format.TheVariants.{Two}
use Rattle.field_codec.specs.Formats.{magic_of}
use Rattle.silo_spec.specs.Silos.{manager, program_file}
use Rattle.promise_spec.specs.Programs.{ProgramFault, Unparsed}
use Rattle.promise_spec.specs.Words.{plain_manner}
use Rattle.promise_spec.specs.Endings.{Done, BadUse, DiskFault, AlreadyASilo, BadProgram}
use Rattle.promise_spec.specs.Courses.{Observed}
use Rattle.promise_examples.specs.Examples.{account_text, program_bytes}
use Rattle.promise_examples.specs.HostCalls.{HostState, HostStep, Pull, Write, Sync, FailedSync}
use Rattle.promise_examples.specs.WrittenRun.{new_manager, moment}
use Rattle.promise_examples.specs.WrittenDoubt.{one_fault}

-- the word
abbrev pub init_words : List (List ℕ)
init_words = codes "init" ∷ []

-- ---- the disks

-- a disk of this program file and this manager file; all other files are settled and empty
abbrev pub head_disk : FileState → FileState → Disk
head_disk program log (ProgramFile zero) = program
head_disk program log (ProgramFile (suc slot)) = settled []
head_disk program log (Manager zero) = log
head_disk program log (Manager (suc slot)) = settled []
head_disk program log (Grain slot grain) = settled []

-- what stands behind the header gate: the magic, the generation 0, two zeros and the closed gate of the first block
abbrev pub header_bytes : List ℕ
header_bytes = magic_of Two ++ 0 ∷ 0 ∷ 0 ∷ 0 ∷ 0 ∷ 0 ∷ 0 ∷ []

-- the program file's length field
abbrev pub length_field : List ℕ
length_field = 179 ∷ 0 ∷ 0 ∷ 0 ∷ []

-- a write of the length field is pending, and then one of the text too
abbrev pub length_pending : FileState
length_pending = record { base = []; seen = length_field; ranges = (0, 4) ∷ []; longest = 4 }

-- writes of the program file's length field and of its text are pending
abbrev pub text_pending : FileState
text_pending = record { base = []; seen = program_bytes; ranges = (4, 179) ∷ (0, 4) ∷ []; longest = 183 }

-- a write of the closed header gate is pending
abbrev pub closing_gate : FileState
closing_gate = record { base = []; seen = 0 ∷ []; ranges = (0, 1) ∷ []; longest = 1 }

-- a write of what stands behind the gate is pending
abbrev pub header_pending : FileState
header_pending = record { base = 0 ∷ []; seen = 0 ∷ header_bytes; ranges = (1, 15) ∷ []; longest = 16 }

-- a write of the open header gate is pending
abbrev pub opening_gate : FileState
opening_gate = record { base = 0 ∷ header_bytes; seen = new_manager; ranges = (0, 1) ∷ []; longest = 16 }

-- the disk of an empty folder, and that of the new silo
abbrev pub empty_disk : Disk
empty_disk = head_disk (settled []) (settled [])

-- the disk of the new silo
abbrev pub made_disk : Disk
made_disk = head_disk (settled program_bytes) (settled new_manager)

-- the disk while the header gate is pending, open as a read sees it
abbrev pub opening_disk : Disk
opening_disk = head_disk (settled program_bytes) opening_gate

-- ---- over an empty folder

-- the moment at which the closed header gate is written: nothing of the manager file was synced
abbrev pub unsynced : Moment
unsynced = moment [] (head_disk (settled []) closing_gate)

-- the moments from the first sync's return up to that at which the header gate is opened
abbrev pub filling : List Moment
filling =
    moment [] (head_disk (settled []) (settled (0 ∷ []))) ∷ moment [] (head_disk length_pending (settled (0 ∷ [])))
    ∷ moment [] (head_disk text_pending (settled (0 ∷ []))) ∷ moment [] (head_disk (settled program_bytes) (settled (0 ∷ [])))
    ∷ moment [] (head_disk (settled program_bytes) header_pending)
    ∷ moment [] (head_disk (settled program_bytes) (settled (0 ∷ header_bytes))) ∷ moment [] opening_disk ∷ []

-- what the host holds before: an empty folder, and the text as the input
abbrev pub init_before : World
init_before = record { input = account_text; output = []; disk = empty_disk; syncs = 0; past = [] }

-- and after: four syncs, of the closed gate, the program file, the header and the open gate
abbrev pub init_after : World
init_after = record { input = []; output = []; disk = made_disk; syncs = 4; past = unsynced ∷ (filling ++ moment [] made_disk ∷ []) }

-- the call: it's done, and no host call fails
abbrev pub made : Observed
made = record {
  manner = plain_manner;
  asked = [];
  windowed = false;
  old = init_before;
  new = init_after;
  faults_before = λ channel. 0;
  faults_after = λ channel. 0;
  ending = Done;
}

-- what is held between: this input is left, on this disk, after so many syncs and so many of the moments; no call has failed
abbrev pub init_at : List ℕ → Disk → ℕ → ℕ → HostState
init_at input disk syncs many = record {
  world = record { input = input; output = []; disk = disk; syncs = syncs; past = take many (unsynced ∷ filling) };
  faults = λ channel. 0;
}

-- The input, of 179 bytes, and its end; the closed header gate with its sync; the program file's length and text, with their
-- sync; what stands behind the gate, with its sync; and the open gate.
abbrev pub opening_steps : List HostStep
opening_steps =
    record { call = Pull 179 account_text; after = init_at [] empty_disk 0 0 }
    ∷ record { call = Pull 0 account_text; after = init_at [] empty_disk 0 0 }
    ∷ record { call = Write manager 0 (0 ∷ []); after = init_at [] (head_disk (settled []) closing_gate) 0 1 }
    ∷ record { call = Sync manager; after = init_at [] (head_disk (settled []) (settled (0 ∷ []))) 1 2 }
    ∷ record { call = Write program_file 0 length_field; after = init_at [] (head_disk length_pending (settled (0 ∷ []))) 1 3 }
    ∷ record { call = Write program_file 4 account_text; after = init_at [] (head_disk text_pending (settled (0 ∷ []))) 1 4 }
    ∷ record { call = Sync program_file; after = init_at [] (head_disk (settled program_bytes) (settled (0 ∷ []))) 2 5 }
    ∷ record { call = Write manager 1 header_bytes; after = init_at [] (head_disk (settled program_bytes) header_pending) 2 6 }
    ∷ record { call = Sync manager; after = init_at [] (head_disk (settled program_bytes) (settled (0 ∷ header_bytes))) 3 7 }
    ∷ record { call = Write manager 0 (1 ∷ []); after = init_at [] opening_disk 3 8 } ∷ []

-- and the last sync
abbrev pub made_steps : List HostStep
made_steps = opening_steps ++ record { call = Sync manager; after = record { world = init_after; faults = λ channel. 0 } } ∷ []

-- ---- over the folder that this left

-- what the host holds before: the new silo, and the text as the input again
abbrev pub again_before : World
again_before = record { input = account_text; output = []; disk = made_disk; syncs = 0; past = [] }

-- and after: the manager file was synced, which changed nothing
abbrev pub again_after : World
again_after = record { input = []; output = []; disk = made_disk; syncs = 1; past = moment [] made_disk ∷ [] }

-- the call: the folder is a silo already
abbrev pub made_again : Observed
made_again = record {
  manner = plain_manner;
  asked = [];
  windowed = false;
  old = again_before;
  new = again_after;
  faults_before = λ channel. 0;
  faults_after = λ channel. 0;
  ending = AlreadyASilo;
}

-- what is held between: nothing has happened but that the input was read
abbrev pub again_read : HostState
again_read = record { world = record again_before { input = [] }; faults = λ channel. 0 }

-- the input and its end, and the sync
abbrev pub again_steps : List HostStep
again_steps =
    record { call = Pull 179 account_text; after = again_read } ∷ record { call = Pull 0 account_text; after = again_read }
    ∷ record { call = Sync manager; after = record { world = again_after; faults = λ channel. 0 } } ∷ []

-- ---- of a text that is no program

-- a type whose closing brace is missing
abbrev pub cut_text : List ℕ
cut_text = codes "type a {"

-- its fault: it ends where something more has to stand
abbrev pub cut_fault : ProgramFault
cut_fault = Unparsed (Unexpected 8)

-- what the host holds before, and after: nothing was written or synced
abbrev pub cut_before : World
cut_before = record { input = cut_text; output = []; disk = empty_disk; syncs = 0; past = [] }

-- what the host holds after it: the input was read, and nothing else has happened
abbrev pub cut_after : World
cut_after = record { input = []; output = []; disk = empty_disk; syncs = 0; past = [] }

-- the call: it names the fault
abbrev pub unmade : Observed
unmade = record {
  manner = plain_manner;
  asked = [];
  windowed = false;
  old = cut_before;
  new = cut_after;
  faults_before = λ channel. 0;
  faults_after = λ channel. 0;
  ending = BadProgram cut_fault;
}

-- the input, of 8 bytes, and its end
abbrev pub unmade_steps : List HostStep
unmade_steps =
    record { call = Pull 8 cut_text; after = record { world = cut_after; faults = λ channel. 0 } }
    ∷ record { call = Pull 0 cut_text; after = record { world = cut_after; faults = λ channel. 0 } } ∷ []

-- ---- where the last sync fails

-- what the host holds after: the open header gate stays pending
abbrev pub halted_after : World
halted_after = record { input = []; output = []; disk = opening_disk; syncs = 4; past = unsynced ∷ (filling ++ moment [] opening_disk ∷ []) }

-- the call: it ends with the fault of the manager file
abbrev pub halted : Observed
halted = record {
  manner = plain_manner;
  asked = [];
  windowed = false;
  old = init_before;
  new = halted_after;
  faults_before = λ channel. 0;
  faults_after = one_fault;
  ending = DiskFault manager;
}

-- the steps are the same up to the last sync
abbrev pub halted_steps : List HostStep
halted_steps = opening_steps ++ record { call = FailedSync manager; after = record { world = halted_after; faults = one_fault } } ∷ []

-- ---- words that say nothing

-- a word too many
abbrev pub other_words : List (List ℕ)
other_words = codes "init" ∷ codes "extra" ∷ []

-- the call: bad use, and the host is as it was
abbrev pub unused : Observed
unused = record {
  manner = plain_manner;
  asked = [];
  windowed = false;
  old = init_before;
  new = init_before;
  faults_before = λ channel. 0;
  faults_after = λ channel. 0;
  ending = BadUse;
}
