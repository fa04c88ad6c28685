-- Folders like that of the first deposit, each with a small change.
use Rattle.std.specs.Prelude.{ℕ, zero, suc, ◌+◌, List, [], ◌∷◌, ◌++◌, length, take, drop, ◌==◌, if◌then◌else◌}
use Rattle.host_trait.specs.declared.channels.FileId.TheVariants.{Manager, Program as ProgramFile, Grain}
use Rattle.host_trait.specs.World.{Image}
use Rattle.field_codec.specs.declared.formats.Format.TheVariants.{One, Two}
use Rattle.field_codec.specs.Formats.{magic_of}
use Rattle.promise_examples.specs.Examples.{program_bytes, grain_bytes, manager_bytes}

-- the bytes, with this one at this place
abbrev pub changed : ℕ → ℕ → List ℕ → List ℕ
changed at byte bytes = take at bytes ++ (byte ∷ drop (at + 1) bytes)

-- a folder of this program file and, in slot 0, this manager file, where every grain's file is that one
abbrev pub folder_of : List ℕ → List ℕ → List ℕ → Image
folder_of program log grain_file (ProgramFile slot) = program
folder_of program log grain_file (Manager zero) = log
folder_of program log grain_file (Manager (suc slot)) = []
folder_of program log grain_file (Grain slot grain) = grain_file

-- the first deposit's folder, with another program file
abbrev pub program_folder : List ℕ → Image
program_folder file = folder_of file (manager_bytes 1) grain_bytes

-- with another manager file
abbrev pub log_folder : List ℕ → Image
log_folder file = folder_of program_bytes file grain_bytes

-- with another byte at a place of the manager file
abbrev pub log_changed : ℕ → ℕ → Image
log_changed at byte = log_folder (changed at byte (manager_bytes 1))

-- with another file of each grain
abbrev pub grain_folder : List ℕ → Image
grain_folder file = folder_of program_bytes (manager_bytes 1) file

-- the program file of a text of fewer than 256 bytes
abbrev pub program_with : List ℕ → List ℕ
program_with text = length text ∷ 0 ∷ 0 ∷ 0 ∷ text

-- the manager file, where the record has a second write, on the same grain
abbrev pub two_writes : List ℕ
two_writes =
    changed 16 94 (changed 76 2 (take 96 (manager_bytes 1)))
    ++ (0 ∷ 0 ∷ 1 ∷ 0 ∷ 0 ∷ 0 ∷ 19 ∷ 0 ∷ 0 ∷ 0 ∷ 0 ∷ 0 ∷ 0 ∷ 0 ∷ 19 ∷ 0 ∷ 0 ∷ 0 ∷ 0 ∷ [])

-- the manager file of the first deposit in format 1, whose body names no session
abbrev pub old_manager_bytes : List ℕ
old_manager_bytes =
    1 ∷ (magic_of One ++ 0 ∷ 0 ∷ 0 ∷ 0 ∷ 0 ∷ 0 ∷ 1 ∷ 68 ∷ 0 ∷ 0 ∷ 0 ∷ drop 28 (manager_bytes 1))

-- ---- logs of two records

-- an open gate, and a block of one record, in session 1: unit u deposits 5 in `account/k` as line u, and its version stands at `from`
abbrev pub block_on : ℕ → ℕ → ℕ → List ℕ
block_on k u from =
    1 ∷ 76 ∷ 0 ∷ 0 ∷ 0 ∷ 1 ∷ 0 ∷ 0 ∷ 0 ∷ 0 ∷ 0 ∷ 0 ∷ 0 ∷ 1 ∷ 0 ∷ 0 ∷ 0 ∷
    u ∷ 0 ∷ 0 ∷ 0 ∷ 0 ∷ 0 ∷ 0 ∷ 0 ∷ 0 ∷ u ∷ 0 ∷ 0 ∷ 0 ∷
    0 ∷ 0 ∷ k ∷ 0 ∷ 0 ∷ 0 ∷ 0 ∷ 0 ∷ 1 ∷ 0 ∷
    0 ∷ 5 ∷ 0 ∷ 0 ∷ 0 ∷ 0 ∷ 0 ∷ 0 ∷ 0 ∷
    0 ∷ 0 ∷ 1 ∷ 0 ∷ 5 ∷ 0 ∷ 0 ∷ 0 ∷ 0 ∷ 0 ∷ 0 ∷ 0 ∷
    1 ∷ 0 ∷ 0 ∷ 0 ∷ k ∷ 0 ∷ 0 ∷ 0 ∷ from ∷ 0 ∷ 0 ∷ 0 ∷ 0 ∷ 0 ∷ 0 ∷ 0 ∷ 19 ∷ 0 ∷ 0 ∷ 0 ∷ []

-- a manager file of two blocks, which ends with a closed gate
abbrev pub two_blocks : List ℕ → List ℕ → List ℕ
two_blocks first second = 1 ∷ (magic_of Two ++ (0 ∷ 0 ∷ 0 ∷ 0 ∷ 0 ∷ 0 ∷ (first ++ (second ++ 0 ∷ []))))

-- two deposits in one account, the second one's version behind the first one's
abbrev pub same_account : List ℕ
same_account = two_blocks (block_on 1 1 0) (block_on 1 2 19)

-- a deposit in `account/2`, and then one in `account/1`
abbrev pub other_account : List ℕ
other_account = two_blocks (block_on 2 1 0) (block_on 1 2 0)

-- the version of unit u that says 5
abbrev pub version_by : ℕ → List ℕ
version_by u = u ∷ 0 ∷ 0 ∷ 0 ∷ 0 ∷ 0 ∷ 0 ∷ 0 ∷ 1 ∷ 0 ∷ 0 ∷ 5 ∷ 0 ∷ 0 ∷ 0 ∷ 0 ∷ 0 ∷ 0 ∷ 0 ∷ []

-- the folder of the second log, where `account/1` has this file and `account/2` that one
abbrev pub two_folder : List ℕ → List ℕ → Image
two_folder one other (ProgramFile slot) = program_bytes
two_folder one other (Manager zero) = other_account
two_folder one other (Manager (suc slot)) = []
two_folder one other (Grain slot grain) = if grain.key == 1 then one else other
