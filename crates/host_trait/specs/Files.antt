-- Files: their slots and names, and which calls a file may be given to.
use Rattle.std.specs.Prelude.{ℕ, ◌≤◌, nat_le, ◌==◌, ◌&&◌, Bool, false, IsTrue, List, ◌++◌, codes, decimal}
pub use Rattle.base_types.specs.Grains.{same_grain}
use Rattle.host_trait.specs.declared.channels.FileId.{FileId}
use Rattle.host_trait.specs.declared.channels.FileId.TheVariants.{Program, Manager, Grain}

-- the file of the log, in every command
abbrev pub manager : FileId
manager = Manager 0

-- the file of the program, in every command
abbrev pub program_file : FileId
program_file = Program 0

-- whether two names are one file's
abbrev pub same_file : FileId → FileId → Bool
same_file (Program a) (Program b) = a == b
same_file (Program a) (Manager b) = false
same_file (Program a) (Grain b y) = false
same_file (Manager a) (Program b) = false
same_file (Manager a) (Manager b) = a == b
same_file (Manager a) (Grain b y) = false
same_file (Grain a x) (Program b) = false
same_file (Grain a x) (Manager b) = false
same_file (Grain a x) (Grain b y) = (a == b) && same_grain x y

-- the slot of a file
abbrev pub slot_of : FileId → ℕ
slot_of (Program slot) = slot
slot_of (Manager slot) = slot
slot_of (Grain slot grain) = slot

-- whether a file is ready from the start
abbrev pub is_always : FileId → Bool
is_always (Program slot) = nat_le slot 1
is_always (Manager slot) = nat_le slot 1
is_always (Grain slot grain) = false

-- slots are 0 and 1
abbrev pub HasSlot : FileId → Type 0
HasSlot file = slot_of file ≤ 1

-- A call may be given this file: its slot is one, and a grain file has been made ready.
abbrev pub MayAsk : (FileId → Bool) → FileId → Type 0
MayAsk is_ready (Program slot) = slot ≤ 1
MayAsk is_ready (Manager slot) = slot ≤ 1
MayAsk is_ready (Grain slot grain) = (slot ≤ 1) × IsTrue (is_ready (Grain slot grain))

-- no file that was ready has ceased to be
abbrev pub StaysReady : (FileId → Bool) → (FileId → Bool) → Type 0
StaysReady old new = (file : FileId) → IsTrue (old file) → IsTrue (new file)

-- the file is a manager file
abbrev pub IsManager : FileId → Type 0
IsManager (Program slot) = ⊥
IsManager (Manager slot) = Unit {0}
IsManager (Grain slot grain) = ⊥

-- the name that a file has in its silo's folder
abbrev pub name_of : FileId → List ℕ
name_of (Program slot) = codes "program-" ++ (decimal slot ++ codes ".otx")
name_of (Manager slot) = codes "manager-" ++ (decimal slot ++ codes ".otx")
name_of (Grain slot grain) = codes "grain-" ++ (decimal slot ++ (codes "-" ++ (decimal grain.kind ++ (codes "-" ++ (decimal grain.key ++ codes ".otx")))))
