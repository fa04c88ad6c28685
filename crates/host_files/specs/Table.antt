-- The files that are ready: how often calls on each have failed, whether a sync of it has, and whether it was seen to have bytes.
use Rattle.std.specs.Prelude.{◌≡◌, ℕ, Bool, false, IsTrue, Option, Some, None, is_some, List}
use Rattle.std.specs.declared.cmp.Ordering.{Ordering}
use Rattle.std.specs.BTreeMap.{is_at}
use Rattle.std.specs.Map.{lookup}
use Rattle.host_trait.specs.declared.channels.FileId.{FileId}
use Rattle.host_trait.specs.declared.channels.Channel.{Channel}
use Rattle.host_trait.specs.declared.channels.Channel.TheVariants.{Input, Output, File}
use Rattle.host_trait.specs.contracts.channels.FileIdOrd.TheImpl as file_ord
use Rattle.system_calls.specs.System.{System}
use Rattle.host_files.specs.declared.table.Known.{Known}
use Rattle.host_files.specs.UnfailingCalls.{IsInPlace}
use Rattle.host_trait.specs.Files.{is_always}

-- the order of files in the table
abbrev pub file_cmp : FileId → FileId → Ordering
file_cmp = (file_ord.ghosts).cmp

-- the table's entries, the first of a file telling what is known of it
abbrev pub Files : Type 0
Files = List (FileId × Known)

-- how often calls on the entry's file have failed, 0 where there is no entry
abbrev pub faults_in_entry : Option Known → ℕ
faults_in_entry None = 0
faults_in_entry (Some known) = known.faults

-- a sync of the entry's file has failed
abbrev pub is_lost_entry : Option Known → Bool
is_lost_entry None = false
is_lost_entry (Some known) = known.is_lost

-- the entry's file was seen to have bytes
abbrev pub had_bytes_entry : Option Known → Bool
had_bytes_entry None = false
had_bytes_entry (Some known) = known.had_bytes

-- whether a file is ready
abbrev pub is_known : Files → FileId → Bool
is_known files file = is_some (lookup (is_at (file_cmp file)) files)

-- how often calls on a file have failed
abbrev pub faults_in : Files → FileId → ℕ
faults_in files file = faults_in_entry (lookup (is_at (file_cmp file)) files)

-- whether a sync of a file has failed
abbrev pub is_lost : Files → FileId → Bool
is_lost files file = is_lost_entry (lookup (is_at (file_cmp file)) files)

-- whether a file was seen to have bytes
abbrev pub had_bytes_in : Files → FileId → Bool
had_bytes_in files file = had_bytes_entry (lookup (is_at (file_cmp file)) files)

-- each file that is ready from the start has an entry
abbrev pub AreAlwaysKnown : Files → Type 0
AreAlwaysKnown files = (file : FileId) → IsTrue (is_always file) → IsTrue (is_known files file)

-- the same files are ready as before
abbrev pub SameFiles : Files → Files → Type 0
SameFiles old new = (file : FileId) → is_known new file ≡ is_known old file

-- how often each channel has failed
abbrev pub counts_of : ℕ → ℕ → Files → Channel → ℕ
counts_of input output files Input = input
counts_of input output files Output = output
counts_of input output files (File file) = faults_in files file

-- of no file it is known otherwise than before whether a sync of it has failed
abbrev pub SameLost : Files → Files → Type 0
SameLost old new = (file : FileId) → is_lost new file ≡ is_lost old file

-- of no file it is known otherwise than before whether it was seen to have bytes
abbrev pub SameHadBytes : Files → Files → Type 0
SameHadBytes old new = (file : FileId) → had_bytes_in new file ≡ had_bytes_in old file

-- each file of which a sync has failed is known as such still
abbrev pub StayLost : Files → Files → Type 0
StayLost old new = (file : FileId) → IsTrue (is_lost old file) → IsTrue (is_lost new file)

-- By what is known of the file, and as the system has it, nothing stands in the way of a call on it.
abbrev pub IsInOrder : Files → (FileId → Bool) → System → FileId → Type 0
IsInOrder files is_regular system file = IsInPlace (is_lost files file) (had_bytes_in files file) (is_regular file) (system.world.disk file).seen
