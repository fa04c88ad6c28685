-- How often each channel has failed, and which files are always kept.
use Rattle.std.specs.Prelude.{ℕ, IsTrue, List}
use Rattle.host_trait.specs.declared.channels.FileId.{FileId}
use Rattle.host_trait.specs.declared.channels.Channel.{Channel}
use Rattle.host_trait.specs.declared.channels.Channel.TheVariants.{Input, Output, File}
use Rattle.host_trait.specs.Files.{is_always}
use Rattle.host_memory.specs.declared.files.Stored.{Stored}
use Rattle.host_memory.specs.Table.{is_kept, faults_in}

-- how often each channel has failed
abbrev pub counts_of : ℕ → ℕ → List Stored → Channel → ℕ
counts_of input output files Input = input
counts_of input output files Output = output
counts_of input output files (File file) = faults_in files file

-- each file that is ready from the start is in the list
abbrev pub AreAlwaysKept : List Stored → Type 0
AreAlwaysKept files = (file : FileId) → IsTrue (is_always file) → IsTrue (is_kept files file)
