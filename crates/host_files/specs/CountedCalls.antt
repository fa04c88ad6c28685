-- What a call makes of the table: the counts of its channel, and which files are ready.
use Rattle.std.specs.Prelude.{ℕ, Bool, Result}
use Rattle.host_trait.specs.Faults.{Counted}
use Rattle.host_trait.specs.Files.{StaysReady}
use Rattle.host_trait.specs.declared.channels.FileId.{FileId}
use Rattle.host_trait.specs.declared.channels.Channel.{Channel}
use Rattle.host_files.specs.Table.{is_known, counts_of}
use Rattle.host_files.specs.declared.table.Table.{Table}

-- how often calls on each channel have failed
abbrev pub counts_in : Table → Channel → ℕ
counts_in table = counts_of table.input_faults table.output_faults table.files

-- which files are ready
abbrev pub ready_in : Table → FileId → Bool
ready_in table = is_known table.files

-- A call on this channel: its count rises where the call failed, no other count changes, and no file that was ready ceases to be.
pub record CountsCall {T E : Type 0} (channel : Channel) (result : Result T E) (old new : Table) : Type 0 where
  pub faults : Counted channel result (counts_in old) (counts_in new)
  pub ready : StaysReady (ready_in old) (ready_in new)
