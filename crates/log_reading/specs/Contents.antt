-- What is kept of the log and the versions of a folder's live files, and why they couldn't be read.
use Rattle.std.specs.Prelude.{◌≡◌, ◌⊎◌, ℕ, ◌+◌, ◌^◌, ◌<◌, ◌≤◌, length, map, Some, None, Ok, Err, ⊤}
use Rattle.base_types.specs.declared.calls.GrainId.{GrainId}
use Rattle.base_types.specs.Stores.{end_in}
use Rattle.base_types.specs.Places.{placed_in}
use Rattle.host_trait.specs.declared.channels.FileId.{FileId}
use Rattle.host_trait.specs.declared.channels.FileId.TheVariants.{Manager}
use Rattle.host_trait.specs.World.{Image}
use Rattle.field_codec.specs.declared.formats.Format.{Format}
use Rattle.gate_block.specs.Blocks.{shut, found_at}
use Rattle.gate_block.specs.Log.{gate_of}
use Rattle.log_reading.specs.declared.contents.Contents.{Contents}
use Rattle.log_reading.specs.declared.faults.FolderFault.{FolderFault}
use Rattle.script_tree.specs.Programs.{program_tree}
use Rattle.program_file.specs.Programs.{Program, text_limit, program_in}
use Rattle.program_file.specs.Succession.{ArePrograms, newest_program}
use Rattle.log_reading.specs.Blocks.{LogRead, log_in_file, records_read, program_after, types_read, shapes_read}
use Rattle.log_reading.specs.Sessions.{session_in_file}
use Rattle.log_reading.specs.Versions.{named_in, named_by_grain, first_missing}
use Rattle.log_reading.specs.Sums.{next_after, placed_after, end_after, AreNear, AreOfPrograms, AreUpgradesIn, StopsAt}

-- The live manager file has this log under the program of the folder, and each version that it names is there. Of them is kept which
-- programs are in force one after the other and the text of the last, how many entries there are, those before the log's beginning too,
-- the number of the next unit, the greatest session, where the last version of each grain that has one stands, the greatest end in its
-- file, and the gate at which the log ends, behind which no block counts.
pub record HasContents (live : ℕ) (format : Format) (p : Program) (image : Image) (kept : Contents) : Type 0 where
  pub log : LogRead
  pub read : log_in_file format p (image (Manager live)) ≡ Ok log
  pub programs : map program_tree kept.programs ≡ types_read p log.entries
  pub text : kept.text ≡ (program_after p log.entries).text
  pub follow : AreUpgradesIn p log.entries
  pub whole : first_missing live format (shapes_read p log) image (named_by_grain (named_in log)) ≡ None
  pub count : kept.count ≡ log.base.count + length log.entries
  pub next : kept.next_unit.0 ≡ next_after log.base.next (records_read log.entries)
  pub session : kept.session ≡ session_in_file format p (image (Manager live))
  pub places : (grain : GrainId) → placed_in kept.places grain ≡ placed_after live format (types_read p log.entries) image None (named_by_grain (named_in log)) grain
  pub ends : (grain : GrainId) → end_in kept.ends grain ≡ end_after None (named_by_grain (named_in log)) grain
  pub gate : gate_of (image (Manager live)) ≡ kept.gate_at
  pub closed : found_at kept.gate_at (image (Manager live)) ≡ shut

-- What is kept has a program at least, each of which may follow the one before it; the text is that of the last; and each place is of one
-- of them.
pub record AreContentsInBounds (kept : Contents) : Type 0 where
  pub gate : kept.gate_at < 2 ^ 63
  pub next : (0 < kept.next_unit.0) × (kept.next_unit.0 ≤ 2 ^ 63)
  pub session : kept.session < 2 ^ 63
  pub near : AreNear kept.ends
  pub programs : ArePrograms (map program_tree kept.programs)
  pub small : length kept.text ≤ text_limit
  pub newest : program_in kept.text ≡ Ok (newest_program (map program_tree kept.programs))
  pub numbered : AreOfPrograms (length kept.programs) kept.places

-- The live manager file is damaged there first; or it has a log, and the first version that isn't there is there.
abbrev pub IsDamagedAt : ℕ → Format → Program → Image → FileId → ℕ → Type 0
IsDamagedAt live format p image file place = ((file ≡ Manager live) × (log_in_file format p (image (Manager live)) ≡ Err place))
    ⊎ ((log : LogRead) × (log_in_file format p (image (Manager live)) ≡ Ok log) × (first_missing live format (shapes_read p log) image (named_by_grain (named_in log)) ≡ Some (file, place)))

-- It is the live manager file; or that of a grain, and all versions before the one that was read are there.
abbrev pub IsStoppedAt : ℕ → Format → Program → Image → FileId → Type 0
IsStoppedAt live format p image file = (file ≡ Manager live)
    ⊎ ((log : LogRead) × (log_in_file format p (image (Manager live)) ≡ Ok log) × StopsAt live format (shapes_read p log) image (named_by_grain (named_in log)) file)

-- what a fault says of the folder, in a format and with this program
abbrev pub IsUnread : ℕ → Format → Program → Image → FolderFault → Type 0
IsUnread live format p image (FolderFault.Damaged file place) = IsDamagedAt live format p image file place
IsUnread live format p image (FolderFault.Failed file) = IsStoppedAt live format p image file
IsUnread live format p image FolderFault.Memory = ⊤
