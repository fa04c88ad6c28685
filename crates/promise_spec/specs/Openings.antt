-- What a folder reads as when it is opened in a format: no silo, one of the other format, damaged at a first place, or a slot and a log.
use Rattle.std.specs.Prelude.{ℕ, Bool, true, false, ◌&&◌, ◌==◌, nat_lt, nat_le, if◌then◌else◌, List, [], ◌∷◌, length, map, take, drop, slice_index, bytes_eq, Option, Some, None, Result, Ok, Err}
use Rattle.base_types.specs.declared.calls.GrainId.{GrainId}
use Rattle.base_types.specs.declared.calls.Value.{Value}
use Rattle.base_types.specs.declared.shapes.Shape.{Shape}
use Rattle.host_trait.specs.declared.channels.FileId.{FileId}
use Rattle.host_trait.specs.World.{Image}
use Rattle.field_codec.specs.declared.formats.Format.{Format}
use Rattle.field_codec.specs.declared.formats.Format.TheVariants.{Two}
use Rattle.field_codec.specs.Formats.{magic_of}
use Rattle.commit_log.specs.declared.records.CommitRecord.{CommitRecord}
use Rattle.host_trait.specs.declared.channels.FileId.TheVariants.{Manager, Program as ProgramFile}
use Rattle.silo_spec.specs.Silos.{is_magic}
use Rattle.silo_spec.specs.Slots.{generation}
use Rattle.promise_spec.specs.Programs.{Program, shape_in}
use Rattle.promise_spec.specs.Records.{Commit}
use Rattle.promise_spec.specs.Entries.{LogEntry, Recorded, Upgraded, Log}
use Rattle.promise_spec.specs.Blocks.{standing_with}
-- the program of a program file
pub use Rattle.program_file.specs.Files.{text_in_file, with_types, program_in_file}
-- the log of a manager file
pub use Rattle.log_reading.specs.Blocks.{LogBase, ReadEntry, ReadRecord, ReadUpgrade, LogRead, fresh_base, header_damage, behind_header, behind_base, and_piece, no_piece, saved_behind, entries_said, no_more, entries_behind, AreEntriesIn, AreSaidBy, log_as, log_in_file, records_read, programs_read, types_read, shapes_read}
-- the sessions of its blocks
pub use Rattle.log_reading.specs.Sessions.{session_in_file, sessions_read}
-- the versions that it names
pub use Rattle.commit_log.specs.declared.records.Named.{Named}
pub use Rattle.grain_log.specs.Reads.{is_owned}
pub use Rattle.log_reading.specs.Versions.{named_by, named_of_base, named_in, named_by_grain, version_named, version_by_shape, version_numbered, missing_or, first_missing, state_of}

-- what a folder reads as in a format; a silo with the slot that is live
pub data Reading : Type 0 where
  NoSilo : Reading
  OtherFormat : Reading
  DamagedAt : FileId → ℕ → Reading
  Reads : ℕ → Log → Reading

-- ---- the manager file's header

-- at least 16 bytes, of which the first is 1 and the next eight are the magic of a format
abbrev pub is_silo : List ℕ → Bool
is_silo file = nat_le 16 (length file) && ((slice_index file 0 == 1) && is_magic (take 8 (drop 1 file)))

-- the eight bytes are that of this one
abbrev pub has_format : Format → List ℕ → Bool
has_format format file = bytes_eq (take 8 (drop 1 file)) (magic_of format)

-- ---- the log

-- a record with the states at its places
abbrev pub commit_of : Format → ℕ → Shape → Image → CommitRecord → Commit
commit_of format live shape image r = record {
  logged = r;
  states = map (λ w. state_of (version_named live format shape image (record { unit = Some r.unit; program = 0; written = w }))) r.writes;
}

-- the grains that a checkpoint names, each with the state at its place, whichever unit's it is
abbrev pub states_read : Format → ℕ → Shape → Image → LogBase → List (GrainId × List Value)
states_read format live shape image base = map (λ w. (w.grain, state_of (version_named live format shape image (record { unit = None; program = 0; written = w })))) base.writes

-- the entries that are read behind this program, each record with its states by the program of its time
abbrev pub entries_logged : Format → ℕ → Program → Image → List ReadEntry → List LogEntry
entries_logged format live p image [] = []
entries_logged format live p image (ReadRecord r ∷ later) = Recorded (commit_of format live (shape_in p) image r) ∷ entries_logged format live p image later
entries_logged format live p image (ReadUpgrade q ∷ later) = Upgraded q ∷ entries_logged format live q image later

-- the log of a slot's files, as they are read
abbrev pub log_of : Format → ℕ → Program → Image → LogRead → Log
log_of format live p image l = record {
  base = standing_with p l.base.count l.base.next (states_read format live (shape_in p) image l.base);
  entries = entries_logged format live p image l.entries;
}

-- ---- the folder

-- the log, unless a version that it names isn't there
abbrev pub with_versions : Format → ℕ → Program → Image → LogRead → Option (FileId × ℕ) → Reading
with_versions format live p image l None = Reads live (log_of format live p image l)
with_versions format live p image l (Some missing) = DamagedAt missing.0 missing.1

-- what a folder with this program reads as, by the log of its manager file or the place at which it is damaged
abbrev pub with_log : Format → ℕ → Program → Image → Result LogRead ℕ → Reading
with_log format live p image (Ok l) = with_versions format live p image l (first_missing live format (shapes_read p l) image (named_by_grain (named_in l)))
with_log format live p image (Err place) = DamagedAt (Manager live) place

-- what a folder reads as, by its program or the place at which that is damaged
abbrev pub with_program : Format → ℕ → Image → Result Program ℕ → Reading
with_program format live image (Ok p) = with_log format live p image (log_in_file format p (image (Manager live)))
with_program format live image (Err place) = DamagedAt (ProgramFile live) place

-- The live slot, by whether each manager file is a silo's and whether slot 1's has the greater generation.
abbrev pub live_of : Bool → Bool → Bool → Option ℕ
live_of false false later = None
live_of true false later = Some 0
live_of false true later = Some 1
live_of true true later = if later then Some 1 else Some 0

-- the live slot, by the manager files
abbrev pub live_in : Image → Option ℕ
live_in image = live_of (is_silo (image (Manager 0))) (is_silo (image (Manager 1))) (nat_lt (generation (image (Manager 0))) (generation (image (Manager 1))))

-- what a folder reads as by the files of its live slot
abbrev pub with_slot : Format → Image → Option ℕ → Reading
with_slot format image None = NoSilo
with_slot format image (Some live) =
    if has_format format (image (Manager live)) then with_program format live image (program_in_file (image (ProgramFile live))) else OtherFormat

-- What a folder reads as in a format. Where its live slot has the other one, nothing else is looked at. Else the first damage counts: in
-- the live slot's program file, then in its manager file's header and block by block, then version by version in its grains' files.
abbrev pub reading_in : Format → Image → Reading
reading_in format image = with_slot format image (live_in image)

-- what it reads as for all commands but `migrate`
abbrev pub opened_as : Image → Reading
opened_as image = reading_in Two image
