-- What a body of a log says, how it is spelled, and how it is read under the program's shape: all of a body of format 1, and what
-- stands behind the session in one of format 2.
use Rattle.std.specs.Prelude.{ℕ, ◌≤◌, List, ◌++◌, length, nat_lt, ◌==◌}
use Rattle.std.specs.Int.{w32, to_le_bytes}
use Rattle.std.specs.List.{AllByRecursion}
use Rattle.base_types.specs.declared.shapes.Shape.{Shape}
use Rattle.field_codec.specs.declared.faults.CodecFault.TheVariants.{Over}
use Rattle.field_codec.specs.declared.formats.Format.{Format}
use Rattle.field_codec.specs.declared.units.Numbers.{Numbers}
use Rattle.field_codec.specs.Readers.{Reader, whole, refused, field, choice, number_at, times, program_at}
use Rattle.commit_log.specs.Spelling.{spelling_of_body}
use Rattle.commit_log.specs.Bodies.{IsRecordIn}
use Rattle.commit_log.specs.Fields.{record_in}
use Rattle.commit_log.specs.declared.contents.Body.{Body}
use Rattle.commit_log.specs.declared.contents.Body.TheVariants.{Records, Upgrade}
use Rattle.field_codec.specs.Spelling.{spelling_of_program, ProgramFits}

-- the number that stands where a body of records has their count: no count is as great
abbrev pub upgrade_mark : ℕ
upgrade_mark = 4294967295

-- what a body says: records as ever, or the mark and the program's text
abbrev pub spelling_of_content : Body → List ℕ
spelling_of_content (Records records) = spelling_of_body records
spelling_of_content (Upgrade text) = to_le_bytes w32 upgrade_mark ++ spelling_of_program text

-- what a body of a log says under the program's shape: at most 64 records of it, or a text of at most 262,144 bytes
abbrev pub IsContentIn : Format → Numbers → Shape → Body → Type 0
IsContentIn format numbers shape (Records records) = (length records ≤ 64) × AllByRecursion (IsRecordIn format numbers shape) records
IsContentIn format numbers shape (Upgrade text) = ProgramFits text

-- ---- reading

-- what a body says: the text of a program behind the mark, or so many records, at most 64
unfoldable pub content_in : Format → Numbers → Shape → Reader Body
content_in format numbers shape = field (number_at w32) λ n place.
    choice (n == upgrade_mark) (field program_at λ text here. whole (Upgrade text))
    (choice (nat_lt 64 n) (refused (Over place 64)) (field (times (record_in format numbers shape) n) λ records here. whole (Records records)))
