-- The one spelling of a commit record and of the records of a body, and the limits of a format within which there is one.
use Rattle.std.specs.Prelude.{ℕ, ◌<◌, ◌≤◌, ◌^◌, List, ◌++◌, length, None}
use Rattle.std.specs.Int.{w16, w32, w64, to_le_bytes}
use Rattle.std.specs.List.{flat_map, AllByRecursion}
use Rattle.base_types.specs.declared.calls.GrainId.{GrainId}
use Rattle.base_types.specs.declared.calls.Outcome as outcome
use Rattle.field_codec.specs.declared.formats.Format.{Format}
use Rattle.field_codec.specs.Spelling.{spelling_of_origin, OriginFits, spelling_of_call, CallFits, spelling_of_outcome, AnswerFits, ResultFits}
use Rattle.commit_log.specs.declared.records.Written.{Written}
use Rattle.commit_log.specs.declared.records.CommitRecord.{CommitRecord}
use Rattle.commit_log.specs.Orders.{IsAscending}

-- a grain: its type and its key
abbrev pub spelling_of_grain : GrainId → List ℕ
spelling_of_grain grain = to_le_bytes w16 grain.kind ++ to_le_bytes w32 grain.key

-- a write: the grain, and the version's place in the grain's file
abbrev pub spelling_of_write : Written → List ℕ
spelling_of_write write = spelling_of_grain write.grain ++ (to_le_bytes w64 write.place.offset ++ to_le_bytes w32 write.place.len)

-- each number of a write fits its field
pub record WriteFits (write : Written) : Type 0 where
  pub kind : write.grain.kind < 2 ^ 16
  pub key : write.grain.key < 2 ^ 32
  pub offset : write.place.offset < 2 ^ 64
  pub len : write.place.len < 2 ^ 32

-- at most 64 writes, in ascending grain order
abbrev pub WritesFit : List Written → Type 0
WritesFit writes = (length writes ≤ 64) × (AllByRecursion WriteFits writes × IsAscending None writes)

-- there are at most 64 answers, and each has a spelling
abbrev pub AnswersFit : Format → List outcome.Outcome → Type 0
AnswersFit format answers = (length answers ≤ 64) × AllByRecursion (AnswerFits format) answers

-- a record: the unit, its origin and call, the answers' count and each, the result, and the writes' count and each
abbrev pub spelling_of_record : CommitRecord → List ℕ
spelling_of_record r = to_le_bytes w64 r.unit.0 ++ (spelling_of_origin r.origin ++ (spelling_of_call r.call
    ++ ((to_le_bytes w16 (length r.answers) ++ flat_map spelling_of_outcome r.answers)
    ++ (spelling_of_outcome r.result ++ (to_le_bytes w16 (length r.writes) ++ flat_map spelling_of_write r.writes)))))

-- each part of a record has a spelling within the limits of the format
pub record RecordFits (format : Format) (r : CommitRecord) : Type 0 where
  pub unit : r.unit.0 < 2 ^ 64
  pub origin : OriginFits r.origin
  pub call : CallFits format r.call
  pub answers : AnswersFit format r.answers
  pub result : ResultFits format r.result
  pub writes : WritesFit r.writes

-- the records of a body: their count, and each
abbrev pub spelling_of_body : List CommitRecord → List ℕ
spelling_of_body records = to_le_bytes w32 (length records) ++ flat_map spelling_of_record records

-- there are at most 64 records, and each has a spelling
abbrev pub RecordsFit : Format → List CommitRecord → Type 0
RecordsFit format records = (length records ≤ 64) × AllByRecursion (RecordFits format) records
