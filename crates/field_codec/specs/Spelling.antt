-- The one spelling of each thing that the files hold, and the limits within which it has one. Numbers are little-endian.
use Rattle.std.specs.Prelude.{FitsSigned, ◌≡◌, ℕ, ◌+◌, ◌<◌, ◌≤◌, ◌^◌, List, [], ◌∷◌, ◌++◌, length, take, drop}
use Rattle.std.specs.Int.{w16, w32, w64, to_le_bytes, cast_unsigned}
use Rattle.std.specs.List.{flat_map, AllByRecursion}
use Rattle.std.specs.Str.{IsUtf8}
use Rattle.field_codec.specs.declared.formats.Format.{Format}
use Rattle.field_codec.specs.declared.formats.Format.TheVariants.{One, Two}
use Rattle.field_codec.specs.Formats.{text_limit, field_limit}
use Rattle.base_types.specs.declared.calls.Value.{Value}
use Rattle.base_types.specs.declared.calls.Value.TheVariants.{Int, Text}
use Rattle.base_types.specs.declared.calls.Call.{Call}
use Rattle.base_types.specs.declared.calls.Origin.{Origin}
use Rattle.base_types.specs.declared.calls.Origin.TheVariants.{Line, Child}
use Rattle.base_types.specs.declared.calls.Outcome as outcome
use Rattle.base_types.specs.declared.stores.Version.{Version}

-- this text stands in the bytes at a place, and ends before another
pub record Stands (bytes : List ℕ) (at : ℕ) (text : List ℕ) (end : ℕ) : Type 0 where
  pub end_at : end ≡ at + length text
  pub here : take (length text) (drop at bytes) ≡ text

-- a text: its length, and its bytes
abbrev pub spelling_of_text : List ℕ → List ℕ
spelling_of_text text = to_le_bytes w16 (length text) ++ text

-- a text of at most as many bytes as the format takes, in UTF-8
abbrev pub TextFits : Format → List ℕ → Type 0
TextFits format text = (length text ≤ text_limit format) × IsUtf8 text

-- a value: an Int is 0 and its two's complement, a Text is 1 and the text
abbrev pub spelling_of_value : Value → List ℕ
spelling_of_value (Int z) = 0 ∷ to_le_bytes w64 (cast_unsigned w64 z)
spelling_of_value (Text text) = 1 ∷ spelling_of_text text

-- a value whose number has 64 bits, or whose text has a spelling
abbrev pub ValueFits : Format → Value → Type 0
ValueFits format (Int z) = FitsSigned w64 z
ValueFits format (Text text) = TextFits format text

-- values: their count, and each
abbrev pub spelling_of_values : List Value → List ℕ
spelling_of_values values = to_le_bytes w16 (length values) ++ flat_map spelling_of_value values

-- at most so many values, each with a spelling
abbrev pub ValuesFit : Format → ℕ → List Value → Type 0
ValuesFit format limit values = (length values ≤ limit) × AllByRecursion (ValueFits format) values

-- a version: its unit, and the state that the unit wrote
abbrev pub spelling_of_version : Version → List ℕ
spelling_of_version version = to_le_bytes w64 version.unit.0 ++ spelling_of_values version.state

-- a version whose unit's number has 64 bits, and whose state has a spelling
pub record VersionFits (format : Format) (version : Version) : Type 0 where
  pub unit : version.unit.0 < 2 ^ 64
  pub state : ValuesFit format (field_limit format) version.state

-- a call: the grain's type and key, the method, and the arguments
abbrev pub spelling_of_call : Call → List ℕ
spelling_of_call call = to_le_bytes w16 call.grain.kind ++ (to_le_bytes w32 call.grain.key ++ (to_le_bytes w16 call.method ++ spelling_of_values call.args))

-- each number of a call fits its field, and its arguments have a spelling
pub record CallFits (format : Format) (call : Call) : Type 0 where
  pub kind : call.grain.kind < 2 ^ 16
  pub key : call.grain.key < 2 ^ 32
  pub method : call.method < 2 ^ 16
  pub args : ValuesFit format 8 call.args

-- an origin: 0 and the line, or 1 and the parent, the index and the depth
abbrev pub spelling_of_origin : Origin → List ℕ
spelling_of_origin (Line line) = 0 ∷ to_le_bytes w32 line
spelling_of_origin (Child parent index depth) = 1 ∷ (to_le_bytes w64 parent.0 ++ (to_le_bytes w32 index ++ to_le_bytes w16 depth))

-- each number of an origin fits its field
abbrev pub OriginFits : Origin → Type 0
OriginFits (Line line) = line < 2 ^ 32
OriginFits (Child parent index depth) = (parent.0 < 2 ^ 64) × (index < 2 ^ 32) × (depth < 2 ^ 16)

-- an outcome: 0 where it is an abort, 1 and the value, or 2 and the fault's text
abbrev pub spelling_of_outcome : outcome.Outcome → List ℕ
spelling_of_outcome outcome.TheVariants.Aborted = 0 ∷ []
spelling_of_outcome (outcome.TheVariants.Value value) = 1 ∷ spelling_of_value value
spelling_of_outcome (outcome.TheVariants.Fault text) = 2 ∷ spelling_of_text text

-- an answer to a nested call may be any outcome
abbrev pub AnswerFits : Format → outcome.Outcome → Type 0
AnswerFits format outcome.TheVariants.Aborted = Unit {0}
AnswerFits format (outcome.TheVariants.Value value) = ValueFits format value
AnswerFits format (outcome.TheVariants.Fault text) = TextFits format text

-- the result of a unit in the log is no abort
abbrev pub ResultFits : Format → outcome.Outcome → Type 0
ResultFits format outcome.TheVariants.Aborted = ⊥
ResultFits format (outcome.TheVariants.Value value) = ValueFits format value
ResultFits format (outcome.TheVariants.Fault text) = TextFits format text

-- the number of a session, of which format 1 spells none
abbrev pub spelling_of_session : Format → ℕ → List ℕ
spelling_of_session One session = []
spelling_of_session Two session = to_le_bytes w64 session

-- a program file begins with the text's length and the text; further bytes are ignored
abbrev pub spelling_of_program : List ℕ → List ℕ
spelling_of_program text = to_le_bytes w32 (length text) ++ text

-- a program's text of at most 262,144 bytes
abbrev pub ProgramFits : List ℕ → Type 0
ProgramFits text = length text ≤ 262144
