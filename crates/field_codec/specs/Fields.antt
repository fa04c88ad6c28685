-- How each thing is read, field by field.
use Rattle.std.specs.Prelude.{ℕ, List, take, ◌==◌, nat_lt}
use Rattle.std.specs.Int.{w8, w16, w32, w64, cast_signed, from_le_bytes}
use Rattle.base_types.specs.declared.calls.Value.{Value}
use Rattle.base_types.specs.declared.calls.Value.TheVariants.{Int, Text}
use Rattle.base_types.specs.declared.calls.Call.{Call}
use Rattle.base_types.specs.declared.calls.Origin.{Origin}
use Rattle.base_types.specs.declared.calls.Origin.TheVariants.{Line, Child}
use Rattle.base_types.specs.declared.calls.Outcome as outcome
use Rattle.base_types.specs.declared.stores.Version.{Version}
use Rattle.field_codec.specs.declared.formats.Format.{Format}
use Rattle.field_codec.specs.declared.formats.Format.TheVariants.{One, Two}
use Rattle.field_codec.specs.Formats.{field_limit}
use Rattle.field_codec.specs.declared.faults.CodecFault.TheVariants.{BadTag, BadOrder, Unknown}
use Rattle.field_codec.specs.declared.units.Numbers.{Numbers}
use Rattle.field_codec.specs.Units.{may_be_unit, may_be_parent}
use Rattle.field_codec.specs.Readers.{Reader, whole, refused, field, choice, number_at, count_at, text_at, times, list_at}

-- a value: its tag, and then a signed number of 64 bits or a text
unfoldable pub value_at : Format → Reader Value
value_at format = field (number_at w8) λ tag place.
    choice (tag == 0) (field (number_at w64) λ n here. whole (Int (cast_signed w64 n)))
    (choice (tag == 1) (field (text_at format) λ text here. whole (Text text))
    (refused (BadTag place tag)))

-- at most so many values
abbrev pub values_at : Format → ℕ → Reader (List Value)
values_at format limit = list_at w16 limit (value_at format)

-- so many values and no other number of them, which is told at the count
unfoldable pub exactly_at : Format → ℕ → ℕ → Reader (List Value)
exactly_at format limit many = field (count_at w16 limit) λ n place. choice (n == many) (times (value_at format) n) (refused (Unknown place))

-- a version: its unit, and then the values of a state, at most as many as the format has fields
unfoldable pub version_at : Format → Reader Version
version_at format = field (number_at w64) λ unit place. field (values_at format (field_limit format)) λ state here. whole (record { unit = record { 0 = unit }; state = state })

-- a call: its grain's type and key, its method, and at most 8 arguments
unfoldable pub call_at : Format → Reader Call
call_at format = field (number_at w16) λ kind place. field (number_at w32) λ key here. field (number_at w16) λ method there. field (values_at format 8) λ args end.
    whole (record { grain = record { kind = kind; key = key }; method = method; args = args })

-- the number of a unit, or of a parent, that is one of those that are taken
unfoldable pub unit_at : Numbers → Reader ℕ
unit_at numbers = field (number_at w64) λ n place. choice (may_be_unit numbers n) (whole n) (refused (Unknown place))

-- the number of a parent, where these numbers may be a parent's
unfoldable pub parent_at : Numbers → Reader ℕ
parent_at numbers = field (number_at w64) λ n place. choice (may_be_parent numbers n) (whole n) (refused (Unknown place))

-- The number of a body's session: none is spelled in format 1, where it counts as 1. It isn't below the one before, and is one that is
-- taken.
unfoldable pub session_at : Format → Numbers → ℕ → Reader ℕ
session_at One numbers last = whole 1
session_at Two numbers last = field (number_at w64) λ n place. choice (nat_lt n last) (refused (BadOrder place)) (choice (may_be_parent numbers n) (whole n) (refused (Unknown place)))

-- the session that a body names, 1 in format 1
abbrev pub session_of : Format → List ℕ → ℕ
session_of One body = 1
session_of Two body = from_le_bytes w64 (take 8 body)

-- an origin: its tag, and then a line, or a parent with the child's index and depth
unfoldable pub origin_at : Numbers → Reader Origin
origin_at numbers = field (number_at w8) λ tag place.
    choice (tag == 0) (field (number_at w32) λ line here. whole (Line line))
    (choice (tag == 1) (field (parent_at numbers) λ parent here. field (number_at w32) λ index there. field (number_at w16) λ depth end. whole (Child (record { 0 = parent }) index depth))
    (refused (BadTag place tag)))

-- an outcome with the tag 1 or 2
abbrev pub ended : Format → ℕ → ℕ → Reader outcome.Outcome
ended format tag place =
    choice (tag == 1) (field (value_at format) λ value here. whole (outcome.TheVariants.Value value))
    (choice (tag == 2) (field (text_at format) λ text here. whole (outcome.TheVariants.Fault text))
    (refused (BadTag place tag)))

-- a unit's result: its tag, and then a value or a fault's text
unfoldable pub result_at : Format → Reader outcome.Outcome
result_at format = field (number_at w8) λ tag place. ended format tag place

-- a child's outcome: an abort, or a result
unfoldable pub answer_at : Format → Reader outcome.Outcome
answer_at format = field (number_at w8) λ tag place. choice (tag == 0) (whole outcome.TheVariants.Aborted) (ended format tag place)
