-- How a record is read under the program's shape, field by field.
use Rattle.std.specs.Prelude.{ℕ, List, length, Option, None, nat_lt}
use Rattle.std.specs.Int.{w16, w32, w64}
use Rattle.base_types.specs.declared.calls.GrainId.{GrainId}
use Rattle.base_types.specs.declared.calls.Call.{Call}
use Rattle.base_types.specs.declared.calls.Outcome as outcome
use Rattle.base_types.specs.declared.shapes.Shape.{Shape}
use Rattle.field_codec.specs.declared.formats.Format.{Format}
use Rattle.field_codec.specs.declared.faults.CodecFault.TheVariants.{BadOrder, Unknown}
use Rattle.field_codec.specs.declared.units.Numbers.{Numbers}
use Rattle.field_codec.specs.Readers.{Reader, whole, refused, field, choice, when_known, chain, number_at, count_at, list_at}
use Rattle.field_codec.specs.Fields.{exactly_at, unit_at, origin_at, answer_at, result_at}
use Rattle.commit_log.specs.declared.records.Written.{Written}
use Rattle.commit_log.specs.declared.records.CommitRecord.{CommitRecord}
use Rattle.commit_log.specs.Orders.{is_above, grain_after}
use Rattle.commit_log.specs.Bodies.{params_in}

-- a grain of one of the program's types
unfoldable pub grain_in : Shape → Reader GrainId
grain_in shape = field (number_at w16) λ kind place. choice (nat_lt kind (length shape.types)) (field (number_at w32) λ key here. whole (record { kind = kind; key = key })) (refused (Unknown place))

-- a call of one of the program's methods
unfoldable pub call_in : Format → Shape → Reader Call
call_in format shape = field (grain_in shape) λ grain place. field (number_at w16) λ method here. when_known (params_in shape grain.kind method) (Unknown here) λ params. field (exactly_at format 8 params) λ args there.
    whole (record { grain = grain; method = method; args = args })

-- a write on a grain that is above the one before it; where it isn't, the fault names the write's first byte
unfoldable pub write_in : Shape → Option GrainId → Reader Written
write_in shape last = field (grain_in shape) λ grain place. choice (is_above last grain)
    (field (number_at w64) λ offset here. field (number_at w32) λ len there. whole (record { grain = grain; place = record { offset = offset; len = len } }))
    (refused (BadOrder place))

-- so many writes behind a grain
abbrev pub writes_behind : Shape → Option GrainId → ℕ → Reader (List Written)
writes_behind shape last n = chain (write_in shape) grain_after last n

-- the writes of a record, at most 64, each of a grain above the one before
unfoldable pub writes_in : Shape → Reader (List Written)
writes_in shape = field (count_at w16 64) λ n place. writes_behind shape None n

-- the answers of a record's children, at most 64
abbrev pub answers_at : Format → Reader (List outcome.Outcome)
answers_at format = list_at w16 64 (answer_at format)

-- a record, within the limits of a format; which numbers of units are taken is the second argument
unfoldable pub record_in : Format → Numbers → Shape → Reader CommitRecord
record_in format numbers shape = field (unit_at numbers) λ unit p0. field (origin_at numbers) λ origin p1. field (call_in format shape) λ call p2. field (answers_at format) λ answers p3. field (result_at format) λ result p4. field (writes_in shape) λ writes p5.
    whole (record { unit = record { 0 = unit }; origin = origin; call = call; answers = answers; result = result; writes = writes })
