-- The line that answers an entry.
use Rattle.std.specs.Prelude.{◌≡◌, ℕ, true, List, [], ◌∷◌, ◌++◌, slice_get, codes, decimal, option_map, unwrap_or}
use Rattle.base_types.specs.declared.calls.GrainId.{GrainId}
use Rattle.base_types.specs.declared.calls.Outcome.{Outcome}
use Rattle.base_types.specs.declared.calls.Outcome.TheVariants.{Value, Fault, Aborted}
use Rattle.base_types.specs.declared.calls.UnitNo.{UnitNo}
use Rattle.base_types.specs.declared.calls.Value as calls
use Rattle.base_types.specs.declared.calls.Value.TheVariants.{Int, Text}
use Rattle.base_types.specs.declared.entries.BadRequest.{BadRequest}
use Rattle.base_types.specs.declared.entries.BadRequest.TheVariants.{Json, Shape as ShapeTest, Grain, Method, Args}
use Rattle.base_types.specs.declared.entries.Entry.{Entry}
use Rattle.base_types.specs.declared.entries.Settled.{Settled}
use Rattle.base_types.specs.declared.entries.Settled.TheVariants.{Done, Lock, Vote, Dependency, Disk, InDoubt, Bad}
use Rattle.base_types.specs.declared.shapes.Shape.{Shape}
use Rattle.request_wire.specs.Lines.{lines_of}
use Rattle.serde_json.specs.Data.{Data, boolean, number, unsigned, string, object, Members, member, no_members}
use Rattle.serde_json.specs.Find.{of_integer}
use Rattle.serde_json.specs.Written.{compact_text}

-- a type's name, empty where the shape has no type of this number
abbrev pub type_name : Shape → ℕ → List ℕ
type_name shape kind = unwrap_or (option_map (λ t. t.name) (slice_get shape.types kind)) []

-- a grain is written `type/key`
abbrev pub grain_text : Shape → GrainId → List ℕ
grain_text shape grain = type_name shape grain.kind ++ (47 ∷ decimal grain.key)

-- a value is written as a number or a string
abbrev pub value_data : calls.Value → Data
value_data (Int z) = number (of_integer z)
value_data (Text text) = string text

-- a member that is a number without a sign
abbrev pub counted : List ℕ → ℕ → Members → Members
counted key n rest = member key (number (unsigned n)) rest

-- the line's number and the unit's, as the last two members
abbrev pub numbers : ℕ → ℕ → Members
numbers n unit = counted (codes "n") n (counted (codes "unit") unit no_members)

-- a unit that ended with a value
abbrev pub carried_data : ℕ → ℕ → calls.Value → Data
carried_data n unit value = object (counted (codes "n") n (member (codes "reply") (value_data value) (counted (codes "unit") unit no_members)))

-- a unit that ended with a fault
abbrev pub fault_data : ℕ → ℕ → List ℕ → Data
fault_data n unit text = object (member (codes "fault") (string text) (numbers n unit))

-- a unit that was aborted, by its cause
abbrev pub aborted_data : List ℕ → Members → Data
aborted_data cause rest = object (member (codes "aborted") (string cause) rest)

-- an older unit held a lock of the grain
abbrev pub lock_data : Shape → ℕ → ℕ → UnitNo → GrainId → Data
lock_data shape n unit by grain = aborted_data (codes "lock") (counted (codes "by") by.0 (member (codes "grain") (string (grain_text shape grain)) (numbers n unit)))

-- the grain's file couldn't be written
abbrev pub vote_data : Shape → ℕ → ℕ → GrainId → Data
vote_data shape n unit grain = aborted_data (codes "vote") (member (codes "grain") (string (grain_text shape grain)) (numbers n unit))

-- a unit that this one read from was aborted
abbrev pub dependency_data : ℕ → ℕ → UnitNo → Data
dependency_data n unit on = aborted_data (codes "dependency") (counted (codes "n") n (counted (codes "on") on.0 (counted (codes "unit") unit no_members)))

-- the manager file couldn't be written
abbrev pub disk_data : ℕ → ℕ → Data
disk_data n unit = aborted_data (codes "disk") (numbers n unit)

-- nobody knows whether the commit is on disk
abbrev pub doubt_data : ℕ → ℕ → Data
doubt_data n unit = object (member (codes "in_doubt") (boolean true) (numbers n unit))

-- how a unit ended; no settled entry has an abort here, which would be written as a fault
abbrev pub outcome_data : ℕ → ℕ → Outcome → Data
outcome_data n unit (Value value) = carried_data n unit value
outcome_data n unit (Fault text) = fault_data n unit text
outcome_data n unit Aborted = fault_data n unit (codes "aborted")

-- why a line is no request
abbrev pub bad_text : BadRequest → List ℕ
bad_text Json = codes "json"
bad_text ShapeTest = codes "shape"
bad_text Grain = codes "grain"
bad_text Method = codes "method"
bad_text Args = codes "args"

-- the line is no request, and has no unit
abbrev pub bad_data : ℕ → BadRequest → Data
bad_data n why = object (member (codes "bad") (string (bad_text why)) (counted (codes "n") n no_members))

-- what became of the line `n`, whose unit is `unit`
abbrev pub settled_data : Shape → ℕ → ℕ → Settled → Data
settled_data shape n unit (Done outcome) = outcome_data n unit outcome
settled_data shape n unit (Lock by grain) = lock_data shape n unit by grain
settled_data shape n unit (Vote grain) = vote_data shape n unit grain
settled_data shape n unit (Dependency on) = dependency_data n unit on
settled_data shape n unit Disk = disk_data n unit
settled_data shape n unit InDoubt = doubt_data n unit
settled_data shape n unit (Bad why) = bad_data n why

-- the JSON value of an entry's line, its keys in byte order
abbrev pub reply_data : Shape → Entry → Data
reply_data shape entry = settled_data shape entry.line entry.unit.0 entry.what

-- compact JSON, and a line feed
abbrev pub reply_line : Shape → Entry → List ℕ
reply_line shape entry = compact_text (reply_data shape entry) ++ 10 ∷ []

-- an entry's line is one line: whatever follows it, the first line is its JSON text and the rest are those that follow
abbrev pub RepliesAreLines : Type 0
RepliesAreLines = (shape : Shape) (entry : Entry) (rest : List ℕ) → lines_of (reply_line shape entry ++ rest) ≡ compact_text (reply_data shape entry) ∷ lines_of rest
