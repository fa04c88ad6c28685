-- What the commands print that only read.
use Rattle.std.specs.Prelude.{◌≡◌, ℕ, List, [], ◌∷◌, ◌++◌, length, zip, codes, option_map, unwrap_or, slice_get, Option, Some, None}
use Rattle.std.specs.List.{flat_map, list_any}
use Rattle.base_types.specs.declared.calls.Call.{Call}
use Rattle.base_types.specs.declared.calls.GrainId.{GrainId}
use Rattle.base_types.specs.declared.calls.Origin.{Origin}
use Rattle.base_types.specs.declared.calls.Origin.TheVariants.{Line, Child}
use Rattle.base_types.specs.declared.calls.Outcome.{Outcome}
use Rattle.base_types.specs.declared.calls.Outcome.TheVariants as outcome
use Rattle.base_types.specs.declared.calls.Value.{Value}
use Rattle.request_wire.specs.Reply.{grain_text, value_data, counted}
use Rattle.script_tree.specs.declared.programs.FieldDecl.{FieldDecl}
use Rattle.script_meaning.specs.Calls.{Target, numbered}
use Rattle.serde_json.specs.Data.{Data, null, number, unsigned, string, array, object, Items, no_items, item, Members, no_members, member, put}
use Rattle.serde_json.specs.Written.{compact_text}
use Rattle.script_holding.specs.Holding.{same_grain}
use Rattle.promise_spec.specs.Programs.{Program, shape_in}
use Rattle.promise_spec.specs.Records.{Commit, ascending}
use Rattle.promise_spec.specs.Entries.{LogEntry, Recorded, Upgraded, Standing, Log, standing_of, after_entry}

-- compact JSON, and a line feed
abbrev pub line_of : Data → List ℕ
line_of data_of_line = compact_text data_of_line ++ 10 ∷ []

-- ---- show

-- These grains are those that have a state in the store, ascending, each once.
pub record AreHeld (grains : List GrainId) (now : Standing) : Type 0 where
  pub order : ascending grains ≡ grains
  pub held : (grain : GrainId) → list_any (λ g. same_grain g grain) grains ≡ now.held grain

-- the fields by name, in byte order of their names
abbrev pub fields_data : List FieldDecl → List Value → Members
fields_data [] values = no_members
fields_data (f ∷ fields) [] = no_members
fields_data (f ∷ fields) (v ∷ values) = put f.name.text (value_data v) (fields_data fields values)

-- the fields of a grain's type
abbrev pub fields_at : Program → GrainId → List FieldDecl
fields_at p g = unwrap_or (option_map (λ t. t.fields) (slice_get p.types g.kind)) []

-- a grain with its state
abbrev pub grain_line : Standing → GrainId → List ℕ
grain_line now g =
    let p = now.program in
    let fields = object (fields_data (fields_at p g) (now.states g)) in
    line_of (object (member (codes "fields") fields (member (codes "grain") (string (grain_text (shape_in p) g)) no_members)))

-- each of these grains, and at last the number of entries
abbrev pub show_text : List GrainId → Log → List ℕ
show_text grains log =
    flat_map (grain_line (standing_of log)) grains ++ line_of (object (counted (codes "count") (standing_of log).count no_members))

-- ---- history

-- arguments as an array
abbrev pub items_of : List Value → Items
items_of [] = no_items
items_of (v ∷ values) = item (value_data v) (items_of values)

-- a method's name, empty where there is none
abbrev pub method_name : Option Target → List ℕ
method_name None = []
method_name (Some target) = target.method.name.text

-- a call as `type/key.method`
abbrev pub call_text : Program → Call → List ℕ
call_text p call =
    grain_text (shape_in p) call.grain ++ (46 ∷ method_name (numbered (slice_get p.types call.grain.kind) call.method))

-- the line's number, or the parent's
abbrev pub origin_count : Origin → Members → Members
origin_count (Line n) rest = counted (codes "n") n rest
origin_count (Child parent index depth) rest = counted (codes "parent") parent.0 rest

-- the session of its block, and its number
abbrev pub unit_counts : ℕ → ℕ → Members
unit_counts session unit = counted (codes "session") session (counted (codes "unit") unit no_members)

-- how a unit ended, with its origin, session and number; no record has an abort here
abbrev pub ended_as : Origin → ℕ → ℕ → Outcome → Members
ended_as origin session unit (outcome.Value v) =
    origin_count origin (member (codes "reply") (value_data v) (unit_counts session unit))
ended_as origin session unit (outcome.Fault text) =
    member (codes "fault") (string text) (origin_count origin (unit_counts session unit))
ended_as origin session unit outcome.Aborted = no_members

-- a record, in a block of this session
abbrev pub record_line : Program → ℕ → Commit → List ℕ
record_line p session c =
    let how = ended_as c.logged.origin session c.logged.unit.0 c.logged.result in
    let args = array (items_of c.logged.call.args) in
    line_of (object (member (codes "args") args (member (codes "call") (string (call_text p c.logged.call)) how)))

-- the line of an upgrade: the session of its block, and its text's length in bytes
abbrev pub upgrade_line : ℕ → Program → List ℕ
upgrade_line session p = line_of (object (counted (codes "session") session (counted (codes "upgrade") (length p.text) no_members)))

-- the entries behind a standing, each with its session, and each record under the program of its time
abbrev pub entries_text : Standing → List (ℕ × LogEntry) → List ℕ
entries_text before [] = []
entries_text before ((session, Recorded c) ∷ later) = record_line before.program session c ++ entries_text (after_entry before (Recorded c)) later
entries_text before ((session, Upgraded p) ∷ later) = upgrade_line session p ++ entries_text (after_entry before (Upgraded p)) later

-- each entry of the log, by these sessions
abbrev pub history_text : List ℕ → Log → List ℕ
history_text sessions log = entries_text log.base (zip sessions log.entries)

-- ---- audit

-- a unit's number, or null
abbrev pub unit_data : Option ℕ → Data
unit_data None = null
unit_data (Some unit) = number (unsigned unit)

-- the number of entries, and the first unit whose record isn't what the one-thread store gives
abbrev pub audit_text : Log → Option ℕ → List ℕ
audit_text log first_bad =
    line_of (object (counted (codes "count") (standing_of log).count (member (codes "first_bad") (unit_data first_bad) no_members)))
