-- The lines of the reports, from what a program's shape and types say.
use Rattle.std.specs.Prelude.{ℕ, List, length, [], ◌∷◌, ◌++◌, codes, option_map, unwrap_or, slice_get, Option}
use Rattle.std.specs.List.{flat_map}
use Rattle.base_types.specs.declared.calls.Call.{Call}
use Rattle.base_types.specs.declared.calls.GrainId.{GrainId}
use Rattle.base_types.specs.declared.calls.Origin.{Origin}
use Rattle.base_types.specs.declared.calls.Origin.TheVariants.{Line, Child}
use Rattle.base_types.specs.declared.calls.Value.{Value}
use Rattle.base_types.specs.declared.shapes.Shape.{Shape}
use Rattle.base_types.specs.declared.stores.Store.{Store}
use Rattle.commit_log.specs.declared.records.CommitRecord.{CommitRecord}
use Rattle.request_wire.specs.Reply.{grain_text, counted}
use Rattle.log_reading.specs.Entries.{BodyEntry, Recorded, Upgraded}
use Rattle.log_reading.specs.Blocks.{ReadEntry, ReadRecord, ReadUpgrade}
use Rattle.program_file.specs.Programs.{Program, shape_in}
use Rattle.script_check.specs.Shapes.{type_shapes}
use Rattle.script_tree.specs.declared.programs.FieldDecl.{FieldDecl}
use Rattle.script_tree.specs.Programs.{ProgramTree}
use Rattle.script_meaning.specs.Calls.{numbered}
use Rattle.script_meaning.specs.Play.{found_in}
use Rattle.serde_json.specs.Data.{unsigned, Data, Members, number, string, array, object, member, no_members, put}
use Rattle.promise_spec.specs.Reports.{line_of, fields_data, items_of, method_name, ended_as, unit_data}

-- the fields of the type of this number
abbrev pub fields_of_kind : ProgramTree → ℕ → List FieldDecl
fields_of_kind types kind = unwrap_or (option_map (λ t. t.fields) (slice_get types kind)) []

-- a grain with this state
abbrev pub grain_data : Shape → ProgramTree → GrainId → List Value → Data
grain_data shape types grain state =
    let fields = object (fields_data (fields_of_kind types grain.kind) state) in
    object (member (codes "fields") fields (member (codes "grain") (string (grain_text shape grain)) no_members))

-- the lines of these grains, with the states that they have in a store
abbrev pub grain_lines : Shape → ProgramTree → Store → List GrainId → List ℕ
grain_lines shape types store grains = flat_map (λ g. line_of (grain_data shape types g (found_in types store g))) grains

-- the number of entries
abbrev pub count_data : ℕ → Data
count_data count = object (counted (codes "count") count no_members)

-- a call as `type/key.method`
abbrev pub call_named : Shape → ProgramTree → Call → List ℕ
call_named shape types call =
    grain_text shape call.grain ++ (46 ∷ method_name (numbered (slice_get types call.grain.kind) call.method))

-- members, with the count of an origin under its name
abbrev pub origin_put : Origin → Members → Members
origin_put (Line n) rest = put (codes "n") (number (unsigned n)) rest
origin_put (Child parent index depth) rest = put (codes "parent") (number (unsigned parent.0)) rest

-- a record, in a block of this session
abbrev pub record_data : Shape → ProgramTree → ℕ → CommitRecord → Data
record_data shape types session r =
    let how = ended_as r.origin session r.unit.0 r.result in
    let args = array (items_of r.call.args) in
    object (member (codes "args") args (member (codes "call") (string (call_named shape types r.call)) how))

-- the lines of these records, in a block of this session
abbrev pub record_lines : Shape → ProgramTree → ℕ → List CommitRecord → List ℕ
record_lines shape types session records = flat_map (λ r. line_of (record_data shape types session r)) records

-- an upgrade, by the session of its block and its text's length in bytes
abbrev pub upgrade_data : ℕ → ℕ → Data
upgrade_data session size = object (counted (codes "session") session (counted (codes "upgrade") size no_members))

-- the lines of what a block of this session says under the program of these types
abbrev pub said_lines : ProgramTree → ℕ → BodyEntry → List ℕ
said_lines types session (Recorded records) = record_lines (record { types = type_shapes types }) types session records
said_lines types session (Upgraded q) = line_of (upgrade_data session (length q.text))

-- the lines of entries that are read under this program, each with the session of its block and under the program of its time
abbrev pub entry_lines : Program → List (ℕ × ReadEntry) → List ℕ
entry_lines p [] = []
entry_lines p ((session, ReadRecord r) ∷ later) = line_of (record_data (shape_in p) p.types session r) ++ entry_lines p later
entry_lines p ((session, ReadUpgrade q) ∷ later) = line_of (upgrade_data session (length q.text)) ++ entry_lines q later

-- what an audit found
abbrev pub audit_data : ℕ → Option ℕ → Data
audit_data count first_bad = object (counted (codes "count") count (member (codes "first_bad") (unit_data first_bad) no_members))
