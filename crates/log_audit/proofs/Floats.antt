-- No line of a report has a float, so each has a compact text.
use Rattle.std.proofs.Common.{◌≡◌, ℕ, Bool, true, false, List, [], ◌∷◌, Option, Some, None, Result, IfOk, String, Global, string_bytes, refl, ◌∙◌, ap, pos, negsuc}
use Rattle.std.specs.Prelude.{◌||◌}
use Rattle.std.specs.declared.cmp.Ordering.{Ordering}
use Rattle.std.specs.declared.cmp.Ordering.TheVariants.{Less, Equal, Greater}
use Rattle.std.specs.Ordering.{match_ordering, nat_cmp}
use Rattle.std.specs.Cmp.Lexicographic.{slice_cmp}
use Rattle.base_types.specs.declared.calls.GrainId.{GrainId}
use Rattle.base_types.specs.declared.calls.Origin.{Origin}
use Rattle.base_types.specs.declared.calls.Origin.TheVariants.{Line, Child}
use Rattle.base_types.specs.declared.calls.Outcome.{Outcome}
use Rattle.base_types.specs.declared.calls.Outcome.TheVariants as outcome
use Rattle.base_types.specs.declared.calls.Value.{Value}
use Rattle.base_types.specs.declared.calls.Value.TheVariants.{Int, Text}
use Rattle.base_types.specs.declared.shapes.Shape.{Shape}
use Rattle.commit_log.specs.declared.records.CommitRecord.{CommitRecord}
use Rattle.request_wire.specs.Reply.{value_data}
use Rattle.script_tree.specs.declared.programs.FieldDecl.{FieldDecl}
use Rattle.script_tree.specs.Programs.{ProgramTree}
use Rattle.serde_json.specs.Data.{Data, Members, no_members, member, put}
use Rattle.serde_json.specs.Written.{has_float, items_have_float, members_have_float}
use Rattle.log_reading.proofs.FilePieces.{weaker_ok}
use Rattle.promise_spec.specs.Reports.{line_of, fields_data, items_of, ended_as}
use Rattle.log_audit.specs.Lines.{fields_of_kind, grain_data, count_data, record_data, audit_data}

value_none : (v : Value) → has_float (value_data v) ≡ false
value_none (Int (pos k)) = refl
value_none (Int (negsuc k)) = refl
value_none (Text text) = refl

neither : (a b : Bool) → a ≡ false → b ≡ false → (a || b) ≡ false
neither a b one two = (λ i. one i || two i)

items_none : (values : List Value) → items_have_float (items_of values) ≡ false
items_none [] = refl
items_none (v ∷ values) = neither (has_float (value_data v)) (items_have_float (items_of values)) (value_none v) (items_none values)

chosen : (o : Ordering) (a b c : Members) → members_have_float a ≡ false → members_have_float b ≡ false → members_have_float c ≡ false → members_have_float (match_ordering o a b c) ≡ false
chosen Less a b c one two three = one
chosen Equal a b c one two three = two
chosen Greater a b c one two three = three

first_of : (a b : Bool) → (a || b) ≡ false → a ≡ false
first_of true b e = absurd cc
first_of false b e = refl

second_of : (a b : Bool) → (a || b) ≡ false → b ≡ false
second_of true b e = absurd cc
second_of false b e = e

put_none : (k : List ℕ) (d : Data) (ms : Members) → has_float d ≡ false → members_have_float ms ≡ false → members_have_float (put k d ms) ≡ false
put_none k d no_members here rest = neither (has_float d) false here refl
put_none k d (member l e ms) here rest =
    let first = first_of (has_float e) (members_have_float ms) rest in
    let later = second_of (has_float e) (members_have_float ms) rest in
    chosen (slice_cmp nat_cmp k l) (member k d (member l e ms)) (member l d ms) (member l e (put k d ms))
    (neither (has_float d) (has_float e || members_have_float ms) here rest) (neither (has_float d) (members_have_float ms) here later)
    (neither (has_float e) (members_have_float (put k d ms)) first (put_none k d ms here later))

fields_none : (fields : List FieldDecl) (values : List Value) → members_have_float (fields_data fields values) ≡ false
fields_none [] values = refl
fields_none (f ∷ fields) [] = refl
fields_none (f ∷ fields) (v ∷ values) = put_none f.name.text (value_data v) (fields_data fields values) (value_none v) (fields_none fields values)

pub grain_no_float : (shape : Shape) (types : ProgramTree) (grain : GrainId) (state : List Value) → has_float (grain_data shape types grain state) ≡ false
grain_no_float shape types grain state = neither (members_have_float (fields_data (fields_of_kind types grain.kind) state)) false (fields_none (fields_of_kind types grain.kind) state) refl

pub count_no_float : (count : ℕ) → has_float (count_data count) ≡ false
count_no_float count = refl

ended_none : (origin : Origin) (session unit : ℕ) (how : Outcome) → members_have_float (ended_as origin session unit how) ≡ false
ended_none (Line n) session unit (outcome.Value v) = neither (has_float (value_data v)) false (value_none v) refl
ended_none (Child parent index depth) session unit (outcome.Value v) = neither (has_float (value_data v)) false (value_none v) refl
ended_none (Line n) session unit (outcome.Fault text) = refl
ended_none (Child parent index depth) session unit (outcome.Fault text) = refl
ended_none (Line n) session unit outcome.Aborted = refl
ended_none (Child parent index depth) session unit outcome.Aborted = refl

pub record_no_float : (shape : Shape) (types : ProgramTree) (session : ℕ) (r : CommitRecord) → has_float (record_data shape types session r) ≡ false
record_no_float shape types session r = neither (items_have_float (items_of r.call.args)) (members_have_float (ended_as r.origin session r.unit.0 r.result)) (items_none r.call.args) (ended_none r.origin session r.unit.0 r.result)

pub audit_no_float : (count : ℕ) (unit : Option ℕ) → has_float (audit_data count unit) ≡ false
audit_no_float count None = refl
audit_no_float count (Some unit) = refl

-- the line of a value that is this one, which has no float
pub lined : {E : Type 0} (d line : Data) (r : Result (String Global) E) → d ≡ line → has_float line ≡ false → IfOk r (λ text. has_float d ≡ false → string_bytes text ≡ line_of d) → IfOk r (λ text. string_bytes text ≡ line_of line)
lined d line r same none is = weaker_ok _ _ r (λ text told. told (ap has_float same ∙ none) ∙ ap line_of same) is
