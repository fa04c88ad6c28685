use Rattle.std.proofs.Common.{◌≡◌, ◌≤◌, length, drop}
use Rattle.serde_json.specs.View.{members_view}
use Rattle.promise_spec.specs.Reports.{fields_data}
use Rattle.log_audit.proofs.parts.fields_json.Given as goal

abbrev pub invariant-loop-left : goal.invariant-loop-left
invariant-loop-left l = record {
  fields : l.left ≤ length l.fields;
  values : l.left ≤ length l.values;
  map : members_view l.map.entries ≡ fields_data (drop l.left l.fields) (drop l.left l.values);
}

abbrev pub decreases-loop-left : goal.decreases-loop-left
decreases-loop-left l = l.left
