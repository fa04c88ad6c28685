use Rattle.std.proofs.Common.{◌≡◌, ◌++◌, map, drop}
use Rattle.request_wire.specs.Reply.{value_data}
use Rattle.serde_json.specs.View.{view}
use Rattle.log_audit.proofs.parts.args_json.Given as goal

abbrev pub invariant-loop-value : goal.invariant-loop-value
invariant-loop-value l = map view l.items.items ++ map value_data (drop l.value-index l.values) ≡ map value_data l.values
