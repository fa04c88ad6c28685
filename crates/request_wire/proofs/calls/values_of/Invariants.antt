use Rattle.std.proofs.Common.{◌≡◌, drop}
use Rattle.serde_json.specs.View.{items_view}
use Rattle.request_wire.specs.Request.{values_of}
use Rattle.request_wire.proofs.Arguments.{with_front}
use Rattle.request_wire.proofs.calls.values_of.Given as goal

abbrev pub invariant-loop-arg : goal.invariant-loop-arg
invariant-loop-arg l = values_of (items_view l.args.items) ≡ with_front l.values (values_of (items_view (drop l.arg-index l.args.items)))
