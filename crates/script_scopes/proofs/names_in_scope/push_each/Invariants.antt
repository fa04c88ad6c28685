use Rattle.std.proofs.Common.{◌≡◌, take}
use Rattle.script_scopes.proofs.names_in_scope.push_each.Given as goal

abbrev pub invariant-loop-name : goal.invariant-loop-name
invariant-loop-name l = l.scope.items ≡ take l.name-index l.names
