use Rattle.std.proofs.Common.{◌≡◌, length, take}
use Rattle.script_scopes.proofs.names_in_scope.InScope.truncate.Given as goal

abbrev pub invariant-loop-self : goal.invariant-loop-self
invariant-loop-self l = take l.count l.self.items ≡ take l.count l.fn.self.items

abbrev pub decreases-loop-self : goal.decreases-loop-self
decreases-loop-self l = length l.self.items
