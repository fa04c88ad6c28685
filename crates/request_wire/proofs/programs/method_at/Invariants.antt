use Rattle.std.proofs.Common.{◌≡◌, drop, map}
use Rattle.script_tree.specs.Programs.{method_tree}
use Rattle.request_wire.specs.Names.{method_names, named}
use Rattle.request_wire.proofs.programs.method_at.Given as goal

abbrev pub invariant-loop-at : goal.invariant-loop-at
invariant-loop-at l = named (λ m. m.0) 0 (map method_names (map method_tree l.methods)) l.name ≡ named (λ m. m.0) l.at (map method_names (map method_tree (drop l.at l.methods))) l.name
