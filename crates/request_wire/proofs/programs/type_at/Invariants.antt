use Rattle.std.proofs.Common.{◌≡◌, drop, map}
use Rattle.script_tree.specs.Programs.{type_tree}
use Rattle.request_wire.specs.Names.{type_names, named}
use Rattle.request_wire.proofs.programs.type_at.Given as goal

abbrev pub invariant-loop-at : goal.invariant-loop-at
invariant-loop-at l = named (λ t. t.name) 0 (map type_names (map type_tree l.types)) l.name ≡ named (λ t. t.name) l.at (map type_names (map type_tree (drop l.at l.types))) l.name
