use Rattle.std.proofs.Common.{◌≡◌, drop}
use Rattle.script_values.specs.Nodes.{digest_from, name_digest}
use Rattle.script_values.proofs.nodes.digest_of.Given as goal

abbrev pub invariant-loop-byte : goal.invariant-loop-byte
invariant-loop-byte l = digest_from l.sum (drop l.byte-index l.bytes) ≡ name_digest l.bytes
