use Rattle.std.proofs.Common.{arith}
use Rattle.run_lines.proofs.Places.{lines_are_few}
use Rattle.wire_tests.proofs.places.lines_behind.Goals as goal

pub new_behind-requires : goal.new_behind-requires
new_behind-requires c = let few = lines_are_few c.args.input.now in omega (arith, few)
