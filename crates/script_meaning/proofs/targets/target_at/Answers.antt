use Rattle.std.proofs.Common.{sym, arith}
use Rattle.script_meaning.proofs.Programs.{type_there}
use Rattle.script_meaning.proofs.targets.target_at.Goals as goal

pub returns-clause-few : goal.returns-clause-few
returns-clause-few c =
    let one = type_there c.args.types.now c.args.kind c.in_ok-of_type.of_type.now c.requires (sym c.in_ok-of_type.ensures) in
    omega (arith, one.few_fields)
