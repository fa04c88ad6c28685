use Rattle.std.proofs.Common.{ap, ◌∙◌, sym, option_map}
use Rattle.request_wire.proofs.ProgramNames.{types_from-hit, types_from-miss}
use Rattle.request_wire.proofs.programs.type_at.Goals as goal

pub returns-then-eq : goal.returns-then-eq
returns-then-eq c =
    types_from-hit c.args.types.now c.loop-at.at c.index-types-at.result c.args.name.now c.as_str.result.now c.eq.result c.loop-at-test.true c.index-types-at.is c.as_str.ensures c.eq.ensures c.if-eq.true
    ∙ sym (ap (option_map (λ t. t.0)) c.loop-at.invariant)

pub loop-at-preserved : goal.loop-at-preserved
loop-at-preserved c =
    c.loop-at.invariant
    ∙ types_from-miss c.args.types.now c.loop-at.at c.index-types-at.result c.args.name.now c.as_str.result.now c.eq.result c.loop-at-test.true c.index-types-at.is c.as_str.ensures c.eq.ensures c.if-eq.false
