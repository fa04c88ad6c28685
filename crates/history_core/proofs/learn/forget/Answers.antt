use Rattle.std.proofs.Common.{◌≡◌, ◌∙◌, ◌≤◌, ◌<◌, sym, ap, arith, length, List}
use Rattle.base_types.specs.declared.calls.UnitNo.{UnitNo}
use Rattle.base_types.specs.declared.calls.GrainId.{GrainId}
use Rattle.core_parts.specs.Pairs.{other_pairs, without_first}
use Rattle.history_core.proofs.Learns.{other-first, first-shorter, no-pair}
use Rattle.history_core.proofs.learn.forget.Goals as goal

pub loop-unit-preserved : goal.loop-unit-preserved
loop-unit-preserved c = record {
  others = ap (λ ps. other_pairs ps c.args.unit c.args.grain) c.remove.ensures.first ∙ other-first c.loop-unit.learn.pairs c.args.unit c.args.grain ∙ c.loop-unit.invariant.others;
  spare = omega (arith, c.remove.ensures.spare, c.loop-unit.invariant.spare);
}

pub loop-unit-smaller : goal.loop-unit-smaller
loop-unit-smaller c =
    let t = first-shorter c.loop-unit.learn.pairs c.args.unit c.args.grain (sym c.contains.ensures ∙ c.loop-unit-test.true) in
    omega (arith, t, ap (λ (ps : List (UnitNo × GrainId)). length ps) c.remove.ensures.first)

pub returns-clause-pairs : goal.returns-clause-pairs
returns-clause-pairs c =
    sym (no-pair c.loop-unit.learn.pairs c.args.unit c.args.grain (sym c.contains.ensures ∙ c.loop-unit-test.false)) ∙ c.loop-unit.invariant.others
