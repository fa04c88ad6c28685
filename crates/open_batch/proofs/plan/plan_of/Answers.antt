use Rattle.std.proofs.Common.{◌≡◌, ◌<◌, ◌+◌, ◌-◌, ◌∙◌, sym, ap, arith, length, drop}
use Rattle.base_types.specs.declared.calls.UnitNo.{UnitNo}
use Rattle.core_model.specs.Tests.{is_bad}
use Rattle.unit_table.specs.Table.{verdict_in}
use Rattle.open_batch.specs.Members.{grains_by, plan_of, with_grains}
use Rattle.open_batch.proofs.GrainPlan.{plan-cons}
use Rattle.open_batch.proofs.Steps.{next-left}
use Rattle.open_batch.proofs.plan.plan_of.Goals as goal

pub loop-at-preserved : goal.loop-at-preserved
loop-at-preserved c =
    let bad = λ (u : UnitNo). is_bad (verdict_in c.args.units.now u) in
    let members = c.args.members.now in
    let unit = c.index-members-at.result in
    let n = c.loop-at.at - 1 in
    let more : n + 1 ≡ c.loop-at.at = omega (arith, c.loop-at-test.true) in
    let within : n < length members = omega (arith, c.loop-at-test.true, c.loop-at.invariant.within) in
    record {
      grown = c.in_ok-add_unit.ensures
          ∙ ap (with_grains (grains_by bad unit)) c.loop-at.invariant.grown
          ∙ sym (plan-cons bad unit (drop c.loop-at.at members))
          ∙ ap (plan_of bad) (sym (next-left members c.loop-at.at n unit more within c.index-members-at.is));
      within = omega (arith, within);
    }
