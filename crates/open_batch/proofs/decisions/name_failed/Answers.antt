use Rattle.std.proofs.Common.{◌≡◌, ◌<◌, ◌∙◌, sym, ap, arith, length, set}
use Rattle.std.proofs.Math.ListN.{length-set}
use Rattle.core_model.specs.Tests.{failed_in}
use Rattle.open_batch.specs.declared.members.FinishedUnit.{FinishedUnit}
use Rattle.open_batch.specs.Members.{with_failed}
use Rattle.open_batch.proofs.UnitNames.{named-step, item}
use Rattle.open_batch.proofs.decisions.name_failed.Goals as goal

pub loop-at-preserved : goal.loop-at-preserved
loop-at-preserved c =
    let old = c.loop-at.prepared.items in
    let here = c.index-members-at.result in
    let h : c.loop-at.at < length old = omega (arith, c.loop-at-test.true, c.loop-at.invariant.len) in
    let p = item old c.loop-at.at h in
    let failed = c.failed_in-failed.ensures ∙ ap (failed_in c.args.votes.now) c.as_slice.ensures ∙ ap (λ (m : FinishedUnit). failed_in c.args.votes.now m.effect.writes) (sym c.index-members-at.is) in
    let is : c.name_at.new.prepared.items ≡ set old c.loop-at.at (with_failed (failed_in c.args.votes.now here.effect.writes) p.0) =
    c.name_at.ensures.items p.0 ∙ (λ i. set old c.loop-at.at (with_failed (failed i) (sym p.1 i))) in
    record {
      same = named-step c.args.votes.now c.args.members.now old c.name_at.new.prepared.items c.loop-at.at here p.0 c.loop-at-test.true h c.index-members-at.is p.1 is ∙ c.loop-at.invariant.same;
      len = c.loop-at.invariant.len ∙ sym (ap length is ∙ length-set old c.loop-at.at (with_failed (failed_in c.args.votes.now here.effect.writes) p.0));
    }
