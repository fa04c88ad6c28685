use Rattle.std.proofs.Common.{◌≡◌, ◌∙◌, ◌∷◌, ◌+◌, ◌<◌, List, sym, ap, subst, drop, map, length, arith, None, Bool, get_or}
use Rattle.core_model.specs.CoreState.{UnitNo, Decision, Units, put}
use Rattle.cell_model.specs.declared.outcomes.Decision.TheVariants.{Commit}
use Rattle.core_model.specs.Tests.{is_over}
use Rattle.core_model.specs.declared.effects.Effect.{Effect}
use Rattle.core_model.specs.Changes.{verdict_of}
use Rattle.open_batch.specs.declared.members.FinishedUnit.{FinishedUnit}
use Rattle.open_batch.specs.Members.{effect_in}
use Rattle.unit_table.specs.Table.{verdict_in, phase_in}
use Rattle.history_core.specs.Decisions.{judged_after}
use Rattle.history_core.specs.Fronts.{AreOver}
use Rattle.history_core.proofs.Loops.{drop-at, drop-at-or, over-same}
use Rattle.history_core.proofs.decide.judge_all.Goals as goal

pub loop-at-preserved : goal.loop-at-preserved
loop-at-preserved c =
    let at = c.loop-at.at in
    let m : FinishedUnit = c.index-members-at.result in
    let d : Decision = get_or c.args.decisions.now at Commit in
    let ds : drop at c.args.decisions.now ≡ d ∷ drop (at + 1) c.args.decisions.now = drop-at-or c.args.decisions.now at Commit c.loop-at-test.true in
    let ms : drop at c.args.members.now ≡ m ∷ drop (at + 1) c.args.members.now = drop-at c.args.members.now at m (omega (arith, c.loop-at-test.true, c.requires.within)) c.index-members-at.is in
    let rest = drop (at + 1) c.args.decisions.now in
    let es = map effect_in (drop (at + 1) c.args.members.now) in
    let phases : (u : UnitNo) → is_over (phase_in c.set_verdict.new.self u) ≡ is_over (phase_in c.loop-at.units u) = λ u. ap (λ (us : Units). is_over (us.phase u)) (c.set_verdict.ensures.units (λ x. None)) in record {
      rest =
          ap (judged_after rest es)
          (c.set_verdict.ensures.verdict
          ∙ ap (put (verdict_in c.loop-at.units) (get_or c.args.members.now at m).effect.unit) c.verdict_of-verdict.ensures
          ∙ ap (λ (x : FinishedUnit). put (verdict_in c.loop-at.units) x.effect.unit (verdict_of d)) (sym c.index-members-at.is))
          ∙ (λ i. judged_after (sym ds i) (map effect_in (sym ms i)) (verdict_in c.loop-at.units))
          ∙ c.loop-at.invariant.rest;
      units = λ seen. c.set_verdict.ensures.units seen ∙ c.loop-at.invariant.units seen;
      result = c.set_verdict.ensures.result ∙ c.loop-at.invariant.result;
      over = over-same (λ u. is_over (phase_in c.loop-at.units u)) (λ u. is_over (phase_in c.set_verdict.new.self u)) rest es (λ u. sym (phases u)) (subst (λ (xs : List FinishedUnit). AreOver (λ u. is_over (phase_in c.loop-at.units u)) (d ∷ rest) (map effect_in xs)) ms (subst (λ (xs : List Decision). AreOver (λ u. is_over (phase_in c.loop-at.units u)) xs (map effect_in (drop at c.args.members.now))) ds c.loop-at.invariant.over)).1;
    }
