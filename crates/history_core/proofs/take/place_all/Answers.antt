use Rattle.std.proofs.Common.{◌≡◌, ◌∙◌, sym, subst, ap}
use Rattle.core_model.specs.CoreState.{Write}
use Rattle.core_parts.specs.States.{has_place}
use Rattle.open_batch.specs.declared.members.FinishedUnit.{FinishedUnit}
use Rattle.history_core.specs.ClosedUnits.{ArePlaced}
use Rattle.history_core.specs.KeptParts.{AllPlaced}
use Rattle.history_core.proofs.Loops.{drop-at, drop-end, placed-more}
use Rattle.history_core.proofs.take.place_all.Goals as goal

pub loop-member-preserved : goal.loop-member-preserved
loop-member-preserved c =
    let x : FinishedUnit = c.member-item.result in record {
      same = λ g. c.place.ensures.same g ∙ c.loop-member.invariant.same g;
      places = λ g h. c.place.ensures.places g (c.loop-member.invariant.places g h);
      placed = λ test f h. c.loop-member.invariant.placed test (λ g q. f g (c.place.ensures.places g q))
          (subst (AllPlaced test) (sym (drop-at c.args.members.now c.loop-member.member-index x c.loop-member-test.true c.member-item.is))
          (placed-more (has_place c.place.new.last) test x.effect.writes f (subst (ArePlaced (has_place c.place.new.last)) c.as_slice.ensures c.in_ok-place.ensures.placed), h));
    }

pub returns-clause-placed : goal.returns-clause-placed
returns-clause-placed c = c.loop-member.invariant.placed (has_place c.loop-member.last) (λ g q. q) (subst (AllPlaced (has_place c.loop-member.last)) (sym (drop-end c.args.members.now c.loop-member.member-index c.loop-member-test.false)) tt)
