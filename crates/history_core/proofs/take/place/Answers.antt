use Rattle.std.proofs.Common.{◌≡◌, ◌∙◌, sym, subst}
use Rattle.core_model.specs.CoreState.{Write}
use Rattle.core_parts.specs.States.{has_place}
use Rattle.history_core.specs.ClosedUnits.{ArePlaced}
use Rattle.history_core.proofs.Loops.{drop-at, drop-end}
use Rattle.history_core.proofs.take.place.Goals as goal

pub loop-write-preserved : goal.loop-write-preserved
loop-write-preserved c =
    let x : Write = c.write-item.result in record {
      same = λ g. c.make_place.ensures.same g ∙ c.loop-write.invariant.same g;
      places = λ g h. c.make_place.ensures.places g (c.loop-write.invariant.places g h);
      placed = λ test f h. c.loop-write.invariant.placed test (λ g q. f g (c.make_place.ensures.places g q))
          (subst (ArePlaced test) (sym (drop-at c.args.writes.now c.loop-write.write-index x c.loop-write-test.true c.write-item.is)) (f x.0 c.in_ok-make_place.ensures.made, h));
    }

pub returns-clause-placed : goal.returns-clause-placed
returns-clause-placed c = c.loop-write.invariant.placed (has_place c.loop-write.last) (λ g q. q) (subst (ArePlaced (has_place c.loop-write.last)) (sym (drop-end c.args.writes.now c.loop-write.write-index c.loop-write-test.false)) tt)
