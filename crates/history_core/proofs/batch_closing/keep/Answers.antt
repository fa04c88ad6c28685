use Rattle.std.proofs.Common.{◌≡◌, ◌∙◌, ◌++◌, ◌∷◌, [], sym, ap, subst, List}
use Rattle.core_model.specs.CoreState.{Write, GrainId}
use Rattle.core_model.specs.Tests.{state_written}
use Rattle.core_parts.specs.States.{last_in, has_place}
use Rattle.history_core.specs.ClosedUnits.{ArePlaced, or_else}
use Rattle.history_core.proofs.Loops.{placed-last, placed-more, written-last, last-put}
use Rattle.history_core.proofs.batch_closing.keep.Goals as goal

pub put-requires : goal.put-requires
put-requires c =
    let x : Write = (c.in-Some.grain, c.in-Some.state) in
    let e : c.loop-grain.writes.items ≡ c.pop.new.self.items ++ x ∷ [] = c.in-Some.ensures.items in
    (placed-last (has_place c.loop-grain.last) c.pop.new.self.items x (subst (ArePlaced (has_place c.loop-grain.last)) e c.loop-grain.invariant.placed)).1

pub loop-grain-preserved : goal.loop-grain-preserved
loop-grain-preserved c =
    let x : Write = (c.in-Some.grain, c.in-Some.state) in
    let e : c.loop-grain.writes.items ≡ c.pop.new.self.items ++ x ∷ [] = c.in-Some.ensures.items in record {
      last = λ g.
          ap (or_else (state_written g c.pop.new.self.items)) (last-put c.loop-grain.last c.put.new.self x.0 x.1 c.put.ensures.put g)
          ∙ sym (written-last g c.pop.new.self.items x (last_in c.loop-grain.last g))
          ∙ ap (λ (ws : List Write). or_else (state_written g ws) (last_in c.loop-grain.last g)) (sym e)
          ∙ c.loop-grain.invariant.last g;
      places = λ g h. c.put.ensures.places g (c.loop-grain.invariant.places g h);
      placed = placed-more (has_place c.loop-grain.last) (has_place c.put.new.self) c.pop.new.self.items (λ g h. c.put.ensures.places g h)
          (placed-last (has_place c.loop-grain.last) c.pop.new.self.items x (subst (ArePlaced (has_place c.loop-grain.last)) e c.loop-grain.invariant.placed)).0;
    }
