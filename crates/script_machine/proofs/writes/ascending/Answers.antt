use Rattle.std.proofs.Common.{Bool, List, ap, sym, ◌∙◌, arith}
use Rattle.std.specs.Prelude.{if◌then◌else◌}
use Rattle.script_holding.specs.declared.held_grain.Held.{Held}
use Rattle.script_meaning.specs.Play.{insert}
use Rattle.script_machine.proofs.Orders.{onto, onto_push}
use Rattle.script_machine.proofs.writes.ascending.Goals as goal

pub loop-one-preserved-then-one : goal.loop-one-preserved-then-one
loop-one-preserved-then-one c =
    let one = c.in-Some.one in
    let writes = c.loop-one.writes.items in
    let held = c.pop.new.self.items in
    record {
      order = ap (onto held) (c.insert.ensures.items ∙ sym (ap (λ (b : Bool). if b then insert (one.grain, one.state) writes else writes) c.if-one.true))
          ∙ sym (onto_push held one writes)
          ∙ sym (ap (λ (l : List Held). onto l writes) c.in-Some.ensures.items)
          ∙ c.loop-one.invariant.order;
      room = omega (arith, c.in-Some.ensures.cases);
    }
