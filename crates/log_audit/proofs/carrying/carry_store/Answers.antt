use Rattle.std.proofs.Common.{List, sym, subst}
use Rattle.base_types.specs.declared.calls.Value.{Value}
use Rattle.base_types.specs.Stores.{PutsState}
use Rattle.script_tree.specs.Programs.{program_tree}
use Rattle.log_audit.proofs.CarriedStores.{carried_more}
use Rattle.log_audit.proofs.carrying.carry_store.Goals as goal

pub carry_state-requires-clause-kind : goal.carry_state-requires-clause-kind
carry_state-requires-clause-kind c = (c.requires.fits c.in-Some.grain c.in-Some-get.state.now (sym c.in-Some-get.ensures)).kind

pub loop-grain-preserved-in-Continue-branch-3 : goal.loop-grain-preserved-in-Continue-branch-3
loop-grain-preserved-in-Continue-branch-3 c =
    let grain = c.in-Some.grain in
    let puts = subst (λ (s : List Value). PutsState c.loop-grain.made c.put.new.self grain s) c.in_ok-carried.ensures c.in_ok-put.ensures.ok in
    carried_more (program_tree c.args.old.now) (program_tree c.args.new.now) c.args.store.now c.loop-grain.made c.put.new.self c.loop-grain.yielded grain c.in-Some-get.state.now (sym c.in-Some-get.ensures) puts c.loop-grain.invariant
