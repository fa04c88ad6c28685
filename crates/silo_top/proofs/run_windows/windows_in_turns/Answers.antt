use Rattle.std.proofs.Common.{arith}
use Rattle.silo_top.proofs.run_windows.windows_in_turns.Goals as goal

pub loop-further-init : goal.loop-further-init
loop-further-init g c = record {
  stays = λ before old u. u;
  can = c.requires.can;
  ready = λ file ready. ready;
}

pub loop-further-preserved : goal.loop-further-preserved
loop-further-preserved g c = record {
  stays = λ before old u. c.in-Ok.ensures.goes before old (c.loop-further.invariant.stays before old u);
  can = c.in-Ok.ensures.can;
  ready = λ file ready. c.window_in_turns.ensures.ready file (c.loop-further.invariant.ready file ready);
}

pub loop-further-smaller : goal.loop-further-smaller
loop-further-smaller g c = let further = c.in-Ok.ensures.further in let few = c.in-Ok.further.windows.few in omega (arith, further, few)

pub returns-in-Err-clause-ends : goal.returns-in-Err-clause-ends
returns-in-Err-clause-ends g c = λ before old u. c.in-Err.ensures.goes before old (c.loop-further.invariant.stays before old u)

pub returns-in-Err-clause-ready : goal.returns-in-Err-clause-ready
returns-in-Err-clause-ready g c = λ file was. c.window_in_turns.ensures.ready file (c.loop-further.invariant.ready file was)
