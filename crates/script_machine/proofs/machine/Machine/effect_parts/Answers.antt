use Rattle.std.proofs.Common.{refl}
use Rattle.script_machine.specs.declared.machine.Parts.{Parts}
use Rattle.script_machine.proofs.Trails.{over_rest, parts_of_play}
use Rattle.script_machine.proofs.machine.Machine.effect_parts.Goals as goal

pub returns-clause-play : goal.returns-clause-play
returns-clause-play c = λ types.
    let machine = c.args.self in
    let parts : Parts = record { answers = machine.answers; reads = machine.reads; writes = c.written_by-writes.result; result = c.in-Over.outcome } in
    parts_of_play types machine parts machine.run.has (over_rest types machine.run machine.ready c.in-Over.outcome c.requires.over c.in-Over.is) c.written_by-writes.ensures refl refl
