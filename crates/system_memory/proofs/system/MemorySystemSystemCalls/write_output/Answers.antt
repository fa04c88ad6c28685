use Rattle.std.proofs.Common.{drop, subst}
use Rattle.system_calls.specs.System.{System, AppendsPart}
use Rattle.system_memory.specs.MemoryState.{held_of, system_of}
use Rattle.system_memory.proofs.system.MemorySystemSystemCalls.write_output.Goals as goal

pub returns-in-Ok-clause-ok : goal.returns-in-Ok-clause-ok
returns-in-Ok-clause-ok c = λ told.
    let turned = c.turn-fault.new.self in
    let input = drop turned.taken turned.input.items in
    subst (λ (s : System). AppendsPart c.moved-count.result c.args.from c.args.bytes.now s (system_of input (held_of c.note_emitted.new.events.items)))
    c.turn-fault.ensures.state (c.in-Ok.ensures.ok input)
