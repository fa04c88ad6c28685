use Rattle.std.proofs.Common.{length, drop, sym, subst}
use Rattle.system_calls.specs.System.{System, WritesPart, FailsPart}
use Rattle.system_memory.specs.MemoryState.{held_of, system_of}
use Rattle.system_memory.specs.ShownState.{system_in}
use Rattle.system_memory.proofs.system.MemorySystemSystemCalls.write_at.Goals as goal

pub returns-then-eq-2-clause-err : goal.returns-then-eq-2-clause-err
returns-then-eq-2-clause-err c = λ apart told.
    let turned = c.turn-fault.new.self in
    subst (λ (s : System). FailsPart c.args.from c.args.opened.now.file c.args.at (length c.args.bytes.now) s (system_in c.refuse.new.self)) c.turn-fault.ensures.state
    (subst (λ (s : System). FailsPart c.args.from c.args.opened.now.file c.args.at (length c.args.bytes.now) (system_in turned) s) (sym c.refuse.ensures.state)
    (c.in-Ok.ensures.torn (drop turned.taken turned.input.items)))

pub returns-else-eq-2-clause-ok : goal.returns-else-eq-2-clause-ok
returns-else-eq-2-clause-ok c = λ told.
    let turned = c.turn-fault.new.self in
    let input = drop turned.taken turned.input.items in
    subst (λ (s : System). WritesPart c.moved-count.result c.args.from c.args.opened.now.file c.args.at c.args.bytes.now s (system_of input (held_of c.note_wrote.new.events.items)))
    c.turn-fault.ensures.state (c.in-Ok.ensures.ok input)
