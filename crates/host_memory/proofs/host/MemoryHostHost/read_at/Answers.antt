use Rattle.std.proofs.Common.{◌+◌, ◌*◌, drop, rules}
use Rattle.host_memory.specs.Replay.{AreBy}
use Rattle.host_memory.proofs.host.MemoryHostHost.read_at.Goals as goal

pub invariant_of-self : goal.invariant_of-self
invariant_of-self c =
    let clock : AreBy (2 * c.turn.new.self.calls + 1) c.args.self.now.events.items = c.turn.ensures.clock c.args.self.now.events.items c.args.self.now.clock in
    search rules

pub invariant_of-self-in-Fails : goal.invariant_of-self-in-Fails
invariant_of-self-in-Fails c =
    let clock : AreBy (2 * c.turn.new.self.calls + 1) c.args.self.now.events.items = c.turn.ensures.clock c.args.self.now.events.items c.args.self.now.clock in
    search rules

pub invariant_of-self-in-Stopped : goal.invariant_of-self-in-Stopped
invariant_of-self-in-Stopped c =
    let clock : AreBy (2 * c.turn.new.self.calls + 1) c.args.self.now.events.items = c.turn.ensures.clock c.args.self.now.events.items c.args.self.now.clock in
    search rules

pub returns-then-at-bytes-clause-told : goal.returns-then-at-bytes-clause-told
returns-then-at-bytes-clause-told c told = c.turn.ensures.told (drop c.args.self.now.taken c.args.self.now.input.items) c.args.self.now.events.items c.args.self.now.clock

pub returns-else-at-bytes-clause-told : goal.returns-else-at-bytes-clause-told
returns-else-at-bytes-clause-told c told = c.turn.ensures.told (drop c.args.self.now.taken c.args.self.now.input.items) c.args.self.now.events.items c.args.self.now.clock

pub returns-in-Fails-clause-told : goal.returns-in-Fails-clause-told
returns-in-Fails-clause-told c told = c.turn.ensures.told (drop c.args.self.now.taken c.args.self.now.input.items) c.args.self.now.events.items c.args.self.now.clock

pub returns-in-Stopped-clause-told : goal.returns-in-Stopped-clause-told
returns-in-Stopped-clause-told c told = c.turn.ensures.told (drop c.args.self.now.taken c.args.self.now.input.items) c.args.self.now.events.items c.args.self.now.clock
