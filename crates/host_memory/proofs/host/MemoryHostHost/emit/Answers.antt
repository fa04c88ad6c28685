use Rattle.std.proofs.Common.{◌+◌, ◌*◌, inl, inr, ℕ, List, length, drop, refl, sym, subst, rules}
use Rattle.host_trait.specs.World.{Asked, Emitted}
use Rattle.host_memory.specs.declared.events.Noted.{Noted}
use Rattle.host_memory.specs.Replay.{AreBy, world_of}
use Rattle.host_memory.proofs.Worlds.{none_emitted}
use Rattle.host_memory.proofs.host.MemoryHostHost.emit.Goals as goal

pub invariant_of-self-in-Err : goal.invariant_of-self-in-Err
invariant_of-self-in-Err c =
    let clock : AreBy (2 * c.turn.new.self.calls + 1) c.args.self.now.events.items = c.turn.ensures.clock c.args.self.now.events.items c.args.self.now.clock in
    search rules

pub invariant_of-self-in-Fails : goal.invariant_of-self-in-Fails
invariant_of-self-in-Fails c =
    let clock : AreBy (2 * c.turn.new.self.calls + 1) c.args.self.now.events.items = c.turn.ensures.clock c.args.self.now.events.items c.args.self.now.clock in
    search rules

pub invariant_of-self-in-Stopped : goal.invariant_of-self-in-Stopped
invariant_of-self-in-Stopped c =
    let clock : AreBy (2 * c.turn.new.self.calls + 1) c.args.self.now.events.items = c.turn.ensures.clock c.args.self.now.events.items c.args.self.now.clock in
    search rules

pub returns-in-Ok-clause-ok : goal.returns-in-Ok-clause-ok
returns-in-Ok-clause-ok c told = subst (λ (n : ℕ). Emitted (length c.args.bytes.now) c.args.bytes.now (world_of (drop c.args.self.now.taken c.args.self.now.input.items) c.args.self.now.events.items c.args.self.now.plan.calls) (world_of (drop c.args.self.now.taken c.args.self.now.input.items) c.put_out.new.events.items n)) (sym c.in-Goes.ensures.ticks.0) (c.in-Ok.ensures.ok (drop c.args.self.now.taken c.args.self.now.input.items))

pub returns-in-Ok-clause-part : goal.returns-in-Ok-clause-part
returns-in-Ok-clause-part c told = (length c.args.bytes.now, subst (λ (n : ℕ). Emitted (length c.args.bytes.now) c.args.bytes.now (world_of (drop c.args.self.now.taken c.args.self.now.input.items) c.args.self.now.events.items c.args.self.now.plan.calls) (world_of (drop c.args.self.now.taken c.args.self.now.input.items) c.put_out.new.events.items n)) (sym c.in-Goes.ensures.ticks.0) (c.in-Ok.ensures.ok (drop c.args.self.now.taken c.args.self.now.input.items)))

pub returns-in-Err-clause-part : goal.returns-in-Err-clause-part
returns-in-Err-clause-part c told = (0, subst (λ (l : List Noted). Emitted 0 c.args.bytes.now (world_of (drop c.args.self.now.taken c.args.self.now.input.items) c.args.self.now.events.items c.args.self.now.plan.calls) (world_of (drop c.args.self.now.taken c.args.self.now.input.items) l c.turn.new.self.calls)) (sym c.in-Err.ensures.err) (none_emitted (drop c.args.self.now.taken c.args.self.now.input.items) c.args.self.now.events.items c.args.self.now.plan.calls c.args.self.now.clock c.turn.new.self.calls c.args.bytes.now (inl c.in-Goes.ensures.ticks.0)))

pub returns-in-Fails-clause-part : goal.returns-in-Fails-clause-part
returns-in-Fails-clause-part c told = (0, none_emitted (drop c.args.self.now.taken c.args.self.now.input.items) c.args.self.now.events.items c.args.self.now.plan.calls c.args.self.now.clock c.turn.new.self.calls c.args.bytes.now (inl c.in-Fails.ensures.ticks.0))

pub returns-in-Stopped-clause-part : goal.returns-in-Stopped-clause-part
returns-in-Stopped-clause-part c told = (0, none_emitted (drop c.args.self.now.taken c.args.self.now.input.items) c.args.self.now.events.items c.args.self.now.plan.calls c.args.self.now.clock c.turn.new.self.calls c.args.bytes.now (inr c.in-Stopped.ensures.ticks))

pub returns-in-Err-clause-err : goal.returns-in-Err-clause-err
returns-in-Err-clause-err c = subst (λ (l : List Noted). Asked (world_of (drop c.args.self.now.taken c.args.self.now.input.items) c.args.self.now.events.items c.args.self.now.plan.calls) (world_of (drop c.args.self.now.taken c.args.self.now.input.items) l c.turn.new.self.calls)) (sym c.in-Err.ensures.err) (c.turn.ensures.told (drop c.args.self.now.taken c.args.self.now.input.items) c.args.self.now.events.items c.args.self.now.clock)

pub returns-in-Fails-clause-idle : goal.returns-in-Fails-clause-idle
returns-in-Fails-clause-idle c named = record { world = c.turn.ensures.told (drop c.args.self.now.taken c.args.self.now.input.items) c.args.self.now.events.items c.args.self.now.clock; starved = refl }

pub returns-in-Fails-clause-err : goal.returns-in-Fails-clause-err
returns-in-Fails-clause-err c = c.turn.ensures.told (drop c.args.self.now.taken c.args.self.now.input.items) c.args.self.now.events.items c.args.self.now.clock
