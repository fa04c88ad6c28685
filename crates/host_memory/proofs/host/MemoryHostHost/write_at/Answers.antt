use Rattle.std.proofs.Common.{◌==◌, ◌+◌, ◌*◌, inl, inr, ℕ, List, length, drop, sym, subst, rules}
use Rattle.host_trait.specs.World.{Asked, Written}
use Rattle.host_trait.specs.declared.channels.Channel.TheVariants.{File}
use Rattle.host_memory.specs.declared.events.Noted.{Noted}
use Rattle.host_memory.specs.declared.plan.CallKind.TheVariants as CallKind
use Rattle.host_memory.specs.Replay.{AreBy, world_of}
use Rattle.host_memory.specs.ShownState.{is_planned}
use Rattle.host_memory.proofs.FailedCalls.{found_none, failed, stopped}
use Rattle.host_memory.proofs.Worlds.{asked, none_written}
use Rattle.host_memory.proofs.host.MemoryHostHost.write_at.Goals as goal

pub invariant_of-self-in-Err : goal.invariant_of-self-in-Err
invariant_of-self-in-Err c =
    let clock : AreBy (2 * c.turn.new.self.calls + 1) c.args.self.now.events.items = c.turn.ensures.clock c.args.self.now.events.items c.args.self.now.clock in
    search rules

pub invariant_of-self-in-Err-tear : goal.invariant_of-self-in-Err-tear
invariant_of-self-in-Err-tear c =
    let clock : AreBy (2 * c.turn.new.self.calls + 1) c.args.self.now.events.items = c.turn.ensures.clock c.args.self.now.events.items c.args.self.now.clock in
    search rules

pub invariant_of-self-in-Stopped : goal.invariant_of-self-in-Stopped
invariant_of-self-in-Stopped c =
    let clock : AreBy (2 * c.turn.new.self.calls + 1) c.args.self.now.events.items = c.turn.ensures.clock c.args.self.now.events.items c.args.self.now.clock in
    search rules

pub returns-in-Ok-clause-told : goal.returns-in-Ok-clause-told
returns-in-Ok-clause-told c told = subst (λ (n : ℕ). Written c.args.file c.args.at (length c.args.bytes.now) (world_of (drop c.args.self.now.taken c.args.self.now.input.items) c.args.self.now.events.items c.args.self.now.plan.calls) (world_of (drop c.args.self.now.taken c.args.self.now.input.items) c.write.new.events.items n)) (sym c.in-Goes.ensures.ticks.0) (c.in-Ok.ensures.told (drop c.args.self.now.taken c.args.self.now.input.items))

pub returns-in-Err-clause-told : goal.returns-in-Err-clause-told
returns-in-Err-clause-told c told = subst (λ (l : List Noted). Written c.args.file c.args.at (length c.args.bytes.now) (world_of (drop c.args.self.now.taken c.args.self.now.input.items) c.args.self.now.events.items c.args.self.now.plan.calls) (world_of (drop c.args.self.now.taken c.args.self.now.input.items) l c.turn.new.self.calls)) (sym c.in-Err.ensures.err) (none_written (drop c.args.self.now.taken c.args.self.now.input.items) c.args.self.now.events.items c.args.self.now.plan.calls c.args.self.now.clock c.turn.new.self.calls c.args.file c.args.at (length c.args.bytes.now) (inl c.in-Goes.ensures.ticks.0))

pub returns-in-Ok-tear-clause-told : goal.returns-in-Ok-tear-clause-told
returns-in-Ok-tear-clause-told c told = subst (λ (n : ℕ). Written c.args.file c.args.at (length c.args.bytes.now) (world_of (drop c.args.self.now.taken c.args.self.now.input.items) c.args.self.now.events.items c.args.self.now.plan.calls) (world_of (drop c.args.self.now.taken c.args.self.now.input.items) c.tear.new.events.items n)) (sym c.in-Fails.ensures.ticks.0) (c.in-Ok-tear.ensures.told (drop c.args.self.now.taken c.args.self.now.input.items))

pub returns-in-Err-tear-clause-told : goal.returns-in-Err-tear-clause-told
returns-in-Err-tear-clause-told c told = subst (λ (l : List Noted). Written c.args.file c.args.at (length c.args.bytes.now) (world_of (drop c.args.self.now.taken c.args.self.now.input.items) c.args.self.now.events.items c.args.self.now.plan.calls) (world_of (drop c.args.self.now.taken c.args.self.now.input.items) l c.turn.new.self.calls)) (sym c.in-Err-tear.ensures.err) (none_written (drop c.args.self.now.taken c.args.self.now.input.items) c.args.self.now.events.items c.args.self.now.plan.calls c.args.self.now.clock c.turn.new.self.calls c.args.file c.args.at (length c.args.bytes.now) (inl c.in-Fails.ensures.ticks.0))

pub returns-in-Stopped-clause-told : goal.returns-in-Stopped-clause-told
returns-in-Stopped-clause-told c told = none_written (drop c.args.self.now.taken c.args.self.now.input.items) c.args.self.now.events.items c.args.self.now.plan.calls c.args.self.now.clock c.turn.new.self.calls c.args.file c.args.at (length c.args.bytes.now) (inr c.in-Stopped.ensures.ticks)

pub returns-in-Err-clause-failed : goal.returns-in-Err-clause-failed
returns-in-Err-clause-failed c = found_none (c.args.self.now.plan.left == 0) (is_planned c.args.self.now CallKind.Write (File c.args.file)) _ _ _ (search rules) (record { world = subst (λ (l : List Noted). Asked (world_of (drop c.args.self.now.taken c.args.self.now.input.items) c.args.self.now.events.items c.args.self.now.plan.calls) (world_of (drop c.args.self.now.taken c.args.self.now.input.items) l c.turn.new.self.calls)) (sym c.in-Err.ensures.err) (asked (drop c.args.self.now.taken c.args.self.now.input.items) c.args.self.now.events.items c.args.self.now.plan.calls c.args.self.now.clock c.turn.new.self.calls (inl c.in-Goes.ensures.ticks.0)); rose = search rules })

pub returns-in-Ok-tear-clause-failed : goal.returns-in-Ok-tear-clause-failed
returns-in-Ok-tear-clause-failed c = failed (c.args.self.now.plan.left == 0) (is_planned c.args.self.now CallKind.Write (File c.args.file)) _ _ _ (search rules) (inl (record { torn = c.in-Ok-tear.ensures.torn; starved = search rules }))

pub returns-in-Err-tear-clause-failed : goal.returns-in-Err-tear-clause-failed
returns-in-Err-tear-clause-failed c = failed (c.args.self.now.plan.left == 0) (is_planned c.args.self.now CallKind.Write (File c.args.file)) _ _ _ (search rules) (inr (record { world = subst (λ (l : List Noted). Asked (world_of (drop c.args.self.now.taken c.args.self.now.input.items) c.args.self.now.events.items c.args.self.now.plan.calls) (world_of (drop c.args.self.now.taken c.args.self.now.input.items) l c.turn.new.self.calls)) (sym c.in-Err-tear.ensures.err) (asked (drop c.args.self.now.taken c.args.self.now.input.items) c.args.self.now.events.items c.args.self.now.plan.calls c.args.self.now.clock c.turn.new.self.calls (inl c.in-Fails.ensures.ticks.0)); rose = search rules }))

pub returns-in-Stopped-clause-failed : goal.returns-in-Stopped-clause-failed
returns-in-Stopped-clause-failed c = stopped (c.args.self.now.plan.left == 0) (is_planned c.args.self.now CallKind.Write (File c.args.file)) _ _ _ (search rules) (record { world = asked (drop c.args.self.now.taken c.args.self.now.input.items) c.args.self.now.events.items c.args.self.now.plan.calls c.args.self.now.clock c.turn.new.self.calls (inr c.in-Stopped.ensures.ticks); starved = search rules })
