use Rattle.std.proofs.Common.{◌==◌, ◌+◌, ◌*◌, inl, inr, ℕ, List, true, false, drop, sym, subst, rules}
use Rattle.host_trait.specs.World.{Asked, Synced}
use Rattle.host_trait.specs.declared.channels.Channel.TheVariants.{File}
use Rattle.host_memory.specs.declared.events.Noted.{Noted}
use Rattle.host_memory.specs.declared.plan.CallKind.TheVariants as CallKind
use Rattle.host_memory.specs.Replay.{AreBy, world_of}
use Rattle.host_memory.specs.ShownState.{is_planned}
use Rattle.host_memory.proofs.FailedCalls.{found_none, failed, stopped}
use Rattle.host_memory.proofs.Worlds.{asked, none_synced}
use Rattle.host_memory.proofs.host.MemoryHostHost.sync.Goals as goal

pub invariant_of-self-in-Err : goal.invariant_of-self-in-Err
invariant_of-self-in-Err c =
    let clock : AreBy (2 * c.turn.new.self.calls + 1) c.args.self.now.events.items = c.turn.ensures.clock c.args.self.now.events.items c.args.self.now.clock in
    search rules

pub invariant_of-self-in-Err-flush : goal.invariant_of-self-in-Err-flush
invariant_of-self-in-Err-flush c =
    let clock : AreBy (2 * c.turn.new.self.calls + 1) c.args.self.now.events.items = c.turn.ensures.clock c.args.self.now.events.items c.args.self.now.clock in
    search rules

pub invariant_of-self-in-Stopped : goal.invariant_of-self-in-Stopped
invariant_of-self-in-Stopped c =
    let clock : AreBy (2 * c.turn.new.self.calls + 1) c.args.self.now.events.items = c.turn.ensures.clock c.args.self.now.events.items c.args.self.now.clock in
    search rules

pub returns-in-Ok-clause-told : goal.returns-in-Ok-clause-told
returns-in-Ok-clause-told c told = subst (λ (n : ℕ). Synced c.args.file true (world_of (drop c.args.self.now.taken c.args.self.now.input.items) c.args.self.now.events.items c.args.self.now.plan.calls) (world_of (drop c.args.self.now.taken c.args.self.now.input.items) c.flush.new.events.items n)) (sym c.in-Goes.ensures.ticks.0) (c.in-Ok.ensures.told (drop c.args.self.now.taken c.args.self.now.input.items))

pub returns-in-Err-clause-told : goal.returns-in-Err-clause-told
returns-in-Err-clause-told c told = subst (λ (l : List Noted). Synced c.args.file false (world_of (drop c.args.self.now.taken c.args.self.now.input.items) c.args.self.now.events.items c.args.self.now.plan.calls) (world_of (drop c.args.self.now.taken c.args.self.now.input.items) l c.turn.new.self.calls)) (sym c.in-Err.ensures.err) (none_synced (drop c.args.self.now.taken c.args.self.now.input.items) c.args.self.now.events.items c.args.self.now.plan.calls c.args.self.now.clock c.turn.new.self.calls c.args.file (inl c.in-Goes.ensures.ticks.0))

pub returns-in-Ok-flush-clause-told : goal.returns-in-Ok-flush-clause-told
returns-in-Ok-flush-clause-told c told = subst (λ (n : ℕ). Synced c.args.file false (world_of (drop c.args.self.now.taken c.args.self.now.input.items) c.args.self.now.events.items c.args.self.now.plan.calls) (world_of (drop c.args.self.now.taken c.args.self.now.input.items) c.flush-in-Fails.new.events.items n)) (sym c.in-Fails.ensures.ticks.0) (c.in-Ok-flush.ensures.told (drop c.args.self.now.taken c.args.self.now.input.items))

pub returns-in-Err-flush-clause-told : goal.returns-in-Err-flush-clause-told
returns-in-Err-flush-clause-told c told = subst (λ (l : List Noted). Synced c.args.file false (world_of (drop c.args.self.now.taken c.args.self.now.input.items) c.args.self.now.events.items c.args.self.now.plan.calls) (world_of (drop c.args.self.now.taken c.args.self.now.input.items) l c.turn.new.self.calls)) (sym c.in-Err-flush.ensures.err) (none_synced (drop c.args.self.now.taken c.args.self.now.input.items) c.args.self.now.events.items c.args.self.now.plan.calls c.args.self.now.clock c.turn.new.self.calls c.args.file (inl c.in-Fails.ensures.ticks.0))

pub returns-in-Stopped-clause-told : goal.returns-in-Stopped-clause-told
returns-in-Stopped-clause-told c told = none_synced (drop c.args.self.now.taken c.args.self.now.input.items) c.args.self.now.events.items c.args.self.now.plan.calls c.args.self.now.clock c.turn.new.self.calls c.args.file (inr c.in-Stopped.ensures.ticks)

pub returns-in-Err-clause-failed : goal.returns-in-Err-clause-failed
returns-in-Err-clause-failed c = found_none (c.args.self.now.plan.left == 0) (is_planned c.args.self.now CallKind.Sync (File c.args.file)) _ _ _ (search rules) (record { world = subst (λ (l : List Noted). Asked (world_of (drop c.args.self.now.taken c.args.self.now.input.items) c.args.self.now.events.items c.args.self.now.plan.calls) (world_of (drop c.args.self.now.taken c.args.self.now.input.items) l c.turn.new.self.calls)) (sym c.in-Err.ensures.err) (asked (drop c.args.self.now.taken c.args.self.now.input.items) c.args.self.now.events.items c.args.self.now.plan.calls c.args.self.now.clock c.turn.new.self.calls (inl c.in-Goes.ensures.ticks.0)); rose = search rules })

pub returns-in-Ok-flush-clause-failed : goal.returns-in-Ok-flush-clause-failed
returns-in-Ok-flush-clause-failed c = failed (c.args.self.now.plan.left == 0) (is_planned c.args.self.now CallKind.Sync (File c.args.file)) _ _ _ (search rules) (inl (record { same = (c.in-Ok-flush.ensures.told (drop c.args.self.now.taken c.args.self.now.input.items)).state; asked = c.in-Ok-flush.ensures.count; starved = search rules }))

pub returns-in-Err-flush-clause-failed : goal.returns-in-Err-flush-clause-failed
returns-in-Err-flush-clause-failed c = failed (c.args.self.now.plan.left == 0) (is_planned c.args.self.now CallKind.Sync (File c.args.file)) _ _ _ (search rules) (inr (record { world = subst (λ (l : List Noted). Asked (world_of (drop c.args.self.now.taken c.args.self.now.input.items) c.args.self.now.events.items c.args.self.now.plan.calls) (world_of (drop c.args.self.now.taken c.args.self.now.input.items) l c.turn.new.self.calls)) (sym c.in-Err-flush.ensures.err) (asked (drop c.args.self.now.taken c.args.self.now.input.items) c.args.self.now.events.items c.args.self.now.plan.calls c.args.self.now.clock c.turn.new.self.calls (inl c.in-Fails.ensures.ticks.0)); rose = search rules }))

pub returns-in-Stopped-clause-failed : goal.returns-in-Stopped-clause-failed
returns-in-Stopped-clause-failed c = stopped (c.args.self.now.plan.left == 0) (is_planned c.args.self.now CallKind.Sync (File c.args.file)) _ _ _ (search rules) (record { world = asked (drop c.args.self.now.taken c.args.self.now.input.items) c.args.self.now.events.items c.args.self.now.plan.calls c.args.self.now.clock c.turn.new.self.calls (inr c.in-Stopped.ensures.ticks); starved = search rules })
