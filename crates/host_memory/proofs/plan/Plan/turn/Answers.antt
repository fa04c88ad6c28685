use Rattle.std.proofs.Common.{◌+◌, inl, refl}
use Rattle.host_memory.proofs.Worlds.{asked, tick_clock}
use Rattle.host_memory.proofs.plan.Plan.turn.Goals as goal

pub returns-then-is_next-clause-clock : goal.returns-then-is_next-clause-clock
returns-then-is_next-clause-clock c events clock = tick_clock c.args.self.now.calls (c.args.self.now.calls + 1) events (inl refl) clock

pub returns-then-is_next-clause-told : goal.returns-then-is_next-clause-told
returns-then-is_next-clause-told c input events clock = asked input events c.args.self.now.calls clock (c.args.self.now.calls + 1) (inl refl)

pub returns-clause-clock : goal.returns-clause-clock
returns-clause-clock c events clock = tick_clock c.args.self.now.calls (c.args.self.now.calls + 1) events (inl refl) clock

pub returns-clause-told : goal.returns-clause-told
returns-clause-told c input events clock = asked input events c.args.self.now.calls clock (c.args.self.now.calls + 1) (inl refl)
