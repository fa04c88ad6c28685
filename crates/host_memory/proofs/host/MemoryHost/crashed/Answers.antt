use Rattle.std.proofs.Common.{◌≤◌, ◌<◌, ◌%◌, length, arith, rules, ◌+◌, ◌*◌, ℕ, sym, subst}
use Rattle.host_memory.specs.Replay.{AreBy}
use Rattle.host_memory.specs.ShownState.{world_in, is_written, image_in}
use Rattle.host_memory.proofs.CrashDraws.{all_drawn, crash_of, latest}
use Rattle.host_memory.proofs.host.MemoryHost.crashed.Goals as goal

pub returns-clause-image : goal.returns-clause-image
returns-clause-image c =
    let events = c.args.self.now.events.items in
    let all : length events ≤ c.loop-noted.noted-index = search rules in
    let small : c.args.pick % 2 < 2 = omega arith in
    crash_of events c.args.after (c.args.pick % 2) (image_in c.loop-noted.host) small
    (all_drawn events _ c.loop-noted.noted-index (is_written c.loop-noted.host) (world_in c.loop-noted.host).disk all c.loop-noted.invariant.0)

pub returns-clause-latest : goal.returns-clause-latest
returns-clause-latest c last =
    let events = c.args.self.now.events.items in
    let all : length events ≤ c.loop-noted.noted-index = search rules in
    latest events (2 * c.args.after + 1 + c.args.pick % 2) c.args.after (image_in c.loop-noted.host) (subst (λ (n : ℕ). AreBy (2 * n + 1) events) (sym last) c.args.self.now.clock) (omega arith)
    (all_drawn events _ c.loop-noted.noted-index (is_written c.loop-noted.host) (world_in c.loop-noted.host).disk all c.loop-noted.invariant.0)
