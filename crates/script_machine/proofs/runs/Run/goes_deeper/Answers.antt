use Rattle.std.proofs.Common.{◌≤◌, arith}
use Rattle.script_holding.specs.Limits.{depth_limit}
use Rattle.script_machine.proofs.Stops.{depth_at}
use Rattle.script_machine.proofs.runs.Run.goes_deeper.Goals as goal

pub returns-then-self-ge-DEPTH_LIMIT : goal.returns-then-self-ge-DEPTH_LIMIT
returns-then-self-ge-DEPTH_LIMIT c =
    let deep : depth_limit ≤ c.args.self.now.top.post.depth = omega arith in
    depth_at _ c.stop_at.ensures _ deep
