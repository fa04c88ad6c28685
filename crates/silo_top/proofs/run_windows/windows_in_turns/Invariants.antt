use Rattle.std.proofs.Common.{ℕ, ◌-◌, ◌^◌}
use Rattle.host_trait.specs.declared.channels.Channel.{Channel}
use Rattle.host_trait.specs.Files.{StaysReady}
use Rattle.host_trait.specs.World.{World}
use Rattle.input_windows.specs.Windows.{given_in}
use Rattle.silo_top.specs.CallAnswers.{turns_manner}
use Rattle.silo_top.specs.Continuation.{CanCarry}
use Rattle.silo_top.specs.RunWindows.{IsRunUnderWay}
use Rattle.silo_top.proofs.run_windows.windows_in_turns.Given as goal

-- wherever the run was under way it is still, and it can go on
abbrev pub invariant-loop-further : goal.invariant-loop-further
invariant-loop-further g l = record {
  stays : (before : Channel → ℕ) (old : World) → IsRunUnderWay g.H.Host.tells (turns_manner l.width l.picks) before old l.initial.running (g.H.Host.faults l.initial.host) (g.H.Host.world l.initial.host)
      → IsRunUnderWay g.H.Host.tells (turns_manner l.width l.picks) before old l.running (g.H.Host.faults l.host) (g.H.Host.world l.host);
  can : CanCarry g.H.Host.tells l.running.started (g.H.Host.world l.host);
  ready : StaysReady (g.H.Host.is_ready l.initial.host) (g.H.Host.is_ready l.host);
}

-- each window has a line at least, and its number 32 bits
abbrev pub decreases-loop-further : goal.decreases-loop-further
decreases-loop-further g l = 2 ^ 32 - given_in l.running.windows
