use Rattle.std.proofs.Common.{◌≡◌, ◌+◌, ◌-◌, ◌*◌, ◌<◌, ◌≤◌, length, take, IsTrue}
use Rattle.host_trait.specs.Faults.{NoneFailed}
use Rattle.host_trait.specs.Files.{StaysReady}
use Rattle.input_windows.specs.Pulls.{PulledOnly, Took}
use Rattle.input_windows.specs.Scans.{ScanStands}
use Rattle.input_windows.specs.Windows.{left_in, before_in, IsBegun}
use Rattle.input_windows.proofs.windows.InputWindows.next_window.Given as goal

abbrev pub invariant-loop-size : goal.invariant-loop-size
invariant-loop-size g l = record {
  begun : IsBegun l.self;
  before : before_in l.self ≡ before_in l.initial.self;
  room : before_in l.self + l.most ≡ 4294967295;
  took : Took g.H.Host.tells (g.H.Host.world l.initial.host) (g.H.Host.world l.host) (left_in l.initial.self) (left_in l.self);
  within : l.seen ≤ length (left_in l.self);
  stands : ScanStands (before_in l.self) (take l.seen (left_in l.self)) l.lines l.stood;
  few : l.lines < 4096;
  short : l.stood ≤ 65536;
  calm : NoneFailed (g.H.Host.faults l.initial.host) (g.H.Host.faults l.host);
  only : IsTrue g.H.Host.tells → PulledOnly (g.H.Host.world l.initial.host) (g.H.Host.world l.host);
  ready : StaysReady (g.H.Host.is_ready l.initial.host) (g.H.Host.is_ready l.host);
}

abbrev pub decreases-loop-size : goal.decreases-loop-size
decreases-loop-size g l = 2 * (268439552 - l.seen) + (1 - (length (left_in l.self) - l.seen))
