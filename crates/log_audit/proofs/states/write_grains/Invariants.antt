use Rattle.std.proofs.Common.{IsTrue, length}
use Rattle.host_trait.specs.Files.{StaysReady}
use Rattle.host_trait.specs.Faults.{NoneFailed}
use Rattle.script_tree.specs.Programs.{program_tree}
use Rattle.log_audit.specs.Lines.{grain_lines}
use Rattle.log_audit.proofs.TextParts.{Gone}
use Rattle.log_audit.proofs.states.write_grains.Given as goal

abbrev pub invariant-loop-grain : goal.invariant-loop-grain
invariant-loop-grain g l = record {
  puts : IsTrue g.H.Host.tells → Gone (grain_lines l.shape (program_tree l.checked) l.store l.fn.grains.keys) (grain_lines l.shape (program_tree l.checked) l.store l.left.keys) (g.H.Host.world l.fn.host) (g.H.Host.world l.host);
  calm : NoneFailed (g.H.Host.faults l.fn.host) (g.H.Host.faults l.host);
  ready : StaysReady (g.H.Host.is_ready l.fn.host) (g.H.Host.is_ready l.host);
}

abbrev pub decreases-loop-grain : goal.decreases-loop-grain
decreases-loop-grain g l = length l.left.keys
