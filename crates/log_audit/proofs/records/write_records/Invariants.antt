use Rattle.std.proofs.Common.{IsTrue, drop}
use Rattle.host_trait.specs.Files.{StaysReady}
use Rattle.host_trait.specs.Faults.{NoneFailed}
use Rattle.script_tree.specs.Programs.{program_tree}
use Rattle.log_audit.specs.Lines.{record_lines}
use Rattle.log_audit.proofs.TextParts.{Gone}
use Rattle.log_audit.proofs.records.write_records.Given as goal

abbrev pub invariant-loop-entry : goal.invariant-loop-entry
invariant-loop-entry g l = record {
  puts : IsTrue g.H.Host.tells → Gone (record_lines l.shape (program_tree l.checked) l.session l.records) (record_lines l.shape (program_tree l.checked) l.session (drop l.entry-index l.records)) (g.H.Host.world l.fn.host) (g.H.Host.world l.host);
  calm : NoneFailed (g.H.Host.faults l.fn.host) (g.H.Host.faults l.host);
  ready : StaysReady (g.H.Host.is_ready l.fn.host) (g.H.Host.is_ready l.host);
}
