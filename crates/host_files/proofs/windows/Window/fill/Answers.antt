use Rattle.host_files.proofs.FileEnds.{no_failure}
use Rattle.host_files.proofs.windows.Window.fill.Goals as goal

pub returns-in_err-count-clause-fine : goal.returns-in_err-count-clause-fine
returns-in_err-count-clause-fine g c = λ told well. absurd (no_failure _ _ (c.read_some.ensures.fine told well) c.in_err-count.was)
