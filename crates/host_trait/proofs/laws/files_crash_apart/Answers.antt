use Rattle.host_trait.proofs.Runs.{image_with, with_bytes-there, with_bytes-other}
use Rattle.host_trait.proofs.laws.files_crash_apart.Goals as goal

pub returns-clause-image : goal.returns-clause-image
returns-clause-image c = image_with

pub returns-clause-there : goal.returns-clause-there
returns-clause-there c = with_bytes-there

pub returns-clause-others : goal.returns-clause-others
returns-clause-others c = with_bytes-other
