use Rattle.command_rules.proofs.LoadKept.{kept_load}
use Rattle.command_rules.proofs.load_promise.shown_loads_keep.Goals as goal

pub returns : goal.returns
returns c = kept_load
