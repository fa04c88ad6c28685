use Rattle.folder_laws.proofs.WholeCalls.{obeying_keeps, bad_use_keeps}
use Rattle.folder_laws.proofs.laws.folders_stay_whole.Goals as goal

pub returns-clause-any : goal.returns-clause-any
returns-clause-any c command bank r is = obeying_keeps command bank r is

pub returns-clause-bad_use : goal.returns-clause-bad_use
returns-clause-bad_use c = bad_use_keeps
