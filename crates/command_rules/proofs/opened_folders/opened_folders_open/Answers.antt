use Rattle.command_rules.proofs.RunsBehindOpening.{behind, in_force, opens}
use Rattle.command_rules.proofs.opened_folders.opened_folders_open.Goals as goal

pub returns-clause-behind : goal.returns-clause-behind
returns-clause-behind c = λ o r course mid is follows. behind o r course mid is follows

pub returns-clause-in_force : goal.returns-clause-in_force
returns-clause-in_force c = λ o r course mid is follows. in_force o r course mid is follows

pub returns-clause-opens : goal.returns-clause-opens
returns-clause-opens c = λ o r course mid is follows whole stay stay_mid. opens o r course mid is follows whole stay stay_mid
