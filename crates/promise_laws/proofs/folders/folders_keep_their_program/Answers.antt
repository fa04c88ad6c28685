use Rattle.promise_laws.proofs.SamePrograms.{run_stays, shows_stay, reports_stay, audits_stay, bad_use_stays, checks_stay, restart_stays}
use Rattle.promise_laws.proofs.folders.folders_keep_their_program.Goals as goal

pub returns-clause-run : goal.returns-clause-run
returns-clause-run c = run_stays

pub returns-clause-reports : goal.returns-clause-reports
returns-clause-reports c = reports_stay

pub returns-clause-audits : goal.returns-clause-audits
returns-clause-audits c = audits_stay

pub returns-clause-bad_use : goal.returns-clause-bad_use
returns-clause-bad_use c = bad_use_stays

pub returns-clause-check : goal.returns-clause-check
returns-clause-check c = checks_stay

pub returns-clause-restart : goal.returns-clause-restart
returns-clause-restart c = restart_stays

pub returns-clause-show : goal.returns-clause-show
returns-clause-show c = shows_stay
