use Rattle.promise_laws.proofs.SoundFolders.{run_keeps, shows_keep, reports_keep, audits_keep, bad_use_keeps, load_keeps, checks_keep, obeying_keeps}
use Rattle.promise_laws.proofs.RewrittenFolders.{compact_keeps, migrate_keeps}
use Rattle.promise_laws.proofs.SoundUpgrades.{upgrade_keeps}
use Rattle.promise_laws.proofs.folders.folders_stay_sound.Goals as goal

pub returns-clause-run : goal.returns-clause-run
returns-clause-run c = run_keeps

pub returns-clause-reports : goal.returns-clause-reports
returns-clause-reports c = reports_keep

pub returns-clause-audits : goal.returns-clause-audits
returns-clause-audits c = audits_keep

pub returns-clause-bad_use : goal.returns-clause-bad_use
returns-clause-bad_use c = bad_use_keeps

pub returns-clause-load : goal.returns-clause-load
returns-clause-load c n seed m bank r is = load_keeps n seed m bank r is.checked is.text

pub returns-clause-check : goal.returns-clause-check
returns-clause-check c = checks_keep

pub returns-clause-any : goal.returns-clause-any
returns-clause-any c command bank r is = obeying_keeps command bank r is.checked is.text

pub returns-clause-show : goal.returns-clause-show
returns-clause-show c = shows_keep

pub returns-clause-compact : goal.returns-clause-compact
returns-clause-compact c = compact_keeps

pub returns-clause-upgrade : goal.returns-clause-upgrade
returns-clause-upgrade c = upgrade_keeps

pub returns-clause-migrate : goal.returns-clause-migrate
returns-clause-migrate c = migrate_keeps
