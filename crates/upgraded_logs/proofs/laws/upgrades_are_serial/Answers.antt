use Rattle.upgraded_logs.proofs.Standings.{kept, serial, stands}
use Rattle.upgraded_logs.proofs.laws.upgrades_are_serial.Goals as goal

pub returns-clause-kept : goal.returns-clause-kept
returns-clause-kept c = kept

pub returns-clause-serial : goal.returns-clause-serial
returns-clause-serial c = serial

pub returns-clause-stands : goal.returns-clause-stands
returns-clause-stands c = stands
