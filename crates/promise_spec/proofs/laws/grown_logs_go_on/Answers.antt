use Rattle.promise_spec.proofs.Standings.{grown_none, grown_twice, grown_records, grown_stands, serial_from}
use Rattle.promise_spec.proofs.laws.grown_logs_go_on.Goals as goal

pub returns-clause-none : goal.returns-clause-none
returns-clause-none c = grown_none

pub returns-clause-twice : goal.returns-clause-twice
returns-clause-twice c = grown_twice

pub returns-clause-records : goal.returns-clause-records
returns-clause-records c = grown_records

pub returns-clause-stands : goal.returns-clause-stands
returns-clause-stands c = grown_stands

pub returns-clause-serial : goal.returns-clause-serial
returns-clause-serial c = serial_from
