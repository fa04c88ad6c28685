use Rattle.promise_examples.proofs.Transfer.{source_spelled, target_spelled, body_spelled, live, header, stand, kept, source_stands, target_stands, serial, not_serial, not_first}
use Rattle.promise_examples.proofs.examples.transfers_read.Goals as goal

pub returns-clause-source : goal.returns-clause-source
returns-clause-source c = source_spelled

pub returns-clause-target : goal.returns-clause-target
returns-clause-target c = target_spelled

pub returns-clause-body : goal.returns-clause-body
returns-clause-body c = body_spelled

pub returns-clause-live : goal.returns-clause-live
returns-clause-live c = live

pub returns-clause-header : goal.returns-clause-header
returns-clause-header c = header

pub returns-clause-stand : goal.returns-clause-stand
returns-clause-stand c = stand

pub returns-clause-kept : goal.returns-clause-kept
returns-clause-kept c = kept

pub returns-clause-one : goal.returns-clause-one
returns-clause-one c = source_stands

pub returns-clause-other : goal.returns-clause-other
returns-clause-other c = target_stands

pub returns-clause-serial : goal.returns-clause-serial
returns-clause-serial c = serial

pub returns-clause-unseen : goal.returns-clause-unseen
returns-clause-unseen c = not_serial

pub returns-clause-early : goal.returns-clause-early
returns-clause-early c = not_first
