use Rattle.commit_log.proofs.SpellingsApart.{writes_apart, records_apart, bodies_apart, blocks_apart, pieces_apart}
use Rattle.commit_log.proofs.laws.spellings_are_apart.Goals as goal

pub returns-clause-writes : goal.returns-clause-writes
returns-clause-writes c = writes_apart

pub returns-clause-records : goal.returns-clause-records
returns-clause-records c = records_apart

pub returns-clause-bodies : goal.returns-clause-bodies
returns-clause-bodies c = bodies_apart

pub returns-clause-blocks : goal.returns-clause-blocks
returns-clause-blocks c = blocks_apart

pub returns-clause-pieces : goal.returns-clause-pieces
returns-clause-pieces c = pieces_apart
