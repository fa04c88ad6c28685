use Rattle.gate_block.proofs.Logs.{written_logs, written_read}
use Rattle.gate_block.proofs.laws.written_blocks_are_logged.Goals as goal

pub returns-clause-logs : goal.returns-clause-logs
returns-clause-logs c = written_logs

pub returns-clause-read : goal.returns-clause-read
returns-clause-read c = written_read
