use Rattle.std.proofs.Common.{length}
use Rattle.gate_block.proofs.Images.{shut_run, log_run}
use Rattle.gate_block.proofs.blocks.append_closed.Goals as goal

pub returns-in_err-write_synced-clause-shut : goal.returns-in_err-write_synced-clause-shut
returns-in_err-write_synced-clause-shut g c told closed = shut_run c.args.file c.args.gate_at (length c.args.block.now) (g.H.Host.world c.args.host.now) (g.H.Host.world c.write_synced.new.host) (c.write_synced.ensures.run told) closed

pub returns-in_err-write_synced-clause-log : goal.returns-in_err-write_synced-clause-log
returns-in_err-write_synced-clause-log g c told bodies logs = log_run bodies c.args.file c.args.gate_at (length c.args.block.now) (g.H.Host.world c.args.host.now) (g.H.Host.world c.write_synced.new.host) (c.write_synced.ensures.run told) logs

pub returns-clause-shut : goal.returns-clause-shut
returns-clause-shut g c told closed = shut_run c.args.file c.args.gate_at (length c.args.block.now) (g.H.Host.world c.args.host.now) (g.H.Host.world c.write_synced.new.host) (c.write_synced.ensures.run told) closed

pub returns-clause-log : goal.returns-clause-log
returns-clause-log g c told bodies logs = log_run bodies c.args.file c.args.gate_at (length c.args.block.now) (g.H.Host.world c.args.host.now) (g.H.Host.world c.write_synced.new.host) (c.write_synced.ensures.run told) logs
