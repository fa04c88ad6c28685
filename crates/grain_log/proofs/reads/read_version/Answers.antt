use Rattle.std.proofs.Common.{IsTrue}
use Rattle.grain_log.specs.Reads.{fields_in}
use Rattle.grain_log.proofs.Versions.{read_at}
use Rattle.grain_log.proofs.reads.read_version.Goals as goal

pub returns-clause-read : goal.returns-clause-read
returns-clause-read g c told =
    read_at (IsTrue g.H.Host.tells) c.args.format (fields_in c.args.shape.now c.args.file) c.args.place ((g.H.Host.world c.args.host.now).disk c.args.file).seen c.read_there.result told c.read_there.ensures.exact c.read_there.ensures.bytes
