use Rattle.std.proofs.Common.{length, true, false}
use Rattle.std.proofs.Math.Seq.{take-length}
use Rattle.log_audit.proofs.TextParts.{emitted_part}
use Rattle.log_audit.proofs.line_writer.write_line.Goals as goal

pub returns-in-Ok-clause-puts : goal.returns-in-Ok-clause-puts
returns-in-Ok-clause-puts g c told =
    let line = c.args.line.now in
    emitted_part (length line) line true (g.H.Host.world c.args.host.now) (g.H.Host.world c.emit.new.self) (c.in-Ok.ensures.ok told) (λ done. take-length line)

pub returns-in-Err-clause-puts : goal.returns-in-Err-clause-puts
returns-in-Err-clause-puts g c told =
    let e = c.emit.ensures.part told in
    emitted_part e.0 c.args.line.now false (g.H.Host.world c.args.host.now) (g.H.Host.world c.emit.new.self) e.1 (λ wrong. absurd cc)
