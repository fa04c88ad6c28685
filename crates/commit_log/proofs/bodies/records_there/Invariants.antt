use Rattle.std.proofs.Common.{◌≡◌, ◌-◌}
use Rattle.field_codec.specs.Readers.{times}
use Rattle.commit_log.specs.Fields.{record_in}
use Rattle.field_codec.proofs.ReaderLoops.{with_front}
use Rattle.commit_log.proofs.bodies.records_there.Given as goal

abbrev pub invariant-loop : goal.invariant-loop
invariant-loop l = with_front l.records (times (record_in l.format l.numbers l.shape) (l.count - l.counter) l.bytes l.place) ≡ times (record_in l.format l.numbers l.shape) l.count l.bytes l.at
