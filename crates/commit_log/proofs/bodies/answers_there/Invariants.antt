use Rattle.std.proofs.Common.{◌≡◌, ◌-◌}
use Rattle.field_codec.specs.Readers.{times}
use Rattle.field_codec.specs.Fields.{answer_at}
use Rattle.field_codec.proofs.ReaderLoops.{with_front}
use Rattle.commit_log.proofs.bodies.answers_there.Given as goal

abbrev pub invariant-loop : goal.invariant-loop
invariant-loop l = with_front l.answers (times (answer_at l.format) (l.count - l.counter) l.bytes l.place) ≡ times (answer_at l.format) l.count l.bytes l.at
