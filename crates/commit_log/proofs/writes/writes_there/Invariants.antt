use Rattle.std.proofs.Common.{◌≡◌, ◌-◌}
use Rattle.commit_log.specs.Fields.{writes_behind}
use Rattle.field_codec.proofs.ReaderLoops.{with_front}
use Rattle.commit_log.proofs.writes.writes_there.Given as goal

abbrev pub invariant-loop : goal.invariant-loop
invariant-loop l = with_front l.writes (writes_behind l.shape l.last (l.count - l.counter) l.bytes l.place) ≡ writes_behind l.shape l.fn.behind l.count l.bytes l.at
