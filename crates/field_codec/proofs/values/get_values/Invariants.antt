use Rattle.std.proofs.Common.{◌≡◌, ◌-◌, length}
use Rattle.field_codec.specs.Readers.{times}
use Rattle.field_codec.specs.Fields.{value_at}
use Rattle.field_codec.proofs.ReaderLoops.{with_front}
use Rattle.field_codec.proofs.values.get_values.Given as goal

abbrev pub invariant-loop : goal.invariant-loop
invariant-loop l = (length l.values ≡ l.counter) × (with_front l.values (times (value_at l.format) (l.count - l.counter) l.bytes l.place) ≡ times (value_at l.format) l.count l.bytes l.at)
