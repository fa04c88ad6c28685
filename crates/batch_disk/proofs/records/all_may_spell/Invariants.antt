use Rattle.std.proofs.Common.{take}
use Rattle.std.specs.List.{AllByRecursion}
use Rattle.commit_log.specs.EncodableRecords.{MaySpell}
use Rattle.batch_disk.proofs.records.all_may_spell.Given as goal

abbrev pub invariant-loop-record : goal.invariant-loop-record
invariant-loop-record l = record { each : AllByRecursion MaySpell (take l.record-index l.records) }
