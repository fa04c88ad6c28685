use Rattle.std.proofs.Common.{◌+◌, drop, get_or}
use Rattle.commit_log.specs.declared.records.Written.{Written}
use Rattle.log_reading.proofs.RecordSums.{next_default, no_item}
use Rattle.log_audit.proofs.GrainOrder.{write_more, writes_all}
use Rattle.log_audit.proofs.grains.add_written.Goals as goal

pub loop-one-preserved : goal.loop-one-preserved
loop-one-preserved c =
    let i = c.loop-one.one-index in
    let xs = c.args.writes.now in
    let d : Written = record { grain = record { kind = 0; key = 0 }; place = record { offset = 0; len = 0 } } in
    write_more (get_or xs i d) (drop (i + 1) xs) (drop i xs) _ _ _ (next_default i xs d c.loop-one-test.true) c.in_ok-insert.ensures.keys c.loop-one.invariant

pub returns : goal.returns
returns c =
    writes_all (drop c.loop-one.one-index c.args.writes.now) _ _ (no_item c.loop-one.one-index c.args.writes.now c.loop-one-test.false) c.loop-one.invariant
