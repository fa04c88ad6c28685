use Rattle.std.proofs.Common.{◌+◌, List, map, drop, ap, ◌∙◌}
use Rattle.commit_log.specs.declared.records.Written.{Written}
use Rattle.log_reading.proofs.RecordSums.{next_item, no_item}
use Rattle.log_audit.specs.WrittenGrains.{grains_added}
use Rattle.log_audit.proofs.GrainOrder.{record_more, records_all}
use Rattle.log_audit.proofs.grains.add_grains.Goals as goal

pub loop-entry-preserved : goal.loop-entry-preserved
loop-entry-preserved c =
    let i = c.loop-entry.entry-index in
    let xs = c.args.records.now in
    let x = c.entry-item.result in
    record_more x (drop (i + 1) xs) (drop i xs) _ _ _ (next_item i xs x c.loop-entry-test.true c.entry-item.is)
    (c.in_ok-add_written.ensures ∙ ap (λ (l : List Written). grains_added c.loop-entry.grains.keys (map (λ (w : Written). w.grain) l)) c.as_slice.ensures) c.loop-entry.invariant

pub returns : goal.returns
returns c =
    records_all (drop c.loop-entry.entry-index c.args.records.now) _ _ (no_item c.loop-entry.entry-index c.args.records.now c.loop-entry-test.false) c.loop-entry.invariant
