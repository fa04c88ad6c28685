use Rattle.std.proofs.Common.{◌+◌, ◌^◌, ◌<◌, ◌++◌, Some, map, List, drop, subst, sym, ap, ◌∙◌}
use Rattle.std.specs.List.{AllByRecursion}
use Rattle.commit_log.specs.declared.records.Written.{Written}
use Rattle.commit_log.specs.declared.records.Named.{Named}
use Rattle.commit_log.specs.declared.records.CommitRecord.{CommitRecord}
use Rattle.log_reading.specs.Sums.{next_after}
use Rattle.log_reading.proofs.RecordSums.{next_item, no_item, named_more, named_all, next_more}
use Rattle.log_reading.proofs.entries.add_records.Goals as goal

pub next_behind-after-requires : goal.next_behind-after-requires
next_behind-after-requires c =
    let i = c.loop-entry.entry-index in
    let xs = c.args.records.now in
    let x = c.entry-item.result in
    (subst (λ (l : List CommitRecord). AllByRecursion (λ r. r.unit.0 < 2 ^ 63) l) (next_item i xs x c.loop-entry-test.true c.entry-item.is) c.loop-entry.invariant.low).0

pub loop-entry-preserved : goal.loop-entry-preserved
loop-entry-preserved c =
    let i = c.loop-entry.entry-index in
    let xs = c.args.records.now in
    let x = c.entry-item.result in
    let next = next_item i xs x c.loop-entry-test.true c.entry-item.is in
    record {
      named = named_more c.args.program x (drop (i + 1) xs) (drop i xs) _ _ _ next (c.in_ok-add_named.ensures ∙ ap (λ (l : List Written). c.loop-entry.named ++ map (λ w. let n : Named = record { unit = Some x.unit; program = c.args.program; written = w } in n) l) c.as_slice.ensures) c.loop-entry.invariant.named;
      next = next_more x (drop (i + 1) xs) (drop i xs) _ _ _ next c.next_behind-after.ensures c.loop-entry.invariant.next;
      low = (subst (λ (l : List CommitRecord). AllByRecursion (λ r. r.unit.0 < 2 ^ 63) l) next c.loop-entry.invariant.low).1;
    }

pub returns-clause-named : goal.returns-clause-named
returns-clause-named c = named_all c.args.program (drop c.loop-entry.entry-index c.args.records.now) _ _ (no_item _ _ c.loop-entry-test.false) c.loop-entry.invariant.named

pub returns-clause-next : goal.returns-clause-next
returns-clause-next c =
    let none = no_item c.loop-entry.entry-index c.args.records.now c.loop-entry-test.false in
    sym (ap (λ (l : List CommitRecord). next_after c.loop-entry.after l) none) ∙ c.loop-entry.invariant.next
