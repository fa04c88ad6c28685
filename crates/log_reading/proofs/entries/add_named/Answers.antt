use Rattle.std.proofs.Common.{rules, ◌≡◌, ◌+◌, ◌++◌, ◌∷◌, [], drop, get_or}
use Rattle.commit_log.specs.declared.records.Written.{Written}
use Rattle.commit_log.specs.declared.records.Named.{Named}
use Rattle.log_reading.proofs.RecordSums.{next_default, no_item, pushed_more, pushed_all}
use Rattle.log_reading.proofs.entries.add_named.Goals as goal

pub loop-written-preserved : goal.loop-written-preserved
loop-written-preserved c =
    let f : Written → Named = (λ w. record { unit = c.args.unit; program = c.args.program; written = w }) in
    let i = c.loop-written.written-index in
    let xs = c.args.writes.now in
    let d : Written = record { grain = record { kind = 0; key = 0 }; place = record { offset = 0; len = 0 } } in
    let x : Written = get_or xs i d in
    let pushed : c.push.new.self ≡ c.loop-written.named ++ f x ∷ [] = search rules in
    pushed_more f x (drop (i + 1) xs) (drop i xs) _ _ _ (next_default i xs d c.loop-written-test.true) pushed c.loop-written.invariant

pub returns : goal.returns
returns c =
    let f : Written → Named = (λ w. record { unit = c.args.unit; program = c.args.program; written = w }) in
    pushed_all f (drop c.loop-written.written-index c.args.writes.now) _ _ (no_item _ _ c.loop-written-test.false) c.loop-written.invariant
