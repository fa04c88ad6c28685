use Rattle.std.proofs.Common.{IsTrue, length, is_ok, arith, rules}
use Rattle.host_trait.specs.Disk.{Tears}
use Rattle.host_trait.specs.Runs.{HasFailedWrite}
use Rattle.host_trait.proofs.Runs.{run_one_write, run_write_synced, run_more_syncs, failed_write}
use Rattle.host_trait.proofs.steps.write_synced.Goals as goal

pub returns-in_err-write_at-clause-run : goal.returns-in_err-write_at-clause-run
returns-in_err-write_at-clause-run g c told =
    run_more_syncs c.args.file (Tears c.args.at (length c.args.bytes.now)) 0 1 _ _ (omega arith)
    (run_one_write c.args.file c.args.at (length c.args.bytes.now) _ _ (c.write_at.ensures.told told) (g.met.H.Host.seen_may_stay c.args.host.now c.args.file told) (c.requires.place told))

pub returns-in_err-write_at-clause-left : goal.returns-in_err-write_at-clause-left
returns-in_err-write_at-clause-left g c =
    let left : IsTrue g.H.Host.tells → HasFailedWrite c.args.file c.args.at (length c.args.bytes.now) (g.H.Host.world c.args.host.now) (g.H.Host.world c.write_at.new.self) =
    λ told. failed_write c.args.file c.args.at (length c.args.bytes.now) _ _ (c.write_at.ensures.told told) in
    search (rules, left)

pub returns-in_err-sync-clause-run : goal.returns-in_err-sync-clause-run
returns-in_err-sync-clause-run g c told =
    run_write_synced c.args.file c.args.at (length c.args.bytes.now) _ _ _ (is_ok c.sync.result) (c.write_at.ensures.told told) (g.met.H.Host.seen_may_stay c.args.host.now c.args.file told) (c.requires.place told)
    (c.sync.ensures.told told) (g.met.H.Host.seen_may_stay c.write_at.new.self c.args.file told)

pub returns-clause-run : goal.returns-clause-run
returns-clause-run g c told =
    run_write_synced c.args.file c.args.at (length c.args.bytes.now) _ _ _ (is_ok c.sync.result) (c.write_at.ensures.told told) (g.met.H.Host.seen_may_stay c.args.host.now c.args.file told) (c.requires.place told)
    (c.sync.ensures.told told) (g.met.H.Host.seen_may_stay c.write_at.new.self c.args.file told)
