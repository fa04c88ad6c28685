use Rattle.std.proofs.Common.{length}
use Rattle.host_trait.specs.declared.channels.FileId.TheVariants.{Manager}
use Rattle.checkpoint.proofs.ManagerBytes.{put_run, put_written}
use Rattle.checkpoint.proofs.manager_file.put.Goals as goal

pub returns-in-Ok-clause-run : goal.returns-in-Ok-clause-run
returns-in-Ok-clause-run g c told =
    put_run c.args.slot c.args.at (length c.args.bytes.now) _ _ c.requires.behind (g.met.H.Host.seen_may_stay c.args.host.now (Manager c.args.slot) told) (c.requires.place told) (c.write_at.ensures.told told)

pub returns-in-Ok-clause-written : goal.returns-in-Ok-clause-written
returns-in-Ok-clause-written g c told =
    put_written c.args.slot c.args.at c.args.bytes.now _ _
    (put_run c.args.slot c.args.at (length c.args.bytes.now) _ _ c.requires.behind (g.met.H.Host.seen_may_stay c.args.host.now (Manager c.args.slot) told) (c.requires.place told) (c.write_at.ensures.told told))
    (c.in-Ok.ensures.ok told)

pub returns-in-Err-clause-run : goal.returns-in-Err-clause-run
returns-in-Err-clause-run g c told =
    put_run c.args.slot c.args.at (length c.args.bytes.now) _ _ c.requires.behind (g.met.H.Host.seen_may_stay c.args.host.now (Manager c.args.slot) told) (c.requires.place told) (c.write_at.ensures.told told)
