use Rattle.std.proofs.Common.{inl, inr}
use Rattle.host_trait.specs.declared.channels.FileId.TheVariants.{Manager}
use Rattle.host_trait.proofs.Runs.{none_asked}
use Rattle.checkpoint.proofs.other_slot.close_gate.Goals as goal

pub returns-in_err-is_shut-clause-closes : goal.returns-in_err-is_shut-clause-closes
returns-in_err-is_shut-clause-closes g c told = record {
  mid = g.H.Host.world c.is_shut.new.host;
  looked = c.is_shut.ensures.run told;
  here = g.met.H.Host.seen_may_stay c.is_shut.new.host (Manager c.args.slot) told;
  closed = inl (none_asked _);
}

pub returns-then-branch-clause-closes : goal.returns-then-branch-clause-closes
returns-then-branch-clause-closes g c told = record {
  mid = g.H.Host.world c.is_shut.new.host;
  looked = c.is_shut.ensures.run told;
  here = g.met.H.Host.seen_may_stay c.is_shut.new.host (Manager c.args.slot) told;
  closed = inl (none_asked _);
}

pub returns-in_err-write_synced-clause-closes : goal.returns-in_err-write_synced-clause-closes
returns-in_err-write_synced-clause-closes g c told = record {
  mid = g.H.Host.world c.is_shut.new.host;
  looked = c.is_shut.ensures.run told;
  here = g.met.H.Host.seen_may_stay c.is_shut.new.host (Manager c.args.slot) told;
  closed = inr (c.in_ok-is_shut.ensures.open c.if-branch.false told, c.write_synced.ensures.run told);
}

pub returns-clause-closes : goal.returns-clause-closes
returns-clause-closes g c told = record {
  mid = g.H.Host.world c.is_shut.new.host;
  looked = c.is_shut.ensures.run told;
  here = g.met.H.Host.seen_may_stay c.is_shut.new.host (Manager c.args.slot) told;
  closed = inr (c.in_ok-is_shut.ensures.open c.if-branch.false told, c.write_synced.ensures.run told);
}
