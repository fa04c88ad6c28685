use Rattle.core_model.specs.declared.events.CoreEvent.TheVariants.{Bad, Begin, EndSnapshot, Load, Vote}
use Rattle.history_core.proofs.Ways.{tells-that}
use Rattle.history_core.proofs.parts.Parts.applies.Goals as goal

pub returns-in-Bad : goal.returns-in-Bad
returns-in-Bad c = tells-that c.args.self.now c.args.event.now (Bad c.in-Bad.line c.in-Bad.why) c.can_bad.result c.in-Bad.is (c.can_bad.ensures c.in-Bad.why)

pub returns-in-Begin : goal.returns-in-Begin
returns-in-Begin c = tells-that c.args.self.now c.args.event.now (Begin c.in-Begin.origin c.in-Begin.call c.in-Begin.plain) c.can_begin.result c.in-Begin.is (c.can_begin.ensures c.in-Begin.call c.in-Begin.plain)

pub returns-in-EndSnapshot : goal.returns-in-EndSnapshot
returns-in-EndSnapshot c =
    tells-that c.args.self.now c.args.event.now (EndSnapshot c.in-EndSnapshot.unit c.in-EndSnapshot.at c.in-EndSnapshot.outcome) c.can_end_snapshot.result c.in-EndSnapshot.is (c.can_end_snapshot.ensures c.in-EndSnapshot.at)

pub returns-in-Vote : goal.returns-in-Vote
returns-in-Vote c = tells-that c.args.self.now c.args.event.now (Vote c.in-Vote.batch c.in-Vote.grain c.in-Vote.yes) c.can_vote.result c.in-Vote.is (c.can_vote.ensures c.in-Vote.yes)

pub returns-in-Load : goal.returns-in-Load
returns-in-Load c = tells-that c.args.self.now c.args.event.now (Load c.in-Load.grain c.in-Load.unit c.in-Load.state) c.can_load.result c.in-Load.is (c.can_load.ensures c.in-Load.unit c.in-Load.state)
