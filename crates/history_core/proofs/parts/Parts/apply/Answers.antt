use Rattle.std.proofs.Common.{refl, ap, ◌∙◌}
use Rattle.core_model.specs.declared.events.CoreEvent.TheVariants.{Bad, Begin, Grant, Refuse, Finish, EndPlain, EndSnapshot, Release, Take, Vote, Decide, Sealed, NotSealed, Doubt, Learn, Emitted, Halt, Want, Load}
use Rattle.history_core.specs.Steps.{with_event}
use Rattle.history_core.proofs.Ways.{can-that, does-that, does-back, refused-back, does-own, refused-own}
use Rattle.history_core.proofs.parts.Parts.apply.Goals as goal

pub bad-done-requires : goal.bad-done-requires
bad-done-requires c = record { can = can-that c.args.self.now c.args.event (Bad c.in-Bad.line c.in-Bad.why) c.in-Bad.is c.requires.can }

pub returns-in-Bad-clause-ok : goal.returns-in-Bad-clause-ok
returns-in-Bad-clause-ok c = does-back c.args.self.now c.bad-done.new.self c.args.event (Bad c.in-Bad.line c.in-Bad.why) c.bad-done.result c.back.result c.in-Bad.is c.back.ensures c.bad-done.ensures.ok

pub returns-in-Bad-clause-err : goal.returns-in-Bad-clause-err
returns-in-Bad-clause-err c = refused-back c.args.self.now c.bad-done.new.self c.args.event (Bad c.in-Bad.line c.in-Bad.why) c.bad-done.result c.back.result c.in-Bad.is c.back.ensures refl c.bad-done.ensures.err

pub begin-requires : goal.begin-requires
begin-requires c = record { can = can-that c.args.self.now c.args.event (Begin c.in-Begin.origin c.in-Begin.call c.in-Begin.plain) c.in-Begin.is c.requires.can }

pub returns-in-Begin-clause-ok : goal.returns-in-Begin-clause-ok
returns-in-Begin-clause-ok c = does-own c.args.self.now c.begin.new.self c.args.event (Begin c.in-Begin.origin c.in-Begin.call c.in-Begin.plain) c.begin.result c.in-Begin.is c.begin.ensures.ok

pub returns-in-Begin-clause-err : goal.returns-in-Begin-clause-err
returns-in-Begin-clause-err c = refused-own c.args.self.now c.begin.new.self c.args.event (Begin c.in-Begin.origin c.in-Begin.call c.in-Begin.plain) c.begin.result c.in-Begin.is refl c.begin.ensures.back c.begin.ensures.err

pub grant-done-requires : goal.grant-done-requires
grant-done-requires c = record { can = can-that c.args.self.now c.args.event (Grant c.in-Grant.unit c.in-Grant.grain c.in-Grant.mode) c.in-Grant.is c.requires.can }

pub returns-in-Grant-clause-ok : goal.returns-in-Grant-clause-ok
returns-in-Grant-clause-ok c = does-back c.args.self.now c.grant-done.new.self c.args.event (Grant c.in-Grant.unit c.in-Grant.grain c.in-Grant.mode) c.grant-done.result c.back-in-Grant.result c.in-Grant.is c.back-in-Grant.ensures c.grant-done.ensures.ok

pub returns-in-Grant-clause-err : goal.returns-in-Grant-clause-err
returns-in-Grant-clause-err c = refused-back c.args.self.now c.grant-done.new.self c.args.event (Grant c.in-Grant.unit c.in-Grant.grain c.in-Grant.mode) c.grant-done.result c.back-in-Grant.result c.in-Grant.is c.back-in-Grant.ensures refl c.grant-done.ensures.err

pub refuse-done-requires : goal.refuse-done-requires
refuse-done-requires c = record { can = can-that c.args.self.now c.args.event (Refuse c.in-Refuse.unit c.in-Refuse.grain c.in-Refuse.mode) c.in-Refuse.is c.requires.can }

pub returns-in-Refuse-clause-ok : goal.returns-in-Refuse-clause-ok
returns-in-Refuse-clause-ok c = does-back c.args.self.now c.refuse-done.new.self c.args.event (Refuse c.in-Refuse.unit c.in-Refuse.grain c.in-Refuse.mode) c.refuse-done.result c.back-in-Refuse.result c.in-Refuse.is c.back-in-Refuse.ensures c.refuse-done.ensures.ok

pub returns-in-Refuse-clause-err : goal.returns-in-Refuse-clause-err
returns-in-Refuse-clause-err c = refused-back c.args.self.now c.refuse-done.new.self c.args.event (Refuse c.in-Refuse.unit c.in-Refuse.grain c.in-Refuse.mode) c.refuse-done.result c.back-in-Refuse.result c.in-Refuse.is c.back-in-Refuse.ensures refl c.refuse-done.ensures.err

pub finish-requires : goal.finish-requires
finish-requires c = record { can = can-that c.args.self.now c.args.event (Finish c.in-Finish.unit c.in-Finish.effect) c.in-Finish.is c.requires.can }

pub returns-in-Finish-clause-ok : goal.returns-in-Finish-clause-ok
returns-in-Finish-clause-ok c = does-own c.args.self.now c.finish.new.self c.args.event (Finish c.in-Finish.unit c.in-Finish.effect) c.finish.result c.in-Finish.is c.finish.ensures.ok

pub returns-in-Finish-clause-err : goal.returns-in-Finish-clause-err
returns-in-Finish-clause-err c = refused-own c.args.self.now c.finish.new.self c.args.event (Finish c.in-Finish.unit c.in-Finish.effect) c.finish.result c.in-Finish.is refl c.finish.ensures.back c.finish.ensures.err

pub end_plain-requires : goal.end_plain-requires
end_plain-requires c = record { can = can-that c.args.self.now c.args.event (EndPlain c.in-EndPlain.unit c.in-EndPlain.effect) c.in-EndPlain.is c.requires.can }

pub returns-in-EndPlain-clause-ok : goal.returns-in-EndPlain-clause-ok
returns-in-EndPlain-clause-ok c = does-own c.args.self.now c.end_plain.new.self c.args.event (EndPlain c.in-EndPlain.unit c.in-EndPlain.effect) c.end_plain.result c.in-EndPlain.is c.end_plain.ensures.ok

pub returns-in-EndPlain-clause-err : goal.returns-in-EndPlain-clause-err
returns-in-EndPlain-clause-err c = refused-own c.args.self.now c.end_plain.new.self c.args.event (EndPlain c.in-EndPlain.unit c.in-EndPlain.effect) c.end_plain.result c.in-EndPlain.is refl c.end_plain.ensures.back c.end_plain.ensures.err

pub end_snapshot-requires : goal.end_snapshot-requires
end_snapshot-requires c = record { can = can-that c.args.self.now c.args.event (EndSnapshot c.in-EndSnapshot.unit c.in-EndSnapshot.at c.in-EndSnapshot.outcome) c.in-EndSnapshot.is c.requires.can }

pub returns-in-EndSnapshot-clause-ok : goal.returns-in-EndSnapshot-clause-ok
returns-in-EndSnapshot-clause-ok c = does-own c.args.self.now c.end_snapshot.new.self c.args.event (EndSnapshot c.in-EndSnapshot.unit c.in-EndSnapshot.at c.in-EndSnapshot.outcome) c.end_snapshot.result c.in-EndSnapshot.is c.end_snapshot.ensures.ok

pub returns-in-EndSnapshot-clause-err : goal.returns-in-EndSnapshot-clause-err
returns-in-EndSnapshot-clause-err c = refused-own c.args.self.now c.end_snapshot.new.self c.args.event (EndSnapshot c.in-EndSnapshot.unit c.in-EndSnapshot.at c.in-EndSnapshot.outcome) c.end_snapshot.result c.in-EndSnapshot.is refl c.end_snapshot.ensures.back c.end_snapshot.ensures.err

pub release-requires : goal.release-requires
release-requires c = record { can = can-that c.args.self.now c.args.event (Release c.in-Release.unit c.in-Release.grain) c.in-Release.is c.requires.can }

pub returns-in-Release-clause-ok : goal.returns-in-Release-clause-ok
returns-in-Release-clause-ok c = does-that c.args.self.now c.release.new.self c.args.event (Release c.in-Release.unit c.in-Release.grain) c.release.result c.in-Release.is c.release.ensures.ok

pub take-done-requires : goal.take-done-requires
take-done-requires c = record { can = can-that c.args.self.now c.args.event Take c.in-Take.is c.requires.can }

pub returns-in-Take-clause-ok : goal.returns-in-Take-clause-ok
returns-in-Take-clause-ok c = does-back c.args.self.now c.take-done.new.self c.args.event Take c.take-done.result c.back-in-Take.result c.in-Take.is (c.back-in-Take.ensures ∙ ap (with_event c.take-done.result) c.in-Take.is) c.take-done.ensures.ok

pub returns-in-Take-clause-err : goal.returns-in-Take-clause-err
returns-in-Take-clause-err c = refused-back c.args.self.now c.take-done.new.self c.args.event Take c.take-done.result c.back-in-Take.result c.in-Take.is (c.back-in-Take.ensures ∙ ap (with_event c.take-done.result) c.in-Take.is) refl c.take-done.ensures.err

pub vote-requires : goal.vote-requires
vote-requires c = record { can = can-that c.args.self.now c.args.event (Vote c.in-Vote.batch c.in-Vote.grain c.in-Vote.yes) c.in-Vote.is c.requires.can }

pub returns-in-Vote-clause-ok : goal.returns-in-Vote-clause-ok
returns-in-Vote-clause-ok c = does-that c.args.self.now c.vote.new.self c.args.event (Vote c.in-Vote.batch c.in-Vote.grain c.in-Vote.yes) c.vote.result c.in-Vote.is c.vote.ensures.ok

pub decide-requires : goal.decide-requires
decide-requires c = record { can = can-that c.args.self.now c.args.event (Decide c.in-Decide.batch) c.in-Decide.is c.requires.can }

pub returns-in-Decide-clause-ok : goal.returns-in-Decide-clause-ok
returns-in-Decide-clause-ok c = does-that c.args.self.now c.decide.new.self c.args.event (Decide c.in-Decide.batch) c.decide.result c.in-Decide.is c.decide.ensures.ok

pub seal-requires : goal.seal-requires
seal-requires c = record { can = can-that c.args.self.now c.args.event (Sealed c.in-Sealed.batch) c.in-Sealed.is c.requires.can }

pub returns-in-Sealed-clause-ok : goal.returns-in-Sealed-clause-ok
returns-in-Sealed-clause-ok c = does-that c.args.self.now c.seal.new.self c.args.event (Sealed c.in-Sealed.batch) c.seal.result c.in-Sealed.is c.seal.ensures.ok

pub not_seal-requires : goal.not_seal-requires
not_seal-requires c = record { can = can-that c.args.self.now c.args.event (NotSealed c.in-NotSealed.batch) c.in-NotSealed.is c.requires.can }

pub returns-in-NotSealed-clause-ok : goal.returns-in-NotSealed-clause-ok
returns-in-NotSealed-clause-ok c = does-that c.args.self.now c.not_seal.new.self c.args.event (NotSealed c.in-NotSealed.batch) c.not_seal.result c.in-NotSealed.is c.not_seal.ensures.ok

pub doubt-requires : goal.doubt-requires
doubt-requires c = record { can = can-that c.args.self.now c.args.event (Doubt c.in-Doubt.batch) c.in-Doubt.is c.requires.can }

pub returns-in-Doubt-clause-ok : goal.returns-in-Doubt-clause-ok
returns-in-Doubt-clause-ok c = does-that c.args.self.now c.doubt.new.self c.args.event (Doubt c.in-Doubt.batch) c.doubt.result c.in-Doubt.is c.doubt.ensures.ok

pub learn-requires : goal.learn-requires
learn-requires c = record { can = can-that c.args.self.now c.args.event (Learn c.in-Learn.unit c.in-Learn.grain) c.in-Learn.is c.requires.can }

pub returns-in-Learn-clause-ok : goal.returns-in-Learn-clause-ok
returns-in-Learn-clause-ok c = does-that c.args.self.now c.learn.new.self c.args.event (Learn c.in-Learn.unit c.in-Learn.grain) c.learn.result c.in-Learn.is c.learn.ensures.ok

pub emit-requires : goal.emit-requires
emit-requires c = record { can = can-that c.args.self.now c.args.event Emitted c.in-Emitted.is c.requires.can }

pub returns-in-Emitted-clause-ok : goal.returns-in-Emitted-clause-ok
returns-in-Emitted-clause-ok c = does-that c.args.self.now c.emit.new.self c.args.event Emitted c.emit.result c.in-Emitted.is c.emit.ensures.ok

pub returns-in-Halt-clause-ok : goal.returns-in-Halt-clause-ok
returns-in-Halt-clause-ok c = does-that c.args.self.now c.halt.new.self c.args.event Halt c.halt.result c.in-Halt.is c.halt.ensures.ok

pub returns-in-Want-clause-ok : goal.returns-in-Want-clause-ok
returns-in-Want-clause-ok c = does-back c.args.self.now c.want-done.new.self c.args.event (Want c.in-Want.unit c.in-Want.grain) c.want-done.result c.back-in-Want.result c.in-Want.is c.back-in-Want.ensures c.want-done.ensures.ok

pub returns-in-Want-clause-err : goal.returns-in-Want-clause-err
returns-in-Want-clause-err c = refused-back c.args.self.now c.want-done.new.self c.args.event (Want c.in-Want.unit c.in-Want.grain) c.want-done.result c.back-in-Want.result c.in-Want.is c.back-in-Want.ensures refl c.want-done.ensures.err

pub load-done-requires : goal.load-done-requires
load-done-requires c = record { can = can-that c.args.self.now c.args.event (Load c.in-Load.grain c.in-Load.unit c.in-Load.state) c.in-Load.is c.requires.can }

pub returns-in-Load-clause-ok : goal.returns-in-Load-clause-ok
returns-in-Load-clause-ok c = does-back c.args.self.now c.load-done.new.self c.args.event (Load c.in-Load.grain c.in-Load.unit c.in-Load.state) c.load-done.result c.back-in-Load.result c.in-Load.is c.back-in-Load.ensures c.load-done.ensures.ok

pub returns-in-Load-clause-err : goal.returns-in-Load-clause-err
returns-in-Load-clause-err c = refused-back c.args.self.now c.load-done.new.self c.args.event (Load c.in-Load.grain c.in-Load.unit c.in-Load.state) c.load-done.result c.back-in-Load.result c.in-Load.is c.back-in-Load.ensures refl c.load-done.ensures.err
