use Rattle.history_core.proofs.Seals.{spoil-ready, does-spoil}
use Rattle.history_core.proofs.parts.Parts.not_seal.Goals as goal

pub close-requires : goal.close-requires
close-requires c = spoil-ready c.args.self.now c.args.number c.requires.can

pub returns-clause-ok : goal.returns-clause-ok
returns-clause-ok c = does-spoil c.args.self.now c.close.new.self c.args.number c.close.ensures.closes c.close.ensures.doubt
