use Rattle.history_core.proofs.Seals.{seal-ready, does-seal}
use Rattle.history_core.proofs.parts.Parts.seal.Goals as goal

pub close-requires : goal.close-requires
close-requires c = seal-ready c.args.self.now c.args.number c.requires.can

pub returns-clause-ok : goal.returns-clause-ok
returns-clause-ok c = does-seal c.args.self.now c.close.new.self c.args.number c.close.ensures.closes c.close.ensures.doubt
