use Rattle.history_core.proofs.Seals.{doubt-ready, does-doubt}
use Rattle.history_core.proofs.parts.Parts.doubt.Goals as goal

pub close-requires : goal.close-requires
close-requires c = doubt-ready c.args.self.now c.args.number c.requires.can

pub returns-clause-ok : goal.returns-clause-ok
returns-clause-ok c = does-doubt c.args.self.now c.close.new.self c.args.number c.close.ensures.closes c.close.ensures.doubt
